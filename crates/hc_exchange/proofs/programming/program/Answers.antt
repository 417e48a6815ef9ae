use Rattle.std.proofs.Common.{◌∙◌, ℕ, [], ◌∷◌, sym, ap, arith}
use Rattle.hc_records.specs.Line.{line}
use Rattle.hc_frames.specs.FrameText.{block_write, frame_text}
use Rattle.hc_registers.specs.Blocks.{line_blocks}
use Rattle.hc_segment.specs.Line.{machines_after_frame}
use Rattle.hc_exchange.proofs.Written.{block-long, none-at, written-next}
use Rattle.hc_exchange.proofs.programming.program.Goals as goal
use Rattle.hc_exchange.proofs.programming.program.Goals.{in-Some, in_default}

pub write_block-requires-clause-some : goal.write_block-requires-clause-some
write_block-requires-clause-some c = (block-long (line c.args.plan.now) c.loop-n.n c.in-Some.station c.in-Some.block (sym c.nth_block.ensures ∙ c.in-Some.is)).0

pub loop-n-preserved : goal.loop-n-preserved
loop-n-preserved c = elim c.match-nth_block.branch [
  | in-Some w ↦
      let station = w.in-Some.station in
      let block = w.in-Some.block in
      written-next (line_blocks (line c.args.plan.now)) c.loop-n.n station block c.args.segment.now c.loop-n.segment c.match-nth_block.segment (sym c.nth_block.ensures ∙ w.in-Some.is)
      c.loop-n.invariant
      (w.segment-is ∙ w.write_block.ensures
      ∙ ap (λ (serial : ℕ). machines_after_frame c.loop-n.segment (frame_text serial (block_write station block.register block.bytes ∷ []))) w.from.ensures)
  | in_default w ↦
      absurd (none-at (line_blocks (line c.args.plan.now)) c.loop-n.n (sym c.nth_block.ensures ∙ w.in_default.is) (omega (arith, c.loop-n-test.true, c.blocks-n-end.ensures)))
]

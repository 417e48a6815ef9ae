use Rattle.std.proofs.Common.{◌∙◌, ap, sym, drop, map, ℕ, List, arith, false}
use Rattle.hc_frames.specs.Arrived.{ArrivedDatagram}
use Rattle.hc_sendings.specs.declared.writes.AwaitedBlock.{AwaitedBlock}
use Rattle.hc_sendings.specs.Judging.{block_due}
use Rattle.hc_sendings.specs.Walk.{outcomes_in}
use Rattle.hc_sendings.proofs.Walked.{after_it, blocks-short, parts_of, walked-first}
use Rattle.hc_sendings.proofs.judging.judge_blocks.Goals as goal

pub loop-block-init : goal.loop-block-init
loop-block-init c = record {
  walked = walked-first (map block_due c.args.blocks.now) c.args.arrival.now.parts c.parts-came.result
      c.reserve.new.self.items c.parts-came.ensures (c.reserve.ensures.items ∙ c.requires.empty);
  count = grind (arith, c.in_ok-reserve.ensures.len, c.requires.empty);
  room = grind (arith, c.in_ok-reserve.ensures.len, c.in_ok-reserve.ensures.ok, c.requires.empty);
  capacity = omega arith;
}

pub returns-in_default-clause-outcomes : goal.returns-in_default-clause-outcomes
returns-in_default-clause-outcomes c =
    let number : ℕ = c.loop-block.block-index in
    let other : AwaitedBlock = record { place = 0; station = 0; number = 0; address = 0; length = 0; last_sent = false } in
    sym (blocks-short number c.args.blocks.now other c.loop-block.outcomes.items _ (omega (arith, c.loop-block-test.true))
    (c.loop-block.invariant.walked ∙ ap (λ (left : List ArrivedDatagram). after_it c.loop-block.outcomes.items (outcomes_in (map block_due (drop number c.args.blocks.now)) (parts_of left))) c.in_default.ensures.steps.0))

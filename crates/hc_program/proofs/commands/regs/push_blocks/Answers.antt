use Rattle.hc_records.specs.Line.{line}
use Rattle.hc_program.specs.Regs.{numbered_block_text}
use Rattle.hc_program.proofs.Numbered.{one_more}
use Rattle.hc_program.proofs.commands.regs.push_blocks.Goals as goal

pub loop-number-preserved : goal.loop-number-preserved
loop-number-preserved c =
    one_more (numbered_block_text (line c.args.plan.now) c.args.station) c.loop-number.number _ _ _ c.loop-number.invariant c.in_ok-push_numbered.ensures

use Rattle.hc_program.specs.Layout.{numbered_text}
use Rattle.hc_program.proofs.Numbered.{one_more}
use Rattle.hc_program.proofs.commands.layout.push_datagrams.Goals as goal

pub loop-number-preserved : goal.loop-number-preserved
loop-number-preserved c =
    one_more (numbered_text c.args.places.now c.args.task) c.loop-number.number _ _ _ c.loop-number.invariant c.in_ok-push_numbered.ensures

use Rattle.hc_cuts.proofs.Absences.{none-present}
use Rattle.hc_cuts.proofs.line_change.Side.of_group.Goals as goal

pub returns-else-present : goal.returns-else-present
returns-else-present c = none-present c.args.present c.args.slaves.now c.if-present.false

use Rattle.std.proofs.Common.{ap}
use Rattle.hc_core.specs.Chosen.{write_is_done}
use Rattle.hc_core.proofs.ChosenBlocks.{awaited-within, confirmed-known}
use Rattle.hc_core.proofs.choosing.confirm_if.Goals as goal

pub confirmed-requires : goal.confirmed-requires
confirmed-requires c = awaited-within c.args.owed.now c.args.plan.now c.args.block.now c.requires

pub returns-in-Done : goal.returns-in-Done
returns-in-Done c = λ can. confirmed-known c.args.owed.now c.confirmed.new.self c.args.plan.now c.args.block.now c.args.outcome can (ap write_is_done c.in-Done.is) c.confirmed.ensures

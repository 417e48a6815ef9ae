use Rattle.std.proofs.Common.{ap}
use Rattle.hc_core.specs.Chosen.{write_is_done}
use Rattle.hc_core.proofs.AreaBlocks.{answered-done, answered-within}
use Rattle.hc_core.proofs.areas.confirm_area_if.Goals as goal

pub confirmed-requires : goal.confirmed-requires
confirmed-requires c = answered-within c.args.readiness.now c.args.block.now c.requires

pub returns-in-Done : goal.returns-in-Done
returns-in-Done c = λ can. answered-done c.args.readiness.now c.confirmed.new.self c.args.block.now c.args.outcome can (ap write_is_done c.in-Done.is) c.confirmed.ensures

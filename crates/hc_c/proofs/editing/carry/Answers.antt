use Rattle.std.proofs.Common.{Ok}
use Rattle.hc_groups.specs.Edits.{own_fault}
use Rattle.hc_events.specs.Points.{state_of}
use Rattle.hc_c.specs.Embedded.{embedded_history}
use Rattle.hc_c.proofs.Asked.{carried-cost, done-own}
use Rattle.hc_c.proofs.editing.carry.Goals as goal

pub returns-in-Ok-clause-cost : goal.returns-in-Ok-clause-cost
returns-in-Ok-clause-cost c =
    let cost = c.cost_of.ensures in let core_edit = c.in-Ok.ensures in
    carried-cost c.edit.result.now c.will_wait.result c.in-Ok.core_edit c.args.own.now.core c.args.edit.now c.cost_of.result c.edit.ensures.edit c.edit.ensures.made c.will_wait.ensures cost.cost cost.prepared core_edit.made core_edit.edit

pub returns-in-Ok-clause-own : goal.returns-in-Ok-clause-own
returns-in-Ok-clause-own c = done-own (own_fault (state_of (embedded_history c.args.own.now)).groups c.args.edit.now) c.in-Ok.core_edit (Ok tt) c.in-Ok.ensures.own

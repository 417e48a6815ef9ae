use Rattle.std.proofs.Common.{◌≡◌, ◌≢◌, Err, Ok}
use Rattle.hc_records.specs.declared.faults.EditFault.TheVariants.{Memory}
use Rattle.hc_records.specs.Edits.{edited, state_after}
use Rattle.hc_groups.specs.Edits.{own_fault}
use Rattle.hc_events.specs.Points.{state_of}
use Rattle.hc_c.specs.Embedded.{embedded_history}
use Rattle.hc_c.proofs.Asked.{asked-cost, same-error, same-fact, same-own}
use Rattle.hc_c.proofs.editing.ask.Goals as goal

pub returns-clause-accepted : goal.returns-clause-accepted
returns-clause-accepted c = same-fact c.prepare-prepared.result c.give.result (edited (state_of (embedded_history c.args.own.now)) c.args.edit.now ≡ Ok (state_after (state_of (embedded_history c.args.own.now)) c.args.edit.now)) c.give.ensures.answer c.prepare-prepared.ensures.accepted

pub returns-clause-cost : goal.returns-clause-cost
returns-clause-cost c =
    let given = c.give.ensures in let core_edit = c.prepare-prepared.ensures in
    asked-cost c.prepare-prepared.result c.give.result c.args.own.now.core c.args.edit.now c.give.new.cost given.answer core_edit.made core_edit.edit given.cost given.prepared

pub returns-clause-refused : goal.returns-clause-refused
returns-clause-refused c = same-error c.prepare-prepared.result c.give.result (λ fault. fault ≢ Memory → edited (state_of (embedded_history c.args.own.now)) c.args.edit.now ≡ Err fault) c.give.ensures.refused c.prepare-prepared.ensures.refused

pub returns-clause-own : goal.returns-clause-own
returns-clause-own c = same-own (own_fault (state_of (embedded_history c.args.own.now)).groups c.args.edit.now) c.prepare-prepared.result c.give.result c.give.ensures.answer c.prepare-prepared.ensures.own

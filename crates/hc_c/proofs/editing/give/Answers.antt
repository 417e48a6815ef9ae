use Rattle.std.proofs.Common.{◌≡◌, ℕ, sym, subst, Err, IfErr, IfOk, Ok, Result}
use Rattle.hc_records.specs.declared.faults.EditFault.{EditFault}
use Rattle.hc_records.specs.Line.{State}
use Rattle.hc_events.specs.Points.{state_of}
use Rattle.hc_plan.specs.Prepared.{IsPrepared, PreparedEdit}
use Rattle.hc_core.specs.Prepared.{CoreEdit}
use Rattle.hc_c.specs.Edits.{IsCost, prepared_waits}
use Rattle.hc_c.proofs.editing.give.Goals as goal

pub returns-in-Ok-clause-cost : goal.returns-in-Ok-clause-cost
returns-in-Ok-clause-cost c =
    let core_edit = c.in-Ok.core_edit in
    subst (λ (it : Result CoreEdit EditFault). IfOk it (λ core_edit. IsCost (state_of core_edit.core.history) core_edit.edit.new (prepared_waits core_edit) c.cost_of.result)) (sym c.in-Ok.is)
    (subst (λ (waits : ℕ). IsCost (state_of core_edit.core.history) core_edit.edit.new waits c.cost_of.result) c.will_wait.ensures
    (subst (λ (it : PreparedEdit). IsCost (state_of core_edit.core.history) it.new c.will_wait.result c.cost_of.result) c.edit.ensures.edit
    (subst (λ (state : State). IsCost state c.edit.result.now.new c.will_wait.result c.cost_of.result) c.edit.ensures.made c.cost_of.ensures.cost)))

pub returns-in-Ok-clause-prepared : goal.returns-in-Ok-clause-prepared
returns-in-Ok-clause-prepared c =
    let core_edit = c.in-Ok.core_edit in
    subst (λ (it : Result CoreEdit EditFault). IfOk it (λ core_edit. IsPrepared core_edit.edit × (core_edit.edit.old ≡ state_of core_edit.core.history))) (sym c.in-Ok.is)
    (subst (λ (it : PreparedEdit). IsPrepared it × (it.old ≡ state_of core_edit.core.history)) c.edit.ensures.edit (c.cost_of.ensures.prepared, c.edit.ensures.made))

pub returns-in-Ok-clause-answer : goal.returns-in-Ok-clause-answer
returns-in-Ok-clause-answer c =
    subst (λ (it : Result CoreEdit EditFault). IfErr it (λ fault. ◌≡◌ {A = Result (Unit {0}) EditFault} (Ok tt) (Err fault))) (sym c.in-Ok.is) tt

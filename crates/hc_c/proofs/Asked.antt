-- An edit that is prepared, and what is said of it where it lies.
use Rattle.std.proofs.Common.{rules, ◌≡◌, ℕ, ◌∙◌, ap, sym, subst, Option, Some, None, Result, Ok, Err, IfErr, IfOk, IfSome, OnOk}
use Rattle.std.specs.Result.{result_unwrap_or}
use Rattle.hc_records.specs.declared.edit.Edit.{Edit}
use Rattle.hc_records.specs.declared.faults.EditFault.{EditFault}
use Rattle.hc_records.specs.Edits.{state_after}
use Rattle.hc_records.specs.Line.{State}
use Rattle.hc_events.specs.Points.{state_of}
use Rattle.hc_events.specs.Ready.{waiting_after}
use Rattle.hc_plan.specs.Prepared.{IsPrepared, PreparedEdit}
use Rattle.hc_core.specs.Prepared.{CoreEdit}
use Rattle.hc_core.specs.State.{CoreState}
use Rattle.hc_c.specs.declared.editing.Cost.{Cost}
use Rattle.hc_c.specs.Edits.{CostsEdit, IsCost, prepared_waits}

-- what is said of a result is refused where that is, and for its fault; one that must be refused for a fault is
-- reported so

pub same-fact : {X Y E : Type 0} (first : Result X E) (second : Result Y E) (P : Type 0) → IfErr first (λ fault. second ≡ Err fault) → OnOk first P → OnOk second P
same-fact first second P same is = search rules

pub same-error : {X Y E : Type 0} (first : Result X E) (second : Result Y E) (P : E → Type 0) → IfErr second (λ fault. first ≡ Err fault) → IfErr first P → IfErr second P
same-error first second P same is = search rules

pub same-own : {X Y E : Type 0} (found : Option E) (first : Result X E) (second : Result Y E) → IfErr first (λ fault. second ≡ Err fault) → IfSome found (λ fault. first ≡ Err fault)
    → IfSome found (λ fault. second ≡ Err fault)
same-own None first second same own = tt
same-own {X = X} {E = E} (Some fault) first second same own = subst (λ (it : Result X E). IfErr it (λ given. second ≡ Err given)) own same

pub done-own : {X Y E : Type 0} (found : Option E) (value : X) (given : Result Y E) → IfSome found (λ fault. ◌≡◌ {A = Result X E} (Ok value) (Err fault)) → IfSome found (λ fault. given ≡ Err fault)
done-own None value given own = tt
done-own (Some fault) value given own = cc

-- what a prepared edit of a core would do is what the edit does to the core's state

ready_cost : (core_edit : CoreEdit) (core : CoreState) (edit : Edit) (cost : Cost) → core_edit.core ≡ core → core_edit.edit.report.swap.edit ≡ edit
    → IsCost (state_of core_edit.core.history) core_edit.edit.new (prepared_waits core_edit) cost → IsPrepared core_edit.edit × (core_edit.edit.old ≡ state_of core_edit.core.history)
    → CostsEdit core.history edit cost
ready_cost core_edit core edit cost made same is prepared =
    let known : state_of core_edit.core.history ≡ state_of core.history = ap (λ (it : CoreState). state_of it.history) made in
    let old : core_edit.edit.old ≡ state_of core.history = prepared.1 ∙ known in
    let new : state_after (state_of core.history) edit ≡ core_edit.edit.new =
    sym (ap (λ (state : State). state_after state edit) old) ∙ sym (ap (λ (it : Edit). state_after core_edit.edit.old it) same)
    ∙ ap (λ (answer : Result State EditFault). result_unwrap_or answer core_edit.edit.old) prepared.0.accepted in
    let waits : prepared_waits core_edit ≡ waiting_after core.history edit =
    ap (λ (it : CoreState). waiting_after it.history core_edit.edit.report.swap.edit) made ∙ ap (waiting_after core.history) same in
    subst (λ (waiting : ℕ). IsCost (state_of core.history) (state_after (state_of core.history) edit) waiting cost) waits
    (subst (λ (state : State). IsCost state (state_after (state_of core.history) edit) (prepared_waits core_edit) cost) known
    (subst (λ (state : State). IsCost (state_of core_edit.core.history) state (prepared_waits core_edit) cost) (sym new) is))

pub carried-cost : (prepared_edit : PreparedEdit) (waits : ℕ) (core_edit : CoreEdit) (core : CoreState) (edit : Edit) (cost : Cost) → prepared_edit ≡ core_edit.edit → prepared_edit.old ≡ state_of core_edit.core.history
    → waits ≡ prepared_waits core_edit → IsCost prepared_edit.old prepared_edit.new waits cost → IsPrepared prepared_edit
    → core_edit.core ≡ core → core_edit.edit.report.swap.edit ≡ edit → CostsEdit core.history edit cost
carried-cost prepared_edit waits core_edit core edit cost same old waiting is prepared made named =
    ready_cost core_edit core edit cost made named
    (subst (λ (it : PreparedEdit). IsCost (state_of core_edit.core.history) it.new (prepared_waits core_edit) cost) same
    (subst (λ (n : ℕ). IsCost (state_of core_edit.core.history) prepared_edit.new n cost) waiting (subst (λ (state : State). IsCost state prepared_edit.new waits cost) old is)))
    (subst (λ (it : PreparedEdit). IsPrepared it) same prepared, subst (λ (it : PreparedEdit). it.old ≡ state_of core_edit.core.history) same old)

pub asked-cost : {X : Type 0} (prepared : Result CoreEdit EditFault) (answer : Result X EditFault) (core : CoreState) (edit : Edit) (cost : Cost)
    → IfErr prepared (λ fault. answer ≡ Err fault) → IfOk prepared (λ core_edit. core_edit.core ≡ core) → IfOk prepared (λ core_edit. core_edit.edit.report.swap.edit ≡ edit)
    → IfOk prepared (λ core_edit. IsCost (state_of core_edit.core.history) core_edit.edit.new (prepared_waits core_edit) cost) → IfOk prepared (λ core_edit. IsPrepared core_edit.edit × (core_edit.edit.old ≡ state_of core_edit.core.history))
    → OnOk answer (CostsEdit core.history edit cost)
asked-cost (Ok core_edit) (Ok answer) core edit cost same made named is prepared = ready_cost core_edit core edit cost made named is prepared
asked-cost (Ok core_edit) (Err fault) core edit cost same made named is prepared = search rules
asked-cost (Err fault) answer core edit cost same made named is prepared = search rules

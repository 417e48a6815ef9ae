use Rattle.std.proofs.Common.{◌≡◌, ◌∙◌, ℕ, suc, ◌<◌, List, ap, arith, sym, subst, refl}
use Rattle.std.specs.Prelude.{replicate, slice_index}
use Rattle.hc_records.specs.declared.limits.TheConstants.{TASKS}
use Rattle.std.proofs.lemmas.Result.{err_from_is_err_and}
use Rattle.hc_records.specs.Line.{State, line, opened}
use Rattle.hc_events.specs.declared.change.Change.{Change}
use Rattle.hc_events.specs.Accepted.{just_opened}
use Rattle.hc_events.specs.Entries.{History}
use Rattle.hc_sendings.specs.Waiting.{Waiting, nothing}
use Rattle.hc_images.specs.Packed.{HoldsOutputValues, IsLaidOut}
use Rattle.hc_images.proofs.lemmas.LaidOut.{line-laid_out}
use Rattle.hc_places.specs.Table.{Table, table_of}
use Rattle.hc_owed.specs.Readiness.{none_unplugged, readiness_of, unknown_registers}
use Rattle.hc_owed.specs.RegisterState.{register_state_of, nothing_known}
use Rattle.hc_core.specs.Records.{history_read}
use Rattle.hc_core.proofs.Opens.{IsProject, IsUncrowded, agree-opened}
use Rattle.hc_core.specs.Agreement.{Agree, CoreParts}
use Rattle.hc_core.proofs.keeping.Core.new.Goals as goal

no_epoch : (task : ℕ) → task < TASKS → slice_index (replicate 8 0) task ≡ 0
no_epoch (suc (suc (suc (suc (suc (suc (suc (suc task)))))))) low = absurd (omega arith)
no_epoch other low = refl

pub invariant_of-result : goal.invariant_of-result
invariant_of-result c =
    let groups = c.args.project in
    let inputs = c.in_ok-inputs.inputs in
    let plan = c.in_ok-plan.ensures.state in
    let history : history_read c.opened-history.result ≡ just_opened groups = c.opened-history.ensures in
    let taken : history_read c.of-taken.result.value ≡ just_opened groups = ap history_read c.of-taken.ensures ∙ history in
    let first : List ℕ = replicate 8 0 in
    let unchanged : State → Waiting → List Change → CoreParts = λ state awaited changes. record { plan = state; serial = 0; awaited = awaited; inputs = inputs; ages = c.in_ok-ages.ages; epochs = first; outputs = c.in_ok-outputs.outputs; owed = c.in_ok-owed.owed; readiness = c.in_ok-readiness.readiness; changes = changes } in
    let owed : c.in_ok-owed.owed ≡ register_state_of nothing_known (opened groups) = c.in_ok-owed.ensures ∙ ap (register_state_of nothing_known) plan in
    let ready : c.in_ok-readiness.readiness ≡ readiness_of nothing_known unknown_registers none_unplugged (opened groups) =
    c.in_ok-readiness.ensures ∙ ap (readiness_of nothing_known unknown_registers none_unplugged) plan in
    let zeros : HoldsOutputValues (table_of (line (opened groups))) (λ variable k. 0) c.in_ok-outputs.outputs =
    subst (λ (t : Table). HoldsOutputValues t (λ variable k. 0) c.in_ok-outputs.outputs) (c.places.ensures.table ∙ ap (λ (state : State). table_of (line state)) plan) c.in_ok-outputs.ensures in
    subst (λ (before : History). Agree (unchanged c.in_ok-plan.plan c.in_ok-awaited.awaited c.new-9.result.items) before (history_read c.of-taken.result.value)) (sym history)
    (subst (λ (before : History). Agree (unchanged c.in_ok-plan.plan c.in_ok-awaited.awaited c.new-9.result.items) (just_opened groups) before) (sym taken)
    (subst (λ (state : State). Agree (unchanged state c.in_ok-awaited.awaited c.new-9.result.items) (just_opened groups) (just_opened groups)) (sym plan)
    (subst (λ (waiting : Waiting). Agree (unchanged (opened groups) waiting c.new-9.result.items) (just_opened groups) (just_opened groups)) (sym c.in_ok-awaited.ensures)
    (subst (λ (changes : List Change). Agree (unchanged (opened groups) nothing changes) (just_opened groups) (just_opened groups)) (sym c.new-9.ensures.items)
    (agree-opened groups inputs c.in_ok-ages.ages first c.in_ok-outputs.outputs c.in_ok-owed.owed c.in_ok-readiness.readiness
    (subst IsProject plan c.places.ensures.project)
    (subst IsUncrowded plan c.places.ensures.uncrowded)
    c.in_ok-inputs.ensures c.in_ok-ages.ensures no_epoch owed ready zeros)))))

pub new-requires-5 : goal.new-requires-5
new-requires-5 c =
    subst IsLaidOut (sym c.places.ensures.table) (line-laid_out c.in_ok-plan.plan c.places.ensures.project c.places.ensures.uncrowded)

pub returns-in_err-plan-clause-refused : goal.returns-in_err-plan-clause-refused
returns-in_err-plan-clause-refused c =
    let p = err_from_is_err_and c.from_residual.result c.from_residual.ensures.1 in
    rw (p.1, p.2) c.in_err-plan.ensures.refused

pub returns-in_err-awaited-clause-refused : goal.returns-in_err-awaited-clause-refused
returns-in_err-awaited-clause-refused c =
    let p = err_from_is_err_and c.from_residual-in_err-awaited.result c.from_residual-in_err-awaited.ensures.1 in
    rw (p.1, p.2) (λ other. absurd (other refl))

pub returns-in_err-inputs-clause-refused : goal.returns-in_err-inputs-clause-refused
returns-in_err-inputs-clause-refused c =
    let p = err_from_is_err_and c.from_residual-in_err-inputs.result c.from_residual-in_err-inputs.ensures.1 in
    rw (p.1, p.2) (λ other. absurd (other refl))

pub returns-in_err-owed-clause-refused : goal.returns-in_err-owed-clause-refused
returns-in_err-owed-clause-refused c =
    let p = err_from_is_err_and c.from_residual-in_err-owed.result c.from_residual-in_err-owed.ensures.1 in
    rw (p.1, p.2) (λ other. absurd (other refl))

pub returns-in_err-outputs-clause-refused : goal.returns-in_err-outputs-clause-refused
returns-in_err-outputs-clause-refused c =
    let p = err_from_is_err_and c.from_residual-in_err-outputs.result c.from_residual-in_err-outputs.ensures.1 in
    rw (p.1, p.2) (λ other. absurd (other refl))

pub returns-in_err-ages-clause-refused : goal.returns-in_err-ages-clause-refused
returns-in_err-ages-clause-refused c =
    let p = err_from_is_err_and c.from_residual-in_err-ages.result c.from_residual-in_err-ages.ensures.1 in
    rw (p.1, p.2) (λ other. absurd (other refl))

pub returns-in_err-readiness-clause-refused : goal.returns-in_err-readiness-clause-refused
returns-in_err-readiness-clause-refused c =
    let p = err_from_is_err_and c.from_residual-in_err-readiness.result c.from_residual-in_err-readiness.ensures.1 in
    rw (p.1, p.2) (λ other. absurd (other refl))

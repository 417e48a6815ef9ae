use Rattle.std.proofs.Common.{◌≡◌, ◌∙◌, List, ap, subst, sym, refl}
use Rattle.std.specs.Prelude.{Err}
use Rattle.std.proofs.lemmas.Bool.{eq-eqb, ne_eqb}
use Rattle.std.proofs.lemmas.Result.{err_from_is_err_and}
use Rattle.hc_records.specs.declared.edit.Edit.TheVariants.{Declare}
use Rattle.hc_records.specs.declared.faults.EditFault.TheVariants.{EpochsSpent}
use Rattle.hc_records.specs.declared.limits.TheConstants.{LAST_EPOCH}
use Rattle.hc_records.specs.declared.records.Declared.{Declared}
use Rattle.hc_records.specs.Edits.{edited}
use Rattle.hc_records.specs.Line.{State}
use Rattle.hc_registers.specs.Ranked.{RankedBlock}
use Rattle.hc_plan.specs.declared.work.Work.TheVariants.{NewGroup}
use Rattle.hc_plan.specs.inner.Declaring.{CanDeclare, ShowsNothing}
use Rattle.hc_plan.specs.inner.Prepared.{prepared_of}
use Rattle.hc_plan.specs.Prepared.{IsPrepared}
use Rattle.hc_plan.proofs.Editing.{declared-refused, declared-spent}
use Rattle.hc_plan.proofs.Preparing.{declared-prepared, nothing-named}
use Rattle.hc_plan.proofs.plan.Plan.prepare_group.Goals as goal

pub returns-then-self-clause-refused : goal.returns-then-self-clause-refused
returns-then-self-clause-refused c =
    let old : State = record { groups = c.self.inside.groups; epoch = c.self.inside.epoch } in
    λ other.
    subst (λ (s : State). edited s c.args.edit.now ≡ Err EpochsSpent) c.self.view_is
    (ap (edited old) c.requires ∙ declared-spent old c.args.group.now c.self.invariant.1 (eq-eqb old.epoch LAST_EPOCH c.if-self.true))

pub returns-in_err-declaration-clause-refused : goal.returns-in_err-declaration-clause-refused
returns-in_err-declaration-clause-refused c =
    let old : State = record { groups = c.self.inside.groups; epoch = c.self.inside.epoch } in
    let fault = c.in_err-declaration.field-0.0 in
    let p = err_from_is_err_and c.from_residual.result c.from_residual.ensures.1 in
    rw (p.1, p.2) (λ other.
    subst (λ (s : State). edited s c.args.edit.now ≡ Err fault) c.self.view_is
    (ap (edited old) c.requires
    ∙ declared-refused old c.args.group.now fault c.self.invariant.1 (ne_eqb old.epoch LAST_EPOCH c.if-self.false) (c.in_err-declaration.ensures.refused other)))

-- what was made of the plan, by its groups and its epoch

pub invariant_of-result : goal.invariant_of-result
invariant_of-result c =
    let old : State = record { groups = c.self.inside.groups; epoch = c.self.inside.epoch } in
    let declaration = c.in_ok-declaration.declaration in
    let report = c.in_ok-report.report in
    let ready = c.in_ok-declaration.ensures.ready in
    let nothing = subst (λ (g : List Declared). ShowsNothing (record { groups = g; epoch = old.epoch }) c.args.edit.now report) c.as_slice.ensures c.in_ok-report.ensures in
    let named = nothing-named old c.args.edit.now report nothing in
    let prepared = declared-prepared old c.args.edit.now declaration report c.self.invariant.0 c.self.invariant.1 (ne_eqb old.epoch LAST_EPOCH c.if-self.false)
    (c.requires ∙ ap Declare (sym c.in_ok-declaration.ensures.group)) named ready.free nothing in
    let blocks = subst (λ (bs : List RankedBlock). IsPrepared (prepared_of old (NewGroup declaration) report bs)) (sym c.new.ensures.items) prepared in
    subst (λ (s : State). IsPrepared (prepared_of s (NewGroup declaration) report c.new.result.items) × CanDeclare s.groups declaration) (c.self.view_is ∙ sym c.of-was.ensures) (blocks, ready)

pub returns-clause-prepared : goal.returns-clause-prepared
returns-clause-prepared c = (invariant_of-result c).0

pub returns-clause-edit : goal.returns-clause-edit
returns-clause-edit c =
    let old : State = record { groups = c.self.inside.groups; epoch = c.self.inside.epoch } in
    nothing-named old c.args.edit.now c.in_ok-report.report
    (subst (λ (g : List Declared). ShowsNothing (record { groups = g; epoch = old.epoch }) c.args.edit.now c.in_ok-report.report) c.as_slice.ensures c.in_ok-report.ensures)

pub returns-clause-accepted : goal.returns-clause-accepted
returns-clause-accepted c =
    ap (λ (s : State). edited s c.args.edit.now) (sym c.of-was.ensures)
    ∙ ap (edited c.of-was.result.value) (sym (returns-clause-edit c))
    ∙ (invariant_of-result c).0.accepted

pub returns-in_err-report-clause-refused : goal.returns-in_err-report-clause-refused
returns-in_err-report-clause-refused c =
    let p = err_from_is_err_and c.from_residual-in_err-report.result c.from_residual-in_err-report.ensures.1 in
    rw (p.1, p.2) (λ other. absurd (other refl))

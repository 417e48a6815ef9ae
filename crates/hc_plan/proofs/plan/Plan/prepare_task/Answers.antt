use Rattle.std.proofs.Common.{◌≡◌, ◌∙◌, List, None, Some, ap, subst, sym}
use Rattle.std.specs.Prelude.{Err}
use Rattle.std.proofs.lemmas.Bool.{eq-eqb, ne_eqb}
use Rattle.hc_records.specs.declared.faults.EditFault.TheVariants.{EpochsSpent}
use Rattle.hc_records.specs.declared.limits.TheConstants.{LAST_EPOCH}
use Rattle.hc_records.specs.declared.records.Declared.{Declared}
use Rattle.hc_records.specs.Edits.{declares, edited, groups_after}
use Rattle.hc_records.specs.Line.{State, groups_of}
use Rattle.hc_records.specs.Project.{lowest_fault}
use Rattle.hc_registers.specs.Ranked.{RankedBlock}
use Rattle.hc_groups.specs.Changes.{change_by, changed_groups}
use Rattle.hc_groups.specs.Edits.{own_fault}
use Rattle.hc_plan.specs.declared.work.Work.TheVariants.{NewTask}
use Rattle.hc_plan.specs.inner.Declaring.{ShowsNothing}
use Rattle.hc_plan.specs.inner.Prepared.{IsWorkReady, MovesNoBits, prepared_of}
use Rattle.hc_plan.specs.Prepared.{IsPrepared}
use Rattle.hc_plan.proofs.Alike.{change-alike}
use Rattle.hc_plan.proofs.Editing.{made-spent}
use Rattle.hc_plan.proofs.Preparing.{moving-declares, nothing-named, task-prepared}
use Rattle.hc_plan.proofs.plan.Plan.prepare_task.Goals as goal

pub returns-then-self-clause-refused : goal.returns-then-self-clause-refused
returns-then-self-clause-refused c =
    let groups = c.self.inside.groups in
    let epoch = c.self.inside.epoch in
    let edit = c.args.edit.now in
    let change = c.in_ok-change.change in
    let slice = c.of-groups.ensures ∙ c.as_slice.ensures in
    let leads = subst (λ (g : List Declared). changed_groups change g ≡ groups_after g edit) slice c.in_ok-change.ensures.groups in
    let is = subst (λ (g : List Declared). lowest_fault (groups_of (changed_groups change g)) ≡ None) slice c.in_ok-change.ensures.project_after in
    let moves = subst (λ (s : State). MovesNoBits s.groups edit) (sym c.self.view_is) c.requires in
    let same = change-alike groups change edit c.self.invariant.0 c.self.invariant.1 leads is moves in
    λ other.
    subst (λ (s : State). edited s edit ≡ Err EpochsSpent) c.self.view_is
    (made-spent groups (changed_groups change groups) epoch edit
    (subst (λ (g : List Declared). own_fault g edit ≡ None) slice c.in_ok-change.ensures.accepted) leads (same.crowds ∙ c.self.invariant.1) (eq-eqb epoch LAST_EPOCH c.if-self.true))

pub returns-clause-edit : goal.returns-clause-edit
returns-clause-edit c =
    let epoch = c.self.inside.epoch in
    nothing-named (record { groups = c.self.inside.groups; epoch = epoch }) c.args.edit.now c.in_ok-report.report
    (subst (λ (g : List Declared). ShowsNothing (record { groups = g; epoch = epoch }) c.args.edit.now c.in_ok-report.report) c.as_slice-2.ensures c.in_ok-report.ensures)

pub invariant_of-result : goal.invariant_of-result
invariant_of-result c =
    let groups = c.self.inside.groups in
    let old : State = record { groups = groups; epoch = c.self.inside.epoch } in
    let edit = c.args.edit.now in
    let change = c.in_ok-change.change in
    let report = c.in_ok-report.report in
    let slice = c.of-groups.ensures ∙ c.as_slice.ensures in
    let leads = subst (λ (g : List Declared). changed_groups change g ≡ groups_after g edit) slice c.in_ok-change.ensures.groups in
    let is = subst (λ (g : List Declared). lowest_fault (groups_of (changed_groups change g)) ≡ None) slice c.in_ok-change.ensures.project_after in
    let own = subst (λ (g : List Declared). own_fault g edit ≡ None) slice c.in_ok-change.ensures.accepted in
    let made = subst (λ (g : List Declared). change_by g edit ≡ Some change) slice c.in_ok-change.ensures.change in
    let moves = subst (λ (s : State). MovesNoBits s.groups edit) (sym c.self.view_is) c.requires in
    let same = change-alike groups change edit c.self.invariant.0 c.self.invariant.1 leads is moves in
    let nothing = subst (λ (g : List Declared). ShowsNothing (record { groups = g; epoch = old.epoch }) edit report) c.as_slice-2.ensures c.in_ok-report.ensures in
    let named = nothing-named old edit report nothing in
    let prepared = task-prepared old edit change report c.self.invariant.0 c.self.invariant.1 (ne_eqb old.epoch LAST_EPOCH c.if-self.false)
    (moving-declares groups edit moves) own made leads same named nothing in
    let blocks = subst (λ (bs : List RankedBlock). IsPrepared (prepared_of old (NewTask change) report bs)) (sym c.new.ensures.items) prepared in
    subst (λ (s : State). IsPrepared (prepared_of s (NewTask change) report c.new.result.items) × IsWorkReady s report (NewTask change)) (c.self.view_is ∙ sym c.of-was.ensures)
    (blocks, record { made = ap (change_by groups) named ∙ made; changes = ap declares named ∙ moving-declares groups edit moves; project = is; same = same })

pub returns-clause-prepared : goal.returns-clause-prepared
returns-clause-prepared c = (invariant_of-result c).0

pub returns-clause-accepted : goal.returns-clause-accepted
returns-clause-accepted c =
    ap (λ (s : State). edited s c.args.edit.now) (sym c.of-was.ensures)
    ∙ ap (edited c.of-was.result.value) (sym (returns-clause-edit c))
    ∙ (invariant_of-result c).0.accepted

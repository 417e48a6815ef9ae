use Rattle.std.proofs.Common.{◌≡◌, ◌∙◌, List, None, Some, ap, sym, subst, refl}
use Rattle.std.specs.Prelude.{Err}
use Rattle.std.proofs.lemmas.Option.{MatchOption-from_none}
use Rattle.std.proofs.lemmas.Result.{err_from_is_err_and}
use Rattle.hc_records.specs.declared.records.Declared.{Declared}
use Rattle.hc_records.specs.Edits.{edited, groups_after}
use Rattle.hc_records.specs.Line.{State, groups_of}
use Rattle.hc_records.specs.Project.{lowest_fault}
use Rattle.hc_cuts.specs.Areas.{areas_by_rank}
use Rattle.hc_cuts.specs.TaskCuts.{line_cuts}
use Rattle.hc_groups.specs.Changes.{change_by, changed_groups}
use Rattle.hc_groups.specs.Edits.{own_fault}
use Rattle.hc_groups.specs.Rows.{ChangesRow}
use Rattle.hc_groups.proofs.lemmas.Refusals.{own-refuses}
use Rattle.hc_changes.specs.EditedLine.{IsEditedLine, edited_line_of}
use Rattle.hc_changes.proofs.lemmas.EditedLines.{change-edited_line}
use Rattle.hc_plan.specs.declared.work.LineWork.{LineWork}
use Rattle.hc_plan.specs.declared.work.Work.TheVariants.{NewLine}
use Rattle.hc_plan.specs.inner.Prepared.{IsWorkReady, prepared_of}
use Rattle.hc_plan.specs.Prepared.{IsPrepared}
use Rattle.hc_plan.specs.RegisterBlocks.{blocks_by_rank}
use Rattle.hc_plan.proofs.Editing.{judged, old-groups}
use Rattle.hc_plan.proofs.Preparing.{is-prepared, is-ready, makes}
use Rattle.hc_plan.proofs.plan.Plan.prepare_change.Goals as goal

pub returns-in_err-change-clause-refused : goal.returns-in_err-change-clause-refused
returns-in_err-change-clause-refused c =
    let groups = c.self.inside.groups in
    let edit = c.args.edit.now in
    let fault = c.in_err-change.field-0.0 in
    let p = err_from_is_err_and c.from_residual.result c.from_residual.ensures.1 in
    rw (p.1, p.2) (λ other.
    subst (λ (s : State). edited s edit ≡ Err fault) c.self.view_is
    (own-refuses (record { groups = groups; epoch = c.self.inside.epoch }) edit fault
    (judged c.of-groups.result groups edit (Some fault) (c.of-groups.ensures ∙ c.as_slice.ensures) (sym (c.in_err-change.ensures.refused other)))))

pub returns-in_err-worked-clause-refused : goal.returns-in_err-worked-clause-refused
returns-in_err-worked-clause-refused c =
    let edit = c.args.edit.now in
    let epoch = c.self.inside.epoch in
    let fault = c.in_err-worked.field-0.0 in
    let was = old-groups c.of-edited_line.result c.in_ok-change.change c.of-groups.result c.self.inside.groups c.of-edited_line.ensures (c.of-groups.ensures ∙ c.as_slice.ensures) in
    let old = ap (λ (g : List Declared). record { groups = g; epoch = epoch }) was ∙ c.self.view_is in
    let p = err_from_is_err_and c.from_residual-in_err-worked.result c.from_residual-in_err-worked.ensures.1 in
    rw (p.1, p.2) (λ other. subst (λ (s : State). edited s edit ≡ Err fault) old (c.in_err-worked.ensures.refused other))

pub returns-in_err-worked-clause-own : goal.returns-in_err-worked-clause-own
returns-in_err-worked-clause-own c =
    let edit = c.args.edit.now in
    let none = judged c.of-groups.result c.self.inside.groups edit None (c.of-groups.ensures ∙ c.as_slice.ensures) (sym c.in_ok-change.ensures.accepted) in
    MatchOption-from_none (own_fault c.args.self.now.groups edit) _ (ap (λ (s : State). own_fault s.groups edit) (sym c.self.view_is) ∙ none)

pub returns-clause-own : goal.returns-clause-own
returns-clause-own c =
    let edit = c.args.edit.now in
    let none = judged c.of-groups.result c.self.inside.groups edit None (c.of-groups.ensures ∙ c.as_slice.ensures) (sym c.in_ok-change.ensures.accepted) in
    MatchOption-from_none (own_fault c.args.self.now.groups edit) _ (ap (λ (s : State). own_fault s.groups edit) (sym c.self.view_is) ∙ none)

pub work_out-requires-clause-edit : goal.work_out-requires-clause-edit
work_out-requires-clause-edit c =
    let edit = c.args.edit.now in
    let change = c.in_ok-change.change in
    makes c.of-edited_line.result change edit c.self.inside.places c.self.inside.groups c.requires
    (subst IsEditedLine (sym c.of-edited_line.ensures) (change-edited_line c.of-groups.result change (record { edit = edit; changes = c.requires; leads = c.in_ok-change.ensures.groups })
    (subst (λ (g : List Declared). lowest_fault (groups_of g) ≡ None) (sym (c.of-groups.ensures ∙ c.as_slice.ensures)) c.self.invariant.0) c.in_ok-change.ensures.project_after c.in_ok-change.ensures.row))
    (c.of-edited_line.ensures ∙ ap (edited_line_of change) (c.of-groups.ensures ∙ c.as_slice.ensures))
    (subst (λ (g : List Declared). own_fault g edit ≡ None) (c.of-groups.ensures ∙ c.as_slice.ensures) c.in_ok-change.ensures.accepted)
    (subst (λ (g : List Declared). changed_groups change g ≡ groups_after g edit) (c.of-groups.ensures ∙ c.as_slice.ensures) c.in_ok-change.ensures.groups)
    c.self.invariant.1 c.self.invariant.2

pub invariant_of-result : goal.invariant_of-result
invariant_of-result c =
    let old : State = record { groups = c.self.inside.groups; epoch = c.self.inside.epoch } in
    let edit = c.args.edit.now in
    let change = c.in_ok-change.change in
    let worked = c.in_ok-worked.worked in
    let answer_given = c.in_ok-worked.ensures in
    let work : LineWork = record { change = change; starts = worked.starts; rows = worked.room } in
    let edited_line = c.of-edited_line.ensures ∙ ap (edited_line_of change) (c.of-groups.ensures ∙ c.as_slice.ensures) in
    let slice = (c.of-groups.ensures ∙ c.as_slice.ensures) in
    subst
    (λ (s : State). IsPrepared (prepared_of s (NewLine work) worked.report worked.blocks.items) × IsWorkReady s worked.report (NewLine work))
    (sym c.of-2.ensures) (
      is-prepared old work c.of-edited_line.result edit worked.report worked.blocks.items c.self.invariant.0 c.self.invariant.1
          (subst (λ (g : List Declared). change_by g edit ≡ Some change) slice c.in_ok-change.ensures.change) edited_line answer_given.report answer_given.accepted answer_given.fits answer_given.blocks,
      is-ready old work c.of-edited_line.result edit worked.report c.self.inside.places answer_given.report.named c.requires
          (subst (λ (g : List Declared). change_by g edit ≡ Some change) slice c.in_ok-change.ensures.change)
          (subst (λ (g : List Declared). changed_groups change g ≡ groups_after g edit) slice c.in_ok-change.ensures.groups)
          (subst (λ (g : List Declared). lowest_fault (groups_of (changed_groups change g)) ≡ None) slice c.in_ok-change.ensures.project_after)
          (subst (ChangesRow change) slice c.in_ok-change.ensures.row)
          edited_line answer_given.starts c.self.invariant.2 answer_given.room,
    )

pub returns-clause-prepared : goal.returns-clause-prepared
returns-clause-prepared c = (invariant_of-result c).0

pub of-edited_line-requires-clause-edited : goal.of-edited_line-requires-clause-edited
of-edited_line-requires-clause-edited c =
    record { edit = c.args.edit.now; changes = c.requires; leads = subst (λ (g : List Declared). changed_groups c.in_ok-change.change g ≡ groups_after g c.args.edit.now) refl c.in_ok-change.ensures.groups }

pub of-edited_line-requires-clause-was : goal.of-edited_line-requires-clause-was
of-edited_line-requires-clause-was c = subst (λ (g : List Declared). lowest_fault (groups_of g) ≡ None) (sym (c.of-groups.ensures ∙ c.as_slice.ensures)) c.self.invariant.0

pub of-edited_line-requires-clause-is : goal.of-edited_line-requires-clause-is
of-edited_line-requires-clause-is c =
    subst (λ (g : List Declared). lowest_fault (groups_of (changed_groups c.in_ok-change.change g)) ≡ None) refl c.in_ok-change.ensures.project_after

pub of-edited_line-requires-clause-row : goal.of-edited_line-requires-clause-row
of-edited_line-requires-clause-row c = subst (ChangesRow c.in_ok-change.change) refl c.in_ok-change.ensures.row

pub work_out-requires-clause-trees : goal.work_out-requires-clause-trees
work_out-requires-clause-trees c =
    c.self.invariant.3
    ∙ ap (λ (g : List Declared). line_cuts (areas_by_rank g))
    (sym (old-groups c.of-edited_line.result c.in_ok-change.change c.of-groups.result c.self.inside.groups c.of-edited_line.ensures (c.of-groups.ensures ∙ c.as_slice.ensures)))

pub work_out-requires-clause-stored : goal.work_out-requires-clause-stored
work_out-requires-clause-stored c =
    c.self.invariant.5
    ∙ ap blocks_by_rank
    (sym (old-groups c.of-edited_line.result c.in_ok-change.change c.of-groups.result c.self.inside.groups c.of-edited_line.ensures (c.of-groups.ensures ∙ c.as_slice.ensures)))

pub invariant_of-self : goal.invariant_of-self
invariant_of-self c = (c.self.invariant.0, c.self.invariant.1, c.self.invariant.2, c.work_out.ensures.unchanged ∙ c.self.invariant.3, c.self.invariant.4, c.self.invariant.5)

pub invariant_of-self-2 : goal.invariant_of-self-2
invariant_of-self-2 c = (c.self.invariant.0, c.self.invariant.1, c.self.invariant.2, c.work_out.ensures.unchanged ∙ c.self.invariant.3, c.self.invariant.4, c.self.invariant.5)

pub returns-in_err-worked-clause-unchanged : goal.returns-in_err-worked-clause-unchanged
returns-in_err-worked-clause-unchanged c = c.self.view_is

pub returns-clause-unchanged : goal.returns-clause-unchanged
returns-clause-unchanged c = c.self.view_is

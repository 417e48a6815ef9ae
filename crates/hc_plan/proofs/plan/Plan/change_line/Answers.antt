use Rattle.std.proofs.Common.{◌≡◌, ◌∙◌, List, None, ap, sym, subst}
use Rattle.hc_records.specs.declared.records.Declared.{Declared}
use Rattle.hc_records.specs.Edits.{over_limit_task, groups_after}
use Rattle.hc_records.specs.Line.{State, groups_of, line, line_from}
use Rattle.hc_records.specs.Project.{lowest_fault}
use Rattle.hc_cuts.specs.Areas.{areas_by_rank}
use Rattle.hc_cuts.specs.TaskCuts.{line_cuts}
use Rattle.hc_cuts.specs.ApplyWidths.{AreStartsOf}
use Rattle.hc_groups.specs.Changes.{IsMade, changed_groups}
use Rattle.hc_groups.specs.Index.{IsIndexOf}
use Rattle.hc_places.specs.Swap.{swapped}
use Rattle.hc_places.specs.Table.{table_of}
use Rattle.hc_changes.specs.EditedLine.{EditedLine, IsEditedLine, edited_line_of}
use Rattle.hc_plan.specs.inner.Prepared.{IsLineReady}
use Rattle.hc_plan.proofs.Editing.{old-groups}
use Rattle.hc_groups.specs.Rows.{ChangesRow}
use Rattle.hc_changes.proofs.lemmas.EditedLines.{change-edited_line}
use Rattle.hc_plan.specs.RegisterBlocks.{blocks_by_rank}
use Rattle.hc_plan.proofs.Carrying.{line-stored}
use Rattle.hc_plan.proofs.plan.Plan.change_line.Goals as goal

-- the new groups are given by the change: a tactic would open the faults and the eight tasks of both
-- lines

pub apply_known_widths-requires-clause-trees : goal.apply_known_widths-requires-clause-trees
apply_known_widths-requires-clause-trees c =
    c.self.invariant.3
    ∙ ap (λ (g : List Declared). line_cuts (areas_by_rank g))
    (sym (old-groups c.of-edited_line.result c.args.work.change c.of-groups.result c.self.inside.groups c.of-edited_line.ensures (c.of-groups.ensures ∙ c.as_slice.ensures)))

pub apply_known_widths-requires-clause-starts : goal.apply_known_widths-requires-clause-starts
apply_known_widths-requires-clause-starts c =
    let change = c.args.work.change in
    let new = ap (λ (it : EditedLine). it.new) c.of-edited_line.ensures ∙ ap (changed_groups change) (c.of-groups.ensures ∙ c.as_slice.ensures) ∙ ap (λ (s : State). changed_groups change s.groups) c.self.view_is in
    subst (λ (g : List Declared). AreStartsOf (areas_by_rank g) c.args.work.starts) (sym new) c.requires.ready.starts

pub of-groups-requires : goal.of-groups-requires
of-groups-requires c = subst (λ (g : List Declared). IsIndexOf g c.self.inside.index) (sym c.as_slice.ensures) c.self.invariant.4

pub follow-requires-clause-index : goal.follow-requires-clause-index
follow-requires-clause-index c = subst (λ (g : List Declared). IsIndexOf g c.self.inside.index) (sym c.as_slice-2.ensures) c.self.invariant.4

pub follow-requires-clause-made : goal.follow-requires-clause-made
follow-requires-clause-made c =
    let ready = subst (λ (s : State). IsLineReady s c.args.report.now c.args.work) (sym c.self.view_is) c.requires.ready in
    subst (λ (g : List Declared). IsMade g c.args.work.change) (sym c.as_slice-2.ensures) (c.args.report.now.swap.edit, ready.made)

pub follow-requires-clause-project : goal.follow-requires-clause-project
follow-requires-clause-project c =
    let ready = subst (λ (s : State). IsLineReady s c.args.report.now c.args.work) (sym c.self.view_is) c.requires.ready in
    subst (λ (g : List Declared). lowest_fault (groups_of (changed_groups c.args.work.change g)) ≡ None) (sym c.as_slice-2.ensures) ready.project

pub change-requires : goal.change-requires
change-requires c = record {
  edited = line-stored c.args.self.now c.args.report.now c.args.work c.args.blocks.now c.self.inside.blocks c.gone_with.result c.requires (c.self.invariant.5 ∙ ap (λ (s : State). blocks_by_rank s.groups) c.self.view_is) c.gone_with.ensures;
}

pub invariant_of-self : goal.invariant_of-self
invariant_of-self c =
    let change = c.args.work.change in
    let made = c.carry_out.ensures in
    let same = made ∙ ap (λ (s : State). changed_groups change s.groups) c.self.view_is in
    let new = ap (λ (it : EditedLine). it.new) c.of-edited_line.ensures ∙ ap (changed_groups change) (c.of-groups.ensures ∙ c.as_slice.ensures) ∙ sym made in (
      subst (λ (g : List Declared). lowest_fault (groups_of g) ≡ None) (sym same) c.requires.ready.project,
      subst (λ (g : List Declared). over_limit_task (line_from 1 g) ≡ None) (sym same) c.requires.prepared.crowds.1,
      c.carry_out-2.ensures
          ∙ ap (swapped c.args.report.now.swap.change) (c.self.invariant.2 ∙ ap (λ (s : State). table_of (line s)) c.self.view_is)
          ∙ c.requires.prepared.reported.leads
          ∙ ap (λ (g : List Declared). table_of (line_from 1 g)) (sym same),
      c.apply_known_widths.ensures ∙ ap (λ (g : List Declared). line_cuts (areas_by_rank g)) new,
      subst (λ (g : List Declared). IsIndexOf g c.follow.new.self) (ap (changed_groups change) c.as_slice-2.ensures ∙ sym made) c.follow.ensures,
      c.change.ensures
          (line-stored c.args.self.now c.args.report.now c.args.work c.args.blocks.now c.self.inside.blocks c.gone_with.result c.requires (c.self.invariant.5 ∙ ap (λ (s : State). blocks_by_rank s.groups) c.self.view_is) c.gone_with.ensures)
          ∙ ap blocks_by_rank (sym same),
    )

pub returns : goal.returns
returns c =
    let change = c.args.work.change in
    let state : List Declared → State = λ groups. record { groups = groups; epoch = c.self.inside.epoch } in
    ap state c.carry_out.ensures ∙ ap (λ (s : State). record s { groups = changed_groups change s.groups }) c.self.view_is

pub of-edited_line-requires-clause-edited : goal.of-edited_line-requires-clause-edited
of-edited_line-requires-clause-edited c =
    let old : State = record { groups = c.self.inside.groups; epoch = c.self.inside.epoch } in
    let ready = subst (λ (s : State). IsLineReady s c.args.report.now c.args.work) (sym c.self.view_is) c.requires.ready in
    let edit = c.args.report.now.swap.edit in
    record { edit = edit; changes = ready.changes; leads = subst (λ (g : List Declared). changed_groups c.args.work.change g ≡ groups_after g edit) (sym (c.of-groups.ensures ∙ c.as_slice.ensures)) ready.leads }

pub of-edited_line-requires-clause-was : goal.of-edited_line-requires-clause-was
of-edited_line-requires-clause-was c = subst (λ (g : List Declared). lowest_fault (groups_of g) ≡ None) (sym (c.of-groups.ensures ∙ c.as_slice.ensures)) c.self.invariant.0

pub of-edited_line-requires-clause-is : goal.of-edited_line-requires-clause-is
of-edited_line-requires-clause-is c =
    let old : State = record { groups = c.self.inside.groups; epoch = c.self.inside.epoch } in
    let ready = subst (λ (s : State). IsLineReady s c.args.report.now c.args.work) (sym c.self.view_is) c.requires.ready in
    subst (λ (g : List Declared). lowest_fault (groups_of (changed_groups c.args.work.change g)) ≡ None) (sym (c.of-groups.ensures ∙ c.as_slice.ensures)) ready.project

pub of-edited_line-requires-clause-row : goal.of-edited_line-requires-clause-row
of-edited_line-requires-clause-row c =
    let old : State = record { groups = c.self.inside.groups; epoch = c.self.inside.epoch } in
    let ready = subst (λ (s : State). IsLineReady s c.args.report.now c.args.work) (sym c.self.view_is) c.requires.ready in
    subst (ChangesRow c.args.work.change) (sym (c.of-groups.ensures ∙ c.as_slice.ensures)) ready.row

pub apply_known_widths-requires-clause-edited : goal.apply_known_widths-requires-clause-edited
apply_known_widths-requires-clause-edited c =
    let old : State = record { groups = c.self.inside.groups; epoch = c.self.inside.epoch } in
    let ready = subst (λ (s : State). IsLineReady s c.args.report.now c.args.work) (sym c.self.view_is) c.requires.ready in
    let change = c.args.work.change in
    subst IsEditedLine (sym c.of-edited_line.ensures)
    (subst (λ (g : List Declared). IsEditedLine (edited_line_of change g)) (sym (c.of-groups.ensures ∙ c.as_slice.ensures))
    (change-edited_line old.groups change (record { edit = c.args.report.now.swap.edit; changes = ready.changes; leads = ready.leads }) c.self.invariant.0 ready.project ready.row))

use Rattle.std.proofs.Common.{◌≡◌, ◌∙◌, List, None, ap, sym, subst}
use Rattle.hc_records.specs.declared.records.Declared.{Declared}
use Rattle.hc_records.specs.Edits.{over_limit_task}
use Rattle.hc_records.specs.Line.{State, groups_of, line_from}
use Rattle.hc_records.specs.Project.{lowest_fault}
use Rattle.hc_cuts.specs.Areas.{areas_by_rank}
use Rattle.hc_cuts.specs.TaskCuts.{line_cuts}
use Rattle.hc_groups.specs.Changes.{IsMade, changed_groups}
use Rattle.hc_groups.specs.Index.{IsIndexOf}
use Rattle.hc_places.specs.Table.{table_of}
use Rattle.hc_plan.specs.RegisterBlocks.{blocks_by_rank}
use Rattle.hc_plan.specs.inner.Prepared.{IsTaskReady}
use Rattle.hc_plan.proofs.Carrying.{task-stored}
use Rattle.hc_plan.proofs.plan.Plan.change_task.Goals as goal

pub change-requires : goal.change-requires
change-requires c = record {
  edited = task-stored c.args.self.now c.args.report.now c.args.change c.args.blocks.now c.self.inside.blocks c.gone_with.result c.requires (c.self.invariant.5 ∙ ap (λ (s : State). blocks_by_rank s.groups) c.self.view_is) c.gone_with.ensures;
}

pub follow-requires-clause-made : goal.follow-requires-clause-made
follow-requires-clause-made c =
    let ready = subst (λ (s : State). IsTaskReady s c.args.report.now c.args.change) (sym c.self.view_is) c.requires.ready in
    subst (λ (g : List Declared). IsMade g c.args.change) (sym c.as_slice.ensures) (c.args.report.now.swap.edit, ready.made)

pub invariant_of-self : goal.invariant_of-self
invariant_of-self c =
    let change = c.args.change in
    let ready = subst (λ (s : State). IsTaskReady s c.args.report.now change) (sym c.self.view_is) c.requires.ready in
    let made = c.carry_out.ensures in
    let same = made ∙ ap (λ (s : State). changed_groups change s.groups) c.self.view_is in (
      subst (λ (g : List Declared). lowest_fault (groups_of g) ≡ None) (sym made) ready.project,
      subst (λ (g : List Declared). over_limit_task (line_from 1 g) ≡ None) (sym made) (ready.same.crowds ∙ c.self.invariant.1),
      c.self.invariant.2 ∙ sym ready.same.alike.table ∙ ap (λ (g : List Declared). table_of (line_from 1 g)) (sym made),
      c.self.invariant.3 ∙ sym ready.same.cuts ∙ ap (λ (g : List Declared). line_cuts (areas_by_rank g)) (sym made),
      subst (λ (g : List Declared). IsIndexOf g c.follow.new.self) (ap (changed_groups change) c.as_slice.ensures ∙ sym made) c.follow.ensures,
      c.change.ensures
          (task-stored c.args.self.now c.args.report.now change c.args.blocks.now c.self.inside.blocks c.gone_with.result c.requires (c.self.invariant.5 ∙ ap (λ (s : State). blocks_by_rank s.groups) c.self.view_is) c.gone_with.ensures)
          ∙ ap blocks_by_rank (sym same),
    )

use Rattle.std.proofs.Common.{◌≡◌, ◌∙◌, List, None, map, ap, subst, sym, refl}
use Rattle.std.proofs.lemmas.Result.{err_from_is_err_and}
use Rattle.hc_records.specs.Edits.{over_limit_task}
use Rattle.hc_records.specs.declared.records.Declared.{Declared}
use Rattle.hc_records.specs.Line.{line_from, opened_group}
use Rattle.hc_records.specs.Project.{lowest_fault}
use Rattle.hc_groups.specs.Index.{IsIndexOf}
use Rattle.hc_places.specs.Table.{table_of}
use Rattle.hc_cuts.specs.Areas.{areas_by_rank}
use Rattle.hc_cuts.specs.TaskCuts.{line_cuts}
use Rattle.hc_plan.specs.RegisterBlocks.{blocks_by_rank}
use Rattle.hc_plan.proofs.Opening.{opened-project}
use Rattle.hc_plan.proofs.plan.Plan.new.Goals as goal

pub new-requires : goal.new-requires
new-requires c =
    opened-project c.into_groups.result c.as_slice.result.now
    (c.as_slice.ensures ∙ c.in_ok-groups.ensures ∙ ap (map opened_group) c.into_vec.ensures)
    (ap lowest_fault c.into_groups.ensures.value ∙ c.into_groups.ensures.project)

pub open_line-requires-clause-project : goal.open_line-requires-clause-project
open_line-requires-clause-project c =
    opened-project c.into_groups.result c.as_slice-2.result.now
    (c.as_slice-2.ensures ∙ c.in_ok-groups.ensures ∙ ap (map opened_group) c.into_vec.ensures)
    (ap lowest_fault c.into_groups.ensures.value ∙ c.into_groups.ensures.project)

pub invariant_of-result : goal.invariant_of-result
invariant_of-result c =
    let groups = c.as_slice-2.ensures in (
      opened-project c.into_groups.result c.in_ok-groups.groups
          (c.in_ok-groups.ensures ∙ ap (map opened_group) c.into_vec.ensures)
          (ap lowest_fault c.into_groups.ensures.value ∙ c.into_groups.ensures.project),
      subst (λ (g : List Declared). over_limit_task (line_from 1 g) ≡ None) groups c.in_ok-line.ensures.accepted,
      c.in_ok-line.ensures.places ∙ ap (λ (g : List Declared). table_of (line_from 1 g)) groups,
      c.in_ok-line.ensures.cuts ∙ ap (λ (g : List Declared). line_cuts (areas_by_rank g)) groups,
      subst (λ (g : List Declared). IsIndexOf g c.in_ok-index.index) c.as_slice.ensures c.in_ok-index.ensures,
      c.in_ok-blocks.ensures ∙ ap blocks_by_rank c.as_slice-3.ensures,
    )

pub opened_blocks-requires-clause-index : goal.opened_blocks-requires-clause-index
opened_blocks-requires-clause-index c = subst (λ (g : List Declared). IsIndexOf g c.in_ok-index.index) (c.as_slice.ensures ∙ sym c.as_slice-3.ensures) c.in_ok-index.ensures

pub opened_blocks-requires-clause-cuts : goal.opened_blocks-requires-clause-cuts
opened_blocks-requires-clause-cuts c = c.in_ok-line.ensures.cuts ∙ ap (λ (g : List Declared). line_cuts (areas_by_rank g)) (c.as_slice-2.ensures ∙ sym c.as_slice-3.ensures)

pub opened_blocks-requires-clause-fits : goal.opened_blocks-requires-clause-fits
opened_blocks-requires-clause-fits c = subst (λ (g : List Declared). over_limit_task (line_from 1 g) ≡ None) (c.as_slice-2.ensures ∙ sym c.as_slice-3.ensures) c.in_ok-line.ensures.accepted

pub returns-in_err-blocks-clause-refused : goal.returns-in_err-blocks-clause-refused
returns-in_err-blocks-clause-refused c =
    let p = err_from_is_err_and c.from_residual-in_err-blocks.result c.from_residual-in_err-blocks.ensures.1 in
    rw (p.1, p.2) (λ other. absurd (other refl))

pub returns-in_err-groups-clause-refused : goal.returns-in_err-groups-clause-refused
returns-in_err-groups-clause-refused c =
    let p = err_from_is_err_and c.from_residual.result c.from_residual.ensures.1 in
    rw (p.1, p.2) (λ other. absurd (other refl))

pub returns-in_err-index-clause-refused : goal.returns-in_err-index-clause-refused
returns-in_err-index-clause-refused c =
    let p = err_from_is_err_and c.from_residual-in_err-index.result c.from_residual-in_err-index.ensures.1 in
    rw (p.1, p.2) (λ other. absurd (other refl))

use Rattle.std.proofs.Common.{List, ap, sym, ◌∙◌}
use Rattle.hc_records.specs.declared.records.Declared.{Declared}
use Rattle.hc_records.specs.Line.{groups_of}
use Rattle.hc_records.specs.Project.{lowest_fault}
use Rattle.hc_records.proofs.lemmas.Slaves.{project-counted}
use Rattle.hc_groups.proofs.lemmas.CarriedOut.{carried-after}
use Rattle.hc_groups.proofs.lemmas.Concerned.{change-of-row}
use Rattle.hc_groups.proofs.Unchanged.{project-unchanged}
use Rattle.hc_groups.proofs.prepared.Prepared.of.Goals as goal

pub change_by-requires-clause-counted : goal.change_by-requires-clause-counted
change_by-requires-clause-counted c = project-counted c.args.groups.now c.requires.project

pub returns-clause-groups : goal.returns-clause-groups
returns-clause-groups c = carried-after c.args.groups.now c.args.edit.now c.in_ok-change.change c.requires.project c.in_ok-change.ensures

pub returns-clause-project_after : goal.returns-clause-project_after
returns-clause-project_after c =
    ap (λ (groups : List Declared). lowest_fault (groups_of groups)) (carried-after c.args.groups.now c.args.edit.now c.in_ok-change.change c.requires.project c.in_ok-change.ensures)
    ∙ project-unchanged c.args.groups.now c.args.edit.now c.requires.changes c.requires.project (sym c.own_fault.ensures ∙ c.in_default.is)

pub returns-clause-row : goal.returns-clause-row
returns-clause-row c = change-of-row c.args.groups.now c.args.edit.now c.in_ok-change.change c.in_ok-change.ensures

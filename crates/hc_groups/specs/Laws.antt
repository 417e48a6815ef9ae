-- Laws of edits. Each is the contract of a function of `laws`.
use Rattle.std.specs.Prelude.{◌≡◌, None, Ok}
use Rattle.hc_records.specs.declared.edit.Edit.{Edit}
use Rattle.hc_records.specs.Edits.{edited}
use Rattle.hc_records.specs.Line.{State, groups_of}
use Rattle.hc_records.specs.Project.{lowest_fault}

-- an accepted edit leaves the groups of a project as groups of a project
abbrev pub AcceptedEditsKeepProjects : Type 0
AcceptedEditsKeepProjects =
    (old new : State) (edit : Edit) → lowest_fault (groups_of old.groups) ≡ None → edited old edit ≡ Ok new
    → lowest_fault (groups_of new.groups) ≡ None

-- The law that a line has a machine for each of its slaves.
use Rattle.std.specs.Prelude.{◌≡◌, ℕ, List, None, length}
use Rattle.hc_records.specs.declared.records.Declared.{Declared}
use Rattle.hc_records.specs.declared.edit.Edit.{Edit}
use Rattle.hc_records.specs.Edits.{groups_after}
use Rattle.hc_records.specs.Line.{groups_of, line_from}
use Rattle.hc_records.specs.Project.{lowest_fault}
use Rattle.hc_segment.specs.Line.{machines_after}
use Rattle.hc_segment.specs.Machines.{machines_after_edit, opened_machines, poked}

-- as many machines as the line of these groups has slaves
abbrev pub HasEach : List Declared → List (List ℕ) → Type 0
HasEach groups machines = length machines ≡ length (line_from 1 groups)

-- at its opening a line has a machine for each slave, and if it had one before, it has one after an edit, after frames, and after bytes are written to a memory
pub record LinesHaveEach : Type 0 where
  pub opened : (groups : List Declared) → HasEach groups (opened_machines groups)
  pub edited : (groups : List Declared) (edit : Edit) (machines : List (List ℕ)) → lowest_fault (groups_of groups) ≡ None → HasEach groups machines
      → HasEach (groups_after groups edit) (machines_after_edit groups edit machines)
  pub passed : (groups : List Declared) (machines frames : List (List ℕ)) → HasEach groups machines → HasEach groups (machines_after machines frames)
  pub written : (groups : List Declared) (machines : List (List ℕ)) (position at : ℕ) (part : List ℕ) → HasEach groups machines → HasEach groups (poked position at part machines)

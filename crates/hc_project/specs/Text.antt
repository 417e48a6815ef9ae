-- The project of a text, the group of a text, or its lowest fault.
use Rattle.std.specs.Prelude.{ℕ, ◌==◌, is_some, Bool, if◌then◌else◌, List, [], ◌∷◌, length, Option, Some, None, Result, Ok, Err}
use Rattle.std.specs.Option.{ok_or}
use Rattle.std.specs.Str.{is_utf8}
use Rattle.toml.specs.Data.{Members, table}
use Rattle.toml.specs.Parse.{parse_document}
use Rattle.hc_records.specs.declared.records.Group.{Group}
use Rattle.hc_records.specs.declared.faults.ProjectFault.{ProjectFault}
use Rattle.hc_records.specs.declared.faults.ProjectFault.TheVariants.{NotToml, MissingField, OutOfRange, NotOneGroup}
use Rattle.hc_records.specs.Lists.{lowest}
use Rattle.hc_records.specs.Project.{project_faults}
use Rattle.hc_project.specs.declared.reading.Reading.{Reading}
use Rattle.hc_project.specs.Levels.{declared_groups}

-- the faults of the text that was read with their conditions, the lowest first: those of reading, then those of every project
abbrev pub reading_faults : Reading (List Group) → List (Bool × ProjectFault)
reading_faults groups =
    (is_some groups.syntax_faults.missing, MissingField) ∷ (is_some groups.syntax_faults.outside, OutOfRange) ∷ project_faults groups.value

-- the groups if there is no fault, else the fault
abbrev pub unless_refused : Option ProjectFault → List Group → Result (List Group) ProjectFault
unless_refused None groups = Ok groups
unless_refused (Some fault) groups = Err fault

-- the groups that were read, or the first of their `reading_faults` whose condition holds
abbrev pub groups_or_fault : Reading (List Group) → Result (List Group) ProjectFault
groups_or_fault groups = unless_refused (lowest (reading_faults groups)) groups.value

-- the project of the tree that TOML reads, if it reads one
abbrev pub project_of : Option Members → Result (List Group) ProjectFault
project_of None = Err NotToml
project_of (Some members) = groups_or_fault (declared_groups (table members))

-- the project of a text, or its lowest fault
unfoldable pub project_in : List ℕ → Result (List Group) ProjectFault
project_in text = if is_utf8 text then project_of (parse_document text) else Err NotToml

-- the one group after a mandatory one without slaves; none if the groups are others
abbrev pub only_group : List Group → Option Group
only_group [] = None
only_group (mandatory ∷ []) = None
only_group (mandatory ∷ group ∷ []) = if length mandatory.slaves == 0 then Some group else None
only_group (mandatory ∷ group ∷ other ∷ others) = None

-- the group of a project that has exactly one and no mandatory slave
abbrev pub single_group : Result (List Group) ProjectFault → Result Group ProjectFault
single_group (Err fault) = Err fault
single_group (Ok groups) = ok_or (only_group groups) NotOneGroup

-- the group of a text, or its lowest fault
abbrev pub group_in : List ℕ → Result Group ProjectFault
group_in text = single_group (project_in text)

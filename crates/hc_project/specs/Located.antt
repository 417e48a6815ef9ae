-- The location of a text's fault.
use Rattle.std.specs.Prelude.{◌≡◌, ℕ, ◌+◌, ◌==◌, ◌≤◌, ◌&&◌, nat_le, nat_lt, if◌then◌else◌, List, [], ◌∷◌, length, take, Option, Some, None, Err, IsOk}
use Rattle.toml.specs.Data.{Data, Members, table}
use Rattle.toml.specs.Parse.{parse_document}
use Rattle.hc_records.specs.declared.records.Group.{Group}
use Rattle.hc_records.specs.declared.faults.ProjectFault.{ProjectFault}
use Rattle.hc_records.specs.declared.faults.ProjectFault.TheVariants as fault
use Rattle.hc_project.specs.declared.located.Found.{Found}
use Rattle.hc_project.specs.declared.located.Found.TheVariants.{InText, InProject}
use Rattle.hc_project.specs.declared.places.Location.{Location}
use Rattle.hc_project.specs.declared.reading.Reading.{Reading}
use Rattle.hc_project.specs.Places.{document, first_from}
use Rattle.hc_project.specs.Repeated.{alias_at, area_unknown, area_wide, areas_overlapping, each_at, first_repeat, group_variables, in_areas, in_slaves, managers_repeated, stations_at}
use Rattle.hc_project.specs.Levels.{declared_groups}
use Rattle.hc_project.specs.Text.{project_in, groups_or_fault}

-- the first place of a fault in the groups that were read
abbrev pub group_location : ProjectFault → List Group → Option Location
group_location fault.RepeatedAlias groups = first_repeat (each_at (alias_at document) 0 groups)
group_location fault.RepeatedStation groups = first_repeat (each_at (stations_at document) 0 groups)
group_location fault.RepeatedSyncManager groups = first_from (in_slaves managers_repeated document) 0 groups
group_location fault.OverlappingAreas groups = first_from (in_slaves areas_overlapping document) 0 groups
group_location fault.RepeatedVariable groups = first_repeat (each_at (group_variables document) 0 groups)
group_location fault.UnknownPdo groups = first_from (in_slaves (in_areas area_unknown) document) 0 groups
group_location fault.AreaTooBig groups = first_from (in_slaves (in_areas area_wide) document) 0 groups
group_location _ groups = None

-- the first place of a fault in the text that was read
abbrev pub location_of : ProjectFault → Reading (List Group) → Option Location
location_of fault.MissingField groups = groups.syntax_faults.missing
location_of fault.OutOfRange groups = groups.syntax_faults.outside
location_of other groups = group_location other groups.value

-- the line and the column after a text that begins at a line and a column, both counted from 1: a line feed ends a line,
-- and a byte that continues a character is of the column of its first
abbrev pub position_from : ℕ × ℕ → List ℕ → ℕ × ℕ
position_from (line, column) [] = (line, column)
position_from (line, column) (byte ∷ bytes) =
    if byte == 10
    then position_from (line + 1, 1) bytes
    else (if nat_le 128 byte && nat_lt byte 192 then position_from (line, column) bytes else position_from (line, column + 1) bytes)

-- a text is no TOML document, and a line and a column are those of one of its bytes or of its end
pub record IsUnread (text : List ℕ) (line column : ℕ) : Type 0 where
  pub refused : project_in text ≡ Err fault.NotToml
  pub within : (front : ℕ) × (front ≤ length text) × ((line, column) ≡ position_from (1, 1) (take front text))

-- a text has this fault, which is its lowest, and this is the fault's first place in its document
pub record IsFaulty (text : List ℕ) (lowest : ProjectFault) (location : Location) : Type 0 where
  pub refused : project_in text ≡ Err lowest
  pub placed : (members : Members) × (parse_document text ≡ Some members) × (location_of lowest (declared_groups (table members)) ≡ Some location)

-- the report on a text: nothing for a project, else its lowest fault and its place
abbrev pub LocatesFault : List ℕ → Option Found → Type 0
LocatesFault text None = IsOk (project_in text)
LocatesFault text (Some (InText line column)) = IsUnread text line column
LocatesFault text (Some (InProject lowest location)) = IsFaulty text lowest location

-- the report on a document: nothing for a project, else its lowest fault and its place
abbrev pub SaysOf : Data → Option Found → Type 0
SaysOf d None = IsOk (groups_or_fault (declared_groups d))
SaysOf d (Some (InText line column)) = ⊥
SaysOf d (Some (InProject lowest location)) =
    (groups_or_fault (declared_groups d) ≡ Err lowest) × (location_of lowest (declared_groups d) ≡ Some location)

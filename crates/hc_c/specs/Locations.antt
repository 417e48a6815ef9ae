-- Locations of a text's fault, in C.
use Rattle.std.specs.Prelude.{◌≡◌, ℕ, ◌+◌, List, Option, Some, None, unwrap_or}
use Rattle.hc_records.specs.ProjectFault.{project_fault_number}
use Rattle.hc_records.specs.declared.faults.ProjectFault.TheVariants.{NotToml}
use Rattle.hc_project.specs.Located.{LocatesFault}
use Rattle.hc_project.specs.Places as places
use Rattle.hc_project.specs.declared.located.Found.{Found}
use Rattle.hc_project.specs.declared.located.Found.TheVariants.{InText, InProject}
use Rattle.hc_project.specs.declared.places.Key.{Key}
use Rattle.hc_project.specs.declared.places.Key.TheVariants as key
use Rattle.hc_project.specs.declared.places.Place.{Place}
use Rattle.hc_project.specs.declared.places.Location as project
use Rattle.hc_c.specs.declared.locating.Location.{Location}
use Rattle.hc_c.specs.declared.locating.LocatedPlace.{LocatedPlace}
use Rattle.hc_c.specs.declared.locating.TheConstants.{NOWHERE}
use Rattle.hc_c.specs.declared.numbers.TheConstants.{DONE, PROJECT}

-- an index, or the number that means none
abbrev pub index_or_none : Option ℕ → ℕ
index_or_none index = unwrap_or index NOWHERE

-- the number of a key
abbrev pub key_number : Key → ℕ
key_number key.Whole = 0
key_number key.Groups = 1
key_number key.Alias = 2
key_number key.Slaves = 3
key_number key.Station = 4
key_number key.Areas = 5
key_number key.Sm = 6
key_number key.Dir = 7
key_number key.Phys = 8
key_number key.Task = 9
key_number key.Assigned = 10
key_number (key.AssignedAt item) = 11
key_number key.Pdos = 12
key_number key.Index = 13
key_number key.Entries = 14
key_number (key.Entry item) = 15
key_number (key.Variable item) = 16
key_number (key.Bits item) = 17

-- the item that a key means, or the number that means none
abbrev pub key_item : Key → ℕ
key_item (key.AssignedAt item) = item
key_item (key.Entry item) = item
key_item (key.Variable item) = item
key_item (key.Bits item) = item
key_item _ = NOWHERE

-- the C form of a place
abbrev pub located_out : Place → LocatedPlace
located_out place = record {
  group = place.group;
  slave = index_or_none place.slave;
  area = index_or_none place.area;
  pdo = index_or_none place.pdo;
  item = key_item place.key;
  alias = place.alias;
  station = place.station;
  key = key_number place.key;
}

-- the C form of the places of a fault: if there is no earlier one, it is the fault's own
abbrev pub location_out : project.Location → Location
location_out located_place = record { line = 0; column = 0; place = located_out located_place.place; first = located_out (unwrap_or located_place.first located_place.place) }

-- the C form of a line and a column; the places are the document
abbrev pub position_out : ℕ → ℕ → Location
position_out line column = record { line = line; column = column; place = located_out places.document; first = located_out places.document }

-- the number of a fault
abbrev pub found_number : Found → ℕ
found_number (InText line column) = PROJECT + project_fault_number NotToml
found_number (InProject fault located_place) = PROJECT + project_fault_number fault

-- the C form of a fault's location
abbrev pub found_out : Found → Location
found_out (InText line column) = position_out line column
found_out (InProject fault located_place) = location_out located_place

-- there is no fault, and nothing is written; or its number is returned and its location written
abbrev pub LocatesAs : Option Found → ℕ → Location → Location → Type 0
LocatesAs None number before after = (number ≡ DONE) × (after ≡ before)
LocatesAs (Some found) number before after = (number ≡ found_number found) × (after ≡ found_out found)

-- the fault of a text is reported
pub record Locates (text : List ℕ) (number : ℕ) (before after : Location) : Type 0 where
  pub found : Option Found
  pub of_text : LocatesFault text found
  pub answer : LocatesAs found number before after

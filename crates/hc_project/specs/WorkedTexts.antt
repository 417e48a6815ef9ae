-- Worked documents, read by the definitions: a wrong definition fails here.
use Rattle.std.specs.Prelude.{◌≡◌, ℕ, negsuc, List, [], ◌∷◌, map, Some, None, Result, Ok, Err, codes, refl}
use Rattle.toml.specs.Data.{Data, string, integer, array, table, no_items, item, Members, no_members, member}
use Rattle.toml.specs.View.{items_of}
use Rattle.hc_records.specs.declared.records.Dir.TheVariants.{Out}
use Rattle.hc_records.specs.declared.records.Group.{Group}
use Rattle.hc_records.specs.declared.faults.ProjectFault.{ProjectFault}
use Rattle.hc_records.specs.declared.faults.ProjectFault.TheVariants.{NotToml, MissingField, OutOfRange, RepeatedStation, NotOneGroup}
use Rattle.hc_project.specs.Places.{first_some}
use Rattle.hc_project.specs.Reading.{both}
use Rattle.hc_project.specs.Text.{project_of, single_group}
use Rattle.hc_project.specs.Laws.{number_tree}

abbrev read : Members → Result (List Group) ProjectFault
read members = project_of (Some members)

abbrev tables : List Members → Data
tables list = array (items_of (map table list))

abbrev numbers : List ℕ → Data
numbers list = array (items_of (map number_tree list))

-- A text that TOML refuses is no project; a document without keys is one without slaves.

refused : project_of None ≡ Err NotToml
refused = refl

empty : read no_members ≡ Ok (record { alias = 0; slaves = [] } ∷ [])
unfolding both first_some
empty = refl

-- A slave with an output area of 2 bits, read with keys of other levels beside its own.

abbrev small : Members
small =
    member (codes "alias") (number_tree 7)
    (member (codes "slave")
    (tables (
    member (codes "area")
    (tables (
    member (codes "assigned") (numbers (0x1600 ∷ []))
    (member (codes "dir") (string (codes "out"))
    (member (codes "pdo")
    (tables (
    member (codes "entries") (array (item (numbers (1 ∷ 2 ∷ [])) no_items))
    (member (codes "index") (number_tree 0x1600) no_members)
    ∷ []))
    (member (codes "phys") (number_tree 0x1100)
    (member (codes "sm") (number_tree 2)
    (member (codes "station") (number_tree 0)
    (member (codes "task") (number_tree 0) no_members))))))
    ∷ []))
    (member (codes "station") (number_tree 1001) no_members)
    ∷ [])) no_members)

small_project : read small ≡ Ok (
    record {
      alias = 0;
      slaves = record {
        station = 1001;
        areas = record {
          sm = 2;
          dir = Out;
          phys = 0x1100;
          offered = record { index = 0x1600; entries = (Some 1, 2) ∷ [] } ∷ [];
          assigned = 0x1600 ∷ [];
          task = 0;
        } ∷ [];
      } ∷ [];
    } ∷ [])
unfolding both first_some
small_project = refl

-- The lowest of several faults is reported, wherever it is.

abbrev of_stations : List Data → Members
of_stations stations =
    member (codes "slave") (array (items_of (map (λ station. table (member (codes "station") station no_members)) stations))) no_members

stations_once : read (of_stations (number_tree 1 ∷ number_tree 65535 ∷ [])) ≡ Ok (record { alias = 0; slaves = record { station = 1; areas = [] } ∷ record { station = 65535; areas = [] } ∷ [] } ∷ [])
unfolding both first_some
stations_once = refl

station_twice : read (of_stations (number_tree 1 ∷ number_tree 1 ∷ [])) ≡ Err RepeatedStation
unfolding both first_some
station_twice = refl

station_of_17_bits : read (of_stations (number_tree 1 ∷ number_tree 1 ∷ number_tree 65536 ∷ [])) ≡ Err OutOfRange
unfolding both first_some
station_of_17_bits = refl

station_0 : read (of_stations (number_tree 1 ∷ number_tree 1 ∷ number_tree 0 ∷ [])) ≡ Err OutOfRange
unfolding both first_some
station_0 = refl

station_below_0 : read (of_stations (number_tree 1 ∷ number_tree 1 ∷ integer (negsuc 0) ∷ [])) ≡ Err OutOfRange
unfolding both first_some
station_below_0 = refl

station_as_string : read (of_stations (number_tree 1 ∷ number_tree 1 ∷ number_tree 0 ∷ string (codes "1") ∷ [])) ≡ Err MissingField
unfolding both first_some
station_as_string = refl

-- A text of one group is that group's; one with a mandatory slave, or without a group, is not. Any other fault is reported
-- first.

abbrev read_one : Members → Result Group ProjectFault
read_one members = single_group (read members)

abbrev station_of : ℕ → Members
station_of station = member (codes "station") (number_tree station) no_members

abbrev tool : Members → Members
tool slave = member (codes "alias") (number_tree 200) (member (codes "slave") (tables (slave ∷ [])) no_members)

one_group : read_one (member (codes "group") (tables (tool (station_of 2001) ∷ [])) no_members) ≡ Ok (record { alias = 200; slaves = record { station = 2001; areas = [] } ∷ [] })
unfolding both first_some
one_group = refl

no_group : read_one no_members ≡ Err NotOneGroup
unfolding both first_some
no_group = refl

mandatory_slave : read_one (member (codes "group") (tables (tool (station_of 2001) ∷ [])) (member (codes "slave") (tables (station_of 1 ∷ [])) no_members)) ≡ Err NotOneGroup
unfolding both first_some
mandatory_slave = refl

two_faults : read_one (of_stations (number_tree 1 ∷ number_tree 1 ∷ [])) ≡ Err RepeatedStation
unfolding both first_some
two_faults = refl

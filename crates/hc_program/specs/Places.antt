-- The printed places of a project's text.
use Rattle.std.specs.Prelude.{ℕ, ◌-◌, ◌==◌, ◌||◌, not, is_some, Bool, true, if◌then◌else◌, List, [], ◌++◌, Option, Some, None, codes}
use Rattle.std.specs.Fmt.{decimal}
use Rattle.hc_project.specs.declared.places.Key.{Key}
use Rattle.hc_project.specs.declared.places.Key.TheVariants as key
use Rattle.hc_project.specs.declared.places.Place.{Place}
use Rattle.hc_project.specs.declared.places.Location.{Location}

-- a full stop, if something is before it
abbrev pub separator : Bool → List ℕ
separator is_after = if is_after then codes "." else []

-- a group, counted from 0 in the array `group`; nothing at the top
unfoldable pub group_text : ℕ → List ℕ
group_text group = if group == 0 then [] else codes "group[" ++ decimal (group - 1) ++ codes "]"

-- an item of an array, as `slave[2]`; nothing if the place lies in none
unfoldable pub array_text : Bool → List ℕ → Option ℕ → List ℕ
array_text is_after name None = []
array_text is_after name (Some index) = separator is_after ++ name ++ codes "[" ++ decimal index ++ codes "]"

-- an item that a place ends at, as `entries[3][1]`
abbrev pub item_text : List ℕ → ℕ → List ℕ → List ℕ
item_text name index rest = name ++ codes "[" ++ decimal index ++ codes "]" ++ rest

-- a key as the text has it
abbrev pub key_name : Key → List ℕ
key_name key.Whole = []
key_name key.Groups = codes "group"
key_name key.Alias = codes "alias"
key_name key.Slaves = codes "slave"
key_name key.Station = codes "station"
key_name key.Areas = codes "area"
key_name key.Sm = codes "sm"
key_name key.Dir = codes "dir"
key_name key.Phys = codes "phys"
key_name key.Task = codes "task"
key_name key.Assigned = codes "assigned"
key_name (key.AssignedAt index) = item_text (codes "assigned") index []
key_name key.Pdos = codes "pdo"
key_name key.Index = codes "index"
key_name key.Entries = codes "entries"
key_name (key.Entry index) = item_text (codes "entries") index []
key_name (key.Variable index) = item_text (codes "entries") index (codes "[0]")
key_name (key.Bits index) = item_text (codes "entries") index (codes "[1]")

-- a key after what is before it; nothing for a table itself
unfoldable pub key_text : Bool → Key → List ℕ
key_text is_after key.Whole = []
key_text is_after other = separator is_after ++ key_name other

-- the keys and indexes of a place, as `group[2].slave[0].area[1].assigned[0]`
unfoldable pub path_text : Place → List ℕ
path_text place =
    let in_group = not (place.group == 0) in
    group_text place.group
    ++ array_text in_group (codes "slave") place.slave
    ++ array_text true (codes "area") place.area
    ++ array_text true (codes "pdo") place.pdo
    ++ key_text (in_group || is_some place.slave) place.key

-- an alias after a place; nothing if it is not known
unfoldable pub place_alias_text : ℕ → List ℕ
place_alias_text alias = if alias == 0 then [] else codes " alias " ++ decimal alias

-- a station address after a place; nothing if it is not known
unfoldable pub station_text : ℕ → List ℕ
station_text station = if station == 0 then [] else codes " station " ++ decimal station

-- a place with its alias and its station address
unfoldable pub project_place_text : Place → List ℕ
project_place_text place = path_text place ++ place_alias_text place.alias ++ station_text place.station

-- the place of the earlier of two things
abbrev pub first_text : Option Place → List ℕ
first_text None = []
first_text (Some place) = codes " first " ++ project_place_text place

-- the line of a place
unfoldable pub location_text : Location → List ℕ
location_text location = codes "at " ++ project_place_text location.place ++ first_text location.first ++ codes "\n"

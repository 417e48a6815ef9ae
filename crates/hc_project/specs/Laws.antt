-- Laws of project text. Each is the contract of a function of `laws`.
use Rattle.std.specs.Prelude.{◌≡◌, ℕ, ℤ, pos, ◌≤◌, ◌||◌, nat_lt, is_some, unwrap_or, Bool, false, List, [], ◌∷◌, map, Some, None, Ok, codes}
use Rattle.std.specs.Option.{option_map_or}
use Rattle.std.specs.List.{list_any}
use Rattle.toml.specs.Data.{Data, string, integer, array, table, no_items, item, Members, no_members, member, get}
use Rattle.toml.specs.View.{items_of}
use Rattle.hc_records.specs.declared.records.Dir.{Dir}
use Rattle.hc_records.specs.declared.records.Dir.TheVariants.{Out, In}
use Rattle.hc_records.specs.declared.records.Pdo.{Pdo}
use Rattle.hc_records.specs.declared.records.Area.{Area}
use Rattle.hc_records.specs.declared.records.Slave.{Slave}
use Rattle.hc_records.specs.declared.records.Group.{Group}
use Rattle.hc_records.specs.Area.{Entry}
use Rattle.hc_records.specs.Project.{is_outside, lowest_fault}
use Rattle.hc_project.specs.declared.places.Place.{Place}
use Rattle.hc_project.specs.Values.{lies_outside, number}
use Rattle.hc_project.specs.Levels.{pdo, area, slave, group, declared_groups}
use Rattle.hc_project.specs.Text.{project_of}

-- the numbers that reading refuses, with those that the range of every project refuses afterwards, are exactly those outside
-- the range
abbrev pub RangesAreJudgedWhole : Type 0
RangesAreJudgedWhole =
    (most low high : ℕ) (place : Place) (z : ℤ) → high ≤ most
    → (is_some (number most low high place (Some (integer z))).syntax_faults.outside
    || is_outside low high (number most low high place (Some (integer z))).value)
    ≡ lies_outside low high z

-- two values hold the same at a key
abbrev pub AgreeAt : List ℕ → Data → Data → Type 0
AgreeAt key a b = get key a ≡ get key b

-- a level reads its own keys: values that agree at them read the same
abbrev pub DocumentsReadTheirKeys : Type 0
DocumentsReadTheirKeys =
    (a b : Data) → AgreeAt (codes "slave") a b → AgreeAt (codes "group") a b → declared_groups a ≡ declared_groups b

-- values that agree at `alias` and `slave` are read as the same group, with the same faults
abbrev pub GroupsReadTheirKeys : Type 0
GroupsReadTheirKeys =
    (room index : ℕ) (a b : Data) → AgreeAt (codes "alias") a b → AgreeAt (codes "slave") a b → group room index a ≡ group room index b

-- values that agree at `station` and `area` are read as the same slave, with the same faults
abbrev pub SlavesReadTheirKeys : Type 0
SlavesReadTheirKeys =
    (most : ℕ) (place : Place) (index : ℕ) (a b : Data)
    → AgreeAt (codes "station") a b
    → AgreeAt (codes "area") a b
    → slave most place index a ≡ slave most place index b

-- values that agree at `sm`, `dir`, `phys`, `task`, `assigned` and `pdo` are read as the same area, with the same
-- faults
abbrev pub AreasReadTheirKeys : Type 0
AreasReadTheirKeys =
    (most : ℕ) (place : Place) (index : ℕ) (a b : Data)
    → AgreeAt (codes "sm") a b
    → AgreeAt (codes "dir") a b
    → AgreeAt (codes "phys") a b
    → AgreeAt (codes "task") a b
    → AgreeAt (codes "assigned") a b
    → AgreeAt (codes "pdo") a b
    → area most place index a ≡ area most place index b

-- values that agree at `index` and `entries` are read as the same PDO, with the same faults
abbrev pub PdosReadTheirKeys : Type 0
PdosReadTheirKeys =
    (most : ℕ) (place : Place) (index : ℕ) (a b : Data)
    → AgreeAt (codes "index") a b
    → AgreeAt (codes "entries") a b
    → pdo most place index a ≡ pdo most place index b

-- a project as a tree, its keys in the order of a TOML table
abbrev pub array_by : {X : Type 0} → (X → Data) → List X → Data
array_by one xs = array (items_of (map one xs))

-- a number as a TOML integer
abbrev pub number_tree : ℕ → Data
number_tree n = integer (pos n)

-- a direction as a TOML string, `out` or `in`
abbrev pub dir_tree : Dir → Data
dir_tree Out = string (codes "out")
dir_tree In = string (codes "in")

-- a TOML array of two integers: the entry's variable, 0 for a gap, and its bits
abbrev pub entry_tree : Entry → Data
entry_tree entry = array (item (number_tree (unwrap_or entry.0 0)) (item (number_tree entry.1) no_items))

-- a TOML table of the PDO's `entries` and `index`
abbrev pub pdo_tree : Pdo → Data
pdo_tree pdo =
    table (member (codes "entries") (array_by entry_tree pdo.entries)
    (member (codes "index") (number_tree pdo.index) no_members))

-- a TOML table of the area's `assigned`, `dir`, `pdo` (the PDOs that it offers), `phys`, `sm` and `task`
abbrev pub area_tree : Area → Data
area_tree area =
    table (member (codes "assigned") (array_by number_tree area.assigned)
    (member (codes "dir") (dir_tree area.dir)
    (member (codes "pdo") (array_by pdo_tree area.offered)
    (member (codes "phys") (number_tree area.phys)
    (member (codes "sm") (number_tree area.sm)
    (member (codes "task") (number_tree area.task) no_members))))))

-- a TOML table of the slave's `area` (an array of its areas) and `station`
abbrev pub slave_tree : Slave → Data
slave_tree slave =
    table (member (codes "area") (array_by area_tree slave.areas)
    (member (codes "station") (number_tree slave.station) no_members))

-- a TOML table of the group's `alias` and `slave` (an array of its slaves)
abbrev pub group_tree : Group → Data
group_tree group =
    table (member (codes "alias") (number_tree group.alias)
    (member (codes "slave") (array_by slave_tree group.slaves) no_members))

-- the keys of a project's document: `group`, the groups after the first, and `slave`, the slaves of the first, whose alias is
-- not written; without groups there are no keys
abbrev pub project_tree : List Group → Members
project_tree [] = no_members
project_tree (mandatory ∷ others) =
    member (codes "group") (array_by group_tree others)
    (member (codes "slave") (array_by slave_tree mandatory.slaves) no_members)

-- a number that no record of the code holds
abbrev pub variable_unheld : ℕ → Bool
variable_unheld variable = is_outside 1 4294967295 variable

-- the entry's variable is unheld (`variable_unheld`); a gap's never is, and the bits are not judged
abbrev pub entry_unheld : Entry → Bool
entry_unheld entry = option_map_or variable_unheld entry.0 false

-- a number is over 65,535
abbrev pub word_unheld : ℕ → Bool
word_unheld n = nat_lt 65535 n

-- the PDO's index is over 65,535, or one of its entries is unheld (`entry_unheld`)
abbrev pub pdo_unheld : Pdo → Bool
pdo_unheld pdo = word_unheld pdo.index || list_any entry_unheld pdo.entries

-- an assigned index is over 65,535, or one of the offered PDOs is unheld (`pdo_unheld`); its other numbers are not judged
abbrev pub area_unheld : Area → Bool
area_unheld area = list_any word_unheld area.assigned || list_any pdo_unheld area.offered

-- the station address is over 65,535, or one of the slave's areas is unheld (`area_unheld`)
abbrev pub slave_unheld : Slave → Bool
slave_unheld slave = word_unheld slave.station || list_any area_unheld slave.areas

-- the alias is over 65,535, or one of the group's slaves is unheld (`slave_unheld`)
abbrev pub group_unheld : Group → Bool
group_unheld group = word_unheld group.alias || list_any slave_unheld group.slaves

-- every project can be written: its tree is read as that project
abbrev pub ProjectsReadBack : Type 0
ProjectsReadBack =
    (groups : List Group) → list_any group_unheld groups ≡ false → lowest_fault groups ≡ None
    → project_of (Some (project_tree groups)) ≡ Ok groups

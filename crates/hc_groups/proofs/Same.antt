-- What a remapped or moved area, its slave and its group keep.
use Rattle.std.proofs.Common.{◌≡◌, ℕ, zero, suc, Bool, List, [], ◌∷◌, refl, ap, if◌then◌else◌, rules}
use Rattle.std.specs.Prelude.{map}
use Rattle.std.specs.List.{flat_map, list_any}
use Rattle.std.proofs.lemmas.List.{map-append}
use Rattle.std.proofs.lemmas.List.Folds.{list_any-append}
use Rattle.hc_records.specs.declared.records.Area.{Area}
use Rattle.hc_records.specs.declared.records.Slave.{Slave}
use Rattle.hc_records.specs.declared.records.Group.{Group}
use Rattle.hc_records.specs.declared.records.Declared.{Declared}
use Rattle.hc_records.specs.Lists.{changed_at}
use Rattle.hc_records.specs.Edits.{with_area, with_presence, with_slaves}
use Rattle.hc_records.specs.Project.{slaves_of, some_slave}
use Rattle.hc_records.specs.Line.{groups_of}

-- lists whose elements are changed, by what isn't

pub map-same : {X Y : Type 0} (key : X → Y) (change : X → X) → ((x : X) → key (change x) ≡ key x) → (xs : List X) → map key (map change xs) ≡ map key xs
map-same key change same [] = refl
map-same key change same (x ∷ xs) = rw (same x, map-same key change same xs) refl

pub flat-same : {X Y : Type 0} (parts : X → List Y) (change : X → X) → ((x : X) → parts (change x) ≡ parts x) → (xs : List X) → flat_map parts (map change xs) ≡ flat_map parts xs
flat-same parts change same [] = refl
flat-same parts change same (x ∷ xs) = rw (same x, flat-same parts change same xs) refl

pub any-same : {X : Type 0} (test : X → Bool) (change : X → X) → ((x : X) → test (change x) ≡ test x) → (xs : List X) → list_any test (map change xs) ≡ list_any test xs
any-same test change same [] = refl
any-same test change same (x ∷ xs) = rw (same x, any-same test change same xs) refl

pub changed-same : {X Y : Type 0} (key : X → Y) (index : ℕ) (change : X → X) → ((x : X) → key (change x) ≡ key x) → (xs : List X) → map key (changed_at index change xs) ≡ map key xs
changed-same key index change same [] = refl
changed-same key zero change same (x ∷ xs) = ap (λ k. k ∷ map key xs) (same x)
changed-same key (suc index) change same (x ∷ xs) = ap (λ rest. key x ∷ rest) (changed-same key index change same xs)

-- a slave with an area changed keeps what its areas keep

abbrev pub with_areas : Slave → List Area → Slave
with_areas slave areas = record slave { areas = areas }

pub with-same : {Y : Type 0} (look : Slave → Y) (station index : ℕ) (change : Area → Area) →
    ((slave : Slave) → look (with_areas slave (changed_at index change slave.areas)) ≡ look slave) → (slave : Slave) → look (with_area station index change slave) ≡ look slave
with-same look station index change same slave = search rules

-- the groups with each slave changed

abbrev pub on_group : (Slave → Slave) → Group → Group
on_group change group = record group { slaves = map change group.slaves }

pub groups-with_slaves : (change : Slave → Slave) (groups : List Declared) → groups_of (map (with_slaves change) groups) ≡ map (on_group change) (groups_of groups)
groups-with_slaves change [] = refl
groups-with_slaves change (declared ∷ groups) = ap (λ rest. on_group change declared.group ∷ rest) (groups-with_slaves change groups)

pub slaves-on_group : (change : Slave → Slave) (groups : List Group) → slaves_of (map (on_group change) groups) ≡ map change (slaves_of groups)
slaves-on_group change [] = refl
slaves-on_group change (group ∷ groups) = search (rules, map-append, slaves-on_group change groups)

pub some-slave : (test : Slave → Bool) (groups : List Group) → some_slave test groups ≡ list_any test (slaves_of groups)
some-slave test [] = refl
some-slave test (group ∷ groups) = search (rules, list_any-append, some-slave test groups)

-- the groups of declared groups whose presence is set

presence-by : (here present : Bool) (declared : Declared) → (if here then record declared { present = present } else declared).group ≡ declared.group
presence-by here present declared = search rules

pub groups-with_presence : (alias : ℕ) (present : Bool) (groups : List Declared) → groups_of (map (with_presence alias present) groups) ≡ groups_of groups
groups-with_presence alias present [] = refl
groups-with_presence alias present (declared ∷ groups) = search (rules, presence-by, groups-with_presence alias present groups)

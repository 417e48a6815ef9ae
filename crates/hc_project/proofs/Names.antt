-- The numbers that are listed with their places are those that the conditions of a project speak of.
use Rattle.std.proofs.Common.{◌≡◌, ℕ, ◌+◌, ◌∙◌, ap, sym, ◌++◌, List, [], ◌∷◌, map, Option, Some, None, refl}
use Rattle.std.specs.List.{flat_map}
use Rattle.std.proofs.lemmas.List.{map-append}
use Rattle.hc_records.specs.declared.records.Pdo.{Pdo}
use Rattle.hc_records.specs.declared.records.Area.{Area}
use Rattle.hc_records.specs.declared.records.Slave.{Slave}
use Rattle.hc_records.specs.declared.records.Group.{Group}
use Rattle.hc_records.specs.Area.{Entry}
use Rattle.hc_records.specs.Project.{area_names, entry_names, pdo_names, slave_names, slaves_of}
use Rattle.hc_records.proofs.lemmas.Choices.{flat_map-flat_map}
use Rattle.hc_project.specs.declared.places.Place.{Place}
use Rattle.hc_project.specs.declared.places.Key.TheVariants as key
use Rattle.hc_project.specs.Places.{document, in_area, in_pdo, with_key}
use Rattle.hc_project.specs.Repeated.{offered_variables, each_at, entry_variable, group_at, group_variables, pdo_variables, group_slave_place, slave_variables, slave_station, stations_at, variable_at}

-- what is listed, without the places
abbrev pub named : {Y : Type 0} → List (Place × Y) → List Y
named list = map (λ x. x.1) list

named_each : {X Y : Type 0} (gives : ℕ → X → List (Place × Y)) (names : X → List Y) (index : ℕ) (xs : List X)
    → ((i : ℕ) (x : X) → named (gives i x) ≡ names x) → named (each_at gives index xs) ≡ flat_map names xs
named_each gives names index [] same = refl
named_each gives names index (x ∷ xs) same =
    map-append (λ x. x.1) (gives index x) (each_at gives (index + 1) xs)
    ∙ ap (λ l. l ++ named (each_at gives (index + 1) xs)) (same index x)
    ∙ ap (λ l. names x ++ l) (named_each gives names (index + 1) xs same)

pub named_single : {X Y : Type 0} (gives : ℕ → X → List (Place × Y)) (name : X → Y) (index : ℕ) (xs : List X)
    → ((i : ℕ) (x : X) → named (gives i x) ≡ name x ∷ []) → named (each_at gives index xs) ≡ map name xs
named_single gives name index [] same = refl
named_single gives name index (x ∷ xs) same =
    map-append (λ x. x.1) (gives index x) (each_at gives (index + 1) xs)
    ∙ ap (λ l. l ++ named (each_at gives (index + 1) xs)) (same index x)
    ∙ ap (λ l. name x ∷ l) (named_single gives name (index + 1) xs same)

-- the stations
map_flat : {X Y Z : Type 0} (f : Y → Z) (parts : X → List Y) (xs : List X) → map f (flat_map parts xs) ≡ flat_map (λ x. map f (parts x)) xs
map_flat f parts [] = refl
map_flat f parts (x ∷ xs) = map-append f (parts x) (flat_map parts xs) ∙ ap (λ l. map f (parts x) ++ l) (map_flat f parts xs)

pub stations_named : (groups : List Group) → named (each_at (stations_at document) 0 groups) ≡ map (λ slave. slave.station) (slaves_of groups)
stations_named groups =
    named_each (stations_at document) (λ group. map (λ slave. slave.station) group.slaves) 0 groups
    (λ i group. named_single (slave_station (group_at i group)) (λ slave. slave.station) 0 group.slaves (λ j slave. refl))
    ∙ sym (map_flat (λ slave. slave.station) (λ group. group.slaves) groups)

entry_named : (place : Place) (index : ℕ) (name : Option ℕ) (bits : ℕ) (entries : List Entry)
    → named (variable_at place name) ++ entry_names entries ≡ entry_names ((name, bits) ∷ entries)
entry_named place index None bits entries = refl
entry_named place index (Some variable) bits entries = refl

entries_named : (place : Place) (index : ℕ) (entries : List Entry) → named (each_at (entry_variable place) index entries) ≡ entry_names entries
entries_named place index [] = refl
entries_named place index (entry ∷ entries) =
    map-append (λ x. x.1) (entry_variable place index entry) (each_at (entry_variable place) (index + 1) entries)
    ∙ ap (λ l. named (entry_variable place index entry) ++ l) (entries_named place (index + 1) entries)
    ∙ entry_named (with_key place (key.Variable index)) index entry.0 entry.1 entries

pdos_named : (place : Place) (pdos : List Pdo) → named (each_at (pdo_variables place) 0 pdos) ≡ pdo_names pdos
pdos_named place pdos =
    named_each (pdo_variables place) (λ pdo. entry_names pdo.entries) 0 pdos (λ i pdo. entries_named (in_pdo place i) 0 pdo.entries)

areas_named : (place : Place) (areas : List Area) → named (each_at (offered_variables place) 0 areas) ≡ area_names areas
areas_named place areas =
    named_each (offered_variables place) (λ area. pdo_names area.offered) 0 areas (λ i area. pdos_named (in_area place i) area.offered)

slaves_named : (place : Place) (slaves : List Slave) → named (each_at (slave_variables place) 0 slaves) ≡ slave_names slaves
slaves_named place slaves =
    named_each (slave_variables place) (λ slave. area_names slave.areas) 0 slaves (λ i slave. areas_named (group_slave_place place i slave) slave.areas)

pub variables_named : (groups : List Group) → named (each_at (group_variables document) 0 groups) ≡ slave_names (slaves_of groups)
variables_named groups =
    named_each (group_variables document) (λ group. slave_names group.slaves) 0 groups
    (λ i group. slaves_named (group_at i group) group.slaves)
    ∙ sym (flat_map-flat_map (λ slave. area_names slave.areas) (λ group. group.slaves) groups)

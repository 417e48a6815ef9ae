-- A fault of a document has a place.
use Rattle.std.proofs.Common.{◌≡◌, ℕ, suc, ◌+◌, ◌==◌, ◌∙◌, ap, sym, not, nat_lt, Bool, false, List, [], ◌∷◌, ◌++◌, length, map, take, option_map, Option, Some, None, refl, append_assoc, append-nil, arith}
use Rattle.std.specs.Prelude.{if◌then◌else◌}
use Rattle.std.specs.List.{list_any}
use Rattle.std.proofs.lemmas.List.{length-append}
use Rattle.hc_records.specs.declared.limits.TheConstants.{MOST_AREA_BITS}
use Rattle.hc_records.specs.declared.records.Area.{Area}
use Rattle.hc_records.specs.declared.records.Slave.{Slave}
use Rattle.hc_records.specs.declared.records.Group.{Group}
use Rattle.hc_records.specs.Area.{has_unknown, offers, width}
use Rattle.hc_records.specs.Lists.{has_repeat, some_pair}
use Rattle.hc_records.specs.Project.{has_overlap, has_repeated_alias, has_repeated_station, has_repeated_variable, has_unknown_pdo, is_wide, repeats_sync_manager, same_index, some_area, some_slave}
use Rattle.hc_records.proofs.lemmas.Finds.{none-by}
use Rattle.hc_project.specs.declared.places.Key.TheVariants as key
use Rattle.hc_project.specs.declared.places.Place.{Place}
use Rattle.hc_project.specs.declared.places.Location.{Location}
use Rattle.hc_project.specs.Places.{document, first_from, in_area, pair, with_key}
use Rattle.hc_project.specs.Repeated.{alias_at, area_unknown, area_wide, areas_overlapping, assigned_unknown, assigned_wide, each_at, extent, extent_at, first_repeat, group_at, group_variables, in_areas, in_slaves, index_of, manager_at, managers_repeated, extents_meet, offered_at, group_slave_place, stations_at}
use Rattle.hc_project.proofs.Duplicates.{SaysEarlier, no_pair, none_related, unmapped}
use Rattle.hc_project.proofs.Names.{named, named_single, stations_named, variables_named}
use Rattle.hc_project.proofs.Searched.{none_left, none_meets, none_right}

repeats_none : (list : List (Place × ℕ)) (names : List ℕ) → named list ≡ names → first_repeat list ≡ None → has_repeat names ≡ false
repeats_none list names same none = ap has_repeat (sym same) ∙ none_related (λ earlier later. later == earlier) list none

pub aliases_none : (groups : List Group) → first_repeat (each_at (alias_at document) 0 groups) ≡ None → has_repeated_alias groups ≡ false
aliases_none groups none = repeats_none _ _ (named_single (alias_at document) (λ group. group.alias) 0 groups (λ i group. refl)) none

pub stations_none : (groups : List Group) → first_repeat (each_at (stations_at document) 0 groups) ≡ None → has_repeated_station groups ≡ false
stations_none groups none = repeats_none _ _ (stations_named groups) none

pub variables_none : (groups : List Group) → first_repeat (each_at (group_variables document) 0 groups) ≡ None → has_repeated_variable groups ≡ false
variables_none groups none = repeats_none _ _ (variables_named groups) none

-- what is found in no slave, in no area
slaves_none : (finds : Place → ℕ → Slave → Option Location) (test : Slave → Bool) (groups : List Group)
    → ((place : Place) (index : ℕ) (slave : Slave) → finds place index slave ≡ None → test slave ≡ false)
    → first_from (in_slaves finds document) 0 groups ≡ None → some_slave test groups ≡ false
slaves_none finds test groups unmet none =
    none_meets (in_slaves finds document) (λ group. list_any test group.slaves) 0 groups
    (λ i group here. none_meets (finds (group_at i group)) test 0 group.slaves (unmet (group_at i group)) here) none

areas_none : (finds : Place → ℕ → Area → Option Location) (test : Area → Bool) (groups : List Group)
    → ((place : Place) (index : ℕ) (area : Area) → finds place index area ≡ None → test area ≡ false)
    → first_from (in_slaves (in_areas finds) document) 0 groups ≡ None → some_area test groups ≡ false
areas_none finds test groups unmet none =
    slaves_none (in_areas finds) (λ slave. list_any test slave.areas) groups
    (λ place i slave here. none_meets (finds (group_slave_place place i slave)) test 0 slave.areas (unmet (group_slave_place place i slave)) here) none

managers_of : (place : Place) (index : ℕ) (slave : Slave) → managers_repeated place index slave ≡ None → repeats_sync_manager slave ≡ false
managers_of place index slave none =
    sym (unmapped (λ earlier later. later == earlier) (λ area. area.sm) slave.areas)
    ∙ repeats_none _ _ (named_single (manager_at (group_slave_place place index slave)) (λ area. area.sm) 0 slave.areas (λ i area. refl)) none

pub managers_none : (groups : List Group) → first_from (in_slaves managers_repeated document) 0 groups ≡ None → some_slave repeats_sync_manager groups ≡ false
managers_none groups none = slaves_none managers_repeated repeats_sync_manager groups managers_of none

overlaps_of : (place : Place) (index : ℕ) (slave : Slave) → areas_overlapping place index slave ≡ None → has_overlap slave ≡ false
overlaps_of place index slave none =
    let list = each_at (extent_at (group_slave_place place index slave)) 0 slave.areas in
    let same : named list ≡ map extent slave.areas = named_single (extent_at (group_slave_place place index slave)) extent 0 slave.areas (λ i area. refl) in
    sym (unmapped extents_meet extent slave.areas) ∙ ap (some_pair extents_meet) (sym same) ∙ none_related extents_meet list none

pub overlaps_none : (groups : List Group) → first_from (in_slaves areas_overlapping document) 0 groups ≡ None → some_slave has_overlap groups ≡ false
overlaps_none groups none = slaves_none areas_overlapping has_overlap groups overlaps_of none

-- a number that is nowhere
unmapped_none : {X Y : Type 0} (f : X → Y) (found : Option X) → option_map f found ≡ None → found ≡ None
unmapped_none f None none = refl
unmapped_none f (Some x) none = cc

index_none : {Y : Type 0} (number : ℕ) (f : ℕ → Y) (list : List ℕ) → option_map f (index_of number list) ≡ None → list_any (λ other. number == other) list ≡ false
index_none number f list none =
    none_meets (λ index other. if number == other then Some index else None) (λ other. number == other) 0 list
    (λ i other unfound. (none-by (number == other) i None unfound).0) (unmapped_none f (index_of number list) none)

unknown_says : (area : Area) (here : Place) → SaysEarlier (λ earlier later. later == earlier) area.assigned (assigned_unknown area here)
unknown_says area here index number none =
    index_none number (λ earlier. pair (with_key here (key.AssignedAt earlier)) (with_key here (key.AssignedAt index))) (take index area.assigned)
    (none-by (not (offers area number)) _ _ none).1

unknown_of : (place : Place) (index : ℕ) (area : Area) → area_unknown place index area ≡ None → has_unknown_pdo area ≡ false
unknown_of place index area none =
    let here = in_area place index in
    let assigned = none_left _ _ none in
    let known : has_unknown area.assigned area ≡ false =
    none_meets (assigned_unknown area here) (λ number. not (offers area number)) 0 area.assigned
    (λ i number unfound. (none-by (not (offers area number)) _ _ unfound).0) assigned in
    let once : has_repeat area.assigned ≡ false =
    no_pair (λ earlier later. later == earlier) area.assigned (assigned_unknown area here) (unknown_says area here) assigned in
    let offered : some_pair same_index area.offered ≡ false =
    sym (unmapped (λ earlier later. later == earlier) (λ pdo. pdo.index) area.offered)
    ∙ repeats_none _ _ (named_single (offered_at here) (λ pdo. pdo.index) 0 area.offered (λ i pdo. refl)) (none_right _ _ none) in
    rw (known, once, offered) refl

pub unknown_none : (groups : List Group) → first_from (in_slaves (in_areas area_unknown) document) 0 groups ≡ None → some_area has_unknown_pdo groups ≡ false
unknown_none groups none = areas_none area_unknown has_unknown_pdo groups unknown_of none

abbrev wide_with : Area → List ℕ → Bool
wide_with area indexes = nat_lt MOST_AREA_BITS (width (record area { assigned = indexes }))

front-more : {X : Type 0} (seen : List X) (x : X) (rest : List X) → take (suc (length seen)) (seen ++ x ∷ rest) ≡ seen ++ x ∷ []
front-more [] x rest = refl
front-more (y ∷ seen) x rest = ap (λ xs. y ∷ xs) (front-more seen x rest)

narrow : (area : Area) (here : Place) (seen rest : List ℕ) → seen ++ rest ≡ area.assigned → wide_with area seen ≡ false
    → first_from (assigned_wide area here) (length seen) rest ≡ None → wide_with area area.assigned ≡ false
narrow area here seen [] parts before none = ap (wide_with area) (sym parts ∙ append-nil seen) ∙ before
narrow area here seen (x ∷ rest) parts before none =
    let test = (none-by (wide_with area (take (length seen + 1) area.assigned)) _ _ (none_left _ _ none)).0 in
    let next : length seen + 1 ≡ suc (length seen) = omega arith in
    let front : take (length seen + 1) area.assigned ≡ seen ++ x ∷ [] =
    ap (take (length seen + 1)) (sym parts) ∙ ap (λ n. take n (seen ++ x ∷ rest)) next ∙ front-more seen x rest in
    let more : wide_with area (seen ++ x ∷ []) ≡ false = ap (wide_with area) (sym front) ∙ test in
    let longer : length (seen ++ x ∷ []) ≡ suc (length seen) = omega (arith, length-append seen (x ∷ [])) in
    narrow area here (seen ++ x ∷ []) rest (append_assoc seen (x ∷ []) rest ∙ parts) more
    (ap (λ n. first_from (assigned_wide area here) n rest) longer ∙ none_right _ _ none)

wide_of : (place : Place) (index : ℕ) (area : Area) → area_wide place index area ≡ None → is_wide area ≡ false
wide_of place index area none = narrow area (in_area place index) [] area.assigned refl refl none

pub wide_none : (groups : List Group) → first_from (in_slaves (in_areas area_wide) document) 0 groups ≡ None → some_area is_wide groups ≡ false
wide_none groups none = areas_none area_wide is_wide groups wide_of none

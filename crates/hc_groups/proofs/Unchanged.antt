-- The groups of a project stay those of a project, condition by condition.
use Rattle.std.proofs.Common.{◌≡◌, ℕ, Bool, true, false, not, List, [], ◌∷◌, None, length, refl, sym, ap, ◌∙◌, arith}
use Rattle.std.specs.Prelude.{All, ◌+◌, ◌==◌, ◌&&◌, ◌||◌, map, nat_lt, slice_index_or}
use Rattle.std.specs.List.{flat_map, list_any}
use Rattle.std.proofs.lemmas.Bool.{or_from, or_parts}
use Rattle.std.proofs.lemmas.List.{length-map}
use Rattle.std.proofs.lemmas.List.Folds.{flat_map-map}
use Rattle.hc_records.specs.declared.limits.TheConstants.{MOST_GROUPS, MOST_SLAVES}
use Rattle.hc_records.specs.declared.records.Area.{Area}
use Rattle.hc_records.specs.declared.records.Slave.{Slave}
use Rattle.hc_records.specs.declared.records.Group.{Group}
use Rattle.hc_records.specs.declared.records.Declared.{Declared}
use Rattle.hc_records.specs.declared.edit.Edit.{Edit}
use Rattle.hc_records.specs.declared.edit.Edit.TheVariants.{Connect, Disconnect, Remap, Move, Declare}
use Rattle.hc_records.specs.declared.faults.ProjectFault.TheVariants.{OutOfRange}
use Rattle.hc_records.specs.Lists.{changed_at, has_repeat, lowest, some_pair}
use Rattle.hc_records.specs.Edits.{declares, groups_after, with_area, with_slaves}
use Rattle.hc_records.specs.Project.{area_names, has_outside, has_overlap, has_repeated_alias, has_repeated_station, has_repeated_variable, has_unknown_pdo, is_bare, is_misplaced, is_wide, lowest_fault, pdo_names, project_faults, reach, repeats_sync_manager, slave_names, slave_outside, slaves_of, some_area, some_slave}
use Rattle.hc_records.proofs.lemmas.Projects.{none-holds}
use Rattle.hc_records.specs.Line.{groups_of}
use Rattle.hc_records.proofs.lemmas.Declaring.{faults_of}
use Rattle.hc_groups.specs.Edits.{own_fault}
use Rattle.hc_groups.proofs.Harmless.{IsHarmless, IsJudged, in_task, move-judged, remap-judged, with_pdos}
use Rattle.hc_groups.proofs.Same.{any-same, changed-same, flat-same, groups-with_presence, groups-with_slaves, map-same, on_group, slaves-on_group, some-slave, with-same}
use Rattle.hc_groups.proofs.Stations.{HasArea, all-have}
use Rattle.hc_groups.proofs.Unharmed.{Spares, areas-spared, none-after, slave-spared}

-- the memory that an area may take: its first byte, and how many
abbrev memory_of : Area → ℕ × ℕ
memory_of area = (area.phys, reach area)

-- what a change of areas leaves of each
record Leaves (change : Area → Area) : Type 0 where
  manager : (area : Area) → (change area).sm ≡ area.sm
  offered : (area : Area) → (change area).offered ≡ area.offered
  memory : (area : Area) → memory_of (change area) ≡ memory_of area

pdos-leave : (pdos : List ℕ) → Leaves (with_pdos pdos)
pdos-leave pdos = record { manager = λ area. refl; offered = λ area. refl; memory = λ area. refl }

task-leaves : (task : ℕ) → Leaves (in_task task)
task-leaves task = record { manager = λ area. refl; offered = λ area. refl; memory = λ area. refl }

-- pairs that are given by keys

any-keys : {X Y : Type 0} (test : Y → Bool) (key : X → Y) (xs : List X) → list_any (λ x. test (key x)) xs ≡ list_any test (map key xs)
any-keys test key [] = refl
any-keys test key (x ∷ xs) = ap (λ (b : Bool). test (key x) || b) (any-keys test key xs)

pairs-keys : {X Y : Type 0} (related : Y → Y → Bool) (key : X → Y) (xs : List X) → some_pair (λ a b. related (key a) (key b)) xs ≡ some_pair related (map key xs)
pairs-keys related key [] = refl
pairs-keys related key (x ∷ xs) = rw (any-keys (related (key x)) key xs, pairs-keys related key xs) refl

pairs-changed : {X Y : Type 0} (related : Y → Y → Bool) (key : X → Y) (index : ℕ) (change : X → X) → ((x : X) → key (change x) ≡ key x) → (xs : List X) →
    some_pair (λ a b. related (key a) (key b)) (changed_at index change xs) ≡ some_pair (λ a b. related (key a) (key b)) xs
pairs-changed related key index change same xs =
    pairs-keys related key (changed_at index change xs)
    ∙ ap (some_pair related) (changed-same key index change same xs)
    ∙ sym (pairs-keys related key xs)

-- the conditions that speak of what is left

abbrev memories_overlap : ℕ × ℕ → ℕ × ℕ → Bool
memories_overlap a b = nat_lt 0 a.1 && nat_lt 0 b.1 && nat_lt a.0 (b.0 + b.1) && nat_lt b.0 (a.0 + a.1)

managers-same : (change : Area → Area) (leaves : Leaves change) (station index : ℕ) (slave : Slave) → repeats_sync_manager (with_area station index change slave) ≡ repeats_sync_manager slave
managers-same change leaves station index =
    with-same repeats_sync_manager station index change
    (λ slave. pairs-changed (λ a b. b == a) (λ (area : Area). area.sm) index change leaves.manager slave.areas)

overlaps-same : (change : Area → Area) (leaves : Leaves change) (station index : ℕ) (slave : Slave) → has_overlap (with_area station index change slave) ≡ has_overlap slave
overlaps-same change leaves station index =
    with-same has_overlap station index change
    (λ slave. pairs-changed memories_overlap memory_of index change leaves.memory slave.areas)

names-by : (areas : List Area) → area_names areas ≡ flat_map pdo_names (map (λ area. area.offered) areas)
names-by areas = sym (flat_map-map pdo_names (λ (area : Area). area.offered) areas)

names-same : (change : Area → Area) (leaves : Leaves change) (station index : ℕ) (slave : Slave) → area_names (with_area station index change slave).areas ≡ area_names slave.areas
names-same change leaves station index =
    with-same (λ slave. area_names slave.areas) station index change
    (λ slave. names-by (changed_at index change slave.areas)
    ∙ ap (flat_map pdo_names) (changed-same (λ (area : Area). area.offered) index change leaves.offered slave.areas)
    ∙ sym (names-by slave.areas))

stations-same : (change : Area → Area) (station index : ℕ) (slave : Slave) → (with_area station index change slave).station ≡ slave.station
stations-same change station index = with-same (λ slave. slave.station) station index change (λ slave. refl)

some-same : (test : Slave → Bool) (change : Slave → Slave) (groups : List Group) → ((slave : Slave) → test (change slave) ≡ test slave) →
    some_slave test (map (on_group change) groups) ≡ some_slave test groups
some-same test change groups same =
    some-slave test (map (on_group change) groups)
    ∙ ap (list_any test) (slaves-on_group change groups)
    ∙ any-same test change same (slaves_of groups)
    ∙ sym (some-slave test groups)

-- the conditions that speak of what is changed

some-spared : (test : Slave → Bool) (change : Slave → Slave) (groups : List Group) → some_slave test groups ≡ false → All (Spares test change) (slaves_of groups) →
    some_slave test (map (on_group change) groups) ≡ false
some-spared test change groups none spares =
    some-slave test (map (on_group change) groups)
    ∙ ap (list_any test) (slaves-on_group change groups)
    ∙ none-after test change (slaves_of groups) (sym (some-slave test groups) ∙ none) spares

bare-same : (change : Slave → Slave) (group : Group) → is_bare (on_group change group) ≡ is_bare group
bare-same change group = ap (λ (n : ℕ). (group.alias == 0) || (n == 0)) (length-map group.slaves change)

misplaced-same : (change : Slave → Slave) (groups : List Group) → is_misplaced (map (on_group change) groups) ≡ is_misplaced groups
misplaced-same change [] = refl
misplaced-same change (group ∷ groups) = ap (λ (b : Bool). not (group.alias == 0) || b) (any-same is_bare (on_group change) (bare-same change) groups)

outside-unchanged : (change : Slave → Slave) (groups : List Group) → has_outside groups ≡ false → All (Spares slave_outside change) (slaves_of groups) →
    has_outside (map (on_group change) groups) ≡ false
outside-unchanged change groups inside spares =
    let a = is_misplaced groups in
    let b = nat_lt MOST_GROUPS (length groups) in
    let c = nat_lt MOST_SLAVES (length (slaves_of groups)) in
    let three = or_parts (a || b || c) (some_slave slave_outside groups) inside in
    let two = or_parts (a || b) c three.0 in
    let one = or_parts a b two.0 in
    let after = map (on_group change) groups in
    let placed = misplaced-same change groups ∙ one.0 in
    let few_groups = ap (λ (n : ℕ). nat_lt MOST_GROUPS n) (length-map groups (on_group change)) ∙ one.1 in
    let few_slaves = ap (λ (slaves : List Slave). nat_lt MOST_SLAVES (length slaves)) (slaves-on_group change groups)
    ∙ ap (λ (n : ℕ). nat_lt MOST_SLAVES n) (length-map (slaves_of groups) change) ∙ two.1 in
    or_from (is_misplaced after || nat_lt MOST_GROUPS (length after) || nat_lt MOST_SLAVES (length (slaves_of after))) (some_slave slave_outside after)
    (or_from (is_misplaced after || nat_lt MOST_GROUPS (length after)) (nat_lt MOST_SLAVES (length (slaves_of after)))
    (or_from (is_misplaced after) (nat_lt MOST_GROUPS (length after)) placed few_groups) few_slaves)
    (some-spared slave_outside change groups three.1 spares)

-- all of them

none-of : (a b c d e f g h : Bool) → a ≡ false → b ≡ false → c ≡ false → d ≡ false → e ≡ false → f ≡ false → g ≡ false → h ≡ false → lowest (faults_of a b c d e f g h) ≡ None
none-of a b c d e f g h is_a is_b is_c is_d is_e is_f is_g is_h = rw (is_a, is_b, is_c, is_d, is_e, is_f, is_g, is_h) refl

area-unchanged : (change : Area → Area) (leaves : Leaves change) (station index : ℕ) (area : Area) (groups : List Group) → lowest_fault groups ≡ None → IsHarmless change area →
    All (HasArea station index area) (slaves_of groups) → lowest_fault (map (on_group (with_area station index change)) groups) ≡ None
area-unchanged change leaves station index area groups none harmless has =
    let on_slave = with_area station index change in
    let after = map (on_group on_slave) groups in
    let slaves = slaves_of groups in
    let holds = none-holds (project_faults groups) none in
    let stations = ap (λ (all : List Slave). has_repeat (map (λ (s : Slave). s.station) all)) (slaves-on_group on_slave groups)
    ∙ ap has_repeat (map-same (λ (s : Slave). s.station) on_slave (stations-same change station index) slaves) in
    let names = ap (λ (all : List Slave). has_repeat (slave_names all)) (slaves-on_group on_slave groups)
    ∙ ap has_repeat (flat-same (λ (s : Slave). area_names s.areas) on_slave (names-same change leaves station index) slaves) in
    let spares : (test : Area → Bool) → Spares test change area → All (Spares (λ (s : Slave). list_any test s.areas) on_slave) slaves =
    λ test spared i d within. areas-spared test station index change area (slice_index_or slaves i d) spared (has i d within) in
    none-of (has_outside after) (has_repeated_alias after) (has_repeated_station after) (some_slave repeats_sync_manager after) (some_slave has_overlap after)
    (has_repeated_variable after) (some_area has_unknown_pdo after) (some_area is_wide after)
    (outside-unchanged on_slave groups (holds 0 (false, OutOfRange) (omega arith))
    (λ i d within. slave-spared station index change area (slice_index_or slaves i d) harmless.inside (has i d within)))
    (ap has_repeat (map-same (λ (g : Group). g.alias) (on_group on_slave) (λ g. refl) groups) ∙ holds 1 (false, OutOfRange) (omega arith))
    (stations ∙ holds 2 (false, OutOfRange) (omega arith))
    (some-same repeats_sync_manager on_slave groups (managers-same change leaves station index) ∙ holds 3 (false, OutOfRange) (omega arith))
    (some-same has_overlap on_slave groups (overlaps-same change leaves station index) ∙ holds 4 (false, OutOfRange) (omega arith))
    (names ∙ holds 5 (false, OutOfRange) (omega arith))
    (some-spared (λ (s : Slave). list_any has_unknown_pdo s.areas) on_slave groups (holds 6 (false, OutOfRange) (omega arith)) (spares has_unknown_pdo harmless.offered))
    (some-spared (λ (s : Slave). list_any is_wide s.areas) on_slave groups (holds 7 (false, OutOfRange) (omega arith)) (spares is_wide harmless.narrow))

judged-unchanged : (groups : List Declared) (station index : ℕ) (change : Area → Area) (leaves : Leaves change) → lowest_fault (groups_of groups) ≡ None → IsJudged groups station index change →
    lowest_fault (groups_of (map (with_slaves (with_area station index change)) groups)) ≡ None
judged-unchanged groups station index change leaves none judged =
    let once : has_repeated_station (groups_of groups) ≡ false = none-holds (project_faults (groups_of groups)) none 2 (false, OutOfRange) (omega arith) in
    ap lowest_fault (groups-with_slaves (with_area station index change) groups)
    ∙ area-unchanged change leaves station index judged.area (groups_of groups) none judged.harmless (all-have groups station index judged.area once judged.found)

-- an edit that declares no group leaves them a project's
pub project-unchanged : (groups : List Declared) (edit : Edit) → declares edit ≡ false → lowest_fault (groups_of groups) ≡ None → own_fault groups edit ≡ None → lowest_fault (groups_of (groups_after groups edit)) ≡ None
project-unchanged groups (Connect alias) changes none own = ap lowest_fault (groups-with_presence alias true groups) ∙ none
project-unchanged groups (Disconnect alias) changes none own = ap lowest_fault (groups-with_presence alias false groups) ∙ none
project-unchanged groups (Remap station index pdos) changes none own = judged-unchanged groups station index (with_pdos pdos) (pdos-leave pdos) none (remap-judged groups station index pdos own)
project-unchanged groups (Move station index task) changes none own = judged-unchanged groups station index (in_task task) (task-leaves task) none (move-judged groups station index task own)
project-unchanged groups (Declare group) changes none own = cc

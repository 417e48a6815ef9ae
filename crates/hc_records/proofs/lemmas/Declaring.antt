-- A group that is declared after the groups of a project: they are a project's again, condition by condition, their line is the same, and nothing is cut
-- anew.
use Rattle.std.proofs.Common.{◌≡◌, ℕ, ◌∙◌, Bool, true, false, not, List, [], ◌∷◌, ◌++◌, Option, Some, None, length, refl, sym, ap, length-append, arith}
use Rattle.std.specs.Prelude.{◌+◌, ◌==◌, ◌||◌, filter, is_some, map, nat_lt, sum_by}
use Rattle.std.specs.List.{flat_map, list_any}
use Rattle.std.proofs.lemmas.Bool.{both_ways, eqb-false, ne_eqb, or_from, or_parts}
use Rattle.std.proofs.lemmas.Grind.{flat_map-append}
use Rattle.std.proofs.lemmas.List.{append-nil, length-map, map-append}
use Rattle.std.proofs.lemmas.List.Folds.{list_any-append}
use Rattle.std.proofs.lemmas.List.Sums.{sum_by-cons}
use Rattle.hc_records.specs.declared.limits.TheConstants.{MOST_GROUPS, MOST_SLAVES}
use Rattle.hc_records.specs.declared.records.Slave.{Slave}
use Rattle.hc_records.specs.declared.records.Group.{Group}
use Rattle.hc_records.specs.declared.records.Declared.{Declared}
use Rattle.hc_records.specs.declared.faults.ProjectFault.{ProjectFault}
use Rattle.hc_records.specs.declared.faults.ProjectFault.TheVariants.{OutOfRange, RepeatedAlias, RepeatedStation, RepeatedSyncManager, OverlappingAreas, RepeatedVariable, UnknownPdo, AreaTooBig}
use Rattle.hc_records.specs.declared.faults.EditFault.TheVariants.{EpochsSpent}
use Rattle.hc_records.specs.Boundaries.{is_touched_task, recut, unsettled_spans}
use Rattle.hc_records.specs.Image.{tasks}
use Rattle.hc_records.specs.TaskList.{task_list}
use Rattle.hc_records.specs.Edits.{absent, smallest_project, declaring_faults, has_station, is_declared_variable}
use Rattle.hc_records.specs.Line.{Member, groups_of, line_from, members_from, present_slaves}
use Rattle.hc_records.specs.Lists.{has_repeat, lowest}
use Rattle.hc_records.specs.Project.{area_names, has_outside, has_overlap, has_repeated_alias, has_repeated_station, has_repeated_variable, has_unknown_pdo, is_bare, is_misplaced, is_wide, lowest_fault, project_faults, repeats_sync_manager, slave_names, slave_outside, slaves_of, some_area, some_slave}
use Rattle.hc_records.proofs.Settled.{untouched-spans}
use Rattle.hc_records.proofs.lemmas.Lists.{none-holds}

-- numbers after others; none is among these

-- one of the later numbers is among the earlier ones
abbrev meets : List ℕ → List ℕ → Bool
meets xs ys = list_any (λ y. list_any (λ x. x == y) xs) ys

turned : (x y : ℕ) → (x == y) ≡ false → (y == x) ≡ false
turned x y apart = ne_eqb y x (λ same. eqb-false x y apart (sym same))

meets-parts : (x : ℕ) (xs ys : List ℕ) → meets (x ∷ xs) ys ≡ false → (list_any (λ y. y == x) ys ≡ false) × (meets xs ys ≡ false)
meets-parts x xs [] none = (refl, refl)
meets-parts x xs (y ∷ ys) none =
    let parts = or_parts (list_any (λ z. z == y) (x ∷ xs)) (meets (x ∷ xs) ys) none in
    let here = or_parts (x == y) (list_any (λ z. z == y) xs) parts.0 in
    let rest = meets-parts x xs ys parts.1 in (
      or_from (y == x) (list_any (λ z. z == x) ys) (turned x y here.0) rest.0,
      or_from (list_any (λ z. z == y) xs) (meets xs ys) here.1 rest.1,
    )

joined-once : (xs ys : List ℕ) → has_repeat xs ≡ false → has_repeat ys ≡ false → meets xs ys ≡ false → has_repeat (xs ++ ys) ≡ false
joined-once [] ys first second apart = second
joined-once (x ∷ xs) ys first second apart =
    let parts = or_parts (list_any (λ y. y == x) xs) (has_repeat xs) first in
    let others = meets-parts x xs ys apart in
    or_from (list_any (λ y. y == x) (xs ++ ys)) (has_repeat (xs ++ ys))
    (list_any-append (λ y. y == x) xs ys ∙ or_from (list_any (λ y. y == x) xs) (list_any (λ y. y == x) ys) parts.0 others.0)
    (joined-once xs ys parts.1 second others.1)

-- tests of mapped and joined lists

any-map : {X Y : Type 0} (test : Y → Bool) (key : X → Y) (xs : List X) → list_any test (map key xs) ≡ list_any (λ x. test (key x)) xs
any-map test key [] = refl
any-map test key (x ∷ xs) = ap (λ (b : Bool). test (key x) || b) (any-map test key xs)

pub any-flat : {X Y : Type 0} (test : Y → Bool) (pieces : X → List Y) (xs : List X) → list_any test (flat_map pieces xs) ≡ list_any (λ x. list_any test (pieces x)) xs
any-flat test pieces [] = refl
any-flat test pieces (x ∷ xs) = list_any-append test (pieces x) (flat_map pieces xs) ∙ ap (λ (b : Bool). list_any test (pieces x) || b) (any-flat test pieces xs)

pub any-same : {X : Type 0} (test other : X → Bool) → ((x : X) → test x ≡ other x) → (xs : List X) → list_any test xs ≡ list_any other xs
any-same test other same [] = refl
any-same test other same (x ∷ xs) = rw (same x, any-same test other same xs) refl

-- what of the declared groups is compared with a group

alias-met : (groups : List Declared) (alias : ℕ) → list_any (λ declared. declared.group.alias == alias) groups ≡ list_any (λ x. x == alias) (map (λ (group : Group). group.alias) (groups_of groups))
alias-met groups alias =
    sym (any-map (λ x. x == alias) (λ (group : Group). group.alias) (groups_of groups)
    ∙ any-map (λ (group : Group). group.alias == alias) (λ (declared : Declared). declared.group) groups)

station-met : (groups : List Declared) (station : ℕ) → list_any (λ declared. has_station station declared.group.slaves) groups
    ≡ list_any (λ x. x == station) (map (λ (slave : Slave). slave.station) (slaves_of (groups_of groups)))
station-met groups station =
    sym (any-map (λ x. x == station) (λ (slave : Slave). slave.station) (slaves_of (groups_of groups))
    ∙ any-flat (λ (slave : Slave). slave.station == station) (λ (group : Group). group.slaves) (groups_of groups)
    ∙ any-map (λ (group : Group). has_station station group.slaves) (λ (declared : Declared). declared.group) groups)

-- one condition

slaves-joined : (groups : List Group) (group : Group) → slaves_of (groups ++ group ∷ []) ≡ slaves_of groups ++ group.slaves
slaves-joined groups group =
    flat_map-append (λ (g : Group). g.slaves) groups (group ∷ []) ∙ ap (λ (slaves : List Slave). slaves_of groups ++ slaves) (append-nil group.slaves)

some-joined : (test : Slave → Bool) (groups : List Group) (group : Group) → some_slave test groups ≡ false → some_slave test (smallest_project group) ≡ false → some_slave test (groups ++ group ∷ []) ≡ false
some-joined test groups group first second =
    list_any-append (λ (g : Group). list_any test g.slaves) groups (group ∷ [])
    ∙ or_from (some_slave test groups) (some_slave test (group ∷ [])) first second

misplaced-joined : (groups : List Group) (group : Group) → is_misplaced groups ≡ false → is_bare group ≡ false → is_misplaced (groups ++ group ∷ []) ≡ false
misplaced-joined [] group placed comes = absurd (both_ways true placed refl)
misplaced-joined (mandatory ∷ groups) group placed comes =
    let parts = or_parts (not (mandatory.alias == 0)) (list_any is_bare groups) placed in
    or_from (not (mandatory.alias == 0)) (list_any is_bare (groups ++ group ∷ [])) parts.0
    (list_any-append is_bare groups (group ∷ [])
    ∙ or_from (list_any is_bare groups) (list_any is_bare (group ∷ [])) parts.1 (or_from (is_bare group) false comes refl))

-- the values of declared groups and of the group are in their ranges
record AreInside (groups : List Group) (group : Group) : Type 0 where
  before : has_outside groups ≡ false
  own : has_outside (smallest_project group) ≡ false
  few_groups : nat_lt MOST_GROUPS (length groups + 1) ≡ false
  few_slaves : nat_lt MOST_SLAVES (length (slaves_of groups) + length group.slaves) ≡ false

outside-joined : (groups : List Group) (group : Group) → AreInside groups group → has_outside (groups ++ group ∷ []) ≡ false
outside-joined groups group inside =
    let all = groups ++ group ∷ [] in
    let many : List Group → Bool = λ gs. nat_lt MOST_GROUPS (length gs) in
    let over_limit : List Group → Bool = λ gs. nat_lt MOST_SLAVES (length (slaves_of gs)) in
    let three = or_parts (is_misplaced groups || many groups || over_limit groups) (some_slave slave_outside groups) inside.before in
    let two = or_parts (is_misplaced groups || many groups) (over_limit groups) three.0 in
    let one = or_parts (is_misplaced groups) (many groups) two.0 in
    let own_three = or_parts (is_misplaced (smallest_project group) || many (smallest_project group) || over_limit (smallest_project group)) (some_slave slave_outside (smallest_project group)) inside.own in
    let own_two = or_parts (is_misplaced (smallest_project group) || many (smallest_project group)) (over_limit (smallest_project group)) own_three.0 in
    let own_one = or_parts (is_misplaced (smallest_project group)) (many (smallest_project group)) own_two.0 in
    let comes = or_parts (is_bare group) false own_one.0 in
    let size = ap length (slaves-joined groups group) ∙ length-append (slaves_of groups) group.slaves in
    or_from (is_misplaced all || many all || over_limit all) (some_slave slave_outside all)
    (or_from (is_misplaced all || many all) (over_limit all)
    (or_from (is_misplaced all) (many all) (misplaced-joined groups group one.0 comes.0) (ap (nat_lt MOST_GROUPS) (length-append groups (group ∷ [])) ∙ inside.few_groups))
    (ap (nat_lt MOST_SLAVES) size ∙ inside.few_slaves))
    (some-joined slave_outside groups group three.1 own_three.1)

aliases-joined : (groups : List Declared) (group : Group) → has_repeated_alias (groups_of groups) ≡ false → list_any (λ declared. declared.group.alias == group.alias) groups ≡ false →
    has_repeated_alias (groups_of groups ++ group ∷ []) ≡ false
aliases-joined groups group once free =
    let aliases : List Group → List ℕ = λ gs. map (λ (g : Group). g.alias) gs in
    ap has_repeat (map-append (λ (g : Group). g.alias) (groups_of groups) (group ∷ []))
    ∙ joined-once (aliases (groups_of groups)) (group.alias ∷ []) once refl
    (or_from (list_any (λ x. x == group.alias) (aliases (groups_of groups))) false (sym (alias-met groups group.alias) ∙ free) refl)

stations-joined : (groups : List Declared) (group : Group) → has_repeated_station (groups_of groups) ≡ false → has_repeated_station (smallest_project group) ≡ false →
    list_any (λ slave. list_any (λ declared. has_station slave.station declared.group.slaves) groups) group.slaves ≡ false →
    has_repeated_station (groups_of groups ++ group ∷ []) ≡ false
stations-joined groups group once own free =
    let stations : List Slave → List ℕ = λ slaves. map (λ (slave : Slave). slave.station) slaves in
    let all = stations (slaves_of (groups_of groups)) in
    let distinct = ap (λ (slaves : List Slave). has_repeat (stations slaves)) (sym (append-nil group.slaves)) ∙ own in
    let apart = any-map (λ y. list_any (λ x. x == y) all) (λ (slave : Slave). slave.station) group.slaves
    ∙ any-same (λ (slave : Slave). list_any (λ x. x == slave.station) all) (λ (slave : Slave). list_any (λ declared. has_station slave.station declared.group.slaves) groups)
    (λ slave. sym (station-met groups slave.station)) group.slaves ∙ free in
    ap (λ (slaves : List Slave). has_repeat (stations slaves)) (slaves-joined (groups_of groups) group)
    ∙ ap has_repeat (map-append (λ (slave : Slave). slave.station) (slaves_of (groups_of groups)) group.slaves)
    ∙ joined-once all (stations group.slaves) once distinct apart

variables-joined : (groups : List Declared) (group : Group) → has_repeated_variable (groups_of groups) ≡ false → has_repeated_variable (smallest_project group) ≡ false →
    list_any (is_declared_variable groups) (slave_names group.slaves) ≡ false → has_repeated_variable (groups_of groups ++ group ∷ []) ≡ false
variables-joined groups group once own free =
    let all = slave_names (slaves_of (groups_of groups)) in
    let distinct = ap (λ (slaves : List Slave). has_repeat (slave_names slaves)) (sym (append-nil group.slaves)) ∙ own in
    ap (λ (slaves : List Slave). has_repeat (slave_names slaves)) (slaves-joined (groups_of groups) group)
    ∙ ap has_repeat (flat_map-append (λ (slave : Slave). area_names slave.areas) (slaves_of (groups_of groups)) group.slaves)
    ∙ joined-once all (slave_names group.slaves) once distinct free

-- all of them

abbrev pub faults_of : Bool → Bool → Bool → Bool → Bool → Bool → Bool → Bool → List (Bool × ProjectFault)
faults_of a b c d e f g h =
    (a, OutOfRange) ∷ (b, RepeatedAlias) ∷ (c, RepeatedStation) ∷ (d, RepeatedSyncManager) ∷ (e, OverlappingAreas) ∷ (f, RepeatedVariable) ∷ (g, UnknownPdo) ∷ (h, AreaTooBig) ∷ []

none-of : (a b c d e f g h : Bool) → a ≡ false → b ≡ false → c ≡ false → d ≡ false → e ≡ false → f ≡ false → g ≡ false → h ≡ false → lowest (faults_of a b c d e f g h) ≡ None
none-of a b c d e f g h is_a is_b is_c is_d is_e is_f is_g is_h = rw (is_a, is_b, is_c, is_d, is_e, is_f, is_g, is_h) refl

-- none of the conditions holds of the group alone
bare-fault : (fault : Option ProjectFault) → is_some fault ≡ false → fault ≡ None
bare-fault None none = refl
bare-fault (Some fault) none = absurd (both_ways true none refl)

pub declared-keep : (groups : List Declared) (group : Group) → lowest_fault (groups_of groups) ≡ None → lowest (declaring_faults groups group) ≡ None → lowest_fault (groups_of (groups ++ absent group ∷ [])) ≡ None
declared-keep groups group none free =
    let gs = groups_of groups in
    let all = gs ++ group ∷ [] in
    let judged = none-holds (declaring_faults groups group) free in
    let sound = bare-fault (lowest_fault (smallest_project group)) (judged 0 (false, EpochsSpent) (omega arith)) in
    let holds = none-holds (project_faults gs) none in
    let own = none-holds (project_faults (smallest_project group)) sound in
    let few : nat_lt MOST_GROUPS (length gs + 1) ≡ false =
    ap (λ (n : ℕ). nat_lt MOST_GROUPS (n + 1)) (length-map groups (λ (declared : Declared). declared.group)) ∙ judged 4 (false, EpochsSpent) (omega arith) in
    ap lowest_fault (map-append (λ (declared : Declared). declared.group) groups (absent group ∷ []))
    ∙ none-of (has_outside all) (has_repeated_alias all) (has_repeated_station all) (some_slave repeats_sync_manager all) (some_slave has_overlap all)
    (has_repeated_variable all) (some_area has_unknown_pdo all) (some_area is_wide all)
    (outside-joined gs group (record {
      before = holds 0 (false, OutOfRange) (omega arith);
      own = own 0 (false, OutOfRange) (omega arith);
      few_groups = few;
      few_slaves = judged 5 (false, EpochsSpent) (omega arith);
    }))
    (aliases-joined groups group (holds 1 (false, OutOfRange) (omega arith)) (judged 1 (false, EpochsSpent) (omega arith)))
    (stations-joined groups group (holds 2 (false, OutOfRange) (omega arith)) (own 2 (false, OutOfRange) (omega arith)) (judged 2 (false, EpochsSpent) (omega arith)))
    (some-joined repeats_sync_manager gs group (holds 3 (false, OutOfRange) (omega arith)) (own 3 (false, OutOfRange) (omega arith)))
    (some-joined has_overlap gs group (holds 4 (false, OutOfRange) (omega arith)) (own 4 (false, OutOfRange) (omega arith)))
    (variables-joined groups group (holds 5 (false, OutOfRange) (omega arith)) (own 5 (false, OutOfRange) (omega arith)) (judged 3 (false, EpochsSpent) (omega arith)))
    (some-joined (λ slave. list_any has_unknown_pdo slave.areas) gs group (holds 6 (false, OutOfRange) (omega arith)) (own 6 (false, OutOfRange) (omega arith)))
    (some-joined (λ slave. list_any is_wide slave.areas) gs group (holds 7 (false, OutOfRange) (omega arith)) (own 7 (false, OutOfRange) (omega arith)))

-- an absent group after the others adds no slave to the line
pub line-absent : (rank : ℕ) (groups : List Declared) (group : Group) → line_from rank (groups ++ absent group ∷ []) ≡ line_from rank groups
line-absent rank [] group = refl
line-absent rank (declared ∷ groups) group =
    ap (λ (after_it : List Member). members_from rank (present_slaves declared) ++ after_it) (line-absent (rank + length declared.group.slaves) groups group)

-- so nothing is cut anew

sum-none : {X : Type 0} (f : X → ℕ) → ((x : X) → f x ≡ 0) → (xs : List X) → sum_by f xs ≡ 0
sum-none f none [] = refl
sum-none f none (x ∷ xs) = let here = none x in let rest = sum-none f none xs in let sum = sum_by-cons f x xs in omega (arith, here, rest, sum)

pub same-recut : (line : List Member) → recut line line ≡ 0
same-recut line = sum-none (λ task. unsettled_spans (task_list task line) (task_list task line)) (λ task. untouched-spans (task_list task line)) (filter (is_touched_task line line) tasks)

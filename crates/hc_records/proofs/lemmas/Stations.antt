-- The slaves of a project's line have distinct station addresses.
use Rattle.std.proofs.Common.{◌≡◌, ℕ, ◌+◌, ◌==◌, Bool, true, false, cond, List, [], ◌∷◌, ◌++◌, length, refl, sym, ap, ◌∙◌, ◌||◌, arith}
use Rattle.std.specs.Prelude.{None, map}
use Rattle.std.specs.List.{list_any}
use Rattle.std.proofs.lemmas.Bool.{or_parts}
use Rattle.std.proofs.lemmas.List.{map-append}
use Rattle.std.proofs.lemmas.List.Folds.{list_any-append}
use Rattle.hc_records.specs.declared.records.Declared.{Declared}
use Rattle.hc_records.specs.declared.records.Slave.{Slave}
use Rattle.hc_records.specs.Line.{Member, line_from, members_from}
use Rattle.hc_records.specs.Lists.{has_repeat}
use Rattle.hc_records.specs.declared.faults.ProjectFault.TheVariants.{OutOfRange}
use Rattle.hc_records.specs.Project.{lowest_fault, project_faults, slaves_of}
use Rattle.hc_records.proofs.lemmas.Projects.{none-holds}

-- no number of the list is this one
abbrev pub IsAbsent : ℕ → List ℕ → Type 0
IsAbsent n numbers = list_any (λ y. y == n) numbers ≡ false

absent-parts : (n : ℕ) (xs ys : List ℕ) → IsAbsent n (xs ++ ys) → IsAbsent n xs × IsAbsent n ys
absent-parts n xs ys absent = or_parts (list_any (λ y. y == n) xs) (list_any (λ y. y == n) ys) (sym (list_any-append (λ y. y == n) xs ys) ∙ absent)

absent-both : (n : ℕ) (xs ys : List ℕ) → IsAbsent n xs → IsAbsent n ys → IsAbsent n (xs ++ ys)
absent-both n xs ys left right = list_any-append (λ y. y == n) xs ys ∙ ap (λ (b : Bool). b || list_any (λ y. y == n) ys) left ∙ right

-- what is distinct stays so when numbers after it go

distinct-after_it : (xs ys : List ℕ) → has_repeat (xs ++ ys) ≡ false → has_repeat ys ≡ false
distinct-after_it [] ys distinct = distinct
distinct-after_it (x ∷ xs) ys distinct =
    distinct-after_it xs ys (or_parts (list_any (λ y. y == x) (xs ++ ys)) (has_repeat (xs ++ ys)) distinct).1

distinct-fewer : (xs ys unchanged : List ℕ) → has_repeat (xs ++ ys) ≡ false → ((n : ℕ) → IsAbsent n ys → IsAbsent n unchanged) → has_repeat unchanged ≡ false → has_repeat (xs ++ unchanged) ≡ false
distinct-fewer [] ys unchanged distinct fewer own = own
distinct-fewer (x ∷ xs) ys unchanged distinct fewer own =
    let parts = or_parts (list_any (λ y. y == x) (xs ++ ys)) (has_repeat (xs ++ ys)) distinct in
    let here = absent-parts x xs ys parts.0 in
    ap (λ (b : Bool). b || has_repeat (xs ++ unchanged)) (absent-both x xs unchanged here.0 (fewer x here.1))
    ∙ distinct-fewer xs ys unchanged parts.1 fewer own

-- the station addresses of slaves and of the line

abbrev pub stations : List Member → List ℕ
stations members = map (λ member. member.slave.station) members

abbrev pub slave_stations : List Slave → List ℕ
slave_stations slaves = map (λ slave. slave.station) slaves

abbrev all_stations : List Declared → List ℕ
all_stations groups = slave_stations (slaves_of (map (λ declared. declared.group) groups))

stations-members : (rank : ℕ) (slaves : List Slave) → stations (members_from rank slaves) ≡ slave_stations slaves
stations-members rank [] = refl
stations-members rank (slave ∷ slaves) = ap (λ (rest : List ℕ). slave.station ∷ rest) (stations-members (rank + 1) slaves)

stations-first : (rank : ℕ) (slaves : List Slave) (rest : List Member) → stations (members_from rank slaves ++ rest) ≡ slave_stations slaves ++ stations rest
stations-first rank slaves rest =
    map-append (λ (member : Member). member.slave.station) (members_from rank slaves) rest
    ∙ ap (λ (own : List ℕ). own ++ stations rest) (stations-members rank slaves)

-- a station address that no slave has, none of the line has

absent-first : (present : Bool) (n rank : ℕ) (slaves : List Slave) (rest : List Member) → IsAbsent n (slave_stations slaves) → IsAbsent n (stations rest)
    → IsAbsent n (stations (members_from rank (cond present slaves []) ++ rest))
absent-first true n rank slaves rest own after_it =
    ap (list_any (λ y. y == n)) (stations-first rank slaves rest) ∙ absent-both n (slave_stations slaves) (stations rest) own after_it
absent-first false n rank slaves rest own after_it = after_it

absent-line : (n rank : ℕ) (groups : List Declared) → IsAbsent n (all_stations groups) → IsAbsent n (stations (line_from rank groups))
absent-line n rank [] absent = refl
absent-line n rank (declared ∷ groups) absent =
    let slaves = declared.group.slaves in
    let parts = absent-parts n (slave_stations slaves) (all_stations groups)
    (ap (list_any (λ y. y == n)) (sym (map-append (λ (slave : Slave). slave.station) slaves (slaves_of (map (λ (d : Declared). d.group) groups)))) ∙ absent) in
    absent-first declared.present n rank slaves (line_from (rank + length slaves) groups) parts.0 (absent-line n (rank + length slaves) groups parts.1)

distinct-first : (present : Bool) (rank : ℕ) (slaves : List Slave) (rest : List Member) (after_it : List ℕ) → has_repeat (slave_stations slaves ++ after_it) ≡ false
    → ((n : ℕ) → IsAbsent n after_it → IsAbsent n (stations rest)) → has_repeat (stations rest) ≡ false
    → has_repeat (stations (members_from rank (cond present slaves []) ++ rest)) ≡ false
distinct-first true rank slaves rest after_it distinct fewer own =
    ap has_repeat (stations-first rank slaves rest) ∙ distinct-fewer (slave_stations slaves) after_it (stations rest) distinct fewer own
distinct-first false rank slaves rest after_it distinct fewer own = own

distinct-line : (rank : ℕ) (groups : List Declared) → has_repeat (all_stations groups) ≡ false → has_repeat (stations (line_from rank groups)) ≡ false
distinct-line rank [] distinct = refl
distinct-line rank (declared ∷ groups) distinct =
    let slaves = declared.group.slaves in
    let whole : has_repeat (slave_stations slaves ++ all_stations groups) ≡ false =
    ap has_repeat (sym (map-append (λ (slave : Slave). slave.station) slaves (slaves_of (map (λ (d : Declared). d.group) groups)))) ∙ distinct in
    let next = rank + length slaves in
    distinct-first declared.present rank slaves (line_from next groups) (all_stations groups) whole
    (λ n absent. absent-line n next groups absent)
    (distinct-line next groups (distinct-after_it (slave_stations slaves) (all_stations groups) whole))

-- a project repeats no station address, so neither does its line

pub project-distinct : (groups : List Declared) → lowest_fault (map (λ declared. declared.group) groups) ≡ None → has_repeat (stations (line_from 1 groups)) ≡ false
project-distinct groups none = distinct-line 1 groups (none-holds (project_faults (map (λ declared. declared.group) groups)) none 2 (false, OutOfRange) (omega arith))

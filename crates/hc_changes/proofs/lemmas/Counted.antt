-- The number of times that a variable is among the rows of candidates, and among the areas that a line's slaves carried.
use Rattle.std.proofs.Common.{◌≡◌, ℕ, zero, suc, ◌+◌, ◌≤◌, ◌==◌, Bool, true, cond, List, [], ◌∷◌, Contains, Option, Some, None, length, refl, sym, ap, arith, if◌then◌else◌, rules}
use Rattle.std.specs.Prelude.{All, filter, map, slice_index_or}
use Rattle.std.specs.List.{flat_map}
use Rattle.std.specs.Option.{option_map_or}
use Rattle.std.proofs.lemmas.Bool.{eq-eqb}
use Rattle.std.proofs.lemmas.List.Elements.{All-head, All-tail}
use Rattle.hc_records.specs.declared.records.Area.{Area}
use Rattle.hc_records.specs.declared.records.Declared.{Declared}
use Rattle.hc_records.specs.declared.records.Slave.{Slave}
use Rattle.hc_records.specs.Line.{Member, groups_of, line_from}
use Rattle.hc_records.specs.Packing.{Placed}
use Rattle.hc_records.specs.Project.{area_names, lowest_fault, slave_names}
use Rattle.hc_records.proofs.lemmas.Lines.{declared_slaves}
use Rattle.hc_records.proofs.lemmas.Projects.{project-names}
use Rattle.hc_records.proofs.lemmas.Choices.{own-swap}
use Rattle.hc_cuts.specs.Areas.{areas_by_rank}
use Rattle.hc_places.specs.Found.{area_rows}
use Rattle.hc_places.proofs.lemmas.Once.{declared-once, entry-names, line-declared, of_areas, of_row, once, own, rows-total, weight}
use Rattle.hc_places.proofs.lemmas.Totals.{total, total-append, total-enumerate, total-filter, total-flat_map, total-less, total-map, total-same}
use Rattle.hc_changes.specs.MaybeMovedAreas.{LineArea, maybe_moved_of, line_areas}
use Rattle.hc_changes.specs.Rows.{assigned_variables, rows_of, variables_by_rank}

-- how often a number is

counted-by : {X : Type 0} (passes : Bool) (x : X) (unchanged : List X) → length (cond passes (x ∷ unchanged) unchanged) ≡ cond passes 1 0 + length unchanged
counted-by passes x unchanged = search rules

pub counted : {X : Type 0} (variable : ℕ) (xs : List (ℕ × X)) → length (filter (λ x. x.0 == variable) xs) ≡ total (λ x. own variable x.0) xs
counted variable [] = refl
counted variable (x ∷ xs) = search (rules, counted-by, own-swap, counted variable xs)

none-by : (same : Bool) (rest : ℕ) → (same ≡ true → ⊥) → rest ≡ 0 → cond same 1 0 + rest ≡ 0
none-by same rest never is = search rules

pub counted-none : {X : Type 0} (number : X → ℕ) (variable : ℕ) (xs : List X) → All (λ x. (variable == number x) ≡ true → ⊥) xs → total (λ x. own variable (number x)) xs ≡ 0
counted-none number variable [] all = refl
counted-none number variable (x ∷ xs) all =
    search (rules, none-by, All-head, All-tail, counted-none number variable xs (All-tail (λ y. (variable == number y) ≡ true → ⊥) x xs all))

own-one : (variable number : ℕ) → (variable == number) ≡ true → own variable number ≡ 1
own-one variable number is = ap (λ (b : Bool). cond b 1 0) is

counted-some : (variable : ℕ) (xs : List ℕ) → Contains xs variable → 1 ≤ total (own variable) xs
counted-some variable [] (k, within, is) = absurd (omega arith)
counted-some variable (x ∷ xs) (zero, within, is) = let here = own-one variable x (eq-eqb variable x (sym is)) in omega arith
counted-some variable (x ∷ xs) (suc k, within, is) = let rest = counted-some variable xs (k, omega arith, is) in omega arith

-- what a filter keeps is no more

unchanged-less : (passes : Bool) (n : ℕ) → cond passes n 0 ≤ n
unchanged-less passes n = search rules

pub filtered-less : {X : Type 0} (f : X → ℕ) (test : X → Bool) (xs : List X) → total f (filter test xs) ≤ total f xs
filtered-less f test xs = search (rules, total-filter, total-less, unchanged-less)

-- the rows of a line's areas

placed-rows : (variable : ℕ) (area : Area) (place : Option Placed) → total (of_row variable) (option_map_or (area_rows area.task area) place []) ≤ weight variable area
placed-rows variable area None = omega arith
placed-rows variable area (Some placed) = search (rules, rows-total)

abbrev of_area : ℕ → LineArea → ℕ
of_area variable found = weight variable found.area

line-weight : (variable : ℕ) (line : List Member) → total (of_area variable) (line_areas line) ≡ total (λ (m : Member). of_areas variable m.slave) line
line-weight variable line = search (rules, total-flat_map, total-same, total-map, total-enumerate)

pub maybe_moved_areas-once : (groups : List Declared) → lowest_fault (groups_of groups) ≡ None → (variable : ℕ) (test : LineArea → Bool)
    → total (of_row variable) (flat_map rows_of (map (maybe_moved_of (line_from 1 groups)) (filter test (line_areas (line_from 1 groups))))) ≤ 1
maybe_moved_areas-once groups none variable test =
    let line = line_from 1 groups in
    let found = filter test (line_areas line) in
    let flat = total-flat_map (of_row variable) rows_of (map (maybe_moved_of line) found) in
    let mapped = total-map (λ maybe_moved. total (of_row variable) (rows_of maybe_moved)) (maybe_moved_of line) found in
    let less = total-less (λ (f : LineArea). total (of_row variable) (rows_of (maybe_moved_of line f))) (of_area variable)
    (λ f. placed-rows variable f.area (maybe_moved_of line f).place) found in
    let fewer = filtered-less (of_area variable) test (line_areas line) in
    let members = line-weight variable line in
    let declared = line-declared (of_areas variable) 1 groups in
    let one = declared-once groups none variable in
    omega arith

-- the variables that the line's areas carry

carried-total : (variable : ℕ) (areas : List Area) → total (own variable) (assigned_variables areas) ≡ total (weight variable) areas
carried-total variable areas = search (rules, total-flat_map, total-same, entry-names)

present-total : (variable : ℕ) (present : Bool) (slave : Slave) → total (weight variable) (if present then slave.areas else []) ≤ of_areas variable slave
present-total variable present slave = search rules

ranks-total : (variable : ℕ) (groups : List Declared) → total (λ (areas : List Area). total (weight variable) areas) (areas_by_rank groups) ≤ total (of_areas variable) (declared_slaves groups)
ranks-total variable [] = omega arith
ranks-total variable (declared ∷ groups) = search (rules, total-append, total-map, total-less, present-total, ranks-total variable groups)

pub ranks-once : (groups : List Declared) → lowest_fault (groups_of groups) ≡ None → (variable : ℕ)
    → total (λ (areas : List Area). total (own variable) (assigned_variables areas)) (areas_by_rank groups) ≤ 1
ranks-once groups none variable =
    let same = total-same (λ (areas : List Area). total (own variable) (assigned_variables areas)) (λ (areas : List Area). total (weight variable) areas) (carried-total variable) (areas_by_rank groups) in
    let less = ranks-total variable groups in
    let one = declared-once groups none variable in
    omega arith

-- a variable is offered at one rank

abbrev pub of_names : ℕ → List ℕ → ℕ
of_names variable names = total (own variable) names

offered-total : (variable : ℕ) (groups : List Declared)
    → total (of_names variable) (variables_by_rank groups) ≡ total (λ (slave : Slave). of_names variable (area_names slave.areas)) (declared_slaves groups)
offered-total variable [] = refl
offered-total variable (declared ∷ groups) = search (rules, total-append, total-map, offered-total variable groups)

pub offered-once : (groups : List Declared) → lowest_fault (groups_of groups) ≡ None → (variable : ℕ) → total (of_names variable) (variables_by_rank groups) ≤ 1
offered-once groups none variable =
    let ranks = offered-total variable groups in
    let flat = total-flat_map (own variable) (λ (slave : Slave). area_names slave.areas) (declared_slaves groups) in
    let one = once variable 1 (slave_names (declared_slaves groups)) (project-names (groups_of groups) none) in
    omega arith

later-some : (variable : ℕ) (lists : List (List ℕ)) (i : ℕ) → Contains (slice_index_or lists i []) variable → 1 ≤ total (of_names variable) lists
later-some variable [] i (k, within, is) = absurd (omega arith)
later-some variable (names ∷ lists) zero at = let here = counted-some variable names at in omega arith
later-some variable (names ∷ lists) (suc i) at = let rest = later-some variable lists i at in omega arith

one-index : (variable : ℕ) (lists : List (List ℕ)) (i j : ℕ) → total (of_names variable) lists ≤ 1 → Contains (slice_index_or lists i []) variable → Contains (slice_index_or lists j []) variable
    → i ≡ j
one-index variable [] i j few (k, within, is) other = absurd (omega arith)
one-index variable (names ∷ lists) zero zero few at other = refl
one-index variable (names ∷ lists) zero (suc j) few at other =
    let here = counted-some variable names at in
    let rest = later-some variable lists j other in
    absurd (omega arith)
one-index variable (names ∷ lists) (suc i) zero few at other =
    let here = counted-some variable names other in
    let rest = later-some variable lists i at in
    absurd (omega arith)
one-index variable (names ∷ lists) (suc i) (suc j) few at other = ap suc (one-index variable lists i j (omega arith) at other)

pub one-rank : (variable : ℕ) (lists : List (List ℕ)) (i j : ℕ) → total (of_names variable) lists ≤ 1 → Contains (slice_index_or ([] ∷ lists) i []) variable
    → Contains (slice_index_or ([] ∷ lists) j []) variable → i ≡ j
one-rank variable lists i j few at other = one-index variable ([] ∷ lists) i j (omega arith) at other

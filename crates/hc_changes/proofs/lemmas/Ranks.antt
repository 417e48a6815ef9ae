-- The slave of a line with a rank is the declared one with that rank, if it is present.
use Rattle.std.proofs.Common.{◌≡◌, ℕ, ◌+◌, ◌<◌, zero, suc, Bool, true, false, List, [], ◌∷◌, ◌++◌, Option, Some, None, length, refl, ap, ◌∙◌, arith, cond, if◌then◌else◌, rules}
use Rattle.std.specs.Prelude.{All, find, map, option_map, slice_index_or}
use Rattle.std.specs.List.{flat_map}
use Rattle.std.proofs.lemmas.Bool.{eq-eqb, ne_eqb}
use Rattle.std.proofs.lemmas.List.Elements.{All-weaker, All-head, All-tail}
use Rattle.hc_records.specs.declared.records.Declared.{Declared}
use Rattle.hc_records.specs.declared.records.Slave.{Slave}
use Rattle.hc_records.specs.Line.{Member, line_from, members_from}
use Rattle.hc_records.proofs.lemmas.Lines.{line-within}
use Rattle.hc_changes.specs.MaybeMovedAreas.{slave_of}

-- the slave of each declared one that is present
abbrev pub slot : Bool → Slave → Option Slave
slot present slave = if present then Some slave else None

abbrev pub slots : List Declared → List (Option Slave)
slots groups = flat_map (λ declared. map (slot declared.present) declared.group.slaves) groups

find-none : {X : Type 0} (test : X → Bool) (xs : List X) → All (λ x. test x ≡ false) xs → find test xs ≡ None
find-none test [] all = refl
find-none test (x ∷ xs) all = rw (All-head (λ x. test x ≡ false) x xs all) (find-none test xs (All-tail (λ x. test x ≡ false) x xs all))

-- no slave has a rank below the first one
pub none-below : (first : ℕ) (groups : List Declared) (rank : ℕ) → rank < first → slave_of (line_from first groups) rank ≡ None
none-below first groups rank low = search (rules, find-none, All-weaker, ne_eqb, line-within)

-- a slave before others

passed : (here : Bool) (member : Member) (rest : Option Member) → here ≡ false
    → option_map (λ (m : Member). m.slave) (cond here (Some member) rest) ≡ option_map (λ (m : Member). m.slave) rest
passed here member rest is = search rules

present-slots : (first : ℕ) (slaves : List Slave) (rest : List Member) (after_it : List (Option Slave))
    → ((i : ℕ) → slave_of rest (first + length slaves + i) ≡ slice_index_or after_it i None)
    → (i : ℕ) → slave_of (members_from first slaves ++ rest) (first + i) ≡ slice_index_or (map (slot true) slaves ++ after_it) i None
present-slots first [] rest after_it same i = search rules
present-slots first (slave ∷ slaves) rest after_it same zero = search (rules, eq-eqb)
present-slots first (slave ∷ slaves) rest after_it same (suc i) =
    let more : (j : ℕ) → first + 1 + length slaves + j ≡ first + suc (length slaves) + j = (λ j. omega arith) in
    search (rules, passed, ne_eqb, present-slots (first + 1) slaves rest after_it (λ j. ap (slave_of rest) (more j) ∙ same j) i)

-- absent slaves before others
absent-slots : (first : ℕ) (slaves : List Slave) (rest : List Member) (after_it : List (Option Slave))
    → ((rank : ℕ) → rank < first + length slaves → slave_of rest rank ≡ None)
    → ((i : ℕ) → slave_of rest (first + length slaves + i) ≡ slice_index_or after_it i None)
    → (i : ℕ) → slave_of rest (first + i) ≡ slice_index_or (map (slot false) slaves ++ after_it) i None
absent-slots first [] rest after_it none same i = search rules
absent-slots first (slave ∷ slaves) rest after_it none same zero = none (first + 0) (omega arith)
absent-slots first (slave ∷ slaves) rest after_it none same (suc i) =
    let more : (j : ℕ) → first + 1 + length slaves + j ≡ first + suc (length slaves) + j = (λ j. omega arith) in
    search (rules, absent-slots (first + 1) slaves rest after_it (λ rank low. none rank (omega arith)) (λ j. ap (slave_of rest) (more j) ∙ same j) i)

group-slots : (present : Bool) (first : ℕ) (slaves : List Slave) (rest : List Member) (after_it : List (Option Slave))
    → ((rank : ℕ) → rank < first + length slaves → slave_of rest rank ≡ None)
    → ((i : ℕ) → slave_of rest (first + length slaves + i) ≡ slice_index_or after_it i None)
    → (i : ℕ) → slave_of (members_from first (if present then slaves else []) ++ rest) (first + i) ≡ slice_index_or (map (slot present) slaves ++ after_it) i None
group-slots present first slaves rest after_it none same i = search (rules, present-slots, absent-slots)

pub line-slots : (first : ℕ) (groups : List Declared) (i : ℕ) → slave_of (line_from first groups) (first + i) ≡ slice_index_or (slots groups) i None
line-slots first [] i = refl
line-slots first (declared ∷ groups) i =
    let next = first + length declared.group.slaves in
    group-slots declared.present first declared.group.slaves (line_from next groups) (slots groups)
    (λ rank low. none-below next groups rank low) (λ j. line-slots next groups j) i

-- How many slaves are before a group, and in a line.
use Rattle.std.proofs.Common.{◌≡◌, ◌≤◌, ◌+◌, ℕ, suc, Bool, true, false, cond, List, [], ◌∷◌, length, refl, ap, subst, ◌∙◌, arith, Some, length-append}
use Rattle.std.specs.Prelude.{Option, sum_by, find}
use Rattle.std.proofs.lemmas.List.Sums.{sum_by-cons}
use Rattle.hc_records.specs.declared.records.Slave.{Slave}
use Rattle.hc_records.specs.declared.records.Declared.{Declared}
use Rattle.hc_records.specs.Line.{line_from, members_from, present_slaves}
use Rattle.hc_segment.specs.Machines.{fresh_from, has_alias, slaves_before}

abbrev pub slaves_in : Declared → ℕ
slaves_in declared = length declared.group.slaves

few-if : (present : Bool) (slaves : List Slave) → length (cond present slaves []) ≤ length slaves
few-if true slaves = omega arith
few-if false slaves = omega arith

pub present-few : (declared : Declared) → length (present_slaves declared) ≤ slaves_in declared
present-few declared = few-if declared.present declared.group.slaves

pub present-all : (declared : Declared) → declared.present ≡ true → length (present_slaves declared) ≡ slaves_in declared
present-all declared present = ap (λ (b : Bool). length (cond b declared.group.slaves [])) present

before-if : (b : Bool) (here before slaves others : ℕ) → here ≤ slaves → before ≤ others → cond b 0 (here + before) ≤ slaves + others
before-if true here before slaves others few fewer = omega arith
before-if false here before slaves others few fewer = omega arith

pub before-few : (alias : ℕ) (groups : List Declared) → slaves_before alias groups ≤ sum_by slaves_in groups
before-few alias [] = omega arith
before-few alias (declared ∷ groups) =
    let few = before-if (has_alias alias declared) (length (present_slaves declared)) (slaves_before alias groups) (slaves_in declared) (sum_by slaves_in groups) (present-few declared) (before-few alias groups) in
    omega (arith, few, sum_by-cons slaves_in declared groups)

length-members : (slaves : List Slave) (rank : ℕ) → length (members_from rank slaves) ≡ length slaves
length-members [] rank = refl
length-members (slave ∷ slaves) rank = ap suc (length-members slaves _)

pub length-line : (rank : ℕ) (declared : Declared) (groups : List Declared)
    → length (line_from rank (declared ∷ groups)) ≡ length (present_slaves declared) + length (line_from (rank + slaves_in declared) groups)
length-line rank declared groups =
    length-append (members_from rank (present_slaves declared)) (line_from (rank + slaves_in declared) groups)
    ∙ ap (λ (n : ℕ). n + length (line_from (rank + slaves_in declared) groups)) (length-members (present_slaves declared) rank)

-- so many are before a group, and no more than there are
pub before-line : (alias rank : ℕ) (groups : List Declared) → slaves_before alias groups ≤ length (line_from rank groups)
before-line alias rank [] = omega arith
before-line alias rank (declared ∷ groups) =
    let next = rank + slaves_in declared in
    let few = before-if (has_alias alias declared) (length (present_slaves declared)) (slaves_before alias groups) (length (present_slaves declared)) (length (line_from next groups)) (omega arith) (before-line alias next groups) in
    omega (arith, few, length-line rank declared groups)

-- a group that is found
found-if : (b : Bool) (declared found : Declared) (others : Option Declared) (slaves more : ℕ) → cond b (Some declared) others ≡ Some found → slaves_in declared ≤ slaves + more
    → (others ≡ Some found → slaves_in found ≤ more) → slaves_in found ≤ slaves + more
found-if true declared found others slaves more is here after_it = let same : declared ≡ found = cc in subst (λ (d : Declared). slaves_in d ≤ slaves + more) same here
found-if false declared found others slaves more is here after_it = let few = after_it is in omega (arith, few)

pub found-few : (alias : ℕ) (groups : List Declared) (found : Declared) → find (has_alias alias) groups ≡ Some found → slaves_in found ≤ sum_by slaves_in groups
found-few alias [] found is = cc
found-few alias (declared ∷ groups) found is =
    let few = found-if (has_alias alias declared) declared found (find (has_alias alias) groups) (slaves_in declared) (sum_by slaves_in groups) is (omega arith) (found-few alias groups found) in
    omega (arith, few, sum_by-cons slaves_in declared groups)

within-if : (b : Bool) (declared found : Declared) (others : Option Declared) (here before after_it : ℕ) → cond b (Some declared) others ≡ Some found → found.present ≡ true → (declared.present ≡ true → here ≡ slaves_in declared)
    → (others ≡ Some found → before + slaves_in found ≤ after_it) → cond b 0 (here + before) + slaves_in found ≤ here + after_it
within-if true declared found others here before after_it is present whole later =
    let same : declared ≡ found = cc in
    let count : here ≡ slaves_in declared = whole (ap (λ (d : Declared). d.present) same ∙ present) in
    omega (arith, count, ap slaves_in same)
within-if false declared found others here before after_it is present whole later = let few = later is in omega (arith, few)

-- a group that is present is in the line whole
pub found-line : (alias rank : ℕ) (groups : List Declared) (found : Declared) → find (has_alias alias) groups ≡ Some found → found.present ≡ true
    → slaves_before alias groups + slaves_in found ≤ length (line_from rank groups)
found-line alias rank [] found is present = cc
found-line alias rank (declared ∷ groups) found is present =
    let next = rank + slaves_in declared in
    let few = within-if (has_alias alias declared) declared found (find (has_alias alias) groups) (length (present_slaves declared)) (slaves_before alias groups) (length (line_from next groups)) is present (present-all declared)
    (λ later. found-line alias next groups found later present) in
    omega (arith, few, length-line rank declared groups)

pub length-fresh : (alias : ℕ) (slaves : List Slave) → length (fresh_from alias slaves) ≡ length slaves
length-fresh alias [] = refl
length-fresh alias (slave ∷ slaves) = ap suc (length-fresh 0 slaves)

-- The group of a declared slave, by the numbers of the groups.
use Rattle.std.proofs.Common.{◌≡◌, ℕ, zero, suc, ◌+◌, ◌-◌, ◌<◌, ◌≤◌, Bool, true, false, List, [], ◌∷◌, length, Some, refl, sym, ap, ◌∙◌, arith, length-append, rules}
use Rattle.std.specs.Prelude.{map, nat_lt, slice_get, sum_by, take}
use Rattle.std.proofs.lemmas.Bool.{ltb-false, ltb-true}
use Rattle.std.proofs.lemmas.List.{length-map}
use Rattle.std.proofs.lemmas.List.Sums.{sum_by-cons}
use Rattle.hc_records.specs.declared.records.Declared.{Declared}
use Rattle.hc_records.specs.declared.records.Slave.{Slave}
use Rattle.hc_records.proofs.lemmas.Lists.{get-back, get-front}
use Rattle.hc_groups.specs.Index.{declared_count, owners_from}
use Rattle.hc_groups.proofs.Summed.{FallsIn}

-- a declared slave and its group, from a number on
pub record IsOwned (first : ℕ) (groups : List Declared) (n group : ℕ) : Type 0 where
  pub index : ℕ
  pub number : group ≡ first + index
  pub offset : ℕ
  pub falls : FallsIn declared_count groups n index offset

numbers : (group : ℕ) (slaves : List Slave) (n own : ℕ) → slice_get (map (λ (slave : Slave). group) slaves) n ≡ Some own → own ≡ group
numbers group [] n own at = cc
numbers group (slave ∷ slaves) zero own at = search rules
numbers group (slave ∷ slaves) (suc n) own at = numbers group slaves n own at

front : (first : ℕ) (declared : Declared) (groups : List Declared) (n group : ℕ) → n < declared_count declared → slice_get (owners_from first (declared ∷ groups)) n ≡ Some group
    → IsOwned first (declared ∷ groups) n group
front first declared groups n group low at =
    let own = map (λ (slave : Slave). first) declared.group.slaves in
    let long = length-map declared.group.slaves (λ (slave : Slave). first) in
    let here : slice_get own n ≡ Some group = sym (get-front own (owners_from (first + 1) groups) n (omega (arith, long, low))) ∙ at in
    let is = numbers first declared.group.slaves n group here in
    record { index = 0; number = omega (arith, is); offset = n; falls = record { x = declared; at = refl; sum = omega arith; low = low } }

after_it : (first : ℕ) (declared : Declared) (groups : List Declared) (n group : ℕ) → declared_count declared ≤ n → IsOwned (first + 1) groups (n - declared_count declared) group
    → IsOwned first (declared ∷ groups) n group
after_it first declared groups n group history own =
    let falls = own.falls in
    let sum = sum_by-cons declared_count declared (take own.index groups) in
    let before = falls.sum in
    let is = own.number in
    record { index = suc own.index; number = omega (arith, is); offset = own.offset; falls = record { x = falls.x; at = falls.at; sum = omega (arith, sum, before, history); low = falls.low } }

by-front : (first : ℕ) (declared : Declared) (groups : List Declared) (n group : ℕ) → ((m : ℕ) → slice_get (owners_from (first + 1) groups) m ≡ Some group → IsOwned (first + 1) groups m group)
    → (inside : Bool) → nat_lt n (declared_count declared) ≡ inside → slice_get (owners_from first (declared ∷ groups)) n ≡ Some group → IsOwned first (declared ∷ groups) n group
by-front first declared groups n group rest true is at = front first declared groups n group (ltb-true n (declared_count declared) is) at
by-front first declared groups n group rest false is at =
    let history = ltb-false n (declared_count declared) is in
    let own = map (λ (slave : Slave). first) declared.group.slaves in
    let long = length-map declared.group.slaves (λ (slave : Slave). first) in
    after_it first declared groups n group history
    (rest (n - declared_count declared)
    (ap (slice_get (owners_from (first + 1) groups)) (omega (arith, long)) ∙ sym (get-back own (owners_from (first + 1) groups) n (omega (arith, long, history))) ∙ at))

pub owned : (first : ℕ) (groups : List Declared) (n group : ℕ) → slice_get (owners_from first groups) n ≡ Some group → IsOwned first groups n group
owned first [] n group at = cc
owned first (declared ∷ groups) n group at =
    by-front first declared groups n group (λ m there. owned (first + 1) groups m group there) (nat_lt n (declared_count declared)) refl at

-- past the last there is none

pub owners-length : (first : ℕ) (groups : List Declared) → length (owners_from first groups) ≡ sum_by declared_count groups
owners-length first [] = refl
owners-length first (declared ∷ groups) =
    length-append (map (λ (slave : Slave). first) declared.group.slaves) (owners_from (first + 1) groups)
    ∙ ap (λ (n : ℕ). n + length (owners_from (first + 1) groups)) (length-map declared.group.slaves (λ (slave : Slave). first))
    ∙ ap (λ (n : ℕ). declared_count declared + n) (owners-length (first + 1) groups)
    ∙ sym (sum_by-cons declared_count declared groups)

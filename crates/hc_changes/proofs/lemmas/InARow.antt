-- The slaves that change, by their places in a row.
use Rattle.std.proofs.Common.{◌≡◌, ℕ, zero, suc, ◌+◌, ◌-◌, ◌<◌, ◌≤◌, List, [], ◌∷◌, ◌++◌, Contains, length, arith, rules}
use Rattle.std.specs.Prelude.{slice_index_or}
use Rattle.std.specs.List.{zip}
use Rattle.std.proofs.lemmas.Grind.{common_steps}
use Rattle.hc_records.specs.declared.records.Area.{Area}
use Rattle.hc_cuts.specs.Areas.{areas_of_rank}
use Rattle.hc_changes.proofs.lemmas.Lists.{contains-after_it, contains-first}

-- pairs of two lists as long as one another
pub record IsPairOf {X : Type 0} (none : X) (xs ys : List X) (pair : X × X) : Type 0 where
  pub at : ℕ
  pub within : at < length xs
  pub first : slice_index_or xs at none ≡ pair.0
  pub second : slice_index_or ys at none ≡ pair.1

pub zip-piece : {X : Type 0} (none : X) (xs ys : List X) (pair : X × X) → Contains (zip xs ys) pair → IsPairOf none xs ys pair
zip-piece none [] ys pair (k, within, is) = absurd (omega arith)
zip-piece none (x ∷ xs) [] pair (k, within, is) = absurd (omega arith)
zip-piece none (x ∷ xs) (y ∷ ys) pair (zero, within, is) = search rules
zip-piece none (x ∷ xs) (y ∷ ys) pair (suc k, within, is) =
    let rest = zip-piece none xs ys pair (k, omega arith, is) in
    record { at = suc rest.at; within = let low = rest.within in omega arith; first = rest.first; second = rest.second }

pub contains-pair : {X : Type 0} (none : X) (xs ys : List X) (i : ℕ) → length ys ≡ length xs → i < length xs → Contains (zip xs ys) (slice_index_or xs i none, slice_index_or ys i none)
contains-pair none [] ys i same within = absurd (omega arith)
contains-pair none (x ∷ xs) [] i same within = absurd (omega arith)
contains-pair none (x ∷ xs) (y ∷ ys) zero same within = contains-first (x, y) (zip xs ys)
contains-pair none (x ∷ xs) (y ∷ ys) (suc i) same within = search (rules, contains-after_it, contains-pair none xs ys i (omega arith) (omega arith))

-- the areas in a row are after those in front

index-own : {X : Type 0} (none : X) (own after_it : List X) (i : ℕ) → i < length own → slice_index_or (own ++ after_it) i none ≡ slice_index_or own i none
index-own none own after_it i within = grind (arith, common_steps)

pub index-front : {X : Type 0} (none : X) (front own after_it : List X) (i : ℕ) → i < length own → slice_index_or (front ++ (own ++ after_it)) (length front + i) none ≡ slice_index_or own i none
index-front none [] own after_it i within = search (rules, index-own)
index-front none (y ∷ front) own after_it i within = search (rules, index-front none front own after_it i within)

pub areas-in-row : (all front own after_it : List (List Area)) (i : ℕ) → all ≡ front ++ (own ++ after_it) → i < length own → areas_of_rank all (suc (length front + i)) ≡ slice_index_or own i []
areas-in-row all front own after_it i is within = search (rules, index-front)

pub rank-index : (front count rank : ℕ) → front < rank → rank ≤ front + count → (rank ≡ suc (front + (rank - suc front))) × (rank - suc front < count)
rank-index front count rank above within = (omega arith, omega arith)

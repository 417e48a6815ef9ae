-- Two lists in the order of their numbers, walked at once.
use Rattle.std.specs.Prelude.{ℕ, nat_lt, if◌then◌else◌, List, [], ◌∷◌, ◌++◌, Option}
use Rattle.std.specs.List.{flat_map}
use Rattle.hc_places.specs.Table.{VariableRow}
use Rattle.hc_records.specs.Image.{VariablePlace}
use Rattle.hc_places.specs.Swap.{new_row}

-- the results for an element of one list alone, and for two elements of one number
pub record Gives (X Y Z : Type 0) : Type 0 where
  pub first : ℕ × X → List Z
  pub second : ℕ × Y → List Z
  pub both : ℕ × X → ℕ × Y → List Z

-- the elements up to one of the second list, then that one, then the rest
abbrev pub walked_past : {X Y Z : Type 0} → Gives X Y Z → ℕ × Y → (List (ℕ × X) → List Z) → List (ℕ × X) → List Z
walked_past gives second rest [] = gives.second second ++ rest []
walked_past gives second rest (first ∷ firsts) =
    if nat_lt first.0 second.0 then gives.first first ++ walked_past gives second rest firsts
    else if nat_lt second.0 first.0 then gives.second second ++ rest (first ∷ firsts)
    else gives.both first second ++ rest firsts

-- the results of two lists in the order of their numbers, walked at once: for each element alone if its number is in one list
-- only, otherwise for the two elements of one number together
abbrev pub walked : {X Y Z : Type 0} → Gives X Y Z → List (ℕ × Y) → List (ℕ × X) → List Z
walked gives [] firsts = flat_map gives.first firsts
walked gives (second ∷ seconds) firsts = walked_past gives second (λ left. walked gives seconds left) firsts

-- a changed variable has its new row, and any other row stays
abbrev pub merges : Gives (Option VariablePlace) VariablePlace VariableRow
merges = record {
  first = new_row;
  second = λ row. row ∷ [];
  both = λ changed row. new_row changed;
}

-- Rows of widths as areas of one direction, in key order, each with its width, which may be 0.
use Rattle.std.specs.Prelude.{◌≡◌, ℕ, zero, suc, ◌+◌, ◌*◌, ◌^◌, ◌≤◌, All, replicate, List, [], ◌∷◌, ◌++◌, length, get_or}
use Rattle.hc_records.specs.declared.limits.TheConstants.{MOST_AREA_BITS}
use Rattle.hc_records.specs.declared.records.Dir.{Dir}
use Rattle.hc_records.specs.TaskList.{Keyed}
use Rattle.hc_bitsum.specs.Slots.{Slots, key_at}

-- 8 widths of at most 11,888 bits
pub record IsRow (row : List ℕ) : Type 0 where
  pub many : length row ≡ 8
  pub narrow : All (λ bits. bits ≤ MOST_AREA_BITS) row

-- the areas of a row, the first of them at a place
abbrev pub row_areas : Dir → ℕ → List ℕ → List Keyed
row_areas dir place [] = []
row_areas dir place (bits ∷ row) = (key_at dir place, bits) ∷ row_areas dir (place + 1) row

-- the areas of so many rows, from one of them on
abbrev pub part : Dir → List (List ℕ) → ℕ → ℕ → List Keyed
part dir rows first zero = []
part dir rows first (suc more) = row_areas dir (8 * first) (get_or rows first []) ++ part dir rows (first + 1) more

-- 2 ^ levels rows of areas of no bits
abbrev pub blank_slots : Dir → ℕ → Slots
blank_slots dir levels = record { height = levels + 3; areas = part dir (replicate (2 ^ levels) (replicate 8 0)) 0 (2 ^ levels) }

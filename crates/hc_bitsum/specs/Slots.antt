-- The model of a part of a tree: areas of one direction, in key order, each with its width, which may be 0.
use Rattle.std.specs.Prelude.{◌≡◌, ℕ, zero, suc, ◌+◌, ◌-◌, ◌/◌, ◌%◌, ◌^◌, ◌≤◌, List, [], ◌∷◌, All, drop, length, take}
use Rattle.hc_records.specs.declared.limits.TheConstants.{MOST_AREA_BITS}
use Rattle.hc_records.specs.declared.records.Dir.{Dir}
use Rattle.hc_records.specs.declared.keys.Key.{Key}
use Rattle.hc_records.specs.Lists.{changed_at}
use Rattle.hc_records.specs.TaskList.{Keyed}

-- areas, as many as the height says
pub record Slots : Type 0 where
  pub height : ℕ
  pub areas : List Keyed

-- the width of an area is at most 11,888 bits; it may be 0
abbrev pub IsNarrow : Keyed → Type 0
IsNarrow area = area.1 ≤ MOST_AREA_BITS

-- 2 ^ height areas of at most 11,888 bits
pub record IsShaped (slots : Slots) : Type 0 where
  pub many : length slots.areas ≡ 2 ^ slots.height
  pub low : slots.height ≤ 15
  pub narrow : All IsNarrow slots.areas

-- areas with the width of the one at a place set
abbrev pub set_at : ℕ → ℕ → List Keyed → List Keyed
set_at at bits areas = changed_at at (λ area. (area.0, bits)) areas

-- the slots with the width of the area at a place set (`set_at`), and the same height
abbrev pub with_bits : Slots → ℕ → ℕ → Slots
with_bits slots at bits = record { height = slots.height; areas = set_at at bits slots.areas }

-- the width of the area at a place
abbrev pub bits_at : ℕ → List Keyed → ℕ
bits_at at [] = 0
bits_at zero (area ∷ areas) = area.1
bits_at (suc at) (area ∷ areas) = bits_at at areas

-- the key at a place of a direction: 8 areas for each slave
abbrev pub key_at : Dir → ℕ → Key
key_at dir place = record { dir = dir; rank = place / 8 + 1; area = place % 8 }

-- the areas from one place up to another
abbrev pub stretch : ℕ → ℕ → List Keyed → List Keyed
stretch first end areas = take (end - first) (drop first areas)

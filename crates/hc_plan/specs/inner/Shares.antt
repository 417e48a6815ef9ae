-- The share of a slave in the working counter of a datagram, by the places that a layout has for its areas.
use Rattle.std.specs.Prelude.{ℕ, ◌+◌, ◌==◌, ◌&&◌, if◌then◌else◌, Bool, false, List}
use Rattle.std.specs.Option.{option_map_or}
use Rattle.std.specs.List.{enumerate_from, list_any}
use Rattle.hc_records.specs.declared.keys.Key.{Key}
use Rattle.hc_records.specs.declared.records.Area.{Area}
use Rattle.hc_records.specs.declared.records.Dir.{Dir}
use Rattle.hc_records.specs.declared.records.Dir.TheVariants.{Out, In}
use Rattle.hc_records.specs.Keys.{same_dir}
use Rattle.hc_records.specs.Packing.{Placed}
use Rattle.hc_places.specs.Layout.{placed_in}

-- the area with a key lies in a datagram, which is named by its task and its number in the task
abbrev pub area_lies_in : List (List Placed) → ℕ × ℕ → Key → Bool
area_lies_in layout named key = option_map_or (λ placed. placed.datagram == named.1) (placed_in layout named.0 key) false

-- an area, which comes with its index, of a slave with a rank has a direction and lies in a datagram
abbrev pub is_area_in : List (List Placed) → ℕ × ℕ → Dir → ℕ → ℕ × Area → Bool
is_area_in layout named dir rank e =
    (e.1.task == named.0) && same_dir e.1.dir dir && area_lies_in layout named (record { dir = dir; rank = rank; area = e.0 })

-- the number that a slave with a rank and these areas adds to the counter of a datagram
abbrev pub share_in : List (List Placed) → ℕ × ℕ → ℕ → List Area → ℕ
share_in layout named rank areas =
    (if list_any (is_area_in layout named Out rank) (enumerate_from 0 areas) then 2 else 0)
    + (if list_any (is_area_in layout named In rank) (enumerate_from 0 areas) then 1 else 0)

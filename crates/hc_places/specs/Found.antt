-- The variables of a task by the places of its areas, whose records are found under their keys.
use Rattle.std.specs.Prelude.{ℕ, ◌≡◌, List, [], Some}
use Rattle.std.specs.Option.{option_map_or}
use Rattle.hc_records.specs.declared.records.Area.{Area}
use Rattle.hc_records.specs.Area.{width}
use Rattle.hc_records.specs.Packing.{Placed}
use Rattle.hc_records.specs.Image.{area_variables}
use Rattle.hc_places.specs.Ranges.{OffersBits}
use Rattle.hc_places.specs.Table.{VariableRow}
use Rattle.hc_cuts.specs.Areas.{area_in}

-- the variables of an area that is at a place in a task, with their places
abbrev pub area_rows : ℕ → Area → Placed → List VariableRow
area_rows task area placed = area_variables task (record { key = placed.key; area = area }, placed)

-- the variables of the area at a place
abbrev pub found_variables : ℕ → List (List Area) → Placed → List VariableRow
found_variables task slaves placed = option_map_or (λ area. area_rows task area placed) (area_in slaves placed.key) []

-- the area that is found under a place's key has the place's bits, and its entries have 1 to 64
pub record SuitsPlace (placed : Placed) (area : Area) : Type 0 where
  pub bits : placed.bits ≡ width area
  pub offers : OffersBits area

-- the area that a place's key names among the slaves' areas, if there is one, suits the place (`SuitsPlace`)
abbrev pub IsFoundSuiting : List (List Area) → Placed → Type 0
IsFoundSuiting slaves placed = (area : Area) → area_in slaves placed.key ≡ Some area → SuitsPlace placed area

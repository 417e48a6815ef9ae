-- A place has the width of its area beside it; an area without a place has 0 bits.
use Rattle.std.proofs.Common.{◌≡◌, Bool, true, false, List, [], ◌∷◌, refl, ap, ◌∙◌, cond, rules}
use Rattle.std.specs.Prelude.{Option, Some, find, map}
use Rattle.std.specs.Option.{option_map_or}
use Rattle.std.proofs.lemmas.Bool.{eq-eqb}
use Rattle.hc_records.specs.declared.records.Area.{Area}
use Rattle.hc_records.specs.declared.records.Declared.{Declared}
use Rattle.hc_records.specs.declared.keys.Key.{Key}
use Rattle.hc_records.specs.Area.{width}
use Rattle.hc_records.specs.Boundaries.{width_in}
use Rattle.hc_records.specs.Keys.{same_key}
use Rattle.hc_records.specs.Line.{line_from}
use Rattle.hc_records.specs.TaskList.{Keyed, task_list}
use Rattle.hc_records.specs.Packing.{Placed, empty_front, packed}
use Rattle.hc_records.proofs.lemmas.KeyOrder.{same_dir-refl}
use Rattle.hc_records.proofs.lemmas.Packed.{area_of, packed-areas}
use Rattle.hc_cuts.specs.Place.{place_of as place_by}
use Rattle.hc_cuts.specs.Areas.{own_width}
use Rattle.hc_cuts.proofs.lemmas.AnswerGiven.{width-answer_given}
use Rattle.hc_changes.specs.MaybeMovedAreas.{LineArea, line_area_key, line_area_place}
use Rattle.hc_changes.specs.Moved.{placed_bits}
use Rattle.hc_changes.proofs.lemmas.ByRank.{area-named}
use Rattle.hc_changes.proofs.lemmas.Others.{IsAreaOf}

-- the width of a key in a list is that beside its place

bits-by : (same : Bool) (placed : Placed) (places : Option Placed) (areas : Option Keyed) → placed_bits places ≡ option_map_or (λ area. area.1) areas 0
    → placed_bits (cond same (Some placed) places) ≡ option_map_or (λ area. area.1) (cond same (Some (area_of placed)) areas) 0
bits-by true placed places areas same = refl
bits-by false placed places areas same = same

bits-beside : (places : List Placed) (key : Key) → placed_bits (find (λ placed. same_key placed.key key) places) ≡ width_in (map area_of places) key
bits-beside [] key = refl
bits-beside (placed ∷ places) key = search (rules, bits-by, bits-beside places key)

pub bits-packed : (list : List Keyed) (key : Key) → placed_bits (place_by key list) ≡ width_in list key
bits-packed list key = bits-beside (packed empty_front list) key ∙ ap (λ (areas : List Keyed). width_in areas key) (packed-areas empty_front list)

-- so an area of the line has its own

own-width : (area : Area) → own_width area.task area.dir (Some area) ≡ width area
own-width area = search (rules, eq-eqb, same_dir-refl)

pub placed-width : (groups : List Declared) (found : LineArea) → IsAreaOf (line_from 1 groups) found → placed_bits (line_area_place (line_from 1 groups) found) ≡ width found.area
placed-width groups found of =
    let task = found.area.task in
    bits-packed (task_list task (line_from 1 groups)) (line_area_key found)
    ∙ width-answer_given groups task (line_area_key found)
    ∙ ap (own_width task found.area.dir) (area-named groups found of)
    ∙ own-width found.area

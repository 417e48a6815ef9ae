-- A boundary inside a list is the key of an area of the list, which has a width.
use Rattle.std.proofs.Common.{◌≡◌, ◌<◌, zero, suc, Bool, true, false, List, [], ◌∷◌, refl, sym, ap, subst, ◌∙◌, arith, if◌then◌else◌}
use Rattle.std.specs.Prelude.{All, Contains}
use Rattle.std.proofs.lemmas.List.Elements.{All-head, All-tail}
use Rattle.hc_records.specs.declared.keys.Key.{Key}
use Rattle.hc_records.specs.Keys.{same_key}
use Rattle.hc_records.specs.TaskList.{Keyed}
use Rattle.hc_records.specs.Packing.{Front, empty_front, fits, placed_at, front_with}
use Rattle.hc_records.specs.Boundaries.{later_keys, width_in}
use Rattle.hc_records.specs.Laws.{IsPackable, cuts_from}
use Rattle.hc_records.proofs.lemmas.KeyOrder.{same_key-refl}
use Rattle.hc_records.proofs.lemmas.Cuts.{later_keys-cuts}

-- the area's own width where it has the key, else the width among the areas after it
width_in-cons : (same : Bool) (area : Keyed) (areas : List Keyed) (key : Key) → same_key area.0 key ≡ same → 0 < area.1 →
    (same_key area.0 key ≡ false → 0 < width_in areas key) → 0 < width_in (area ∷ areas) key
width_in-cons true area areas key test some later = rw test some
width_in-cons false area areas key test some later = rw test (later test)

-- a key other than an area's is cut at a later area
later-cut : (fitting : Bool) (first : Key) (keys : List Key) (key : Key) → same_key first key ≡ false → Contains (if fitting then keys else first ∷ keys) key → Contains keys key
later-cut true first keys key other (index, within, found) = (index, within, found)
later-cut false first keys key other (zero, within, found) =
    let same : same_key first key ≡ true = ap (λ (k : Key). same_key first k) (sym found) ∙ same_key-refl first in
    cc
later-cut false first keys key other (suc index, within, found) = (index, omega arith, found)

cut-width : (front : Front) (list : List Keyed) (key : Key) → All IsPackable list → Contains (cuts_from front list) key → 0 < width_in list key
cut-width front [] key all (index, within, found) = absurd (omega arith)
cut-width front (area ∷ areas) key all contains =
    let front' = front_with (placed_at front area) in
    width_in-cons (same_key area.0 key) area areas key refl (All-head IsPackable area areas all).some
    (λ other. cut-width front' areas key (All-tail IsPackable area areas all) (later-cut (fits front area) area.0 (cuts_from front' areas) key other contains))

pub later_key-width : (list : List Keyed) (key : Key) → All IsPackable list → Contains (later_keys list) key → 0 < width_in list key
later_key-width list key all contains =
    cut-width empty_front list key all (subst (λ (keys : List Key). Contains keys key) (later_keys-cuts list all) contains)

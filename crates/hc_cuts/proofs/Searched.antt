-- A search in a tree of sums finds packing's next boundary.
use Rattle.std.specs.Prelude.{All, slice_index_or}
use Rattle.std.proofs.Common.{◌≡◌, ℕ, ◌+◌, nat_le, Bool, List, [], ◌∷◌, refl, sym, ap, ◌∙◌, arith, if◌then◌else◌}
use Rattle.std.proofs.lemmas.Bool.Decides.{nat_tests}
use Rattle.std.proofs.lemmas.List.Elements.{All-head, All-tail}
use Rattle.hc_records.specs.declared.limits.TheConstants.{MOST_AREA_BITS}
use Rattle.hc_records.specs.declared.records.Dir.{Dir}
use Rattle.hc_records.specs.declared.records.Dir.TheVariants.{Out, In}
use Rattle.hc_records.specs.declared.keys.Key.{Key}
use Rattle.hc_records.specs.declared.keys.TheConstants.Key.{END}
use Rattle.hc_records.specs.TaskList.{Keyed}
use Rattle.hc_records.specs.Packing.{Front, empty_front, beginning, fits, placed_at, front_with}
use Rattle.hc_records.specs.Laws.{IsPackable, cuts_from}
use Rattle.hc_records.specs.SpanLaws.{IsTaskList, areas_from, next_cut}
use Rattle.hc_records.proofs.lemmas.Cuts.{later_keys-cuts}
use Rattle.hc_records.proofs.lemmas.SpanCuts.{areas-from}
use Rattle.hc_bitsum.specs.declared.filled.Filled.{Filled}
use Rattle.hc_bitsum.specs.Search.{datagram_begun, first_beyond}
use Rattle.hc_cuts.specs.Starts.{next_boundary}

-- the first of the cuts is the next one

first-by : (fitting : Bool) (key : Key) (cuts : List Key) (next : Key) → slice_index_or cuts 0 END ≡ next
    → slice_index_or (if fitting then cuts else key ∷ cuts) 0 END ≡ (if fitting then next else key)
first-by fitting key cuts next same = grind arith

cuts-next : (front : Front) (list : List Keyed) → slice_index_or (cuts_from front list) 0 END ≡ next_cut front list
cuts-next front [] = refl
cuts-next front (area ∷ areas) =
    let front' = front_with (placed_at front area) in
    first-by (fits front area) area.0 (cuts_from front' areas) (next_cut front' areas) (cuts-next front' areas)

pub boundary-cut : (from : Key) (list : List Keyed) → IsTaskList list → next_boundary from list ≡ next_cut empty_front (areas_from from list)
boundary-cut from list is =
    ap (λ (keys : List Key). slice_index_or keys 0 END) (later_keys-cuts (areas_from from list) (areas-from from list is).packable)
    ∙ cuts-next empty_front (areas_from from list)

-- a datagram with a number, filled so far
abbrev numbered : ℕ → Filled → Front
numbered datagram filled = record { datagram = datagram; bit = filled.bit; last = filled.last }

-- how far it is filled once an area with a width is in it
abbrev filled_by : ℕ → Filled → Keyed → Filled
filled_by datagram filled area = record { bit = beginning (numbered datagram filled) area + area.1; last = area.0.dir }

-- over areas with a width a search goes as packing does
beyond-cut : (datagram : ℕ) (filled : Filled) (list : List Keyed) → All IsPackable list
    → first_beyond MOST_AREA_BITS filled list ≡ next_cut (numbered datagram filled) list
beyond-cut datagram filled [] all = refl
beyond-cut datagram filled (area ∷ areas) all =
    grind (arith, All-head, nat_tests, All-tail, beyond-cut datagram (filled_by datagram filled area) areas (All-tail IsPackable area areas all))

-- nothing is before bit 0 of a datagram, so the direction before it decides nothing

abbrev fresh : Dir → Front
fresh last = record { datagram = 0; bit = 0; last = last }

fresh-beginning : (last : Dir) (area : Keyed) → beginning (fresh last) area ≡ 0
fresh-beginning last area = grind (arith, nat_le)

-- the next cut where the first area begins at a bit
abbrev cut_begun : ℕ → Keyed → List Keyed → Key
cut_begun bit area areas =
    if nat_le (bit + area.1) MOST_AREA_BITS
    then next_cut (front_with (if nat_le (bit + area.1) MOST_AREA_BITS
    then record { key = area.0; bits = area.1; datagram = 0; bit = bit }
    else record { key = area.0; bits = area.1; datagram = 0 + 1; bit = 0 })) areas
    else area.0

fresh-cut : (last : Dir) (list : List Keyed) → next_cut (fresh last) list ≡ next_cut empty_front list
fresh-cut last [] = refl
fresh-cut last (area ∷ areas) = ap (λ (bit : ℕ). cut_begun bit area areas) (fresh-beginning last area ∙ sym (fresh-beginning Out area))

-- so the first area without room is the next boundary
pub searched-boundary : (from : Key) (list : List Keyed) → IsTaskList list → first_beyond MOST_AREA_BITS (datagram_begun 0) (areas_from from list) ≡ next_boundary from list
searched-boundary from list is =
    beyond-cut 0 (datagram_begun 0) (areas_from from list) (areas-from from list is).packable
    ∙ fresh-cut In (areas_from from list)
    ∙ sym (boundary-cut from list is)

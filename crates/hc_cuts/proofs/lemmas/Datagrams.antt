-- What a datagram of a task carries: the areas of the span with its number, each at its bit.
use Rattle.std.specs.Prelude.{All, map, slice_get}
use Rattle.std.proofs.Common.{◌≡◌, ℕ, ◌+◌, ◌≤◌, ◌==◌, Bool, false, List, [], ◌∷◌, Some, Contains, refl, sym, ap, ◌∙◌, arith, if◌then◌else◌}
use Rattle.std.proofs.lemmas.Bool.{eqb-true, ne_eqb}
use Rattle.std.proofs.lemmas.List.Elements.{All-head, All-nil, All-tail, All-weaker, filter_passes}
use Rattle.std.proofs.lemmas.Option.{get_or_from_slice_get, slice_get_within}
use Rattle.hc_records.specs.declared.records.Dir.{Dir}
use Rattle.hc_records.specs.declared.records.Dir.TheVariants.{Out}
use Rattle.hc_records.specs.declared.keys.Key.{Key}
use Rattle.hc_records.specs.TaskList.{Keyed}
use Rattle.hc_records.specs.Packing.{Front, Placed, front_with, fits, empty_front, packed}
use Rattle.hc_records.specs.Image.{datagram_count, inside}
use Rattle.hc_records.specs.Boundaries.{Interval, boundaries, spans}
use Rattle.hc_records.specs.SpanLaws.{IsTaskList, areas_from, places_in_span, seen_area}
use Rattle.hc_records.proofs.lemmas.Greatest.{greatest-all}
use Rattle.hc_records.proofs.lemmas.Packed.{place}
use Rattle.hc_records.proofs.lemmas.SpanCuts.{span-alone}
use Rattle.hc_records.proofs.lemmas.SpanDatagrams.{span-datagram}
use Rattle.hc_records.proofs.lemmas.Spans.{filter-drops}
use Rattle.hc_cuts.specs.Walk.{span_places}

-- an element that is at an index is contained
pub at-contained : {X : Type 0} (xs : List X) (i : ℕ) (x : X) → slice_get xs i ≡ Some x → Contains xs x
at-contained xs i x is = (i, slice_get_within xs i x is, get_or_from_slice_get xs i x x is)

-- areas of one datagram are given by what is seen of them

abbrev pub unseen : ℕ → Key × (ℕ × ℕ) → Placed
unseen datagram seen = record { key = seen.0; bits = seen.1.0; datagram = datagram; bit = seen.1.1 }

pub shown : (datagram : ℕ) (areas : List Placed) → All (λ area. area.datagram ≡ datagram) areas → map (unseen datagram) (map seen_area areas) ≡ areas
shown datagram [] all = refl
shown datagram (area ∷ areas) all =
    grind (arith, All-head, All-tail, shown datagram areas (All-tail (λ a. a.datagram ≡ datagram) area areas all))

pub inside-numbered : (datagram : ℕ) (areas : List Placed) → All (λ area. area.datagram ≡ datagram) (inside datagram areas)
inside-numbered datagram areas k d within =
    eqb-true _ datagram (filter_passes (λ (area : Placed). area.datagram == datagram) areas k d within)

-- no area lies in a datagram after the last one
pub inside-none : (number : ℕ) (areas : List Placed) → datagram_count areas ≤ number → inside number areas ≡ []
inside-none number areas few =
    filter-drops (λ area. area.datagram == number) areas
    (All-weaker (λ area. area.datagram + 1 ≤ datagram_count areas) (λ area. (area.datagram == number) ≡ false)
    (λ area low. ne_eqb area.datagram number (λ same. omega arith)) areas (greatest-all (λ area. area.datagram + 1) 0 areas))

-- what is carried has the number of the datagram that is being filled, and is seen alike whatever that number

abbrev pub front_of : ℕ → ℕ → Dir → Front
front_of datagram bit last = record { datagram = datagram; bit = bit; last = last }

numbered-by : (fitting : Bool) (n bit : ℕ) (last : Dir) (area : Keyed) (areas : List Keyed)
    → ((to : ℕ) (dir : Dir) → All (λ placed. placed.datagram ≡ n) (places_in_span (front_of n to dir) areas))
    → All (λ placed. placed.datagram ≡ n) (if fitting then place fitting (front_of n bit last) area ∷ places_in_span (front_with (place fitting (front_of n bit last) area)) areas else [])
numbered-by fitting n bit last area areas rest = grind arith

carried-numbered : (n bit : ℕ) (last : Dir) (list : List Keyed) → All (λ placed. placed.datagram ≡ n) (places_in_span (front_of n bit last) list)
carried-numbered n bit last [] = All-nil (λ placed. placed.datagram ≡ n)
carried-numbered n bit last (area ∷ areas) =
    numbered-by (fits (front_of n bit last) area) n bit last area areas (λ to dir. carried-numbered n to dir areas)

abbrev seen : List Placed → List (Key × (ℕ × ℕ))
seen areas = map seen_area areas

seen-by : (fitting : Bool) (n m bit : ℕ) (last : Dir) (area : Keyed) (areas : List Keyed)
    → ((to : ℕ) (dir : Dir) → seen (places_in_span (front_of n to dir) areas) ≡ seen (places_in_span (front_of m to dir) areas))
    → seen (if fitting then place fitting (front_of n bit last) area ∷ places_in_span (front_with (place fitting (front_of n bit last) area)) areas else [])
    ≡ seen (if fitting then place fitting (front_of m bit last) area ∷ places_in_span (front_with (place fitting (front_of m bit last) area)) areas else [])
seen-by fitting n m bit last area areas rest = grind arith

carried-seen : (n m bit : ℕ) (last : Dir) (list : List Keyed) → seen (places_in_span (front_of n bit last) list) ≡ seen (places_in_span (front_of m bit last) list)
carried-seen n m bit last [] = refl
carried-seen n m bit last (area ∷ areas) =
    seen-by (fits (front_of n bit last) area) n m bit last area areas (λ to dir. carried-seen n m to dir areas)

-- the places of the span with a number are those inside the datagram with that number
pub span-inside : (list : List Keyed) (number : ℕ) (span : Interval) → IsTaskList list → slice_get (spans (boundaries list)) number ≡ Some span
    → span_places number span.0 list ≡ inside number (packed empty_front list)
span-inside list number span is numbered =
    let alone = span-alone list span is (at-contained (spans (boundaries list)) number span numbered) in
    let own = areas_from span.0 list in
    let alike : seen (span_places number span.0 list) ≡ seen (inside number (packed empty_front list)) =
    carried-seen number 0 0 Out own ∙ sym alone.areas ∙ sym (ap (λ (areas : List Placed). seen areas) (span-datagram list number span is numbered)) in
    sym (shown number (span_places number span.0 list) (carried-numbered number 0 Out own))
    ∙ ap (map (unseen number)) alike
    ∙ shown number (inside number (packed empty_front list)) (inside-numbered number (packed empty_front list))

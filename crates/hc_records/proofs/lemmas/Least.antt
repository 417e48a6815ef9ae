-- No cut of a list in its order into parts that fit a datagram each has fewer parts.
use Rattle.std.proofs.Common.{◌≡◌, ℕ, ◌+◌, ◌≤◌, ◌⊎◌, inl, inr, suc, Bool, true, false, List, [], ◌∷◌, ◌++◌, length, refl, ap, arith, if◌then◌else◌}
use Rattle.std.specs.Prelude.{All, nat_le, ◌||◌}
use Rattle.std.specs.List.{flat_map}
use Rattle.std.proofs.lemmas.Bool.{leb-true, le-leb}
use Rattle.std.proofs.lemmas.List.Elements.{All-head, All-tail}
use Rattle.hc_records.specs.declared.limits.TheConstants.{MOST_AREA_BITS}
use Rattle.hc_records.specs.declared.keys.Key.{Key}
use Rattle.hc_records.specs.Keys.{is_turn}
use Rattle.hc_records.specs.TaskList.{Keyed}
use Rattle.hc_records.specs.Packing.{Front, empty_front, next_byte, beginning, fits, placed_at, front_with, packed}
use Rattle.hc_records.specs.Image.{datagram_count}
use Rattle.hc_records.specs.Laws.{FitsOneDatagram, front_after, cuts_from}
use Rattle.hc_records.proofs.lemmas.Packed.{place}
use Rattle.hc_records.proofs.lemmas.Cuts.{count-cuts}

-- how many more datagrams begin
abbrev cut_count : Front → List Keyed → ℕ
cut_count front list = length (cuts_from front list)

-- one front is no further than another, whatever comes next
record IsBelow (low high : Front) : Type 0 where
  pub bit : low.bit ≤ high.bit
  pub last : (low.last ≡ high.last) ⊎ (low.bit ≡ 0)

begins_below : (low_turns high_turns wide : Bool) (low high : ℕ) → low ≤ high → (low_turns ≡ high_turns) ⊎ (low ≡ 0) →
    (if wide || low_turns then next_byte low else low) ≤ (if wide || high_turns then next_byte high else high)
begins_below low_turns high_turns true low high less turns = omega arith
begins_below true true false low high less turns = omega arith
begins_below true false false low high less (inl turns) = cc
begins_below true false false low high less (inr turns) = omega arith
begins_below false true false low high less turns = omega arith
begins_below false false false low high less turns = less

beginning-below : (low high : Front) (area : Keyed) → IsBelow low high → beginning low area ≤ beginning high area
beginning-below low high area below =
    begins_below (is_turn low.last area.0.dir) (is_turn high.last area.0.dir) (nat_le 8 area.1) low.bit high.bit below.bit (turns below.last)
  where
    turns : (low.last ≡ high.last) ⊎ (low.bit ≡ 0) → (is_turn low.last area.0.dir ≡ is_turn high.last area.0.dir) ⊎ (low.bit ≡ 0)
    turns (inl last) = inl (ap (λ dir. is_turn dir area.0.dir) last)
    turns (inr none) = inr none

-- the areas that fit where one front is, and where the other is
fits-below : (low high : Front) (area : Keyed) → IsBelow low high → fits high area ≡ true → fits low area ≡ true
fits-below low high area below fitting =
    let less = beginning-below low high area below in
    let most = leb-true (beginning high area + area.1) MOST_AREA_BITS fitting in
    le-leb (beginning low area + area.1) MOST_AREA_BITS (omega arith)

both-fit : (low high : Front) (area : Keyed) → beginning low area ≤ beginning high area → IsBelow (front_with (place true low area)) (front_with (place true high area))
both-fit low high area less = record { bit = omega arith; last = inl refl }

neither-fits : (low high : Front) (area : Keyed) → IsBelow (front_with (place false low area)) (front_with (place false high area))
neither-fits low high area = record { bit = omega arith; last = inl refl }

one-fits : (low high : Front) (area : Keyed) → IsBelow (front_with (place false low area)) (front_with (place true high area))
one-fits low high area = record { bit = omega arith; last = inl refl }

-- a lower front begins no more datagrams, and any front at most one more than another
record IsFewer (list : List Keyed) : Type 0 where
  pub lower : (low high : Front) → IsBelow low high → cut_count low list ≤ cut_count high list
  pub any : (one other : Front) → cut_count other list ≤ suc (cut_count one list)

-- the datagrams that an area and those after it begin
abbrev with_area : Bool → Front → Keyed → List Keyed → ℕ
with_area fitting front area areas =
    length (if fitting then cuts_from (front_with (place fitting front area)) areas else area.0 ∷ cuts_from (front_with (place fitting front area)) areas)

lower-area : (low_fits high_fits : Bool) (low high : Front) (area : Keyed) (areas : List Keyed) → IsFewer areas → beginning low area ≤ beginning high area →
    (high_fits ≡ true → low_fits ≡ true) → with_area low_fits low area areas ≤ with_area high_fits high area areas
lower-area true true low high area areas fewer less fitting = fewer.lower (front_with (place true low area)) (front_with (place true high area)) (both-fit low high area less)
lower-area true false low high area areas fewer less fitting = fewer.any (front_with (place false high area)) (front_with (place true low area))
lower-area false true low high area areas fewer less fitting = let none : false ≡ true = fitting refl in cc
lower-area false false low high area areas fewer less fitting =
    let rest = fewer.lower (front_with (place false low area)) (front_with (place false high area)) (neither-fits low high area) in
    omega arith

any-area : (one_fits other_fits : Bool) (one other : Front) (area : Keyed) (areas : List Keyed) → IsFewer areas →
    with_area other_fits other area areas ≤ suc (with_area one_fits one area areas)
any-area true true one other area areas fewer = fewer.any (front_with (place true one area)) (front_with (place true other area))
any-area false true one other area areas fewer =
    let rest = fewer.any (front_with (place false one area)) (front_with (place true other area)) in
    omega arith
any-area true false one other area areas fewer =
    let rest = fewer.lower (front_with (place false other area)) (front_with (place true one area)) (one-fits other one area) in
    omega arith
any-area false false one other area areas fewer =
    let rest = fewer.any (front_with (place false one area)) (front_with (place false other area)) in
    omega arith

fewer : (list : List Keyed) → IsFewer list
fewer [] = record { lower = λ low high below. omega arith; any = λ one other. omega arith }
fewer (area ∷ areas) =
    let rest = fewer areas in
    record {
      lower = λ low high below.
          lower-area (fits low area) (fits high area) low high area areas rest (beginning-below low high area below) (fits-below low high area below);
      any = λ one other. any-area (fits one area) (fits other area) one other area areas rest;
    }

count_by-append : (fitting : Bool) (key : Key) (first second both : List Key) (more : ℕ) → length both ≡ length first + more →
    length (if fitting then both else key ∷ both) ≡ length (if fitting then first else key ∷ first) + more
count_by-append true key first second both more same = same
count_by-append false key first second both more same = omega arith

-- a list joined to another begins what both begin
cut_count-append : (front : Front) (first second : List Keyed) → cut_count front (first ++ second) ≡ cut_count front first + cut_count (front_after front first) second
cut_count-append front [] second = omega arith
cut_count-append front (area ∷ first) second =
    let front' = front_with (placed_at front area) in
    count_by-append (fits front area) area.0 (cuts_from front' first) (cuts_from (front_after front' first) second) (cuts_from front' (first ++ second))
    (cut_count (front_after front' first) second) (cut_count-append front' first second)

part-cuts : (part : List Keyed) → FitsOneDatagram part → cut_count empty_front part ≡ 0
part-cuts [] one = refl
part-cuts (area ∷ areas) one = let count = count-cuts area areas in omega arith

-- the parts one after another
abbrev pub joined : List (List Keyed) → List Keyed
joined parts = flat_map (λ part. part) parts

parts-cuts : (part : List Keyed) (parts : List (List Keyed)) → All FitsOneDatagram (part ∷ parts) → cut_count empty_front (joined (part ∷ parts)) ≤ length parts
parts-cuts part [] all =
    let here = part-cuts part (All-head FitsOneDatagram part [] all) in
    let both = cut_count-append empty_front part [] in
    omega arith
parts-cuts part (next ∷ parts) all =
    let here = part-cuts part (All-head FitsOneDatagram part (next ∷ parts) all) in
    let both = cut_count-append empty_front part (joined (next ∷ parts)) in
    let more = (fewer (joined (next ∷ parts))).any empty_front (front_after empty_front part) in
    let rest = parts-cuts next parts (All-tail FitsOneDatagram part (next ∷ parts) all) in
    omega arith

pub packing-least : (list : List Keyed) (parts : List (List Keyed)) → joined parts ≡ list → All FitsOneDatagram parts → datagram_count (packed empty_front list) ≤ length parts
packing-least [] parts same all = omega arith
packing-least (area ∷ areas) [] same all = cc
packing-least (area ∷ areas) (part ∷ parts) same all =
    let count = count-cuts area areas in
    let cuts : cut_count empty_front (joined (part ∷ parts)) ≡ cut_count empty_front (area ∷ areas) = ap (cut_count empty_front) same in
    let few = parts-cuts part parts all in
    omega arith

-- The outputs of a task's image are before its inputs.
use Rattle.std.proofs.Common.{◌≡◌, ℕ, ◌+◌, ◌-◌, ◌*◌, ◌/◌, ◌≤◌, inl, inr, zero, suc, Bool, true, false, List, [], ◌∷◌, ◌++◌, Option, Some, None, get_or, refl, sym, ap, subst, ◌∙◌, arith}
use Rattle.std.specs.Prelude.{All, AllPairs, IsTrue, find, nat_le, ◌==◌, ◌||◌}
use Rattle.std.proofs.lemmas.Bool.{eq-eqb, or_right}
use Rattle.std.proofs.lemmas.List.Elements.{All-nil, All-cons, All-append, All-weaker}
use Rattle.std.specs.Option.{option_map_or}
use Rattle.hc_records.specs.declared.records.Dir.{Dir}
use Rattle.hc_records.specs.declared.records.Dir.TheVariants.{Out, In}
use Rattle.hc_records.specs.declared.keys.Key.{Key}
use Rattle.hc_records.specs.Keys.{same_dir, is_turn, is_before}
use Rattle.hc_records.specs.TaskList.{Keyed}
use Rattle.hc_records.specs.Packing.{Front, Placed, empty_front, fits, placed_at, front_with, packed}
use Rattle.hc_records.specs.Image.{inside, end_of, datagram_count, datagram_length, datagram_offset, first_byte, image_length, output_length}
use Rattle.hc_records.specs.Laws.{LiesBefore, Ascends, area_image_bit, KeepsToItsPart}
use Rattle.hc_records.proofs.lemmas.Lists.{All-from_filter, All-unmap, AllPairs-head, AllPairs-tail, AllPairs-across, AllPairs-append_right}
use Rattle.hc_records.proofs.lemmas.Greatest.{greatest-all}
use Rattle.hc_records.proofs.lemmas.Packed.{place, area_of, packed-areas}
use Rattle.hc_records.proofs.Apart.{packed-apart}
use Rattle.hc_records.proofs.lemmas.Lengths.{bit_after}
use Rattle.hc_records.proofs.lemmas.Spans.{place-key}

-- a later datagram begins after an earlier one
offset-rises : (areas : List Placed) (more datagram : ℕ) → datagram_offset areas datagram ≤ datagram_offset areas (more + datagram)
offset-rises areas zero datagram = let same : 0 + datagram ≡ datagram = omega arith in rw same (omega arith)
offset-rises areas (suc more) datagram =
    let next : suc more + datagram ≡ suc (more + datagram) = omega arith in
    let rest = offset-rises areas more datagram in
    rw next (omega arith)

pub offset-le : (areas : List Placed) (low high : ℕ) → low ≤ high → datagram_offset areas low ≤ datagram_offset areas high
offset-le areas low high less =
    let sum : (high - low) + low ≡ high = omega arith in
    subst (λ datagram. datagram_offset areas low ≤ datagram_offset areas datagram) sum (offset-rises areas (high - low) low)

-- an area of a task ends within its datagram's bytes
abbrev pub EndsInDatagram : List Placed → Placed → Type 0
EndsInDatagram areas area = area.bit + area.bits ≤ 8 * datagram_length areas area.datagram

pub ends-in-datagram : (areas : List Placed) → All (EndsInDatagram areas) areas
ends-in-datagram areas k d within =
    let area = get_or areas k d in
    let number = area.datagram in
    let end = end_of (inside number areas) in
    let here : area.bit + area.bits ≤ end =
    All-from_filter (λ other. bit_after other ≤ end) (λ other. other.datagram == number) areas (greatest-all bit_after 0 (inside number areas)) k d within (eq-eqb number number refl) in
    omega arith

-- an area ends by the bit where a later one begins
abbrev EndsBefore : List Placed → Placed → Placed → Type 0
EndsBefore areas a b = area_image_bit areas a + a.bits ≤ area_image_bit areas b

ends-before : (areas : List Placed) (a b : Placed) → EndsInDatagram areas a → LiesBefore a b → EndsBefore areas a b
ends-before areas a b end (inl less) =
    let next : datagram_offset areas (suc a.datagram) ≤ datagram_offset areas b.datagram = offset-le areas (suc a.datagram) b.datagram (omega arith) in
    omega arith
ends-before areas a b end (inr (same, less)) =
    let offset : datagram_offset areas a.datagram ≡ datagram_offset areas b.datagram = ap (datagram_offset areas) same in
    omega arith

all-end-before : (front : Front) (list : List Keyed) → AllPairs (EndsBefore (packed front list)) (packed front list)
all-end-before front list i j d lower within =
    ends-before (packed front list) (get_or (packed front list) i d) (get_or (packed front list) j d) (ends-in-datagram (packed front list) i d (omega arith)) (packed-apart front list i j d lower within)

abbrev IsOutput : Placed → Type 0
IsOutput area = area.key.dir ≡ Out

abbrev IsInput : Placed → Type 0
IsInput area = area.key.dir ≡ In

-- outputs, and then inputs, which begin with a byte
record IsSplit (areas outputs inputs : List Placed) (first : Placed) : Type 0 where
  pub whole : areas ≡ outputs ++ first ∷ inputs
  pub out : All IsOutput outputs
  pub input : IsInput first
  pub more : All IsInput inputs
  pub byte : 8 * (first.bit / 8) ≡ first.bit

-- the split at the first input, or the outputs where there is none
abbrev Split : List Placed → Option Placed → Type 0
Split areas None = All IsOutput areas
Split areas (Some first) = (outputs : List Placed) × (inputs : List Placed) × IsSplit areas outputs inputs first

abbrev first_input : List Placed → Option Placed
first_input areas = find (λ area. same_dir area.key.dir In) areas

more-outputs : (area : Placed) (rest : List Placed) (found : Option Placed) → IsOutput area → Split rest found → Split (area ∷ rest) found
more-outputs area rest None output split = All-cons IsOutput area rest output split
more-outputs area rest (Some first) output (outputs, inputs, split) = (
  area ∷ outputs,
  inputs,
  record {
    whole = ap (λ areas. area ∷ areas) split.whole;
    out = All-cons IsOutput area outputs output split.out;
    input = split.input;
    more = split.more;
    byte = split.byte;
  },
)

split-area : (dir : Dir) (area : Placed) (rest : List Placed) → area.key.dir ≡ dir → (dir ≡ In → (8 * (area.bit / 8) ≡ area.bit) × All IsInput rest) → (dir ≡ Out → Split rest (first_input rest)) →
    Split (area ∷ rest) (first_input (area ∷ rest))
split-area Out area rest is input output =
    let test : same_dir area.key.dir In ≡ false = ap (λ dir. same_dir dir In) is in
    rw test (more-outputs area rest (first_input rest) is (output refl))
split-area In area rest is input output =
    let test : same_dir area.key.dir In ≡ true = ap (λ dir. same_dir dir In) is in
    let here = input refl in
    let split : IsSplit (area ∷ rest) [] rest area = record { whole = refl; out = All-nil IsOutput; input = is; more = here.1; byte = here.0 } in
    rw test ([], rest, split)

-- what holds of each area's key and width holds of its place's
packed-all : (P : Keyed → Type 0) (front : Front) (list : List Keyed) → All P list → All (λ placed. P (area_of placed)) (packed front list)
packed-all P front list all = All-unmap P area_of (packed front list) (subst (λ areas. All P areas) (sym (packed-areas front list)) all)

-- the first input after outputs begins a byte
input-byte : (fitting : Bool) (front : Front) (area : Keyed) → front.last ≡ Out → area.0.dir ≡ In → 8 * ((place fitting front area).bit / 8) ≡ (place fitting front area).bit
input-byte true front area last input =
    let turn : is_turn front.last area.0.dir ≡ true = ap (λ dir. is_turn dir area.0.dir) last ∙ ap (is_turn Out) input in
    let aligned : (nat_le 8 area.1 || is_turn front.last area.0.dir) ≡ true = or_right (nat_le 8 area.1) (is_turn front.last area.0.dir) turn in
    rw aligned (omega arith)
input-byte false front area last input = refl

-- what comes after an input is an input
after_it-input : (dir : Dir) (a b : Key) → a.dir ≡ In → b.dir ≡ dir → IsTrue (is_before a b) → dir ≡ In
after_it-input Out a b input is before = let none : false ≡ true = sym (rw (input, is) refl) ∙ before in cc
after_it-input In a b input is before = refl

split-packed : (front : Front) (list : List Keyed) → front.last ≡ Out → Ascends list → Split (packed front list) (first_input (packed front list))
split-packed front [] last ascends = All-nil IsOutput
split-packed front (area ∷ areas) last ascends =
    let placed = placed_at front area in
    let rest = packed (front_with placed) areas in
    let key : placed.key ≡ area.0 = place-key (fits front area) front area in
    let dir : placed.key.dir ≡ area.0.dir = ap (λ (k : Key). k.dir) key in
    split-area placed.key.dir placed rest refl
    (λ input.
    let is : area.0.dir ≡ In = sym dir ∙ input in (
      input-byte (fits front area) front area last is,
      packed-all (λ other. other.0.dir ≡ In) (front_with placed) areas
          (All-weaker (λ other. IsTrue (is_before area.0 other.0)) (λ other. other.0.dir ≡ In) (λ other before. after_it-input other.0.dir area.0 other.0 is refl before) areas
          (AllPairs-head (λ a b. IsTrue (is_before a.0 b.0)) area areas ascends)),
    ))
    (λ output. split-packed (front_with placed) areas output (AllPairs-tail (λ a b. IsTrue (is_before a.0 b.0)) area areas ascends))

-- an output that ends by the inputs' first bit, and an input at or after it
output-stays : (areas : List Placed) (area : Placed) → IsOutput area → area_image_bit areas area + area.bits ≤ 8 * output_length areas → KeepsToItsPart areas area
output-stays areas area output end = record { output = λ same. end; input = λ input. (let none : Out ≡ In = sym output ∙ input in cc) }

input-stays : (areas : List Placed) (area : Placed) → IsInput area → 8 * output_length areas ≤ area_image_bit areas area → KeepsToItsPart areas area
input-stays areas area input start = record { output = λ output. (let none : In ≡ Out = sym input ∙ output in cc); input = λ same. start }

-- the outputs alone end within the image
outputs-alone : (areas : List Placed) → output_length areas ≡ image_length areas → All IsOutput areas → All (KeepsToItsPart areas) areas
outputs-alone areas length outputs k d within =
    let area = get_or areas k d in
    let end = ends-in-datagram areas k d within in
    let counted : area.datagram + 1 ≤ datagram_count areas = greatest-all (λ (other : Placed). other.datagram + 1) 0 areas k d within in
    let last : datagram_offset areas (suc area.datagram) ≤ image_length areas = offset-le areas (suc area.datagram) (datagram_count areas) (omega arith) in
    output-stays areas area (outputs k d within) (omega arith)

split-stays : (areas outputs inputs : List Placed) (first : Placed) → output_length areas ≡ first_byte areas first → AllPairs (EndsBefore areas) areas → IsSplit areas outputs inputs first →
    All (KeepsToItsPart areas) areas
split-stays areas outputs inputs first length pairs split =
    let whole : AllPairs (EndsBefore areas) (outputs ++ first ∷ inputs) = subst (λ all. AllPairs (EndsBefore areas) all) split.whole pairs in
    let before = AllPairs-across (EndsBefore areas) outputs first inputs whole in
    let front_with = AllPairs-head (EndsBefore areas) first inputs (AllPairs-append_right (EndsBefore areas) outputs (first ∷ inputs) whole) in
    let byte = split.byte in
    subst (λ all. All (KeepsToItsPart areas) all) (sym split.whole)
    (All-append (KeepsToItsPart areas) outputs (first ∷ inputs)
    (λ k d within. let end = before k d within in output-stays areas (get_or outputs k d) (split.out k d within) (omega arith))
    (All-cons (KeepsToItsPart areas) first inputs (input-stays areas first split.input (omega arith))
    (λ k d within. let start = front_with k d within in input-stays areas (get_or inputs k d) (split.more k d within) (omega arith))))

parts-keep : (areas : List Placed) (found : Option Placed) → first_input areas ≡ found → AllPairs (EndsBefore areas) areas → Split areas found → All (KeepsToItsPart areas) areas
parts-keep areas None is pairs outputs = outputs-alone areas (ap (λ found. option_map_or (first_byte areas) found (image_length areas)) is) outputs
parts-keep areas (Some first) is pairs (outputs, inputs, split) =
    split-stays areas outputs inputs first (ap (λ found. option_map_or (first_byte areas) found (image_length areas)) is) pairs split

pub outputs-first : (list : List Keyed) → Ascends list → All (KeepsToItsPart (packed empty_front list)) (packed empty_front list)
outputs-first list ascends =
    let areas = packed empty_front list in
    parts-keep areas (first_input areas) refl (all-end-before empty_front list) (split-packed empty_front list refl ascends)

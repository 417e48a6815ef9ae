-- The areas with a width of a tree are the list of a task.
use Rattle.std.specs.Prelude.{All, IsTrue, filter}
use Rattle.std.proofs.Common.{◌≡◌, ℕ, ◌+◌, ◌<◌, ◌≤◌, true, List, [], ◌∷◌, ◌++◌, refl, arith}
use Rattle.std.proofs.lemmas.Bool.Decides.{nat_tests}
use Rattle.std.proofs.lemmas.List.Elements.{All-nil, All-cons, All-append, All-weaker}
use Rattle.std.proofs.lemmas.List.Kept.{AllPairs-cons, AllPairs-filter}
use Rattle.hc_records.specs.declared.records.Dir.{Dir}
use Rattle.hc_records.specs.declared.records.Dir.TheVariants.{Out, In}
use Rattle.hc_records.specs.declared.keys.TheConstants.Key.{START, END}
use Rattle.hc_records.specs.Keys.{is_before}
use Rattle.hc_records.specs.Laws.{Ascends, IsPackable}
use Rattle.hc_records.specs.TaskList.{Keyed}
use Rattle.hc_records.proofs.lemmas.Lists.{All-passing, AllPairs-append, AllPairs-nil}
use Rattle.hc_records.proofs.lemmas.Ascending.{before-end}
use Rattle.hc_bitsum.specs.Slots.{IsNarrow, Slots, key_at}
use Rattle.hc_bitsum.specs.Tree.{HasPlace, HoldsTaskList, has_width}
use Rattle.hc_bitsum.specs.Places.{IsOfSlave, KeepsSlaves, AreFrom}
use Rattle.hc_bitsum.proofs.Listed.{before-place}
use Rattle.hc_bitsum.proofs.Shape.{few}

-- one area comes before another
abbrev Precedes : Keyed → Keyed → Type 0
Precedes a b = IsTrue (is_before a.0 b.0)

-- areas that are after a place come after its key
all-after_it : (dir : Dir) (place after_it : ℕ) (areas : List Keyed) → AreFrom dir after_it areas → place < after_it → All (λ area. IsTrue (is_before (key_at dir place) area.0)) areas
all-after_it dir place after_it [] are_placed h = All-nil (λ area. IsTrue (is_before (key_at dir place) area.0))
all-after_it dir place after_it (area ∷ areas) are_placed h =
    grind (arith, All-cons, before-place, all-after_it dir place (after_it + 1) areas are_placed.1 (omega arith))

direction-ascends : (dir : Dir) (place : ℕ) (areas : List Keyed) → AreFrom dir place areas → Ascends areas
direction-ascends dir place [] are_placed = AllPairs-nil Precedes
direction-ascends dir place (area ∷ areas) are_placed =
    AllPairs-cons Precedes area areas (rw are_placed.0 (all-after_it dir place (place + 1) areas are_placed.1 (omega arith)))
    (direction-ascends dir (place + 1) areas are_placed.1)

-- an output comes before each input
inputs-after_it : (output : Keyed) (key : ℕ) (place : ℕ) (inputs : List Keyed) → output.0 ≡ key_at Out key → AreFrom In place inputs → All (Precedes output) inputs
inputs-after_it output key place [] is are_placed = All-nil (Precedes output)
inputs-after_it output key place (input ∷ inputs) is are_placed =
    All-cons (Precedes output) input inputs (rw (is, are_placed.0) refl) (inputs-after_it output key (place + 1) inputs is are_placed.1)

outputs-first : (place : ℕ) (outputs inputs : List Keyed) → AreFrom Out place outputs → AreFrom In 0 inputs → All (λ output. All (Precedes output) inputs) outputs
outputs-first place [] inputs out into = All-nil (λ output. All (Precedes output) inputs)
outputs-first place (output ∷ outputs) inputs out into =
    All-cons (λ other. All (Precedes other) inputs) output outputs (inputs-after_it output place 0 inputs out.0 into) (outputs-first (place + 1) outputs inputs out.1 into)

-- a key with a place lies between START and END

above-start : (dir : Dir) (rank area : ℕ) → 1 ≤ rank → IsTrue (is_before START (record { dir = dir; rank = rank; area = area }))
above-start dir rank area some = grind arith

-- an area with a width is packable
wide-packable : (areas : List Keyed) → All IsNarrow areas → All IsPackable (filter has_width areas)
wide-packable areas narrow =
    All-passing IsPackable has_width areas
    (All-weaker IsNarrow (λ area. has_width area ≡ true → IsPackable area) (λ area low wide. record { some = grind (arith, nat_tests); narrow = low }) areas narrow)

pub holds-list : (slaves : ℕ) (outputs inputs : Slots) → KeepsSlaves Out slaves outputs → KeepsSlaves In slaves inputs
    → HoldsTaskList (record { slaves = slaves; list = filter has_width (outputs.areas ++ inputs.areas) })
holds-list slaves outputs inputs out into =
    let all = outputs.areas ++ inputs.areas in
    let many = few outputs out.shape in
    let places = All-passing (λ area. HasPlace slaves area.0) has_width all (All-append (IsOfSlave slaves) outputs.areas inputs.areas out.places into.places) in
    record {
      list = record {
        packable = wide-packable all (All-append IsNarrow outputs.areas inputs.areas out.shape.narrow into.shape.narrow);
        ascends =
            AllPairs-filter Precedes has_width all
            (AllPairs-append Precedes outputs.areas inputs.areas (direction-ascends Out 0 outputs.areas out.keys) (direction-ascends In 0 inputs.areas into.keys)
            (outputs-first 0 outputs.areas inputs.areas out.keys into.keys));
        between = record {
          above =
              All-weaker (λ area. HasPlace slaves area.0) (λ area. IsTrue (is_before START area.0))
              (λ area place. above-start area.0.dir area.0.rank area.0.area place.first) (filter has_width all) places;
          below =
              All-weaker (λ area. HasPlace slaves area.0) (λ area. IsTrue (is_before area.0 END))
              (λ area place. let last = place.last in before-end area.0.dir area.0.rank area.0.area (omega arith)) (filter has_width all) places;
        };
      };
      places = places;
    }

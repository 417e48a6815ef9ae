-- The outputs and the inputs of a tree together.
use Rattle.std.specs.Prelude.{All, filter}
use Rattle.std.proofs.Common.{◌≡◌, ℕ, zero, suc, ◌+◌, ◌<◌, ◌≤◌, List, [], ◌∷◌, ◌++◌, length, refl, sym, ap, subst, ◌∙◌, arith, append_assoc, append-nil}
use Rattle.std.proofs.lemmas.List.Elements.{All-cons, All-head, All-tail, filter-append}
use Rattle.hc_records.specs.declared.records.Dir.{Dir}
use Rattle.hc_records.specs.declared.records.Dir.TheVariants.{Out, In}
use Rattle.hc_records.specs.declared.keys.Key.{Key}
use Rattle.hc_records.specs.Keys.{is_before}
use Rattle.hc_records.specs.TaskList.{Keyed}
use Rattle.hc_bitsum.specs.Slots.{Slots, key_at, set_at, with_bits}
use Rattle.hc_bitsum.specs.Tree.{HasPlace, has_width, with_width}
use Rattle.hc_bitsum.specs.Places.{IsOfSlave, KeepsSlaves, AreFrom}
use Rattle.hc_bitsum.proofs.Shape.{length-set_at, with_bits-shaped}
use Rattle.hc_bitsum.proofs.Listed.{AreFrom-set_at, drops-by, stays-by, wide-set_at}

-- a width is set of an area of a slave
set_at-placed : (slaves : ℕ) (dir : Dir) (place at bits : ℕ) (areas : List Keyed) → AreFrom dir place areas → HasPlace slaves (key_at dir (place + at))
    → All (IsOfSlave slaves) areas → All (IsOfSlave slaves) (set_at at bits areas)
set_at-placed slaves dir place at bits [] are_placed own all = all
set_at-placed slaves dir place zero bits (area ∷ areas) are_placed own all =
    let here : place + 0 ≡ place = omega arith in
    All-cons (IsOfSlave slaves) (area.0, bits) areas
    (λ wide. subst (λ (key : Key). HasPlace slaves key) (sym are_placed.0) (subst (λ n. HasPlace slaves (key_at dir n)) here own))
    (All-tail (IsOfSlave slaves) area areas all)
set_at-placed slaves dir place (suc at) bits (area ∷ areas) are_placed own all =
    let there : place + suc at ≡ place + 1 + at = omega arith in
    All-cons (IsOfSlave slaves) area (set_at at bits areas) (All-head (IsOfSlave slaves) area areas all)
    (set_at-placed slaves dir (place + 1) at bits areas are_placed.1 (subst (λ n. HasPlace slaves (key_at dir n)) there own) (All-tail (IsOfSlave slaves) area areas all))

pub with_bits-stays : (dir : Dir) (slaves : ℕ) (part : Slots) (at bits : ℕ) → bits ≤ 11888 → HasPlace slaves (key_at dir at) → KeepsSlaves dir slaves part
    → KeepsSlaves dir slaves (with_bits part at bits)
with_bits-stays dir slaves part at bits narrow own stays =
    let here : at ≡ 0 + at = omega arith in
    let many = length-set_at at bits part.areas in
    let room = stays.room in
    record {
      keys = AreFrom-set_at dir 0 at bits part.areas stays.keys;
      room = omega arith;
      shape = with_bits-shaped part at bits stays.shape narrow;
      places = set_at-placed slaves dir 0 at bits part.areas stays.keys (subst (λ n. HasPlace slaves (key_at dir n)) here own) stays.places;
    }

-- inputs come after outputs

inputs-not_before : (place after_it : ℕ) (areas : List Keyed) → AreFrom In after_it areas
    → filter (λ area. is_before area.0 (key_at Out place)) (filter has_width areas) ≡ []
inputs-not_before place after_it [] are_placed = refl
inputs-not_before place after_it (area ∷ areas) are_placed =
    drops-by (has_width area) (λ other. is_before other.0 (key_at Out place)) area (filter has_width areas) (rw are_placed.0 refl) (inputs-not_before place (after_it + 1) areas are_placed.1)

inputs-after_it : (place after_it : ℕ) (areas : List Keyed) → AreFrom In after_it areas
    → filter (λ area. is_before (key_at Out place) area.0) (filter has_width areas) ≡ filter has_width areas
inputs-after_it place after_it [] are_placed = refl
inputs-after_it place after_it (area ∷ areas) are_placed =
    stays-by (has_width area) (λ other. is_before (key_at Out place) other.0) area (filter has_width areas) (rw are_placed.0 refl) (inputs-after_it place (after_it + 1) areas are_placed.1)

outputs-before : (place after_it : ℕ) (areas : List Keyed) → AreFrom Out after_it areas
    → filter (λ area. is_before area.0 (key_at In place)) (filter has_width areas) ≡ filter has_width areas
outputs-before place after_it [] are_placed = refl
outputs-before place after_it (area ∷ areas) are_placed =
    stays-by (has_width area) (λ other. is_before other.0 (key_at In place)) area (filter has_width areas) (rw are_placed.0 refl) (outputs-before place (after_it + 1) areas are_placed.1)

outputs-not_after : (place after_it : ℕ) (areas : List Keyed) → AreFrom Out after_it areas
    → filter (λ area. is_before (key_at In place) area.0) (filter has_width areas) ≡ []
outputs-not_after place after_it [] are_placed = refl
outputs-not_after place after_it (area ∷ areas) are_placed =
    drops-by (has_width area) (λ other. is_before (key_at In place) other.0) area (filter has_width areas) (rw are_placed.0 refl) (outputs-not_after place (after_it + 1) areas are_placed.1)

width-front : (key : Key) (bits : ℕ) (xs ys : List Keyed) → filter (λ area. is_before area.0 key) ys ≡ [] → filter (λ area. is_before key area.0) ys ≡ ys
    → with_width key bits (xs ++ ys) ≡ with_width key bits xs ++ ys
width-front key bits xs ys below above = grind (arith, filter-append, append-nil, append_assoc)

width-back : (key : Key) (bits : ℕ) (xs ys : List Keyed) → filter (λ area. is_before area.0 key) xs ≡ xs → filter (λ area. is_before key area.0) xs ≡ []
    → with_width key bits (xs ++ ys) ≡ xs ++ with_width key bits ys
width-back key bits xs ys below above = grind (arith, filter-append, append_assoc)

-- a width set among the outputs, or among the inputs, is set in the list of both
pub wide-outputs : (at bits : ℕ) (outputs inputs : List Keyed) → AreFrom Out 0 outputs → AreFrom In 0 inputs → at < length outputs
    → filter has_width (set_at at bits outputs ++ inputs) ≡ with_width (key_at Out at) bits (filter has_width (outputs ++ inputs))
wide-outputs at bits outputs inputs out into h =
    let here : 0 + at ≡ at = omega arith in
    let own = wide-set_at Out 0 at bits outputs out h in
    filter-append has_width (set_at at bits outputs) inputs
    ∙ ap (λ xs. xs ++ filter has_width inputs) (own ∙ ap (λ n. with_width (key_at Out n) bits (filter has_width outputs)) here)
    ∙ sym (ap (with_width (key_at Out at) bits) (filter-append has_width outputs inputs)
    ∙ width-front (key_at Out at) bits (filter has_width outputs) (filter has_width inputs) (inputs-not_before at 0 inputs into) (inputs-after_it at 0 inputs into))

pub wide-inputs : (at bits : ℕ) (outputs inputs : List Keyed) → AreFrom Out 0 outputs → AreFrom In 0 inputs → at < length inputs
    → filter has_width (outputs ++ set_at at bits inputs) ≡ with_width (key_at In at) bits (filter has_width (outputs ++ inputs))
wide-inputs at bits outputs inputs out into h =
    let here : 0 + at ≡ at = omega arith in
    let own = wide-set_at In 0 at bits inputs into h in
    filter-append has_width outputs (set_at at bits inputs)
    ∙ ap (λ xs. filter has_width outputs ++ xs) (own ∙ ap (λ n. with_width (key_at In n) bits (filter has_width inputs)) here)
    ∙ sym (ap (with_width (key_at In at) bits) (filter-append has_width outputs inputs)
    ∙ width-back (key_at In at) bits (filter has_width outputs) (filter has_width inputs) (outputs-before at 0 outputs out) (outputs-not_after at 0 outputs out))

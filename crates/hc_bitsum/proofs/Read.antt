-- An area has the width of its key in the list.
use Rattle.std.specs.Prelude.{All, filter}
use Rattle.std.proofs.Common.{◌≡◌, ℕ, zero, suc, ◌+◌, ◌<◌, ◌≤◌, Bool, true, false, List, [], ◌∷◌, ◌++◌, length, refl, sym, ap, subst, ◌∙◌, arith, if◌then◌else◌}
use Rattle.std.proofs.lemmas.Bool.Decides.{nat_tests}
use Rattle.std.proofs.lemmas.List.Elements.{All-cons, All-filter, All-head, All-nil, All-tail, All-weaker, filter-append}
use Rattle.hc_records.specs.declared.records.Dir.{Dir}
use Rattle.hc_records.specs.declared.records.Dir.TheVariants.{Out, In}
use Rattle.hc_records.specs.declared.keys.Key.{Key}
use Rattle.hc_records.specs.Keys.{same_key}
use Rattle.hc_records.specs.TaskList.{Keyed}
use Rattle.hc_records.specs.Boundaries.{width_in}
use Rattle.hc_records.proofs.lemmas.KeyOrder.{before-other, other-sym, same_key-refl, same_key-same}
use Rattle.hc_records.proofs.lemmas.Spans.{width-absent, width-here, width-skip}
use Rattle.hc_bitsum.specs.Slots.{IsNarrow, bits_at, key_at}
use Rattle.hc_bitsum.specs.Tree.{HasPlace, has_width}
use Rattle.hc_bitsum.specs.Places.{AreFrom}
use Rattle.hc_bitsum.proofs.Listed.{before-place}
use Rattle.hc_bitsum.proofs.lemmas.Lacking.{LacksKey, lacks-before, lacks-after_it}

-- the areas after a place have other keys
others-after_it : (dir : Dir) (place after_it : ℕ) (areas : List Keyed) → AreFrom dir after_it areas → place < after_it → LacksKey (key_at dir place) areas
others-after_it dir place after_it [] are_placed h = All-nil (λ area. same_key area.0 (key_at dir place) ≡ false)
others-after_it dir place after_it (area ∷ areas) are_placed h =
    All-cons (λ other. same_key other.0 (key_at dir place) ≡ false) area areas
    (ap (λ (key : Key). same_key key (key_at dir place)) are_placed.0 ∙ before-other (key_at dir place) (key_at dir after_it) (before-place dir place after_it h))
    (others-after_it dir place (after_it + 1) areas are_placed.1 (omega arith))

-- inputs have other keys than outputs

inputs-lack : (place after_it : ℕ) (areas : List Keyed) → AreFrom In after_it areas → LacksKey (key_at Out place) areas
inputs-lack place after_it [] are_placed = All-nil (λ area. same_key area.0 (key_at Out place) ≡ false)
inputs-lack place after_it (area ∷ areas) are_placed =
    All-cons (λ other. same_key other.0 (key_at Out place) ≡ false) area areas
    (ap (λ (key : Key). same_key key (key_at Out place)) are_placed.0) (inputs-lack place (after_it + 1) areas are_placed.1)

outputs-lack : (place after_it : ℕ) (areas : List Keyed) → AreFrom Out after_it areas → LacksKey (key_at In place) areas
outputs-lack place after_it [] are_placed = All-nil (λ area. same_key area.0 (key_at In place) ≡ false)
outputs-lack place after_it (area ∷ areas) are_placed =
    All-cons (λ other. same_key other.0 (key_at In place) ≡ false) area areas
    (ap (λ (key : Key). same_key key (key_at In place)) are_placed.0) (outputs-lack place (after_it + 1) areas are_placed.1)

-- in one direction

here-by : (wide : Bool) (area : Keyed) (areas : List Keyed) (key : Key) → has_width area ≡ wide → area.0 ≡ key → width_in areas key ≡ 0
    → width_in (if wide then area ∷ areas else areas) key ≡ area.1
here-by true area areas key test is rest = width-here area areas key (ap (λ (k : Key). same_key k key) is ∙ same_key-refl key)
here-by false area areas key test is rest = rest ∙ grind (arith, nat_tests)

there-by : (wide : Bool) (area : Keyed) (areas : List Keyed) (key : Key) (bits : ℕ) → same_key area.0 key ≡ false → width_in areas key ≡ bits
    → width_in (if wide then area ∷ areas else areas) key ≡ bits
there-by true area areas key bits other rest = width-skip area areas key other ∙ rest
there-by false area areas key bits other rest = rest

width-at : (dir : Dir) (place at : ℕ) (areas : List Keyed) → AreFrom dir place areas → at < length areas
    → width_in (filter has_width areas) (key_at dir (place + at)) ≡ bits_at at areas
width-at dir place at [] are_placed h = absurd (omega arith)
width-at dir place zero (area ∷ areas) are_placed h =
    let here : place + 0 ≡ place = omega arith in
    let key = key_at dir place in
    rw here (here-by (has_width area) area (filter has_width areas) key refl are_placed.0
    (width-absent (filter has_width areas) key
    (All-filter has_width (λ other. same_key other.0 key ≡ false) areas (others-after_it dir place (place + 1) areas are_placed.1 (omega arith)))))
width-at dir place (suc at) (area ∷ areas) are_placed h =
    let there : place + suc at ≡ place + 1 + at = omega arith in
    let key = key_at dir (place + 1 + at) in
    rw there (there-by (has_width area) area (filter has_width areas) key (bits_at at areas)
    (ap (λ (k : Key). same_key k key) are_placed.0 ∙ other-sym key (key_at dir place) (before-other (key_at dir place) key (before-place dir place (place + 1 + at) (omega arith))))
    (width-at dir (place + 1) at areas are_placed.1 (omega arith)))

-- in both

pub width-output : (at : ℕ) (outputs inputs : List Keyed) → AreFrom Out 0 outputs → AreFrom In 0 inputs → at < length outputs
    → bits_at at outputs ≡ width_in (filter has_width (outputs ++ inputs)) (key_at Out at)
width-output at outputs inputs out into h =
    let here : 0 + at ≡ at = omega arith in
    let key = key_at Out at in
    sym (ap (λ (list : List Keyed). width_in list key) (filter-append has_width outputs inputs)
    ∙ lacks-after_it (filter has_width outputs) (filter has_width inputs) key (All-filter has_width (λ other. same_key other.0 key ≡ false) inputs (inputs-lack at 0 inputs into))
    ∙ ap (λ (n : ℕ). width_in (filter has_width outputs) (key_at Out n)) (sym here)
    ∙ width-at Out 0 at outputs out h)

pub width-input : (at : ℕ) (outputs inputs : List Keyed) → AreFrom Out 0 outputs → AreFrom In 0 inputs → at < length inputs
    → bits_at at inputs ≡ width_in (filter has_width (outputs ++ inputs)) (key_at In at)
width-input at outputs inputs out into h =
    let here : 0 + at ≡ at = omega arith in
    let key = key_at In at in
    sym (ap (λ (list : List Keyed). width_in list key) (filter-append has_width outputs inputs)
    ∙ lacks-before (filter has_width outputs) (filter has_width inputs) key (All-filter has_width (λ other. same_key other.0 key ≡ false) outputs (outputs-lack at 0 outputs out))
    ∙ ap (λ (n : ℕ). width_in (filter has_width inputs) (key_at In n)) (sym here)
    ∙ width-at In 0 at inputs into h)

-- a width is no wider than a datagram
pub bits-narrow : (at : ℕ) (areas : List Keyed) → All IsNarrow areas → bits_at at areas ≤ 11888
bits-narrow at [] all = omega arith
bits-narrow zero (area ∷ areas) all = All-head IsNarrow area areas all
bits-narrow (suc at) (area ∷ areas) all = bits-narrow at areas (All-tail IsNarrow area areas all)

-- of two rows one after the other

pub bits-front : (xs ys : List Keyed) (at : ℕ) → at < length xs → bits_at at xs ≡ bits_at at (xs ++ ys)
bits-front [] ys at h = absurd (omega arith)
bits-front (x ∷ xs) ys zero h = refl
bits-front (x ∷ xs) ys (suc at) h = bits-front xs ys at (omega arith)

pub bits-back : (xs ys : List Keyed) (at : ℕ) → bits_at at ys ≡ bits_at (length xs + at) (xs ++ ys)
bits-back [] ys at = ap (λ (n : ℕ). bits_at n ys) (omega arith)
bits-back (x ∷ xs) ys at = let more : suc (length xs) + at ≡ suc (length xs + at) = omega arith in rw more (bits-back xs ys at)

-- a key that has no place is no area's
no-place : (slaves : ℕ) (key : Key) (other : Key) → (HasPlace slaves key → ⊥) → HasPlace slaves other → (same : Bool) → same_key other key ≡ same → same_key other key ≡ false
no-place slaves key other none has true test = absurd (none (subst (λ (k : Key). HasPlace slaves k) (same_key-same other key test) has))
no-place slaves key other none has false test = test

pub width-none : (slaves : ℕ) (key : Key) (list : List Keyed) → All (λ area. HasPlace slaves area.0) list → (HasPlace slaves key → ⊥) → width_in list key ≡ 0
width-none slaves key list places none =
    width-absent list key
    (All-weaker (λ area. HasPlace slaves area.0) (λ area. same_key area.0 key ≡ false) (λ area has. no-place slaves key area.0 none has (same_key area.0 key) refl) list places)

-- The areas of a list from a key on, and a scan of them.
use Rattle.std.specs.Prelude.{filter, not}
use Rattle.std.proofs.Common.{◌≡◌, ℕ, zero, suc, ◌+◌, ◌<◌, ◌≤◌, nat_le, Bool, false, List, [], ◌∷◌, ◌++◌, length, drop, refl, sym, ap, ◌∙◌, arith, if◌then◌else◌}
use Rattle.std.proofs.lemmas.List.{drop-append-le}
use Rattle.std.proofs.lemmas.List.Elements.{filter-append}
use Rattle.hc_records.specs.declared.records.Dir.{Dir}
use Rattle.hc_records.specs.declared.records.Dir.TheVariants.{Out, In}
use Rattle.hc_records.specs.declared.keys.Key.{Key}
use Rattle.hc_records.specs.declared.keys.TheConstants.Key.{START}
use Rattle.hc_records.specs.Keys.{is_before, is_within}
use Rattle.hc_records.specs.SpanLaws.{areas_from}
use Rattle.hc_records.specs.TaskList.{Keyed}
use Rattle.hc_bitsum.specs.declared.filled.Filled.{Filled}
use Rattle.hc_bitsum.specs.declared.row.Fit.TheVariants.{Found}
use Rattle.hc_bitsum.specs.Filling.{filled_with_area}
use Rattle.hc_bitsum.specs.Search.{first_beyond, key_or_end, scan}
use Rattle.hc_bitsum.specs.Slots.{key_at}
use Rattle.hc_bitsum.specs.Tree.{has_width}
use Rattle.hc_bitsum.specs.Places.{AreFrom}
use Rattle.hc_bitsum.proofs.Listed.{before-not, before-place, drops-by, stays-by}

beyond-by : (fits : Bool) (room : ℕ) (filled : Filled) (x : Keyed) (xs : List Keyed) → key_or_end (scan room filled xs) ≡ first_beyond room filled xs
    → key_or_end (if fits then scan room filled xs else Found x.0) ≡ (if fits then first_beyond room filled xs else x.0)
beyond-by fits room filled x xs rest = grind arith

-- a scan gives the first area that would end past the room
pub scan-beyond : (room : ℕ) (filled : Filled) (xs : List Keyed) → key_or_end (scan room filled xs) ≡ first_beyond room filled xs
scan-beyond room filled [] = refl
scan-beyond room filled (x ∷ xs) =
    let next = filled_with_area filled x in
    beyond-by (nat_le next.bit room) room next x xs (scan-beyond room next xs)

-- the areas of a list that don't come before a key
abbrev list_from : Key → List Keyed → List Keyed
list_from key list = filter (λ area. not (is_before area.0 key)) list

-- a key that doesn't come before another is that one or comes after it
pub reached-by : (before : Bool) (a b : Key) → is_before a b ≡ before → not before ≡ is_within b a
reached-by before a b test = grind arith

-- they are those from the key on
list-areas : (key : Key) (list : List Keyed) → list_from key list ≡ areas_from key list
list-areas key [] = refl
list-areas key (area ∷ areas) = grind (arith, reached-by, list-areas key areas)

-- an area without a width changes no scan

wide-by : (wide : Bool) (room : ℕ) (filled : Filled) (x : Keyed) (xs : List Keyed) → has_width x ≡ wide → filled.bit ≤ room
    → ((next : Filled) → next.bit ≤ room → scan room next (filter has_width xs) ≡ scan room next xs)
    → scan room filled (if wide then x ∷ filter has_width xs else filter has_width xs) ≡ scan room filled (x ∷ xs)
wide-by wide room filled x xs e h rest = grind arith

pub scan-wide : (room : ℕ) (filled : Filled) (xs : List Keyed) → filled.bit ≤ room → scan room filled (filter has_width xs) ≡ scan room filled xs
scan-wide room filled [] h = refl
scan-wide room filled (x ∷ xs) h = wide-by (has_width x) room filled x xs refl h (λ next fits. scan-wide room next xs fits)

-- the areas of one direction from a key on are those after the ones before its place

all-from : (dir : Dir) (place after_it : ℕ) (areas : List Keyed) → AreFrom dir after_it areas → place ≤ after_it
    → list_from (key_at dir place) (filter has_width areas) ≡ filter has_width areas
all-from dir place after_it [] are_placed h = refl
all-from dir place after_it (area ∷ areas) are_placed h =
    grind (arith, stays-by, before-not, all-from dir place (after_it + 1) areas are_placed.1 (omega arith))

gone-by : (wide : Bool) (p : Keyed → Bool) (x : Keyed) (xs : List Keyed) → p x ≡ false → filter p (if wide then x ∷ xs else xs) ≡ filter p xs
gone-by wide p x xs own = grind arith

wide-drop : (dir : Dir) (place skip : ℕ) (areas : List Keyed) → AreFrom dir place areas
    → filter has_width (drop skip areas) ≡ list_from (key_at dir (place + skip)) (filter has_width areas)
wide-drop dir place zero areas are_placed = grind (arith, all-from)
wide-drop dir place (suc skip) [] are_placed = refl
wide-drop dir place (suc skip) (area ∷ areas) are_placed =
    grind (arith, gone-by, before-place, wide-drop dir (place + 1) skip areas are_placed.1)

inputs-from : (place after_it : ℕ) (areas : List Keyed) → AreFrom In after_it areas → list_from (key_at Out place) (filter has_width areas) ≡ filter has_width areas
inputs-from place after_it [] are_placed = refl
inputs-from place after_it (area ∷ areas) are_placed =
    stays-by (has_width area) (λ other. not (is_before other.0 (key_at Out place))) area (filter has_width areas) (rw are_placed.0 refl) (inputs-from place (after_it + 1) areas are_placed.1)

outputs-from : (place after_it : ℕ) (areas : List Keyed) → AreFrom Out after_it areas → list_from (key_at In place) (filter has_width areas) ≡ []
outputs-from place after_it [] are_placed = refl
outputs-from place after_it (area ∷ areas) are_placed =
    drops-by (has_width area) (λ other. not (is_before other.0 (key_at In place))) area (filter has_width areas) (rw are_placed.0 refl) (outputs-from place (after_it + 1) areas are_placed.1)

-- in both directions

output-listed : (place : ℕ) (outputs inputs : List Keyed) → AreFrom Out 0 outputs → AreFrom In 0 inputs → place < length outputs
    → filter has_width (drop place (outputs ++ inputs)) ≡ list_from (key_at Out place) (filter has_width (outputs ++ inputs))
output-listed place outputs inputs out into h =
    let here : 0 + place ≡ place = omega arith in
    let front = wide-drop Out 0 place outputs out in
    ap (filter has_width) (drop-append-le place outputs inputs (omega arith))
    ∙ filter-append has_width (drop place outputs) inputs
    ∙ ap (λ xs. xs ++ filter has_width inputs) (front ∙ ap (λ n. list_from (key_at Out n) (filter has_width outputs)) here)
    ∙ sym (ap (list_from (key_at Out place)) (filter-append has_width outputs inputs)
    ∙ filter-append (λ area. not (is_before area.0 (key_at Out place))) (filter has_width outputs) (filter has_width inputs)
    ∙ ap (λ xs. list_from (key_at Out place) (filter has_width outputs) ++ xs) (inputs-from place 0 inputs into))

pub output-from : (place : ℕ) (outputs inputs : List Keyed) → AreFrom Out 0 outputs → AreFrom In 0 inputs → place < length outputs
    → filter has_width (drop place (outputs ++ inputs)) ≡ areas_from (key_at Out place) (filter has_width (outputs ++ inputs))
output-from place outputs inputs out into h =
    output-listed place outputs inputs out into h ∙ list-areas (key_at Out place) (filter has_width (outputs ++ inputs))

input-listed : (place : ℕ) (outputs inputs : List Keyed) → AreFrom Out 0 outputs → AreFrom In 0 inputs
    → filter has_width (drop place inputs) ≡ list_from (key_at In place) (filter has_width (outputs ++ inputs))
input-listed place outputs inputs out into =
    let here : 0 + place ≡ place = omega arith in
    let back = wide-drop In 0 place inputs into in
    back ∙ ap (λ n. list_from (key_at In n) (filter has_width inputs)) here
    ∙ sym (ap (list_from (key_at In place)) (filter-append has_width outputs inputs)
    ∙ filter-append (λ area. not (is_before area.0 (key_at In place))) (filter has_width outputs) (filter has_width inputs)
    ∙ ap (λ xs. xs ++ list_from (key_at In place) (filter has_width inputs)) (outputs-from place 0 outputs out))

pub input-from : (place : ℕ) (outputs inputs : List Keyed) → AreFrom Out 0 outputs → AreFrom In 0 inputs
    → filter has_width (drop place inputs) ≡ areas_from (key_at In place) (filter has_width (outputs ++ inputs))
input-from place outputs inputs out into =
    input-listed place outputs inputs out into ∙ list-areas (key_at In place) (filter has_width (outputs ++ inputs))

start-from : (dir : Dir) (after_it : ℕ) (areas : List Keyed) → AreFrom dir after_it areas → list_from START (filter has_width areas) ≡ filter has_width areas
start-from dir after_it [] are_placed = refl
start-from dir after_it (area ∷ areas) are_placed =
    grind (arith, stays-by, start-from dir (after_it + 1) areas are_placed.1)

pub all-from_start : (outputs inputs : List Keyed) → AreFrom Out 0 outputs → AreFrom In 0 inputs
    → filter has_width (outputs ++ inputs) ≡ areas_from START (filter has_width (outputs ++ inputs))
all-from_start outputs inputs out into = grind (arith, list-areas, filter-append, start-from)

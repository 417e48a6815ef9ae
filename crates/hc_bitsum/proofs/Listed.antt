-- The areas with a width among those of one direction.
use Rattle.std.proofs.Common.{◌≡◌, ℕ, zero, suc, ◌+◌, ◌<◌, ◌≤◌, ◌==◌, Bool, true, false, nat_lt, List, [], ◌∷◌, ◌++◌, length, refl, subst, arith, if◌then◌else◌}
use Rattle.std.specs.Prelude.{filter}
use Rattle.hc_records.specs.declared.records.Dir.{Dir}
use Rattle.hc_records.specs.declared.keys.Key.{Key}
use Rattle.hc_records.specs.Keys.{is_before}
use Rattle.hc_records.specs.TaskList.{Keyed}
use Rattle.hc_bitsum.specs.Slots.{key_at, set_at}
use Rattle.hc_bitsum.specs.Tree.{has_width, with_width}
use Rattle.hc_bitsum.specs.Places.{AreFrom}
use Rattle.hc_bitsum.specs.Sums.{sum_of}

pub before-place : (dir : Dir) (a b : ℕ) → a < b → is_before (key_at dir a) (key_at dir b) ≡ true
before-place dir a b h = grind arith

pub before-not : (dir : Dir) (a b : ℕ) → b ≤ a → is_before (key_at dir a) (key_at dir b) ≡ false
before-not dir a b h = grind arith

pub AreFrom-append : (dir : Dir) (place : ℕ) (xs ys : List Keyed) → AreFrom dir place xs → AreFrom dir (place + length xs) ys → AreFrom dir place (xs ++ ys)
AreFrom-append dir place [] ys front back = let none : place + 0 ≡ place = omega arith in subst (λ p. AreFrom dir p ys) none back
AreFrom-append dir place (x ∷ xs) ys front back =
    let next : place + suc (length xs) ≡ place + 1 + length xs = omega arith in
    (front.0, AreFrom-append dir (place + 1) xs ys front.1 (subst (λ p. AreFrom dir p ys) next back))

pub AreFrom-set_at : (dir : Dir) (place at bits : ℕ) (areas : List Keyed) → AreFrom dir place areas → AreFrom dir place (set_at at bits areas)
AreFrom-set_at dir place at bits [] are_placed = are_placed
AreFrom-set_at dir place zero bits (area ∷ areas) are_placed = are_placed
AreFrom-set_at dir place (suc at) bits (area ∷ areas) are_placed = (are_placed.0, AreFrom-set_at dir (place + 1) at bits areas are_placed.1)

-- an area without a width adds nothing
pub total-wide : (xs : List Keyed) → sum_of (filter has_width xs) ≡ sum_of xs
total-wide [] = refl
total-wide (x ∷ xs) = grind (arith, total-wide xs)

-- a test that fails on each of a list, or passes on each

pub drops-by : (wide : Bool) (p : Keyed → Bool) (x : Keyed) (xs : List Keyed) → p x ≡ false → filter p xs ≡ [] → filter p (if wide then x ∷ xs else xs) ≡ []
drops-by wide p x xs own rest = grind arith

pub stays-by : (wide : Bool) (p : Keyed → Bool) (x : Keyed) (xs : List Keyed) → p x ≡ true → filter p xs ≡ xs → filter p (if wide then x ∷ xs else xs) ≡ (if wide then x ∷ xs else xs)
stays-by wide p x xs own rest = grind arith

-- areas that are after a place aren't before it, and it is before them
none-before : (dir : Dir) (place after_it : ℕ) (areas : List Keyed) → AreFrom dir after_it areas → place ≤ after_it
    → filter (λ area. is_before area.0 (key_at dir place)) (filter has_width areas) ≡ []
none-before dir place after_it [] are_placed h = refl
none-before dir place after_it (area ∷ areas) are_placed h =
    grind (arith, drops-by, before-not, none-before dir place (after_it + 1) areas are_placed.1 (omega arith))

all-after_it : (dir : Dir) (place after_it : ℕ) (areas : List Keyed) → AreFrom dir after_it areas → place < after_it
    → filter (λ area. is_before (key_at dir place) area.0) (filter has_width areas) ≡ filter has_width areas
all-after_it dir place after_it [] are_placed h = refl
all-after_it dir place after_it (area ∷ areas) are_placed h =
    grind (arith, stays-by, before-place, all-after_it dir place (after_it + 1) areas are_placed.1 (omega arith))

own-first : (wide : Bool) (key : Key) (bits : ℕ) (xs : List Keyed) → nat_lt 0 bits ≡ wide → (if wide then (key, bits) ∷ xs else xs) ≡ (if bits == 0 then [] else (key, bits) ∷ []) ++ xs
own-first wide key bits xs e = grind arith

above-by : (wide : Bool) (p : Keyed → Bool) (x : Keyed) (xs : List Keyed) → p x ≡ false → filter p xs ≡ xs → filter p (if wide then x ∷ xs else xs) ≡ xs
above-by wide p x xs own rest = grind arith

before-by : (wide : Bool) (key : Key) (bits : ℕ) (x : Keyed) (xs changed : List Keyed) → is_before x.0 key ≡ true → is_before key x.0 ≡ false → changed ≡ with_width key bits xs
    → (if wide then x ∷ changed else changed) ≡ with_width key bits (if wide then x ∷ xs else xs)
before-by wide key bits x xs changed first last h = grind arith

-- a width that is set at a place is in the list under the place's key
pub wide-set_at : (dir : Dir) (place at bits : ℕ) (areas : List Keyed) → AreFrom dir place areas → at < length areas
    → filter has_width (set_at at bits areas) ≡ with_width (key_at dir (place + at)) bits (filter has_width areas)
wide-set_at dir place at bits [] are_placed h = absurd (omega arith)
wide-set_at dir place zero bits (area ∷ areas) are_placed h =
    let here : place + 0 ≡ place = omega arith in
    let key = key_at dir place in
    let below : filter (λ other. is_before other.0 key) (filter has_width (area ∷ areas)) ≡ [] = none-before dir place place (area ∷ areas) are_placed (omega arith) in
    let above : filter (λ other. is_before key other.0) (filter has_width (area ∷ areas)) ≡ filter has_width areas =
    above-by (has_width area) (λ other. is_before key other.0) area (filter has_width areas)
    (rw are_placed.0 (before-not dir place place (omega arith))) (all-after_it dir place (place + 1) areas are_placed.1 (omega arith)) in
    rw (here, below, above, are_placed.0) (own-first (nat_lt 0 bits) key bits (filter has_width areas) refl)
wide-set_at dir place (suc at) bits (area ∷ areas) are_placed h =
    grind (arith, before-by, before-place, before-not, wide-set_at dir (place + 1) at bits areas are_placed.1 (omega arith))

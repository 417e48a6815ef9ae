-- Which slaves hold a task up, slave by slave.
use Rattle.std.proofs.Common.{◌≡◌, ℕ, zero, suc, ◌+◌, ◌-◌, ◌<◌, ◌≤◌, Bool, true, false, cond, List, [], ◌∷◌, length, map, refl, sym, ap, ◌∙◌, arith}
use Rattle.std.specs.Prelude.{None, Some, Option, slice_get}
use Rattle.std.specs.List.{range_with_len}
use Rattle.hc_owed.specs.Flags.{nth_set, set_count}

-- the elements beside set flags
abbrev pub picked : {X : Type 0} → List Bool → List X → List X
picked [] xs = []
picked (flag ∷ flags) [] = []
picked (flag ∷ flags) (x ∷ xs) = cond flag (x ∷ picked flags xs) (picked flags xs)

-- the picked one with an index is beside the set flag with the index
abbrev pub at_flag : {X : Type 0} → ℕ → List X → Option ℕ → Option X
at_flag at xs None = None
at_flag at xs (Some n) = slice_get xs (n - at)

abbrev AtLeast : ℕ → Option ℕ → Type 0
AtLeast from None = Unit {0}
AtLeast from (Some n) = from ≤ n

weaker : (a b : ℕ) (o : Option ℕ) → a ≤ b → AtLeast b o → AtLeast a o
weaker a b None less is = is
weaker a b (Some n) less is = omega (arith, less, is)

low : (index at : ℕ) (flags : List Bool) → AtLeast at (nth_set index at flags)
low index at [] = tt
low index at (false ∷ flags) = weaker at (at + 1) (nth_set index (at + 1) flags) (omega arith) (low index (at + 1) flags)
low zero at (true ∷ flags) = omega arith
low (suc index) at (true ∷ flags) = weaker at (at + 1) (nth_set index (at + 1) flags) (omega arith) (low index (at + 1) flags)

later-by : {X : Type 0} (at : ℕ) (x : X) (xs : List X) (o : Option ℕ) → AtLeast (at + 1) o → at_flag at (x ∷ xs) o ≡ at_flag (at + 1) xs o
later-by at x xs None is = refl
later-by at x xs (Some n) is = let shift : n - at ≡ suc (n - (at + 1)) = omega (arith, is) in ap (slice_get (x ∷ xs)) shift

at-later : {X : Type 0} (at : ℕ) (x : X) (xs : List X) (index : ℕ) (flags : List Bool) → at_flag at (x ∷ xs) (nth_set index (at + 1) flags) ≡ at_flag (at + 1) xs (nth_set index (at + 1) flags)
at-later at x xs index flags = later-by at x xs (nth_set index (at + 1) flags) (low index (at + 1) flags)

pub picked-at : {X : Type 0} (flags : List Bool) (xs : List X) (index at : ℕ) → length flags ≡ length xs → slice_get (picked flags xs) index ≡ at_flag at xs (nth_set index at flags)
picked-at [] [] index at size = refl
picked-at [] (x ∷ xs) index at size = absurd (omega (arith, size))
picked-at (flag ∷ flags) [] index at size = absurd (omega (arith, size))
picked-at (false ∷ flags) (x ∷ xs) index at size = picked-at flags xs index (at + 1) (omega (arith, size)) ∙ sym (at-later at x xs index flags)
picked-at {X} (true ∷ flags) (x ∷ xs) zero at size = let none : at - at ≡ 0 = omega arith in sym (ap (slice_get (x ∷ xs)) none)
picked-at (true ∷ flags) (x ∷ xs) (suc index) at size = picked-at flags xs index (at + 1) (omega (arith, size)) ∙ sym (at-later at x xs index flags)

pub length-picked : {X : Type 0} (flags : List Bool) (xs : List X) → length flags ≡ length xs → length (picked flags xs) ≡ set_count flags
length-picked [] [] size = refl
length-picked [] (x ∷ xs) size = absurd (omega (arith, size))
length-picked (flag ∷ flags) [] size = absurd (omega (arith, size))
length-picked (true ∷ flags) (x ∷ xs) size = let rest = length-picked flags xs (omega (arith, size)) in omega (arith, rest)
length-picked (false ∷ flags) (x ∷ xs) size = let rest = length-picked flags xs (omega (arith, size)) in omega (arith, rest)

-- flags of the numbers from one on

pub flag-found : (f : ℕ → Bool) (left at more : ℕ) → 0 < more → left ≡ 0 → f at ≡ true → nth_set left at (map f (range_with_len at more)) ≡ Some at
flag-found f left at zero some none set = absurd (omega (arith, some))
flag-found f zero at (suc more) some none set = ap (λ (b : Bool). nth_set 0 at (b ∷ map f (range_with_len (at + 1) more))) set
flag-found f (suc left) at (suc more) some none set = absurd (omega (arith, none))

pub flag-passed : (f : ℕ → Bool) (left at more : ℕ) → 0 < more → (left ≡ 0 → ⊥) → f at ≡ true → nth_set left at (map f (range_with_len at more)) ≡ nth_set (left - 1) (at + 1) (map f (range_with_len (at + 1) (more - 1)))
flag-passed f left at zero some none set = absurd (omega (arith, some))
flag-passed f zero at (suc more) some none set = absurd (none refl)
flag-passed f (suc left) at (suc more) some none set =
    let less : suc left - 1 ≡ left = omega arith in
    let fewer : suc more - 1 ≡ more = omega arith in
    ap (λ (b : Bool). nth_set (suc left) at (b ∷ map f (range_with_len (at + 1) more))) set
    ∙ ap (λ (n : ℕ). nth_set n (at + 1) (map f (range_with_len (at + 1) more))) (sym less)
    ∙ ap (λ (n : ℕ). nth_set (suc left - 1) (at + 1) (map f (range_with_len (at + 1) n))) (sym fewer)

pub flag-unset : (f : ℕ → Bool) (left at more : ℕ) → 0 < more → f at ≡ false → nth_set left at (map f (range_with_len at more)) ≡ nth_set left (at + 1) (map f (range_with_len (at + 1) (more - 1)))
flag-unset f left at zero some unset = absurd (omega (arith, some))
flag-unset f left at (suc more) some unset =
    let fewer : suc more - 1 ≡ more = omega arith in
    ap (λ (b : Bool). nth_set left at (b ∷ map f (range_with_len (at + 1) more))) unset
    ∙ ap (λ (n : ℕ). nth_set left (at + 1) (map f (range_with_len (at + 1) n))) (sym fewer)

-- Numbers that rise, put among others that rise from the highest on.
use Rattle.std.proofs.Common.{◌≡◌, ℕ, ◌+◌, ◌-◌, ◌<◌, ◌≤◌, Bool, true, false, List, [], ◌∷◌, ◌++◌, length, drop, get_or, take, refl, sym, ap, subst, ◌∙◌, append_assoc, arith}
use Rattle.std.specs.Prelude.{All, AllPairs, nat_lt, set, slice_range}
use Rattle.std.specs.List.Sorted.{IsNonDecreasing, IsPartitionPoint, IsPermutation}
use Rattle.std.proofs.Math.Seq.{paste, take-add}
use Rattle.std.proofs.lemmas.Bool.{ltb-false, ltb-true}
use Rattle.std.proofs.lemmas.List.{drop_all, drop_more, drop-take, get_or-drop, drop-set, get_or-take, length-append, length-drop, length-set, length-take, take-append-drop, take-append-le, take-set-le, take-take, take_all, take_more}
use Rattle.std.proofs.lemmas.List.Elements.{All-append, All-cons, All-head, All-nil, All-tail, All-weaker}
use Rattle.std.proofs.lemmas.List.Folds.{drop_split}
use Rattle.std.proofs.lemmas.List.Kept.{AllPairs-cons}
use Rattle.std.proofs.lemmas.List.Sorted.{IsPermutation-append_right, IsPermutation-cons, IsPermutation-middle, IsPermutation-refl, IsPermutation-trans}
use Rattle.std.proofs.lemmas.Grind.{common_steps}
use Rattle.hc_records.proofs.lemmas.Lists.{All-append_left, All-append_right, AllPairs-append, AllPairs-append_left, AllPairs-append_right, AllPairs-between, AllPairs-nil}

-- each number is no greater than the later ones
abbrev pub Rises : List ℕ → Type 0
Rises = AllPairs (λ a b. a ≤ b)

-- each of these is no greater than any of those
abbrev pub AreBelow : List ℕ → List ℕ → Type 0
AreBelow xs ys = All (λ x. All (λ y. x ≤ y) ys) xs

pub rises : (xs : List ℕ) → IsNonDecreasing xs → Rises xs
rises xs order i j d low within = order i j d (omega (arith, low)) within

by-place : (xs : List ℕ) (i j d : ℕ) (less : Bool) → nat_lt i j ≡ less → Rises xs → i ≤ j → j < length xs → get_or xs i d ≤ get_or xs j d
by-place xs i j d true is pairs low within = pairs i j d (ltb-true i j is) within
by-place xs i j d false is pairs low within =
    let least = ltb-false i j is in
    let same : i ≡ j = omega (arith, least, low) in
    subst (λ (k : ℕ). get_or xs i d ≤ get_or xs k d) same (omega arith)

non-decreasing : (xs : List ℕ) → Rises xs → IsNonDecreasing xs
non-decreasing xs pairs i j d low within = by-place xs i j d (nat_lt i j) refl pairs low within

-- what is after a number that is no greater than any of them

below-through : (x v : ℕ) (ys : List ℕ) → x ≤ v → All (λ y. v ≤ y) ys → All (λ y. x ≤ y) ys
below-through x v ys low all = All-weaker (λ y. v ≤ y) (λ y. x ≤ y) (λ y above. omega (arith, low, above)) ys all

-- what is done so far: the numbers of both lists after the places that are left are in order, and no lower than those before them
pub record Merged (front back low high done : List ℕ) : Type 0 where
  pub same : IsPermutation (back ++ high) done
  pub order : Rises done
  pub first : AreBelow front done
  pub second : AreBelow low done

merged-below : (xs run done : List ℕ) (v : ℕ) → All (λ x. x ≤ v) xs → All (λ r. v ≤ r) run → AreBelow xs done → AreBelow xs (v ∷ (run ++ done))
merged-below [] run done v low high after_it = All-nil (λ (x : ℕ). All (λ y. x ≤ y) (v ∷ (run ++ done)))
merged-below (x ∷ xs) run done v low high after_it =
    let here = All-head (λ (n : ℕ). n ≤ v) x xs low in
    All-cons (λ (n : ℕ). All (λ y. n ≤ y) (v ∷ (run ++ done))) x xs
    (All-cons (λ (y : ℕ). x ≤ y) v (run ++ done) here
    (All-append (λ (y : ℕ). x ≤ y) run done (below-through x v run here high) (All-head (λ (n : ℕ). All (λ y. n ≤ y) done) x xs after_it)))
    (merged-below xs run done v (All-tail (λ (n : ℕ). n ≤ v) x xs low) high (All-tail (λ (n : ℕ). All (λ y. n ≤ y) done) x xs after_it))

-- one number more, before those that are no lower
merged-step : (front run back low high done : List ℕ) (v : ℕ) → Rises (front ++ run) → Rises (low ++ v ∷ []) → All (λ x. x ≤ v) front → All (λ r. v ≤ r) run
    → Merged (front ++ run) back (low ++ v ∷ []) high done → Merged front (run ++ back) low (v ∷ high) (v ∷ (run ++ done))
merged-step front run back low high done v old own lower higher merged =
    let Below : ℕ → Type 0 = λ x. All (λ y. x ≤ y) done in
    let both = All-append_right Below front run merged.first in
    let last = All-head Below v [] (All-append_right Below low (v ∷ []) merged.second) in
    record {
      same =
          IsPermutation-trans ((run ++ back) ++ v ∷ high) (v ∷ ((run ++ back) ++ high)) (v ∷ (run ++ done))
          (IsPermutation-middle (run ++ back) v high)
          (IsPermutation-cons v ((run ++ back) ++ high) (run ++ done)
          (subst (λ (l : List ℕ). IsPermutation l (run ++ done)) (sym (append_assoc run back high)) (IsPermutation-append_right run (back ++ high) done merged.same)));
      order =
          AllPairs-cons (λ (a b : ℕ). a ≤ b) v (run ++ done) (All-append (λ (y : ℕ). v ≤ y) run done higher last)
          (AllPairs-append (λ (a b : ℕ). a ≤ b) run done (AllPairs-append_right (λ (a b : ℕ). a ≤ b) front run old) merged.order both);
      first = merged-below front run done v lower higher (All-append_left Below front run merged.first);
      second =
          merged-below low run done v
          (All-weaker (λ (x : ℕ). All (λ y. x ≤ y) (v ∷ [])) (λ x. x ≤ v) (λ x below. All-head (λ (y : ℕ). x ≤ y) v [] below) low (AllPairs-between (λ (a b : ℕ). a ≤ b) low (v ∷ []) own))
          higher (All-append_left Below low (v ∷ []) merged.second);
    }

-- at first nothing is done, and at the end all is

none-below : (xs : List ℕ) → AreBelow xs []
none-below [] = All-nil (λ (x : ℕ). All (λ y. x ≤ y) [])
none-below (x ∷ xs) = All-cons (λ (n : ℕ). All (λ y. n ≤ y) []) x xs (All-nil (λ (y : ℕ). x ≤ y)) (none-below xs)

merged-none : (old names : List ℕ) → Merged old [] names [] []
merged-none old names = record { same = IsPermutation-refl []; order = AllPairs-nil (λ (a b : ℕ). a ≤ b); first = none-below old; second = none-below names }

merged-same : (front back names done : List ℕ) → Merged front back [] names done → IsPermutation ((front ++ back) ++ names) (front ++ done)
merged-same front back names done merged =
    subst (λ (l : List ℕ). IsPermutation l (front ++ done)) (sym (append_assoc front back names)) (IsPermutation-append_right front (back ++ names) done merged.same)

merged-rises : (front back names done : List ℕ) → Rises (front ++ back) → Merged front back [] names done → IsNonDecreasing (front ++ done)
merged-rises front back names done old merged =
    non-decreasing (front ++ done)
    (AllPairs-append (λ (a b : ℕ). a ≤ b) front done (AllPairs-append_left (λ (a b : ℕ). a ≤ b) front back old) merged.order merged.first)

-- the same by places: so many of the others and of the numbers are left in front

pub record MergedFrom (old names all : List ℕ) (left more : ℕ) : Type 0 where
  pub inside : left ≤ length old
  pub some : more ≤ length names
  pub size : length all ≡ length old + length names
  pub front : take left all ≡ take left old
  pub merged : Merged (take left old) (drop left old) (take more names) (drop more names) (drop (left + more) all)

-- a place parts numbers that rise
pub record Parts (xs : List ℕ) (v at : ℕ) : Type 0 where
  pub inside : at ≤ length xs
  pub lower : All (λ x. x ≤ v) (take at xs)
  pub higher : All (λ x. v ≤ x) (drop at xs)

pub parts : (xs : List ℕ) (v at : ℕ) → at ≤ length xs → IsPartitionPoint (λ x. nat_lt x v ≡ true) (λ x. nat_lt x v ≡ false) xs at → Parts xs v at
parts xs v at inside parted =
    let rest = length-drop at xs in
    record {
      inside = inside;
      lower = λ k d within.
          let few = length-take at xs in
          let low : k < at = omega (arith, few, within, inside) in
          let less = ltb-true (get_or xs k d) v (parted.0 k d (omega arith) low) in
          let same = get_or-take at xs k d low in
          omega (arith, less, same);
      higher = λ k d within.
          let more = ltb-false (get_or xs (at + k) d) v (parted.1 (at + k) d (omega arith) (omega (arith, rest, within, inside))) in
          let same = get_or-drop at xs k d in
          omega (arith, more, same);
    }

-- the part between two places

piece : (xs : List ℕ) (at left : ℕ) → at ≤ left → slice_range xs at left ≡ drop at (take left xs)
piece xs at left low = sym (drop-take at (left - at) xs) ∙ ap (λ (n : ℕ). drop at (take n xs)) (omega arith)

taken : (xs : List ℕ) (at left : ℕ) → at ≤ left → take left xs ≡ take at xs ++ slice_range xs at left
taken xs at left low = ap (λ (n : ℕ). take n xs) (omega arith) ∙ take-add at (left - at) xs

along : (front back low high done fronts backs lows highs all : List ℕ) → front ≡ fronts → back ≡ backs → low ≡ lows → high ≡ highs → done ≡ all → Merged front back low high done
    → Merged fronts backs lows highs all
along front back low high done fronts backs lows highs all a b c d e merged =
    subst (λ (l : List ℕ). Merged l backs lows highs all) a
    (subst (λ (l : List ℕ). Merged front l lows highs all) b
    (subst (λ (l : List ℕ). Merged front back l highs all) c
    (subst (λ (l : List ℕ). Merged front back low l all) d (subst (Merged front back low high) e merged))))

-- a number is put below those of the others that are no lower
pub merged-more : (old names all new : List ℕ) (left more at v : ℕ) → Rises old → Rises names → MergedFrom old names all left (more + 1) → v ≡ get_or names more v → at ≤ left → Parts (take left all) v at
    → length new ≡ length all → take at new ≡ take at all → drop (at + more) new ≡ v ∷ (slice_range all at left ++ drop (left + more + 1) all) → MergedFrom old names new at more
merged-more old names all new left more at v rising own before is low parts size front after_it =
    let inside = before.inside in
    let some = before.some in
    let whole = before.size in
    let run = slice_range old at left in
    let done = drop (left + (more + 1)) all in
    let same : slice_range all at left ≡ run = piece all at left low ∙ ap (drop at) before.front ∙ sym (piece old at left low) in
    let unchanged : take at all ≡ take at old = sym (take-take at left all low) ∙ ap (take at) before.front ∙ take-take at left old low in
    let cut = taken old at left low in
    let last : take (more + 1) names ≡ take more names ++ v ∷ [] = take_more names more v (omega arith) ∙ ap (λ (n : ℕ). take more names ++ n ∷ []) (sym is) in
    let next : drop more names ≡ v ∷ drop (more + 1) names = drop_more names more v (omega arith) ∙ ap (λ (n : ℕ). n ∷ drop (more + 1) names) (sym is) in
    let joined : Merged (take at old ++ run) (drop left old) (take more names ++ v ∷ []) (drop (more + 1) names) done = along (take left old) (drop left old) (take (more + 1) names) (drop (more + 1) names) done
    (take at old ++ run) (drop left old) (take more names ++ v ∷ []) (drop (more + 1) names) done cut refl last refl refl before.merged in
    let step = merged-step (take at old) run (drop left old) (take more names) (drop (more + 1) names) done v
    (subst Rises cut (AllPairs-append_left (λ (a b : ℕ). a ≤ b) (take left old) (drop left old) (subst Rises (sym (take-append-drop left old)) rising)))
    (subst Rises last (AllPairs-append_left (λ (a b : ℕ). a ≤ b) (take (more + 1) names) (drop (more + 1) names) (subst Rises (sym (take-append-drop (more + 1) names)) own)))
    (subst (All (λ (x : ℕ). x ≤ v)) (take-take at left all low ∙ unchanged) parts.lower)
    (subst (All (λ (x : ℕ). v ≤ x)) (sym (piece all at left low) ∙ same) parts.higher)
    joined in
    let shifted : drop (at + more) new ≡ v ∷ (run ++ done) =
    after_it ∙ ap (λ (l : List ℕ). v ∷ (l ++ drop (left + more + 1) all)) same ∙ ap (λ (n : ℕ). v ∷ (run ++ drop n all)) (omega arith) in
    record {
      inside = omega (arith, inside, low);
      some = omega (arith, some);
      size = size ∙ whole;
      front = front ∙ unchanged;
      merged =
          along (take at old) (run ++ drop left old) (take more names) (v ∷ drop (more + 1) names) (v ∷ (run ++ done)) (take at old) (drop at old) (take more names) (drop more names) (drop (at + more) new)
          refl (sym (drop_split old at left low)) refl (sym next) (sym shifted) step;
    }

pub merged-start : (old names all : List ℕ) → all ≡ old ++ names → MergedFrom old names all (length old) (length names)
merged-start old names all is =
    let size = ap length is ∙ length-append old names in
    let front : take (length old) all ≡ take (length old) old = ap (take (length old)) is ∙ take-append-le (length old) old names (omega arith) in
    record {
      inside = omega arith;
      some = omega arith;
      size = size;
      front = front;
      merged =
          along old [] names [] [] (take (length old) old) (drop (length old) old) (take (length names) names) (drop (length names) names) (drop (length old + length names) all)
          (sym (take_all (length old) old (omega arith))) (sym (drop_all (length old) old (omega arith))) (sym (take_all (length names) names (omega arith)))
          (sym (drop_all (length names) names (omega arith))) (sym (drop_all (length old + length names) all (omega (arith, size)))) (merged-none old names);
    }

pub merged-end : (old names all : List ℕ) (left : ℕ) → Rises old → MergedFrom old names all left 0 → IsPermutation (old ++ names) all × IsNonDecreasing all
merged-end old names all left rising before =
    let parts : take left old ++ drop left old ≡ old = take-append-drop left old in
    let whole : take left old ++ drop (left + 0) all ≡ all =
    ap (λ (l : List ℕ). l ++ drop (left + 0) all) (sym before.front) ∙ ap (λ (n : ℕ). take left all ++ drop n all) (omega arith) ∙ take-append-drop left all in (
      subst (λ (l : List ℕ). IsPermutation (l ++ names) all) parts
          (subst (IsPermutation ((take left old ++ drop left old) ++ names)) whole (merged-same (take left old) (drop left old) names (drop (left + 0) all) before.merged)),
      subst IsNonDecreasing whole (merged-rises (take left old) (drop left old) names (drop (left + 0) all) (subst Rises (sym parts) rising) before.merged),
    )

-- the numbers between two places are shifted up, and one is written before them

copied-parts : (all copied : List ℕ) (at left more : ℕ) → at ≤ left → left + more + 1 ≤ length all → copied ≡ paste all (at + more + 1) (drop at all) (left - at)
    → (length copied ≡ length all) × (take (at + more) copied ≡ take (at + more) all) × (drop (at + more + 1) copied ≡ slice_range all at left ++ drop (left + more + 1) all)
copied-parts all copied at left more low inside is = grind (arith, common_steps)

pub record PutBelow (all new : List ℕ) (at left more v : ℕ) : Type 0 where
  pub size : length new ≡ length all
  pub front : take at new ≡ take at all
  pub after_it : drop (at + more) new ≡ v ∷ (slice_range all at left ++ drop (left + more + 1) all)

pub put-below : (all copied : List ℕ) (at left more v : ℕ) → at ≤ left → left + more + 1 ≤ length all → copied ≡ paste all (at + more + 1) (drop at all) (left - at)
    → PutBelow all (set copied (at + more) v) at left more v
put-below all copied at left more v low inside is =
    let parts = copied-parts all copied at left more low inside is in
    let size = parts.0 in
    record {
      size = length-set copied (at + more) v ∙ size;
      front =
          take-set-le at copied (at + more) v (omega arith)
          ∙ sym (take-take at (at + more) copied (omega arith))
          ∙ ap (take at) parts.1
          ∙ take-take at (at + more) all (omega arith);
      after_it = drop-set copied (at + more) v (omega (arith, size, low, inside)) ∙ ap (λ (l : List ℕ). v ∷ l) parts.2;
    }

-- Sums along a list, and the element that a number falls in.
use Rattle.std.proofs.Common.{◌≡◌, ℕ, zero, suc, ◌+◌, ◌<◌, ◌≤◌, List, [], ◌∷◌, ◌++◌, length, drop, get_or, take, refl, sym, ap, subst, ◌∙◌, append_assoc, arith, rules}
use Rattle.std.specs.Prelude.{All, Some, map, slice_get, sum_by}
use Rattle.std.specs.List.Sorted.{IsNonDecreasing}
use Rattle.std.proofs.lemmas.List.{drop_all, drop_more, get_or-map, length-map, take_all}
use Rattle.std.proofs.lemmas.List.Elements.{All-nil, All-cons, All-weaker}
use Rattle.std.proofs.lemmas.List.Sums.{sum_by-cons, sum_by_more}
use Rattle.std.proofs.lemmas.Option.{get_or_from_slice_get, slice_get-get_or, slice_get_within}
use Rattle.hc_groups.specs.Index.{AreRisingSums, IsSumPlace, sums_from}

-- where all elements have something, each one has it
pub all-get : {X : Type 0} (P : X → Type 0) (xs : List X) (i : ℕ) (x : X) → All P xs → slice_get xs i ≡ Some x → P x
all-get P xs i x all at = subst P (get_or_from_slice_get xs i x x at) (all i x (slice_get_within xs i x at))

-- there is an element at each place inside
pub some-at : {X : Type 0} (xs : List X) (i : ℕ) → i < length xs → (x : X) × (slice_get xs i ≡ Some x)
some-at [] i inside = absurd (omega arith)
some-at (x ∷ xs) i inside = (get_or (x ∷ xs) i x, slice_get-get_or (x ∷ xs) i x inside)

-- the element that a number falls in, and how far after its front
pub record FallsIn {X : Type 0} (count : X → ℕ) (xs : List X) (n index offset : ℕ) : Type 0 where
  pub x : X
  pub at : slice_get xs index ≡ Some x
  pub sum : n ≡ sum_by count (take index xs) + offset
  pub low : offset < count x

module _ {X : Type 0} (count : X → ℕ) where
  pub sums-length : (front : ℕ) (xs : List X) → length (sums_from count front xs) ≡ length xs + 1
  sums-length front [] = refl
  sums-length front (x ∷ xs) = let rest = sums-length (front + count x) xs in omega (arith, rest)

  pub sums-at : (front : ℕ) (xs : List X) (k : ℕ) → k ≤ length xs → slice_get (sums_from count front xs) k ≡ Some (front + sum_by count (take k xs))
  sums-at front [] zero low = ap Some (omega arith)
  sums-at front [] (suc k) low = absurd (omega arith)
  sums-at front (x ∷ xs) zero low = ap Some (omega arith)
  sums-at front (x ∷ xs) (suc k) low = search (rules, sum_by-cons, sums-at (front + count x) xs k (omega arith))

  pub sums-first : (front : ℕ) (xs : List X) → slice_get (sums_from count front xs) 0 ≡ Some front
  sums-first front [] = refl
  sums-first front (x ∷ xs) = refl

  pub sums-last : (front : ℕ) (xs : List X) → slice_get (sums_from count front xs) (length xs) ≡ Some (front + sum_by count xs)
  sums-last front xs = search (rules, sums-at, take_all)

  sums-above : (front : ℕ) (xs : List X) → All (λ sum. front ≤ sum) (sums_from count front xs)
  sums-above front [] = All-cons (λ sum. front ≤ sum) front [] (omega arith) (All-nil (λ sum. front ≤ sum))
  sums-above front (x ∷ xs) = search (rules, All-cons, All-weaker, sums-above (front + count x) xs)

  sums-rise : (front : ℕ) (xs : List X) → IsNonDecreasing (sums_from count front xs)
  sums-rise front [] zero zero d low inside = omega arith
  sums-rise front [] (suc i) j d low inside = absurd (omega arith)
  sums-rise front [] zero (suc j) d low inside = absurd (omega arith)
  sums-rise front (x ∷ xs) zero zero d low inside = omega arith
  sums-rise front (x ∷ xs) zero (suc j) d low inside = let above = sums-above (front + count x) xs j d (omega arith) in omega (arith, above)
  sums-rise front (x ∷ xs) (suc i) zero d low inside = absurd (omega arith)
  sums-rise front (x ∷ xs) (suc i) (suc j) d low inside = sums-rise (front + count x) xs i j d (omega arith) (omega arith)

  -- the sum at an index
  pub front-at : (sums : List ℕ) (xs : List X) (index : ℕ) → sums ≡ sums_from count 0 xs → index ≤ length xs → (index < length sums) × (get_or sums index 0 ≡ sum_by count (take index xs))
  front-at sums xs index is low =
      let long = ap length is ∙ sums-length 0 xs in
      let at = get_or_from_slice_get sums index (0 + sum_by count (take index xs)) 0 (ap (λ (s : List ℕ). slice_get s index) is ∙ sums-at 0 xs index low) in
      (omega (arith, long, low), omega (arith, at))

  -- sums where a number is sought
  pub are-sums : (sums : List ℕ) (xs : List X) → sums ≡ sums_from count 0 xs → AreRisingSums sums
  are-sums sums xs is = subst AreRisingSums (sym is) (record { first = sums-first 0 xs; rising = sums-rise 0 xs })

  pub falls-in : (sums : List ℕ) (xs : List X) (n index offset : ℕ) → sums ≡ sums_from count 0 xs → IsSumPlace sums n index offset → FallsIn count xs n index offset
  falls-in sums xs n index offset is sum_place =
      let long = ap length is ∙ sums-length 0 xs in
      let inside = slice_get_within sums (index + 1) sum_place.next sum_place.after_it in
      let low : index < length xs = omega (arith, long, inside) in
      let here = some-at xs index low in
      let first = ap (λ (s : List ℕ). slice_get s index) is ∙ sums-at 0 xs index (omega (arith, low)) in
      let second = ap (λ (s : List ℕ). slice_get s (index + 1)) is ∙ sums-at 0 xs (index + 1) (omega (arith, low)) in
      let front : sum_place.front ≡ 0 + sum_by count (take index xs) = let at = sum_place.at in cc in
      let next : sum_place.next ≡ 0 + sum_by count (take (index + 1) xs) = let at = sum_place.after_it in cc in
      let more = sum_by_more count xs index here.0 low in
      let own = ap count (get_or_from_slice_get xs index here.0 here.0 here.1) in
      let sum = sum_place.sum in
      record { x = here.0; at = here.1; sum = omega (arith, front, sum); low = omega (arith, own, more, front, next, sum) }

  -- or it is after all
  pub falls-after_it : (sums : List ℕ) (xs : List X) (n : ℕ) → sums ≡ sums_from count 0 xs → All (λ sum. sum ≤ n) sums → sum_by count xs ≤ n
  falls-after_it sums xs n is all =
      let most = all-get (λ (sum : ℕ). sum ≤ n) sums (length xs) (0 + sum_by count xs) all (ap (λ (s : List ℕ). slice_get s (length xs)) is ∙ sums-last 0 xs) in
      omega (arith, most)

  pub left-step : (xs : List X) (i : ℕ) (x : X) → i < length xs → x ≡ get_or xs i x → sum_by count (drop i xs) ≡ count x + sum_by count (drop (i + 1) xs)
  left-step xs i x inside is = search (rules, drop_more, sum_by-cons)

  -- sums that are added one by one: that before an element and those after it, and the last one
  pub sums-on : (xs : List X) (i front next : ℕ) (x : X) (done new all : List ℕ) → i < length xs → x ≡ get_or xs i x → new ≡ done ++ front ∷ [] → next ≡ front + count x
      → done ++ sums_from count front (drop i xs) ≡ all → new ++ sums_from count next (drop (i + 1) xs) ≡ all
  sums-on xs i front next x done new all inside is added further answer_given =
      let rest = drop (i + 1) xs in
      let cut : drop i xs ≡ x ∷ rest = drop_more xs i x inside ∙ ap (λ (y : X). y ∷ rest) (sym is) in
      ap (λ (sums : List ℕ). sums ++ sums_from count next rest) added
      ∙ append_assoc done (front ∷ []) (sums_from count next rest)
      ∙ ap (λ (n : ℕ). done ++ front ∷ sums_from count n rest) further
      ∙ ap (λ (left : List X). done ++ sums_from count front left) (sym cut)
      ∙ answer_given

  pub sums-over : (xs : List X) (i front : ℕ) (done new all : List ℕ) → length xs ≤ i → new ≡ done ++ front ∷ [] → done ++ sums_from count front (drop i xs) ≡ all → new ≡ all
  sums-over xs i front done new all over added answer_given =
      added ∙ ap (λ (left : List X). done ++ sums_from count front left) (sym (drop_all i xs over)) ∙ answer_given

  -- elements that are changed and count for as many have the same sums
  pub sums-unchanged : (change : X → X) → ((x : X) → count (change x) ≡ count x) → (front : ℕ) (xs : List X) → sums_from count front (map change xs) ≡ sums_from count front xs
  sums-unchanged change stays front [] = refl
  sums-unchanged change stays front (x ∷ xs) = search (rules, sums-unchanged change stays (front + count x) xs)

-- elements at one place of lists that have something in common
pub mapped-at : {X Y Z : Type 0} (f : X → Z) (g : Y → Z) (xs : List X) (ys : List Y) (i : ℕ) (x : X) (y : Y) → map f xs ≡ map g ys → i < length ys → x ≡ get_or xs i x → y ≡ get_or ys i y → f x ≡ g y
mapped-at {Z} f g xs ys i x y same inside first second =
    let long = length-map xs f in
    let other = length-map ys g in
    let equal = ap length same in
    ap f first
    ∙ sym (get_or-map f xs i x (g y) (omega (arith, long, other, equal)))
    ∙ ap (λ (zs : List Z). get_or zs i (g y)) same
    ∙ get_or-map g ys i y (g y) inside
    ∙ sym (ap g second)

-- The elements of a list, those that are found in it, and the conditions of a `flat_map` over it.
use Rattle.std.proofs.Common.{◌≡◌, ℕ, ◌+◌, ◌<◌, zero, suc, Bool, true, false, cond, List, [], ◌∷◌, ◌++◌, Contains, append_assoc, drop, get_or, length, refl, sym, ap, subst, ◌∙◌, ⊎_elim, arith, rules}
use Rattle.std.specs.Prelude.{All, AllPairs, Option, Some, filter, find, map}
use Rattle.std.specs.List.{flat_map}
use Rattle.std.proofs.lemmas.List.{drop_more, map-append}
use Rattle.std.proofs.lemmas.List.Elements.{All-contains, All-head, All-tail, Contains-append_cases, Contains-append_left, Contains-append_right, filter-append}
use Rattle.hc_records.proofs.lemmas.Lists.{AllPairs-head, AllPairs-tail}

-- elements that give nothing may be left out

unchanged-by : (passes : Bool) {X Y : Type 0} (f : X → List Y) (x : X) (xs unchanged : List X) → (passes ≡ false → f x ≡ []) → flat_map f xs ≡ flat_map f unchanged
    → f x ++ flat_map f xs ≡ flat_map f (cond passes (x ∷ unchanged) unchanged)
unchanged-by passes f x xs unchanged nothing rest = search rules

pub flat_map-unchanged : {X Y : Type 0} (f : X → List Y) (test : X → Bool) (xs : List X) → All (λ x. test x ≡ false → f x ≡ []) xs → flat_map f xs ≡ flat_map f (filter test xs)
flat_map-unchanged f test [] all = refl
flat_map-unchanged f test (x ∷ xs) all =
    search (rules, unchanged-by, All-head, All-tail, flat_map-unchanged f test xs (All-tail (λ y. test y ≡ false → f y ≡ []) x xs all))

pub filter-flat_map : {X Y : Type 0} (test : Y → Bool) (f : X → List Y) (xs : List X) → filter test (flat_map f xs) ≡ flat_map (λ x. filter test (f x)) xs
filter-flat_map test f [] = refl
filter-flat_map test f (x ∷ xs) = search (rules, filter-append, filter-flat_map test f xs)

pub map-flat_map : {X Y Z : Type 0} (g : Y → Z) (f : X → List Y) (xs : List X) → map g (flat_map f xs) ≡ flat_map (λ x. map g (f x)) xs
map-flat_map g f [] = refl
map-flat_map g f (x ∷ xs) = map-append g (f x) (flat_map f xs) ∙ ap (λ (ys : List _). map g (f x) ++ ys) (map-flat_map g f xs)

-- where each element of a list that is gone along adds what it gives

pub all-added : {X Y : Type 0} (f : X → List Y) (xs : List X) (i : ℕ) (x : X) (had has all : List Y) → i < length xs → x ≡ get_or xs i x → has ≡ had ++ f x
    → had ++ flat_map f (drop i xs) ≡ all → has ++ flat_map f (drop (i + 1) xs) ≡ all
all-added f xs i x had has all within is adds so_far = search (rules, append_assoc, drop_more)

-- what a list contains

pub contains-first : {X : Type 0} (x : X) (xs : List X) → Contains (x ∷ xs) x
contains-first x xs = (0, omega arith, refl)

pub contains-after_it : {X : Type 0} (x y : X) (xs : List X) → Contains xs x → Contains (y ∷ xs) x
contains-after_it x y xs (k, within, is) = (suc k, omega arith, is)

first-passing : {X : Type 0} (passes : Bool) (x y : X) (unchanged : List X) → passes ≡ true → y ≡ x → Contains (cond passes (y ∷ unchanged) unchanged) x
first-passing passes x y unchanged own is = search rules

later-passing : {X : Type 0} (passes : Bool) (x y : X) (unchanged : List X) → Contains unchanged x → Contains (cond passes (y ∷ unchanged) unchanged) x
later-passing true x y unchanged at = contains-after_it x y unchanged at
later-passing false x y unchanged at = at

pub contains-filtered : {X : Type 0} (test : X → Bool) (xs : List X) (x : X) → Contains xs x → test x ≡ true → Contains (filter test xs) x
contains-filtered test [] x (k, within, is) passes = absurd (omega arith)
contains-filtered test (y ∷ ys) x (zero, within, is) passes = first-passing (test y) x y (filter test ys) (ap test is ∙ passes) is
contains-filtered test (y ∷ ys) x (suc k, within, is) passes = search (rules, later-passing, contains-filtered test ys x (k, omega arith, is) passes)

unfiltered-by : {X : Type 0} (passes : Bool) (x y : X) (unchanged ys : List X) → Contains (cond passes (y ∷ unchanged) unchanged) x → (Contains unchanged x → Contains ys x) → Contains (y ∷ ys) x
unfiltered-by passes x y unchanged ys at rest = search (rules, contains-after_it)

pub contains-unfiltered : {X : Type 0} (test : X → Bool) (xs : List X) (x : X) → Contains (filter test xs) x → Contains xs x
contains-unfiltered test [] x at = at
contains-unfiltered test (y ∷ ys) x at = unfiltered-by (test y) x y (filter test ys) ys at (contains-unfiltered test ys x)

pub contains-flat_map : {X Y : Type 0} (f : X → List Y) (xs : List X) (x : X) (y : Y) → Contains xs x → Contains (f x) y → Contains (flat_map f xs) y
contains-flat_map f [] x y (k, within, is) own = absurd (omega arith)
contains-flat_map f (z ∷ zs) x y (zero, within, is) own = Contains-append_left (f z) (flat_map f zs) y (subst (λ (w : _). Contains (f w) y) (sym is) own)
contains-flat_map f (z ∷ zs) x y (suc k, within, is) own = Contains-append_right (f z) (flat_map f zs) y (contains-flat_map f zs x y (k, omega arith, is) own)

-- the element whose piece contains another
pub record IsPieceOf {X Y : Type 0} (f : X → List Y) (xs : List X) (y : Y) : Type 0 where
  pub element : X
  pub among : Contains xs element
  pub own : Contains (f element) y

pub flat_map-piece : {X Y : Type 0} (f : X → List Y) (xs : List X) (y : Y) → Contains (flat_map f xs) y → IsPieceOf f xs y
flat_map-piece f [] y (k, within, is) = absurd (omega arith)
flat_map-piece f (x ∷ xs) y at =
    ⊎_elim
    (λ own. record { element = x; among = contains-first x xs; own = own })
    (λ after_it. let piece = flat_map-piece f xs y after_it in record { element = piece.element; among = contains-after_it piece.element x xs piece.among; own = piece.own })
    (Contains-append_cases (f x) (flat_map f xs) y at)

-- what is found is contained, and passes the test
pub record IsFound {X : Type 0} (test : X → Bool) (xs : List X) (x : X) : Type 0 where
  pub among : Contains xs x
  pub passes : test x ≡ true

found-by : {X : Type 0} (here : Bool) (test : X → Bool) (x y : X) (ys : List X) → test y ≡ here → cond here (Some y) (find test ys) ≡ Some x → (find test ys ≡ Some x → IsFound test ys x) → IsFound test (y ∷ ys) x
found-by here test x y ys passes is later = search (rules, contains-after_it)

pub found-among : {X : Type 0} (test : X → Bool) (xs : List X) (x : X) → find test xs ≡ Some x → IsFound test xs x
found-among test [] x is = cc
found-among test (y ∷ ys) x is = found-by (test y) test x y ys refl is (found-among test ys x)

-- if at most one of the elements passes, that one is found

here-or-later : {X : Type 0} (here : Bool) (x y : X) (rest : Option X) → (here ≡ true → ⊥) → rest ≡ Some x → cond here (Some y) rest ≡ Some x
here-or-later here x y rest never later = search rules

pub find-only : {X : Type 0} (test : X → Bool) (xs : List X) (x : X) → AllPairs (λ a b. test a ≡ true → test b ≡ true → ⊥) xs → Contains xs x → test x ≡ true → find test xs ≡ Some x
find-only test [] x pairs (k, within, is) passes = absurd (omega arith)
find-only test (y ∷ ys) x pairs (zero, within, is) passes = search rules
find-only test (y ∷ ys) x pairs (suc k, within, is) passes =
    let alone = AllPairs-head (λ a b. test a ≡ true → test b ≡ true → ⊥) y ys pairs in
    let at : Contains ys x = (k, omega arith, is) in
    search (rules, here-or-later, All-contains, AllPairs-tail, find-only test ys x (AllPairs-tail (λ a b. test a ≡ true → test b ≡ true → ⊥) y ys pairs) at passes)

-- Two lists in the order of their numbers, walked at once.
use Rattle.std.proofs.Common.{◌≡◌, ◌∙◌, ℕ, ◌<◌, Bool, true, false, List, [], ◌∷◌, ◌++◌, refl, arith}
use Rattle.std.specs.Prelude.{All, AllPairs, nat_lt}
use Rattle.std.proofs.lemmas.Bool.{cond-true, cond-false}
use Rattle.std.proofs.lemmas.List.Elements.{All-nil, All-cons, All-append, All-head, All-tail, All-weaker}
use Rattle.hc_records.proofs.lemmas.Lists.{AllPairs-head, AllPairs-tail, AllPairs-append}
use Rattle.hc_places.specs.inner.Walk.{Gives, walked}

-- what holds of two lists, from their heads

of-firsts : {A B : Type 0} (P : List A → List B → Type 0) → P [] [] → ((x : A) (xs : List A) → P xs [] → P (x ∷ xs) []) → (xs : List A) → P xs []
of-firsts P none first [] = none
of-firsts P none first (x ∷ xs) = first x xs (of-firsts P none first xs)

history : {A B : Type 0} (P : List A → List B → Type 0) (y : B) (ys : List B) → P [] (y ∷ ys)
    → ((x : A) (xs : List A) → P xs (y ∷ ys) → P (x ∷ xs) ys → P xs ys → P (x ∷ xs) (y ∷ ys))
    → ((xs : List A) → P xs ys) → (xs : List A) → P xs (y ∷ ys)
history P y ys none both rest [] = none
history P y ys none both rest (x ∷ xs) = both x xs (history P y ys none both rest xs) (rest (x ∷ xs)) (rest xs)

pub of-heads : {A B : Type 0} (P : List A → List B → Type 0) → P [] []
    → ((x : A) (xs : List A) → P xs [] → P (x ∷ xs) [])
    → ((y : B) (ys : List B) → P [] ys → P [] (y ∷ ys))
    → ((x : A) (xs : List A) (y : B) (ys : List B) → P xs (y ∷ ys) → P (x ∷ xs) ys → P xs ys → P (x ∷ xs) (y ∷ ys))
    → (ys : List B) (xs : List A) → P xs ys
of-heads P none first second both [] xs = of-firsts P none first xs
of-heads P none first second both (y ∷ ys) xs =
    history P y ys (second y ys (of-heads P none first second both ys [])) (λ x xs. both x xs y ys) (λ xs. of-heads P none first second both ys xs) xs

-- which of two numbers is lower
order-by : {P : Type 0} (low high : Bool) (a b : ℕ) → nat_lt a b ≡ low → nat_lt b a ≡ high
    → (nat_lt a b ≡ true → a < b → P) → (nat_lt a b ≡ false → nat_lt b a ≡ true → b < a → P) → (nat_lt a b ≡ false → nat_lt b a ≡ false → a ≡ b → P) → P
order-by low high a b first second below above same = grind arith

pub by-order : {P : Type 0} (a b : ℕ)
    → (nat_lt a b ≡ true → a < b → P) → (nat_lt a b ≡ false → nat_lt b a ≡ true → b < a → P) → (nat_lt a b ≡ false → nat_lt b a ≡ false → a ≡ b → P) → P
by-order a b below above same = order-by (nat_lt a b) (nat_lt b a) a b refl refl below above same

-- one step of a walk

pub walked-first : {X Y Z : Type 0} (gives : Gives X Y Z) (x : ℕ × X) (xs : List (ℕ × X)) (y : ℕ × Y) (ys : List (ℕ × Y)) → nat_lt x.0 y.0 ≡ true
    → walked gives (y ∷ ys) (x ∷ xs) ≡ gives.first x ++ walked gives (y ∷ ys) xs
walked-first gives x xs y ys below = cond-true _ _ _ below

pub walked-second : {X Y Z : Type 0} (gives : Gives X Y Z) (x : ℕ × X) (xs : List (ℕ × X)) (y : ℕ × Y) (ys : List (ℕ × Y)) → nat_lt x.0 y.0 ≡ false → nat_lt y.0 x.0 ≡ true
    → walked gives (y ∷ ys) (x ∷ xs) ≡ gives.second y ++ walked gives ys (x ∷ xs)
walked-second gives x xs y ys not_less above = cond-false _ _ _ not_less ∙ cond-true _ _ _ above

pub walked-both : {X Y Z : Type 0} (gives : Gives X Y Z) (x : ℕ × X) (xs : List (ℕ × X)) (y : ℕ × Y) (ys : List (ℕ × Y)) → nat_lt x.0 y.0 ≡ false → nat_lt y.0 x.0 ≡ false
    → walked gives (y ∷ ys) (x ∷ xs) ≡ gives.both x y ++ walked gives ys xs
walked-both gives x xs y ys not_less neither = cond-false _ _ _ not_less ∙ cond-false _ _ _ neither

-- elements in the order of their numbers, and elements that all have one number

abbrev pub Ascends : {X : Type 0} → List (ℕ × X) → Type 0
Ascends {X} xs = AllPairs (λ (a b : ℕ × X). a.0 < b.0) xs

abbrev pub AreAbove : {X : Type 0} → ℕ → List (ℕ × X) → Type 0
AreAbove {X} number xs = All (λ (x : ℕ × X). number < x.0) xs

pub record AreOf {X : Type 0} (number : ℕ) (piece : List (ℕ × X)) : Type 0 where
  pub numbers : All (λ (x : ℕ × X). x.0 ≡ number) piece
  pub ascends : Ascends piece

-- what a walk adds has the numbers of what it meets
pub record StaysInPart {X Y Z : Type 0} (gives : Gives X Y (ℕ × Z)) : Type 0 where
  pub first : (x : ℕ × X) → AreOf x.0 (gives.first x)
  pub second : (y : ℕ × Y) → AreOf y.0 (gives.second y)
  pub both : (x : ℕ × X) (y : ℕ × Y) → x.0 ≡ y.0 → AreOf y.0 (gives.both x y)

pub piece-above : {Z : Type 0} (low number : ℕ) (piece rest : List (ℕ × Z)) → AreOf number piece → low < number → AreAbove low rest → AreAbove low (piece ++ rest)
piece-above {Z} low number piece rest of below above =
    All-append (λ (z : ℕ × Z). low < z.0) piece rest (All-weaker (λ (z : ℕ × Z). z.0 ≡ number) (λ (z : ℕ × Z). low < z.0) (λ z same. omega arith) piece of.numbers) above

pub piece-ascends : {Z : Type 0} (number : ℕ) (piece rest : List (ℕ × Z)) → AreOf number piece → AreAbove number rest → Ascends rest → Ascends (piece ++ rest)
piece-ascends {Z} number piece rest of above ascends =
    AllPairs-append (λ (a b : ℕ × Z). a.0 < b.0) piece rest of.ascends ascends
    (All-weaker (λ (z : ℕ × Z). z.0 ≡ number) (λ (z : ℕ × Z). AreAbove z.0 rest)
    (λ z same. All-weaker (λ (r : ℕ × Z). number < r.0) (λ (r : ℕ × Z). z.0 < r.0) (λ r below. omega arith) rest above) piece of.numbers)

above-lower : {X : Type 0} (low number : ℕ) (xs : List (ℕ × X)) → low < number → AreAbove number xs → AreAbove low xs
above-lower {X} low number xs below above = All-weaker (λ (x : ℕ × X). number < x.0) (λ (x : ℕ × X). low < x.0) (λ x higher. omega arith) xs above

pub above-cons : {X : Type 0} (low : ℕ) (x : ℕ × X) (xs : List (ℕ × X)) → low < x.0 → AreAbove x.0 xs → AreAbove low (x ∷ xs)
above-cons {X} low x xs below above = All-cons (λ (x : ℕ × X). low < x.0) x xs below (above-lower low x.0 xs below above)

pub ascends-above : {X : Type 0} (x : ℕ × X) (xs : List (ℕ × X)) → Ascends (x ∷ xs) → AreAbove x.0 xs
ascends-above {X} x xs ascends = AllPairs-head (λ (a b : ℕ × X). a.0 < b.0) x xs ascends

pub ascends-rest : {X : Type 0} (x : ℕ × X) (xs : List (ℕ × X)) → Ascends (x ∷ xs) → Ascends xs
ascends-rest {X} x xs ascends = AllPairs-tail (λ (a b : ℕ × X). a.0 < b.0) x xs ascends

-- a walk of what lies above a number lies above it

abbrev pub WalksAbove : {X Y Z : Type 0} → Gives X Y (ℕ × Z) → ℕ → List (ℕ × X) → List (ℕ × Y) → Type 0
WalksAbove gives low xs ys = AreAbove low xs → AreAbove low ys → AreAbove low (walked gives ys xs)

above-both : {X Y Z : Type 0} (gives : Gives X Y (ℕ × Z)) → StaysInPart gives → (low : ℕ) (x : ℕ × X) (xs : List (ℕ × X)) (y : ℕ × Y) (ys : List (ℕ × Y))
    → WalksAbove gives low xs (y ∷ ys) → WalksAbove gives low (x ∷ xs) ys → WalksAbove gives low xs ys → WalksAbove gives low (x ∷ xs) (y ∷ ys)
above-both {X} {Y} {Z} gives stays low x xs y ys first second both firsts seconds =
    let x-above = All-head (λ (x : ℕ × X). low < x.0) x xs firsts in
    let xs-above = All-tail (λ (x : ℕ × X). low < x.0) x xs firsts in
    let y-above = All-head (λ (y : ℕ × Y). low < y.0) y ys seconds in
    let ys-above = All-tail (λ (y : ℕ × Y). low < y.0) y ys seconds in
    by-order x.0 y.0
    (λ below less. rw (walked-first gives x xs y ys below) (piece-above low x.0 (gives.first x) _ (stays.first x) x-above (first xs-above seconds)))
    (λ not_less above less. rw (walked-second gives x xs y ys not_less above) (piece-above low y.0 (gives.second y) _ (stays.second y) y-above (second firsts ys-above)))
    (λ not_less neither same. rw (walked-both gives x xs y ys not_less neither) (piece-above low y.0 (gives.both x y) _ (stays.both x y same) y-above (both xs-above ys-above)))

pub walked-above : {X Y Z : Type 0} (gives : Gives X Y (ℕ × Z)) → StaysInPart gives → (low : ℕ) (ys : List (ℕ × Y)) (xs : List (ℕ × X)) → WalksAbove gives low xs ys
walked-above {X} {Y} {Z} gives stays low =
    of-heads (WalksAbove gives low)
    (λ firsts seconds. All-nil (λ (z : ℕ × Z). low < z.0))
    (λ x xs rest firsts seconds.
    piece-above low x.0 (gives.first x) _ (stays.first x) (All-head (λ (x : ℕ × X). low < x.0) x xs firsts) (rest (All-tail (λ (x : ℕ × X). low < x.0) x xs firsts) seconds))
    (λ y ys rest firsts seconds.
    piece-above low y.0 (gives.second y) _ (stays.second y) (All-head (λ (y : ℕ × Y). low < y.0) y ys seconds) (rest firsts (All-tail (λ (y : ℕ × Y). low < y.0) y ys seconds)))
    (above-both gives stays low)

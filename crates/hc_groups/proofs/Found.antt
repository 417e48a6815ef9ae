-- The first element of a list where a test passes, and a change of it alone.
use Rattle.std.proofs.Common.{◌≡◌, ◌≢◌, ℕ, zero, suc, ◌+◌, Bool, true, false, cond, List, [], ◌∷◌, Option, Some, None, refl, sym, ap, ◌∙◌, arith, if◌then◌else◌, rules}
use Rattle.std.specs.Prelude.{All, AllPairs, ◌==◌, ◌||◌, map, position, slice_get}
use Rattle.std.specs.List.{list_any, position_from}
use Rattle.std.proofs.lemmas.Bool.{eqb-true, ne_eqb}
use Rattle.std.proofs.lemmas.Iterator.Adapters.{position_from-zero}
use Rattle.std.proofs.lemmas.List.Elements.{All-head, All-tail, All-weaker}
use Rattle.hc_records.proofs.lemmas.Lists.{AllPairs-head, AllPairs-tail}
use Rattle.hc_records.specs.Lists.{changed_at}

-- the test passes at the index and at none before it
abbrev pub IsFirstAt : {X : Type 0} → (X → Bool) → ℕ → List X → Type 0
IsFirstAt test i [] = ⊥
IsFirstAt test zero (x ∷ xs) = test x ≡ true
IsFirstAt test (suc i) (x ∷ xs) = (test x ≡ false) × IsFirstAt test i xs

-- what a search from a first number on gives
abbrev FoundFrom : {X : Type 0} → (X → Bool) → ℕ → ℕ → List X → Type 0
FoundFrom test first n xs = (i : ℕ) × (n ≡ first + i) × IsFirstAt test i xs

found-by : {X : Type 0} (passes : Bool) (test : X → Bool) (first n : ℕ) (x : X) (xs : List X) → test x ≡ passes → (position_from test (first + 1) xs ≡ Some n → FoundFrom test (first + 1) n xs) →
    cond passes (Some first) (position_from test (first + 1) xs) ≡ Some n → FoundFrom test first n (x ∷ xs)
found-by true test first n x xs is later at = let same : first ≡ n = cc in (0, omega (arith, same), is)
found-by false test first n x xs is later at = let rest = later at in let same = rest.1 in (suc rest.0, omega (arith, same), (is, rest.2))

found-from : {X : Type 0} (test : X → Bool) (first n : ℕ) (xs : List X) → position_from test first xs ≡ Some n → FoundFrom test first n xs
found-from test first n [] at = cc
found-from test first n (x ∷ xs) at = found-by (test x) test first n x xs refl (found-from test (first + 1) n xs) at

pub first-at : {X : Type 0} (test : X → Bool) (i : ℕ) (xs : List X) → position test xs ≡ Some i → IsFirstAt test i xs
first-at test i xs at = search (rules, found-from, position_from-zero)

first-from : {X : Type 0} (test : X → Bool) (first i n : ℕ) (xs : List X) → n ≡ first + i → IsFirstAt test i xs → position_from test first xs ≡ Some n
first-from test first i n [] is here = absurd here
first-from test first zero n (x ∷ xs) is here = rw here (ap Some (omega (arith, is)))
first-from test first (suc i) n (x ∷ xs) is here = let other = here.0 in rw other (first-from test (first + 1) i n xs (omega (arith, is)) here.1)

pub position-first : {X : Type 0} (test : X → Bool) (i : ℕ) (xs : List X) → IsFirstAt test i xs → position test xs ≡ Some i
position-first test i xs here = position_from-zero test xs ∙ first-from test 0 i i xs (omega arith) here

-- where nothing is found, it passes nowhere
none-by : (passes : Bool) (first : ℕ) (rest : Option ℕ) (others : Bool) → (rest ≡ None → others ≡ false) → cond passes (Some first) rest ≡ None → (passes || others) ≡ false
none-by passes first rest others later none = search rules

none-from : {X : Type 0} (test : X → Bool) (first : ℕ) (xs : List X) → position_from test first xs ≡ None → list_any test xs ≡ false
none-from test first [] none = refl
none-from test first (x ∷ xs) none = none-by (test x) first (position_from test (first + 1) xs) (list_any test xs) (none-from test (first + 1) xs) none

pub none-found : {X : Type 0} (test : X → Bool) (xs : List X) → position test xs ≡ None → list_any test xs ≡ false
none-found test xs none = search (rules, none-from, position_from-zero)

pub some-found : {X : Type 0} (test : X → Bool) (xs : List X) → list_any test xs ≡ true → position test xs ≢ None
some-found test xs some none = search (rules, none-from, position_from-zero)

-- the element that is found
pub record IsThere {X : Type 0} (P : X → Type 0) (test : X → Bool) (i : ℕ) (xs : List X) : Type 0 where
  pub found : X
  pub at : slice_get xs i ≡ Some found
  pub passes : test found ≡ true
  pub holds : P found

pub there : {X : Type 0} (P : X → Type 0) (test : X → Bool) (i : ℕ) (xs : List X) → All P xs → IsFirstAt test i xs → IsThere P test i xs
there P test i [] all first = absurd first
there P test zero (x ∷ xs) all first = record { found = x; at = refl; passes = first; holds = All-head P x xs all }
there P test (suc i) (x ∷ xs) all first = search (rules, All-tail, there P test i xs (All-tail P x xs all) first.1)

-- two changes that agree on the element at an index
pub changed-alike : {X : Type 0} (i : ℕ) (change other : X → X) (xs : List X) (x : X) → slice_get xs i ≡ Some x → change x ≡ other x → changed_at i change xs ≡ changed_at i other xs
changed-alike i change other [] x at same = refl
changed-alike zero change other (first ∷ xs) x at same = search rules
changed-alike (suc i) change other (first ∷ xs) x at same = ap (λ rest. first ∷ rest) (changed-alike i change other xs x at same)

-- a change of those with a number

abbrev pub changed_by : {X : Type 0} → (X → ℕ) → ℕ → (X → X) → X → X
changed_by key number change x = if key x == number then change x else x

changed-here : {X : Type 0} (passes : Bool) (x y : X) → passes ≡ true → (if passes then y else x) ≡ y
changed-here passes x y is = search rules

unchanged-here : {X : Type 0} (passes : Bool) (x y : X) → passes ≡ false → (if passes then y else x) ≡ x
unchanged-here passes x y is = search rules

pub none-changed : {X : Type 0} (key : X → ℕ) (number : ℕ) (change : X → X) (xs : List X) → All (λ x. (key x == number) ≡ false) xs → map (changed_by key number change) xs ≡ xs
none-changed key number change [] others = refl
none-changed key number change (x ∷ xs) others =
    search (rules, unchanged-here, All-head, All-tail, none-changed key number change xs (All-tail (λ x. (key x == number) ≡ false) x xs others))

-- where one element alone has it
pub once-changed : {X : Type 0} (key : X → ℕ) (number i : ℕ) (change : X → X) (xs : List X) → AllPairs (λ a b. key a ≢ key b) xs → IsFirstAt (λ x. key x == number) i xs →
    map (changed_by key number change) xs ≡ changed_at i change xs
once-changed key number i change [] once first = absurd first
once-changed key number zero change (x ∷ xs) once first =
    let same : key x ≡ number = eqb-true (key x) number first in
    ap (λ y. y ∷ map (changed_by key number change) xs) (changed-here (key x == number) x (change x) first)
    ∙ ap (λ rest. change x ∷ rest)
    (none-changed key number change xs
    (All-weaker (λ b. key x ≢ key b) (λ b. (key b == number) ≡ false) (λ b other. ne_eqb (key b) number (λ is. other (same ∙ sym is))) xs
    (AllPairs-head (λ a b. key a ≢ key b) x xs once)))
once-changed key number (suc i) change (x ∷ xs) once first =
    search (rules, unchanged-here, AllPairs-tail, once-changed key number i change xs (AllPairs-tail (λ a b. key a ≢ key b) x xs once) first.1)

-- Where no member is found that an earlier one is related to, no two are.
use Rattle.std.proofs.Common.{◌≡◌, ℕ, suc, ◌||◌, ap, sym, ◌∙◌, Bool, true, false, cond, find, List, [], ◌∷◌, ◌++◌, length, map, take, option_map, Option, Some, None, refl, append_assoc, arith}
use Rattle.std.specs.List.{list_any}
use Rattle.std.proofs.lemmas.Bool.{or_parts}
use Rattle.std.proofs.lemmas.List.Folds.{list_any-append}
use Rattle.std.proofs.lemmas.List.{length-append}
use Rattle.hc_records.specs.Lists.{some_pair}
use Rattle.hc_records.proofs.lemmas.Choices.{or-no}
use Rattle.hc_project.specs.declared.places.Place.{Place}
use Rattle.hc_project.specs.Places.{first_from, pair}
use Rattle.hc_project.specs.Repeated.{first_related, related_at}
use Rattle.hc_project.proofs.Searched.{none_left, none_right}

-- a test that no member meets where one of two holds
neither : {X : Type 0} (a b : X → Bool) (xs : List X) → list_any (λ x. a x || b x) xs ≡ false → (list_any a xs ≡ false) × (list_any b xs ≡ false)
neither a b [] none = (refl, refl)
neither a b (x ∷ xs) none =
    let here = or_parts (a x || b x) _ none in
    let parts = or_parts (a x) (b x) here.0 in
    let rest = neither a b xs here.1 in
    (rw (parts.0, rest.0) refl, rw (parts.1, rest.1) refl)

-- a search says of each member whether an earlier one is related to it
abbrev pub SaysEarlier : {X P : Type 0} → (X → X → Bool) → List X → (ℕ → X → Option P) → Type 0
SaysEarlier {X} related whole find =
    (index : ℕ) (x : X) → find index x ≡ None → list_any (λ earlier. related earlier x) (take index whole) ≡ false

front-is : {X : Type 0} (seen rest : List X) → take (length seen) (seen ++ rest) ≡ seen
front-is [] rest = refl
front-is (x ∷ seen) rest = ap (λ xs. x ∷ xs) (front-is seen rest)

added : {X : Type 0} (related : X → X → Bool) (seen : List X) (x z : X)
    → list_any (λ earlier. related earlier z) (seen ++ x ∷ []) ≡ (list_any (λ earlier. related earlier z) seen || related x z)
added related seen x z =
    list_any-append (λ earlier. related earlier z) seen (x ∷ []) ∙ ap (λ b. list_any (λ earlier. related earlier z) seen || b) (or-no (related x z))

same_tests : {X : Type 0} (a b : X → Bool) (xs : List X) → ((x : X) → a x ≡ b x) → list_any a xs ≡ list_any b xs
same_tests a b [] same = refl
same_tests a b (x ∷ xs) same = rw (same x, same_tests a b xs same) refl

unrelated : {X P : Type 0} (related : X → X → Bool) (whole : List X) (find : ℕ → X → Option P) (seen rest : List X)
    → SaysEarlier related whole find → seen ++ rest ≡ whole → first_from find (length seen) rest ≡ None
    → (list_any (λ x. list_any (λ earlier. related earlier x) seen) rest ≡ false) × (some_pair related rest ≡ false)
unrelated related whole find seen [] says parts none = (refl, refl)
unrelated related whole find seen (x ∷ xs) says parts none =
    let answer_given = says (length seen) x (none_left _ _ none) in
    let front : take (length seen) whole ≡ seen = ap (take (length seen)) (sym parts) ∙ front-is seen (x ∷ xs) in
    let here : list_any (λ earlier. related earlier x) seen ≡ false = ap (list_any (λ earlier. related earlier x)) (sym front) ∙ answer_given in
    let longer : length (seen ++ x ∷ []) ≡ suc (length seen) = omega (arith, length-append seen (x ∷ [])) in
    let rest = unrelated related whole find (seen ++ x ∷ []) xs says (append_assoc seen (x ∷ []) xs ∙ parts)
    (ap (λ n. first_from find n xs) longer ∙ none_right _ _ none) in
    let split = neither (λ z. list_any (λ earlier. related earlier z) seen) (related x) xs
    (sym (same_tests _ _ xs (added related seen x)) ∙ rest.0) in
    (rw (here, split.0) refl, rw (split.1, rest.1) refl)

pub no_pair : {X P : Type 0} (related : X → X → Bool) (xs : List X) (find : ℕ → X → Option P)
    → SaysEarlier related xs find → first_from find 0 xs ≡ None → some_pair related xs ≡ false
no_pair related xs find says none = (unrelated related xs find [] xs says refl none).1

-- `find` and `position` find nothing only where no member passes the test
unfound : {X Y : Type 0} (test : Bool) (x : X) (rest : Option X) (f : X → Y) → option_map f (cond test (Some x) rest) ≡ None → (test ≡ false) × (option_map f rest ≡ None)
unfound true x rest f none = cc
unfound false x rest f none = (refl, none)

find_none : {X Y : Type 0} (test : X → Bool) (f : X → Y) (xs : List X) → option_map f (find test xs) ≡ None → list_any test xs ≡ false
find_none test f [] none = refl
find_none test f (x ∷ xs) none =
    let parts = unfound (test x) x (find test xs) f none in
    rw (parts.0, find_none test f xs parts.1) refl

related_says : {X : Type 0} (related : X → X → Bool) (list : List (Place × X)) → SaysEarlier (λ a b. related a.1 b.1) list (related_at related list)
related_says related list index x none =
    find_none (λ earlier. related earlier.1 x.1) (λ earlier. pair earlier.0 x.0) (take index list) none

mapped-any : {X Y : Type 0} (test : Y → Bool) (f : X → Y) (xs : List X) → list_any test (map f xs) ≡ list_any (λ x. test (f x)) xs
mapped-any test f [] = refl
mapped-any test f (x ∷ xs) = ap (λ b. test (f x) || b) (mapped-any test f xs)

pub unmapped : {X Y : Type 0} (related : Y → Y → Bool) (f : X → Y) (xs : List X) → some_pair related (map f xs) ≡ some_pair (λ a b. related (f a) (f b)) xs
unmapped related f [] = refl
unmapped related f (x ∷ xs) = rw (mapped-any (related (f x)) f xs, unmapped related f xs) refl

-- where nothing is found, no two values are related
pub none_related : {X : Type 0} (related : X → X → Bool) (list : List (Place × X)) → first_related related list ≡ None
    → some_pair related (map (λ x. x.1) list) ≡ false
none_related related list none =
    unmapped related (λ x. x.1) list ∙ no_pair (λ a b. related a.1 b.1) list (related_at related list) (related_says related list) none

-- The element that is found with a serial among marked elements, once those that fail a test have gone and one more has come
-- among them.
use Rattle.std.proofs.Common.{◌≡◌, ◌≢◌, ℕ, ◌==◌, ◌<◌, Bool, true, false, cond, List, [], ◌∷◌, ◌++◌, filter, map, refl, sym, ap, ◌∙◌, arith, Option, Some, None}
use Rattle.std.specs.Prelude.{All, AllPairs, find, option_and_then}
use Rattle.std.proofs.lemmas.Bool.{eqb-true, ne_eqb}
use Rattle.std.proofs.lemmas.Bool.Decides.{nat_tests}
use Rattle.std.proofs.lemmas.List.Elements.{All-cons, All-head, All-nil, All-tail}
use Rattle.hc_records.proofs.lemmas.Lists.{AllPairs-head, AllPairs-tail}
use Rattle.hc_records.proofs.lemmas.Choices.{by_bool, itself}

either_same : {X : Type 0} (b : Bool) (x : X) → cond b x x ≡ x
either_same true x = refl
either_same false x = refl

not_above : (own other serial : ℕ) → (own == serial) ≡ true → own < other → (other == serial) ≡ false
not_above own other serial e less = grind (arith, nat_tests)

not_same : (own other serial : ℕ) → (own == serial) ≡ true → own ≢ other → (other == serial) ≡ false
not_same own other serial e differs = ne_eqb other serial (λ same. differs (eqb-true own serial e ∙ sym same))

module _ {X : Type 0} (number : X → ℕ) where
  -- it has the serial
  abbrev pub has : ℕ → X → Bool
  has serial x = number x == serial

  -- no two have the same serial
  abbrev pub Differ : X → X → Type 0
  Differ a b = number a ≢ number b

  none_other : (own serial : ℕ) (xs : List X) → (own == serial) ≡ true → All (λ x. own ≢ number x) xs → find (has serial) xs ≡ None
  none_other own serial [] e all = refl
  none_other own serial (x ∷ xs) e all =
      ap (λ b. cond b (Some x) (find (has serial) xs)) (not_same own (number x) serial e (All-head (λ (y : X). own ≢ number y) x xs all))
      ∙ none_other own serial xs e (All-tail (λ (y : X). own ≢ number y) x xs all)

  -- each is found with its serial

  abbrev Finds : List X → X → Type 0
  Finds xs x = find (has (number x)) xs ≡ Some x

  found_after : (first : X) (all xs : List X) → All (Finds all) xs → All (Differ first) xs → All (Finds (first ∷ all)) xs
  found_after first all [] found differ = All-nil (Finds (first ∷ all))
  found_after first all (x ∷ xs) found differ =
      All-cons (Finds (first ∷ all)) x xs
      (ap (λ b. cond b (Some first) (find (has (number x)) all)) (ne_eqb (number first) (number x) (All-head (Differ first) x xs differ)) ∙ All-head (Finds all) x xs found)
      (found_after first all xs (All-tail (Finds all) x xs found) (All-tail (Differ first) x xs differ))

  pub find-each : (xs : List X) → AllPairs Differ xs → All (λ x. find (has (number x)) xs ≡ Some x) xs
  find-each [] differ = All-nil (Finds [])
  find-each (x ∷ xs) differ =
      All-cons (Finds (x ∷ xs)) x xs (ap (λ b. cond b (Some x) (find (has (number x)) xs)) (itself (number x)))
      (found_after x xs xs (find-each xs (AllPairs-tail Differ x xs differ)) (AllPairs-head Differ x xs differ))

  -- one more among others, with a higher serial than all
  pub find-more : (serial : ℕ) (xs ys : List X) (more : X) → All (λ x. number x < number more) (xs ++ ys)
      → find (has serial) (xs ++ more ∷ ys) ≡ cond (has serial more) (Some more) (find (has serial) (xs ++ ys))
  find-more serial [] ys more all = refl
  find-more serial (x ∷ xs) ys more all =
      by_bool (has serial x)
      (λ t. let other : has serial more ≡ false = not_above (number x) (number more) serial t (All-head (λ (y : X). number y < number more) x (xs ++ ys) all) in
      ap (λ b. cond b (Some x) (find (has serial) (xs ++ more ∷ ys))) t
      ∙ sym (ap (λ b. cond b (Some x) (find (has serial) (xs ++ ys))) t)
      ∙ sym (ap (λ b. cond b (Some more) (find (has serial) (x ∷ xs ++ ys))) other))
      (λ t. ap (λ b. cond b (Some x) (find (has serial) (xs ++ more ∷ ys))) t
      ∙ find-more serial xs ys more (All-tail (λ (y : X). number y < number more) x (xs ++ ys) all)
      ∙ sym (ap (λ b. cond (has serial more) (Some more) (cond b (Some x) (find (has serial) (xs ++ ys)))) t))

  module _ (mark : X → X) (stays : X → Bool) (same : (x : X) → number (mark x) ≡ number x) where
    -- a thing that is marked, where it then stays
    abbrev pub marked : X → Option X
    marked x = cond (stays (mark x)) (Some (mark x)) None

    find_first : (serial : ℕ) (keep : Bool) (x : X) (rest : List X) → find (has serial) (cond keep (mark x ∷ rest) rest)
        ≡ cond keep (cond (has serial x) (Some (mark x)) (find (has serial) rest)) (find (has serial) rest)
    find_first serial true x rest = ap (λ n. cond (n == serial) (Some (mark x)) (find (has serial) rest)) (same x)
    find_first serial false x rest = refl

    pub find-marked : (serial : ℕ) (xs : List X) → AllPairs Differ xs → find (has serial) (filter stays (map mark xs)) ≡ option_and_then marked (find (has serial) xs)
    find-marked serial [] differ = refl
    find-marked serial (x ∷ xs) differ =
        let rest : List X = filter stays (map mark xs) in
        let keep : Bool = stays (mark x) in
        let later = find-marked serial xs (AllPairs-tail Differ x xs differ) in
        find_first serial keep x rest
        ∙ by_bool (has serial x)
        (λ t. let none : find (has serial) xs ≡ None = none_other (number x) serial xs t (AllPairs-head Differ x xs differ) in
        ap (λ b. cond keep (cond b (Some (mark x)) (find (has serial) rest)) (find (has serial) rest)) t
        ∙ ap (λ found. cond keep (Some (mark x)) found) (later ∙ ap (option_and_then marked) none)
        ∙ sym (ap (λ b. option_and_then marked (cond b (Some x) (find (has serial) xs))) t))
        (λ t. ap (λ b. cond keep (cond b (Some (mark x)) (find (has serial) rest)) (find (has serial) rest)) t
        ∙ either_same keep (find (has serial) rest)
        ∙ later
        ∙ sym (ap (λ b. option_and_then marked (cond b (Some x) (find (has serial) xs))) t))

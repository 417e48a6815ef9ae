-- Properties of an element that is found in a list, and of each of the eight tasks.
use Rattle.std.proofs.Common.{◌≡◌, ◌≢◌, ℕ, ◌<◌, ◌⊎◌, zero, suc, Bool, true, false, List, [], ◌∷◌, Option, Some, None, refl, sym, ◌∙◌, arith, if◌then◌else◌}
use Rattle.std.specs.Prelude.{All, AllPairs, find, option_map, ◌==◌}
use Rattle.std.specs.List.{enumerate_from}
use Rattle.std.proofs.lemmas.Bool.{eqb-true}
use Rattle.std.proofs.lemmas.List.Elements.{All-nil, All-cons, All-head, All-tail}
use Rattle.std.proofs.lemmas.Grind.{common_steps}
use Rattle.hc_records.specs.declared.limits.TheConstants.{TASKS}
use Rattle.hc_records.specs.Image.{tasks}
use Rattle.hc_records.proofs.lemmas.Lists.{AllPairs-head, AllPairs-map, AllPairs-numbers, AllPairs-tail}

-- what holds of each element holds of one that is found
found-by : {X : Type 0} (P : X → Type 0) (passes : Bool) (x : X) (rest : Option X) (found : X) → P x → (rest ≡ Some found → P found) →
    (if passes then Some x else rest) ≡ Some found → P found
found-by P true x rest found here later is = let same : x ≡ found = cc in rw (← same) here
found-by P false x rest found here later is = later is

pub found-all : {X : Type 0} (P : X → Type 0) (test : X → Bool) (xs : List X) (found : X) → All P xs → find test xs ≡ Some found → P found
found-all P test [] found all is = cc
found-all P test (x ∷ xs) found all is =
    found-by P (test x) x (find test xs) found (All-head P x xs all) (λ rest. found-all P test xs found (All-tail P x xs all) rest) is

-- where nothing is found, no element passes
pub none-by : {X : Type 0} (passes : Bool) (x : X) (rest : Option X) → (if passes then Some x else rest) ≡ None → (passes ≡ false) × (rest ≡ None)
none-by true x rest none = cc
none-by false x rest none = (refl, none)

pub found-none : {X : Type 0} (test : X → Bool) (xs : List X) → find test xs ≡ None → All (λ x. test x ≡ false) xs
found-none test [] none = All-nil (λ x. test x ≡ false)
found-none test (x ∷ xs) none =
    let parts = none-by (test x) x (find test xs) none in
    All-cons (λ x. test x ≡ false) x xs parts.0 (found-none test xs parts.1)

-- an element that is found by a number, and what it is mapped to
pub mapped-some : {X Y : Type 0} (f : X → Y) (found : Option X) (y : Y) → option_map f found ≡ Some y → (x : X) × (found ≡ Some x) × (f x ≡ y)
mapped-some f None y is = cc
mapped-some f (Some x) y is = (x, refl, cc)

-- two that are found by two numbers are related, one way or the other
two-by : {X : Type 0} (R : X → X → Type 0) (first second : Bool) (x a b : X) (rest rest' : Option X) →
    (first ≡ true → second ≡ true → ⊥) → (rest' ≡ Some b → R x b) → (rest ≡ Some a → R x a) → (rest ≡ Some a → rest' ≡ Some b → R a b ⊎ R b a) →
    (if first then Some x else rest) ≡ Some a → (if second then Some x else rest') ≡ Some b → R a b ⊎ R b a
two-by R first second x a b rest rest' apart right left both is is' = grind (arith, common_steps)

pub found-two : {Y : Type 0} (R : ℕ × Y → ℕ × Y → Type 0) (first second : ℕ) (xs : List (ℕ × Y)) (a b : ℕ × Y) → first ≢ second → AllPairs R xs →
    find (λ x. x.0 == first) xs ≡ Some a → find (λ x. x.0 == second) xs ≡ Some b → R a b ⊎ R b a
found-two R first second [] a b other pairs is is' = cc
found-two R first second (x ∷ xs) a b other pairs is is' =
    let after_it = AllPairs-head R x xs pairs in
    two-by R (x.0 == first) (x.0 == second) x a b (find (λ y. y.0 == first) xs) (find (λ y. y.0 == second) xs)
    (λ same same'. other (sym (eqb-true x.0 first same) ∙ eqb-true x.0 second same'))
    (λ found. found-all (R x) (λ y. y.0 == second) xs b after_it found)
    (λ found. found-all (R x) (λ y. y.0 == first) xs a after_it found)
    (found-two R first second xs a b other (AllPairs-tail R x xs pairs))
    is is'

-- what holds of each of the eight tasks
pub each-task : (P : ℕ → Type 0) → All P tasks → (task : ℕ) → task < TASKS → P task
each-task P all zero low = all 0 0 (omega arith)
each-task P all (suc zero) low = all 1 0 (omega arith)
each-task P all (suc (suc zero)) low = all 2 0 (omega arith)
each-task P all (suc (suc (suc zero))) low = all 3 0 (omega arith)
each-task P all (suc (suc (suc (suc zero)))) low = all 4 0 (omega arith)
each-task P all (suc (suc (suc (suc (suc zero))))) low = all 5 0 (omega arith)
each-task P all (suc (suc (suc (suc (suc (suc zero)))))) low = all 6 0 (omega arith)
each-task P all (suc (suc (suc (suc (suc (suc (suc zero))))))) low = all 7 0 (omega arith)
each-task P all (suc (suc (suc (suc (suc (suc (suc (suc task)))))))) low = absurd (omega arith)

pub all-tasks : (P : ℕ → Type 0) → ((task : ℕ) → task < TASKS → P task) → All P tasks
all-tasks P each =
    All-cons P 0 (1 ∷ 2 ∷ 3 ∷ 4 ∷ 5 ∷ 6 ∷ 7 ∷ []) (each 0 (omega arith))
    (All-cons P 1 (2 ∷ 3 ∷ 4 ∷ 5 ∷ 6 ∷ 7 ∷ []) (each 1 (omega arith))
    (All-cons P 2 (3 ∷ 4 ∷ 5 ∷ 6 ∷ 7 ∷ []) (each 2 (omega arith))
    (All-cons P 3 (4 ∷ 5 ∷ 6 ∷ 7 ∷ []) (each 3 (omega arith))
    (All-cons P 4 (5 ∷ 6 ∷ 7 ∷ []) (each 4 (omega arith))
    (All-cons P 5 (6 ∷ 7 ∷ []) (each 5 (omega arith))
    (All-cons P 6 (7 ∷ []) (each 6 (omega arith))
    (All-cons P 7 [] (each 7 (omega arith)) (All-nil P))))))))

pub tasks-ascend : AllPairs (λ a b. a < b) tasks
tasks-ascend = AllPairs-map (λ (a b : ℕ). a < b) (λ (e : ℕ × ℕ). e.0) (enumerate_from 0 tasks) (AllPairs-numbers 0 tasks)

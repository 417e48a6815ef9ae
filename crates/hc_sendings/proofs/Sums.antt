-- Sums in two directions, and what one of several distinct numbers has.
use Rattle.std.proofs.Common.{◌≡◌, ℕ, Bool, true, List, [], ◌∷◌, refl, arith, get_or}
use Rattle.std.specs.Prelude.{All, sum_by, ◌==◌}
use Rattle.std.specs.List.{list_any}
use Rattle.std.proofs.lemmas.Bool.{eq-eqb}
use Rattle.std.proofs.lemmas.List.Elements.{All-head, All-tail}
use Rattle.std.proofs.lemmas.List.Folds.{list_any_at}
use Rattle.std.proofs.lemmas.List.Sums.{sum_by-cons}

pub sum-same : {X : Type 0} (f g : X → ℕ) (xs : List X) → All (λ x. f x ≡ g x) xs → sum_by f xs ≡ sum_by g xs
sum-same f g [] all = refl
sum-same f g (x ∷ xs) all =
    let here = All-head (λ y. f y ≡ g y) x xs all in
    let rest = sum-same f g xs (All-tail (λ y. f y ≡ g y) x xs all) in
    let first = sum_by-cons f x xs in
    let second = sum_by-cons g x xs in
    omega arith

-- a number is one of these
abbrev pub is_one_of : List ℕ → ℕ → Bool
is_one_of tasks task = list_any (λ other. task == other) tasks

pub each-one : (tasks : List ℕ) → All (λ task. is_one_of tasks task ≡ true) tasks
each-one tasks i d within = list_any_at (λ other. get_or tasks i d == other) tasks i d within (eq-eqb (get_or tasks i d) (get_or tasks i d) refl)

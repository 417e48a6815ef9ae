-- Two truths by their cases, and what numbers and lists say by comparison.
use Rattle.std.specs.Prelude.{Contains, nat_lt, ◌==◌, ◌||◌, ◌≢◌}
use Rattle.std.specs.List.{flat_map}
use Rattle.std.proofs.Common.{◌≡◌, ℕ, suc, ◌<◌, Bool, true, false, List, [], ◌∷◌, refl, rules, arith}
use Rattle.std.proofs.lemmas.Bool.Decides.{nat_tests}
use Rattle.std.proofs.lemmas.Grind.{flat_map-append}

pub by_bool : {P : Type 0} (b : Bool) → (b ≡ true → P) → (b ≡ false → P) → P
by_bool true f g = f refl
by_bool false f g = g refl

pub is_other : (a b : ℕ) → a < b → (b == a) ≡ false
is_other a b less = grind (arith, nat_tests)

pub itself : (n : ℕ) → (n == n) ≡ true
itself n = grind (arith, nat_tests)

pub flat_map-flat_map : {X Y Z : Type 0} (g : Y → List Z) (f : X → List Y) (xs : List X) → flat_map g (flat_map f xs) ≡ flat_map (λ x. flat_map g (f x)) xs
flat_map-flat_map g f [] = refl
flat_map-flat_map g f (x ∷ xs) = search (rules, flat_map-append, flat_map-flat_map g f xs)

pub member-by : (here rest : Bool) → (here || rest) ≡ true → here ≡ false → rest ≡ true
member-by here rest is not_here = grind arith

pub less_differs : (a b : ℕ) → a < b → a ≢ b
less_differs a b below same = omega (arith, below, same)

pub below : (a serial : ℕ) → nat_lt a serial ≡ true → (a == serial) ≡ false
below a serial t = grind (arith, nat_tests)

pub own-swap : (a b : ℕ) → (a == b) ≡ (b == a)
own-swap a b = grind (arith, nat_tests)

pub lower-other : (a b : ℕ) → a < b → (a == b) ≡ false
lower-other a b less = grind (arith, nat_tests)

pub moved : (a b r : Bool) → (a || (b || r)) ≡ ((a || b) || r)
moved true b r = refl
moved false b r = refl

pub contains-first : {X : Type 0} (x : X) (xs : List X) → Contains (x ∷ xs) x
contains-first x xs = (0, omega arith, refl)

pub or-no : (a : Bool) → (a || false) ≡ a
or-no true = refl
or-no false = refl

pub contains-later : {X : Type 0} (first x : X) (xs : List X) → Contains xs x → Contains (first ∷ xs) x
contains-later first x xs (k, low, is) = (suc k, omega arith, is)

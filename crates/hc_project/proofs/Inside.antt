-- Tests that don't hold: what they say of numbers, and of their parts.
use Rattle.std.specs.Prelude.{◌≡◌, ℕ, ◌≤◌, ◌||◌, ◌==◌, not, nat_lt, Bool, true, false, Some, refl}
use Rattle.std.proofs.Common.{arith}
use Rattle.std.proofs.lemmas.Bool.Decides.{nat_tests}
use Rattle.hc_records.specs.Project.{is_outside}
use Rattle.hc_records.specs.Variables.{variable_of}

pub or-left : (a b : Bool) → (a || b) ≡ false → a ≡ false
or-left true b none = none
or-left false b none = refl

pub or-right : (a b : Bool) → (a || b) ≡ false → b ≡ false
or-right true b none = cc
or-right false b none = none

-- what lies inside a length or a range
pub at-most : (most n : ℕ) → nat_lt most n ≡ false → n ≤ most
at-most most n few = grind (arith, nat_tests)

pub few-inside : (most n : ℕ) → nat_lt most n ≡ false → is_outside 0 most n ≡ false
few-inside most n few = grind (arith, nat_tests)

pub some-inside : (most n : ℕ) → (n == 0) ≡ false → nat_lt most n ≡ false → is_outside 1 most n ≡ false
some-inside most n some few = grind (arith, nat_tests)

pub task-inside-7 : (n : ℕ) → not (nat_lt n 8) ≡ false → is_outside 0 7 n ≡ false
task-inside-7 n inside = grind (arith, nat_tests)

pub variable-inside : (v : ℕ) → is_outside 1 4294967295 v ≡ false → is_outside 0 4294967295 v ≡ false
variable-inside v inside = grind (arith, nat_tests)

pub variable-named : (v : ℕ) → is_outside 1 4294967295 v ≡ false → variable_of v ≡ Some v
variable-named v inside = let named : (v == 0) ≡ false = grind (arith, nat_tests) in rw named refl

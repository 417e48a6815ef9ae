-- A search by halves among numbers that don't fall.
use Rattle.std.proofs.Common.{ℕ, ◌+◌, ◌<◌, ◌≤◌, List, length}
use Rattle.std.specs.List.{AllWithin}

-- those in front are no greater than a number, and those after are greater; between them some are left
pub record Between (xs : List ℕ) (n begun left : ℕ) : Type 0 where
  pub inside : begun + left ≤ length xs
  pub front : AllWithin (λ x. x ≤ n) xs 0 begun
  pub back : AllWithin (λ x. n < x) xs (begun + left) (length xs)

-- the half before the one that was read goes, or what is after it

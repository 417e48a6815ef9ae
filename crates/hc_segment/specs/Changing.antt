-- A prepared edit of a line, as contracts see it.
use Rattle.std.specs.Prelude.{ℕ}
use Rattle.hc_segment.specs.Machines.{Replacement}

-- the number of machines for which it was prepared, and its replacement
pub record Prepared : Type 0 where
  pub count : ℕ
  pub replacement : Replacement

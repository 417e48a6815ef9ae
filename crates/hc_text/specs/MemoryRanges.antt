-- The ranges of a machine's memory that `poke` and `peek` name.
use Rattle.std.specs.Prelude.{ℕ, List}

-- the slave, the first byte, and the bytes to write
pub record Poking : Type 0 where
  pub station : ℕ
  pub at : ℕ
  pub part : List ℕ

-- the slave, the first byte, and the number of bytes to read
pub record Peeking : Type 0 where
  pub station : ℕ
  pub at : ℕ
  pub count : ℕ

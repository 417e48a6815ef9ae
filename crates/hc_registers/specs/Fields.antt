-- The fields of register blocks, by their bytes (ETG.1000.4, 6.6 and 6.7).
use Rattle.std.specs.Prelude.{ℕ, ◌+◌, List, slice_range}
use Rattle.std.specs.Int.{from_le_bytes, w16, w32}

-- the number in the two bytes of a block from a byte on, low byte first
abbrev pub word_at : List ℕ → ℕ → ℕ
word_at bytes at = from_le_bytes w16 (slice_range bytes at (at + 2))

-- the number in the four bytes of a block from a byte on, low byte first
abbrev pub long_at : List ℕ → ℕ → ℕ
long_at bytes at = from_le_bytes w32 (slice_range bytes at (at + 4))

-- The segments into which the machines of a line are cut.
use Rattle.std.specs.Prelude.{◌≤◌, ◌+◌, ◌/◌, ℕ, List, All, length}

-- room for this number of segments, each of at most this number of machines
pub record SegmentRoom : Type 0 where
  pub number : ℕ
  pub size : ℕ

-- a fourth of a number of machines, rounded up
abbrev pub fourth : ℕ → ℕ
fourth count = (count + 3) / 4

-- the sizes of the segments into which `count` machines are cut: at most four, each of at most a fourth of the machines
pub record AreSegmentSizes (count : ℕ) (sizes : List ℕ) : Type 0 where
  pub few : length sizes ≤ 4
  pub small : All (λ size. size ≤ fourth count) sizes

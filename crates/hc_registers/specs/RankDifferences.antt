-- The differences between two lines, place by place: the slaves that left, the blocks that stayed, and those that moved. The
-- new line has the same declared slaves, or more after them.
use Rattle.std.specs.Prelude.{◌≡◌, ◌≢◌, ℕ, ◌+◌, ◌-◌, ◌*◌, ◌<◌, ◌≤◌, List, All, length, slice_get, Option, Some, None}
use Rattle.hc_registers.specs.Blocks.{LineBlock}
use Rattle.hc_registers.specs.declared.ranked.Gone.{Gone}
use Rattle.hc_registers.specs.Ranked.{RankedBlock}
use Rattle.hc_registers.specs.RankPlaces.{place}

-- the first place of the slaves that leave
abbrev pub first_gone : Gone → ℕ
first_gone gone = 16 * (gone.rank - 1)

-- a place is one of theirs
abbrev pub IsGone : Gone → ℕ → Type 0
IsGone gone n = (first_gone gone ≤ n) × (n < first_gone gone + 16 * gone.slaves)

-- the place of a block
abbrev pub block_place : RankedBlock → ℕ
block_place block = place block.rank block.found.number

-- a block is at its place
abbrev pub IsAtItsPlace : List (Option LineBlock) → RankedBlock → Type 0
IsAtItsPlace places block = slice_get places (block_place block) ≡ Some (Some block.found)

-- a block with the same bytes at the same register is at a place
pub record StoodAt (old : List (Option LineBlock)) (n : ℕ) (block : LineBlock) : Type 0 where
  pub before : LineBlock
  pub stood : slice_get old n ≡ Some (Some before)
  pub same : before.block ≡ block.block

-- the moved blocks are in the new line, and each other block of it was at its place in the old one
pub record Names (old new : List (Option LineBlock)) (moved : List RankedBlock) : Type 0 where
  pub ranks : All (λ block. 1 ≤ block.rank) moved
  pub are_placed : All (IsAtItsPlace new) moved
  pub others : (n : ℕ) (block : LineBlock) → slice_get new n ≡ Some (Some block) → All (λ other. block_place other ≢ n) moved → StoodAt old n block

-- two lines differ by slaves that left, others that came, and the moved blocks; the new one may have places of more declared slaves after those of the old one
pub record Differ (old new : List (Option LineBlock)) (gone : Gone) (moved : List RankedBlock) : Type 0 where
  pub size : length old ≤ length new
  pub rank : 1 ≤ gone.rank
  pub inside : first_gone gone + 16 * gone.slaves ≤ length new
  pub went : (n : ℕ) → IsGone gone n → slice_get new n ≡ Some None
  pub stays : (n : ℕ) (before : LineBlock) → slice_get old n ≡ Some (Some before) → slice_get new n ≡ Some None → IsGone gone n
  pub names : Names old new moved

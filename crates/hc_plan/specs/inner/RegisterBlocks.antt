-- The steps of stored register blocks when an edit is carried out.
use Rattle.std.specs.Prelude.{◌≡◌, List, [], ◌∷◌, length, map, Option, Some}
use Rattle.hc_records.specs.Lists.{changed_at}
use Rattle.hc_registers.specs.Blocks.{LineBlock, RegisterBlock}
use Rattle.hc_registers.specs.declared.ranked.Gone.{Gone}
use Rattle.hc_registers.specs.Ranked.{RankedBlock}
use Rattle.hc_registers.specs.RankDifferences.{Differ, block_place}
use Rattle.hc_plan.specs.RegisterBlocks.{block_in}

-- a moved block is in place of the old one
abbrev pub with_moved : RankedBlock → List (Option RegisterBlock) → List (Option RegisterBlock)
with_moved moved blocks = changed_at (block_place moved) (λ _. Some moved.found.block) blocks

-- the stored blocks with moved blocks, one after another
abbrev pub with_all_moved : List RankedBlock → List (Option RegisterBlock) → List (Option RegisterBlock)
with_all_moved [] blocks = blocks
with_all_moved (moved ∷ rest) blocks = with_all_moved rest (with_moved moved blocks)

-- the blocks are those at the places of a line; the line after an edit has as many places, and differs by the slaves that left and the moved blocks
pub record BlocksAreEdited (blocks : List (Option RegisterBlock)) (gone : Gone) (moved : List RankedBlock) : Type 0 where
  pub old : List (Option LineBlock)
  pub new : List (Option LineBlock)
  pub are : blocks ≡ map block_in old
  pub size : length old ≡ length new
  pub differ : Differ old new gone moved

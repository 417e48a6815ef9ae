-- The register blocks of a line as a plan stores them: sixteen places for each declared slave, by rank.
use Rattle.std.specs.Prelude.{◌≡◌, ℕ, zero, suc, ◌+◌, List, map, None, Option, option_and_then, option_map, slice_get}
use Rattle.hc_records.specs.declared.records.Declared.{Declared}
use Rattle.hc_records.specs.Line.{groups_of, line_from}
use Rattle.hc_records.specs.Lists.{changed_at}
use Rattle.hc_records.specs.Project.{lowest_fault}
use Rattle.hc_registers.specs.Blocks.{LineBlock, RegisterBlock}
use Rattle.hc_registers.specs.RankPlaces.{places_from}

-- the register block at a place that has a block or is empty
abbrev pub block_in : Option LineBlock → Option RegisterBlock
block_in block = option_map (λ found. found.block) block

-- the register blocks of the line of declared groups, each at its place
abbrev pub blocks_by_rank : List Declared → List (Option RegisterBlock)
blocks_by_rank groups = map block_in (places_from (line_from 1 groups) 1 groups)

-- the block at a place; none if the place is empty, or if there is no such place
abbrev pub has_at : List (Option RegisterBlock) → ℕ → Option RegisterBlock
has_at blocks n = option_and_then (λ block. block) (slice_get blocks n)

-- the blocks are those of the line of a project's groups
pub record AreBlocksOf (groups : List Declared) (blocks : List (Option RegisterBlock)) : Type 0 where
  pub project : lowest_fault (groups_of groups) ≡ None
  pub are : blocks ≡ blocks_by_rank groups

-- so many elements from an index on are replaced
abbrev pub replaced_from : {X : Type 0} → ℕ → ℕ → X → List X → List X
replaced_from from zero x xs = xs
replaced_from from (suc count) x xs = changed_at (from + count) (λ _. x) (replaced_from from count x xs)

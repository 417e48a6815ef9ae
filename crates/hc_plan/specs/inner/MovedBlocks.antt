-- The register blocks that an edit moves as they are reported: candidate by candidate, each block beside the one that is stored at its place.
use Rattle.std.specs.Prelude.{ℕ, ◌+◌, ◌*◌, ◌≤◌, not, Bool, false, List, [], ◌∷◌, filter, Option}
use Rattle.std.specs.Option.{option_map_or}
use Rattle.hc_registers.specs.Blocks.{RegisterBlock, same_bytes}
use Rattle.hc_registers.specs.RankDifferences.{block_place}
use Rattle.hc_registers.specs.Ranked.{RankedBlock, ranked}
use Rattle.hc_changes.specs.MaybeMovedAreas.{MaybeMoved}
use Rattle.hc_plan.specs.RegisterBlocks.{has_at}
use Rattle.hc_plan.specs.inner.Blocks.{IsWritable, two_blocks}

-- a candidate whose blocks can be written, and whose slave has a rank
pub record IsWritableArea (candidate : MaybeMoved) : Type 0 where
  pub rank : 1 ≤ candidate.rank
  pub blocks : IsWritable candidate.index candidate.area candidate.place

-- a block of a candidate, by its number in the slave's order, with the slave's rank
abbrev pub block_with : MaybeMoved → ℕ → RegisterBlock → RankedBlock
block_with candidate number block = ranked candidate.rank (record { station = candidate.station; number = number; block = block })

-- a block is stored at its place, with its bytes and register
abbrev pub is_stored : List (Option RegisterBlock) → RankedBlock → Bool
is_stored stored block = option_map_or (same_bytes block.found.block) (has_at stored (block_place block)) false

-- a block of the new line moved if the old line's has other bytes or another register, or is not there
abbrev pub is_moved : List (Option RegisterBlock) → RankedBlock → Bool
is_moved stored block = not (is_stored stored block)

-- the two blocks of a candidate
abbrev pub candidate_blocks : MaybeMoved → List RankedBlock
candidate_blocks candidate =
    let blocks = two_blocks candidate.index candidate.area candidate.place in
    block_with candidate (2 * candidate.index) blocks.0 ∷ block_with candidate (2 * candidate.index + 1) blocks.1 ∷ []

-- the blocks of a candidate that the edit moved
abbrev pub blocks_moved : List (Option RegisterBlock) → MaybeMoved → List RankedBlock
blocks_moved stored candidate = filter (is_moved stored) (candidate_blocks candidate)

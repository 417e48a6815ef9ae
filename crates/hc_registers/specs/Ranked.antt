-- The blocks of a line with the ranks of their slaves: declared slaves are counted from 1, present or not.
use Rattle.std.specs.Prelude.{ℕ, not, List, filter, map}
use Rattle.std.specs.List.{flat_map, list_any}
use Rattle.hc_records.specs.Line.{Member}
use Rattle.hc_registers.specs.Blocks.{LineBlock, line_blocks, member_blocks, same_block}

-- a block of the line, and the rank of its slave
pub record RankedBlock : Type 0 where
  pub rank : ℕ
  pub found : LineBlock

-- a block of a slave with a rank
abbrev pub ranked : ℕ → LineBlock → RankedBlock
ranked rank found = record { rank = rank; found = found }

-- the blocks of a slave of the line, each with the slave's rank, in its order
abbrev pub member_ranked : List Member → Member → List RankedBlock
member_ranked line member = map (ranked member.rank) (member_blocks line member)

-- the blocks of a line, each with its slave's rank, in line and block order
abbrev pub ranked_blocks : List Member → List RankedBlock
ranked_blocks line = flat_map (member_ranked line) line

-- the blocks of the new line that were not blocks of the old one (`moved_blocks`), each with its slave's rank
abbrev pub moved_ranked : List Member → List Member → List RankedBlock
moved_ranked old new = filter (λ block. not (list_any (same_block block.found) (line_blocks old))) (ranked_blocks new)

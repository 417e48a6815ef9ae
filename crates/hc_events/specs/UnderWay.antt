-- Register blocks that are under way: their last write was sent, and its answer may still come (this project's profile).
use Rattle.std.specs.Prelude.{ℕ, not, is_some, Bool, false, List, filter}
use Rattle.std.specs.Option.{option_map_or}
use Rattle.hc_registers.specs.Blocks.{LineBlock}
use Rattle.hc_events.specs.Awaited.{awaited}
use Rattle.hc_events.specs.Entries.{History}
use Rattle.hc_events.specs.Owed.{last_write, owed_blocks}

-- the frame that carries a write is awaited
abbrev pub is_write_awaited : History → ℕ × List ℕ → Bool
is_write_awaited history write = is_some (awaited history write.0)

-- a slave's block with a number is under way: the frame that carries its last write, since the slave was connected or last forgotten, is awaited
abbrev pub is_under_way : History → ℕ → ℕ → Bool
is_under_way history station number = option_map_or (is_write_awaited history) (last_write history station number) false

-- the owed blocks that are not under way, in line order and block order
abbrev pub further_blocks : History → List LineBlock
further_blocks history = filter (λ block. not (is_under_way history block.station block.number)) (owed_blocks history)

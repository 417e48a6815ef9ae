-- Owed register blocks, in C.
use Rattle.std.specs.Prelude.{ℕ, List, [], ◌∷◌, length, replicate}
use Rattle.hc_registers.specs.Blocks.{LineBlock}
use Rattle.hc_c.specs.declared.owing.OwedBlock.{OwedBlock}
use Rattle.hc_events.specs.Entries.{History}
use Rattle.hc_events.specs.Owed.{owed_blocks}
use Rattle.hc_events.specs.UnderWay.{further_blocks}
use Rattle.hc_events.specs.WriteFrames.{frame_blocks, writes_size}

-- the C form of a block: the station address of its slave, its first register, and the number of its bytes
abbrev pub block_out : LineBlock → OwedBlock
block_out block = record { station = block.station; start = block.block.register; size = length block.block.bytes; reserved = replicate 3 0 }

-- the C form of the first of these blocks; zeros if there is none
abbrev pub first_block_out : List LineBlock → OwedBlock
first_block_out [] = record { station = 0; start = 0; size = 0; reserved = replicate 3 0 }
first_block_out (block ∷ blocks) = block_out block

-- the length of the frame that writes the first owed blocks, as many as it holds
abbrev pub owed_frame_size : History → ℕ
owed_frame_size history = writes_size (frame_blocks (owed_blocks history))

-- the length of the frame that writes the first owed blocks that are not under way, as many as it holds
abbrev pub further_frame_size : History → ℕ
further_frame_size history = writes_size (frame_blocks (further_blocks history))

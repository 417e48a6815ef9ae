-- A frame of register writes: which of the owed blocks it carries, its bytes and its text (this project's profile, within what a frame holds by ETG.1000.4, 5.3 and 5.4).
use Rattle.std.specs.Prelude.{ℕ, ◌+◌, if◌then◌else◌, List, [], ◌∷◌, length, map, sum_by}
use Rattle.hc_registers.specs.Blocks.{LineBlock}
use Rattle.hc_frames.specs.FrameText.{Datagram, block_write, frame_text}
use Rattle.hc_frames.specs.Sizes.{frame_bytes}
use Rattle.hc_events.specs.Sendings.{has_room}

-- the bytes of a block's datagram: those of the block, and 12 for the header and the working counter
abbrev pub block_bytes : LineBlock → ℕ
block_bytes block = 12 + length block.block.bytes

-- the bytes of the datagrams that write these blocks
abbrev pub blocks_bytes : List LineBlock → ℕ
blocks_bytes blocks = sum_by block_bytes blocks

-- of these blocks the first ones that join a frame which has so many bytes of datagrams already: each as long as there is room for it
abbrev pub blocks_beside : ℕ → List LineBlock → List LineBlock
blocks_beside bytes [] = []
blocks_beside bytes (block ∷ blocks) =
    if has_room bytes (length block.block.bytes) then block ∷ blocks_beside (bytes + block_bytes block) blocks else []

-- the first of these blocks, as many as one frame holds
abbrev pub frame_blocks : List LineBlock → List LineBlock
frame_blocks blocks = blocks_beside 0 blocks

-- the datagram that writes a block to its register in its slave
abbrev pub block_datagram : LineBlock → Datagram
block_datagram block = block_write block.station block.block.register block.block.bytes

-- the bytes of the frame with this serial that writes these blocks, one after another
abbrev pub writes_text : ℕ → List LineBlock → List ℕ
writes_text serial blocks = frame_text serial (map block_datagram blocks)

-- the number of bytes of the frame that writes these blocks
abbrev pub writes_size : List LineBlock → ℕ
writes_size blocks = frame_bytes (blocks_bytes blocks)

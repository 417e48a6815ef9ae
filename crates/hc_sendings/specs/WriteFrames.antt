-- A frame of register writes, as the core fills it: owed blocks in order, each with its place.
use Rattle.std.specs.Prelude.{◌≡◌, ℕ, ◌+◌, ◌*◌, ◌≤◌, List, [], ◌∷◌, ◌++◌, length, map}
use Rattle.hc_registers.specs.Blocks.{LineBlock}
use Rattle.hc_frames.specs.declared.limits.TheConstants.{MAX_ETHERCAT}
use Rattle.hc_frames.specs.FrameText.{Datagram, frame_text}
use Rattle.hc_events.specs.WriteFrames.{block_datagram, blocks_bytes}
use Rattle.hc_sendings.specs.declared.write_frames.PlacedBlock.{PlacedBlock}

-- the bytes of a block at least: those of a sync manager (ETG.1000.4, 6.7)
abbrev pub LEAST_BLOCK : ℕ
LEAST_BLOCK = 8

-- the bytes of the datagrams with their headers and counters, and the blocks in order
pub record WriteFrame : Type 0 where
  pub bytes : ℕ
  pub blocks : List PlacedBlock

-- a frame without blocks yet
abbrev pub no_blocks : WriteFrame
no_blocks = record { bytes = 0; blocks = [] }

-- the block without its place
abbrev pub block_of : PlacedBlock → LineBlock
block_of placed = placed.block

-- a block after the others
abbrev pub block_joined : PlacedBlock → WriteFrame → WriteFrame
block_joined placed frame =
    record { bytes = frame.bytes + (12 + length placed.block.block.bytes); blocks = frame.blocks ++ placed ∷ [] }

-- the datagram that writes a block
abbrev pub placed_datagram : PlacedBlock → Datagram
placed_datagram placed = block_datagram placed.block

-- the bytes of these blocks' datagrams
abbrev pub placed_bytes : List PlacedBlock → ℕ
placed_bytes blocks = blocks_bytes (map block_of blocks)

-- the text of the frame with this serial that writes these blocks
abbrev pub placed_text : ℕ → List PlacedBlock → List ℕ
placed_text serial blocks = frame_text serial (map placed_datagram blocks)

-- blocks that share a frame: so many bytes of datagrams, at least 20 for each, and no more than a frame holds
pub record IsShared (bytes : ℕ) (blocks : List PlacedBlock) : Type 0 where
  pub sum : bytes ≡ placed_bytes blocks
  pub least : 20 * length blocks ≤ bytes
  pub within : 2 + bytes ≤ MAX_ETHERCAT

-- The blocks of a line written to its slaves, each by an FPWR of its own (ETG.1000.4, 5.4).
use Rattle.std.specs.Prelude.{◌≡◌, ℕ, ◌+◌, ◌^◌, ◌<◌, ◌≤◌, ◌⊎◌, Contains, List, [], ◌∷◌, Some, length, map, replicate, slice_get, slice_index, slice_range}
use Rattle.std.specs.List.{enumerate_from}
use Rattle.hc_records.specs.declared.limits.TheConstants.{MEMORY_START}
use Rattle.hc_records.specs.Line.{Member}
use Rattle.hc_registers.specs.declared.registers.TheConstants.{FMMU_BLOCKS, FMMU_BLOCK_BYTES}
use Rattle.hc_registers.specs.Blocks.{LineBlock, RegisterBlock, slave_blocks}
use Rattle.hc_frames.specs.declared.limits.TheConstants.{STATION_REGISTER}
use Rattle.hc_frames.specs.Arrived.{word_at}
use Rattle.hc_frames.specs.FrameText.{Datagram, block_write, frame_text}
use Rattle.hc_machine.specs.declared.limits.TheConstants.{FMMUS, MEMORY_BYTES}
use Rattle.hc_machine.specs.Fmmus.{fmmu_block_at}
use Rattle.hc_machine.specs.Laws.{IsPair}

-- the datagram that writes a block to its slave
abbrev pub block_datagram : LineBlock → Datagram
block_datagram block = block_write block.station block.block.register block.block.bytes

-- the frames that write blocks, in their order, each with a datagram of its own; the first one has the serial
abbrev pub write_frames : ℕ → List LineBlock → List (List ℕ)
write_frames serial blocks = map (λ e. frame_text e.0 (block_datagram e.1 ∷ [])) (enumerate_from serial blocks)

-- a machine can be programmed for a slave: the slave's station address is in its register, and zeros are in the FMMU blocks past the slave's areas
pub record CanBeProgrammed (member : Member) (memory : List ℕ) : Type 0 where
  pub station : word_at memory STATION_REGISTER ≡ member.slave.station
  pub unused : (i : ℕ) → length member.slave.areas ≤ i → i < FMMUS → fmmu_block_at memory i ≡ replicate FMMU_BLOCK_BYTES 0

-- machines can be programmed for the slaves of a line, in its order
pub record CanAllBeProgrammed (line : List Member) (machines : List (List ℕ)) : Type 0 where
  pub count : length machines ≡ length line
  pub each : (k : ℕ) (member : Member) (memory : List ℕ) → slice_get line k ≡ Some member → slice_get machines k ≡ Some memory → CanBeProgrammed member memory

-- the machine of a slave: it has all its memory, the slave's station address is a number of 16 bits, and it can be programmed for the slave
pub record IsMachineOf (member : Member) (memory : List ℕ) : Type 0 where
  pub size : length memory ≡ MEMORY_BYTES
  pub address : member.slave.station < 2 ^ 16
  pub programmable : CanBeProgrammed member memory

-- machines are the line's, in its order
pub record AreMachinesOf (line : List Member) (machines : List (List ℕ)) : Type 0 where
  pub count : length machines ≡ length line
  pub each : (k : ℕ) (member : Member) (memory : List ℕ) → slice_get line k ≡ Some member → slice_get machines k ≡ Some memory → IsMachineOf member memory

-- the machine of a slave has the blocks that the line has for it, each at its register, and no other FMMU block
pub record IsProgrammed (line : List Member) (member : Member) (memory : List ℕ) : Type 0 where
  pub machine : IsMachineOf member memory
  pub blocks : (block : RegisterBlock) → Contains (slave_blocks line member) block
      → slice_range memory block.register (block.register + length block.bytes) ≡ block.bytes

-- no byte differs below the FMMU blocks, where station address and alias are, and none of process memory
abbrev pub ChangesBlocksAlone : List ℕ → List ℕ → Type 0
ChangesBlocksAlone memory memory' = (byte : ℕ) → (byte < FMMU_BLOCKS) ⊎ (MEMORY_START ≤ byte) → slice_index memory' byte ≡ slice_index memory byte

-- (e of Pairs) x and m are a pair of one of the sixteen FMMU blocks in a machine's memory
pub record MachinePairs (memory : List ℕ) (x m : ℕ) : Type 0 where
  pub fmmu : ℕ
  pub below : fmmu < FMMUS
  pub pair : IsPair (fmmu_block_at memory fmmu) x m

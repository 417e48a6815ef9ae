-- Laws of the machines of a line once its blocks are written. Each is the contract of a function of `programmed_laws`.
use Rattle.std.specs.Prelude.{◌≡◌, ℕ, ◌↔◌, All, Contains, List, Some, length, slice_get}
use Rattle.hc_bits.specs.Bits.{AreBytes}
use Rattle.hc_records.specs.Line.{Member, State, line}
use Rattle.hc_registers.specs.Blocks.{line_blocks}
use Rattle.hc_segment.specs.Line.{machines_after}
use Rattle.hc_exchange.specs.PairLaws.{IsConfigurable}
use Rattle.hc_exchange.specs.Pairs.{LinePairs}
use Rattle.hc_exchange.specs.Writing.{AreMachinesOf, ChangesBlocksAlone, IsProgrammed, MachinePairs, write_frames}

-- the machines of a line after the frames that write all its blocks
abbrev pub machines_written : List Member → List (List ℕ) → List (List ℕ)
machines_written line machines = machines_after machines (write_frames 0 (line_blocks line))

-- a machine after these frames has its slave's blocks, and no byte of it below the FMMU blocks and none of process memory is changed
pub record MachineIsWritten (line : List Member) (member : Member) (memory : List ℕ) (k : ℕ) (machines : List (List ℕ)) : Type 0 where
  pub written : List ℕ
  pub machine : slice_get (machines_written line machines) k ≡ Some written
  pub programmed : IsProgrammed line member written
  pub alone : ChangesBlocksAlone memory written

-- `MachineIsWritten` holds for each machine of a line that can be configured
abbrev pub WritingProgramsTheLine : Type 0
WritingProgramsTheLine =
    (state : State) (machines : List (List ℕ)) (k : ℕ) (member : Member) (memory : List ℕ) → IsConfigurable state → AreMachinesOf (line state) machines
    → slice_get (line state) k ≡ Some member → slice_get machines k ≡ Some memory → MachineIsWritten (line state) member memory k machines

-- the writes leave as many machines
abbrev pub WritingKeepsTheCount : Type 0
WritingKeepsTheCount =
    (state : State) (machines : List (List ℕ)) → IsConfigurable state → AreMachinesOf (line state) machines
    → length (machines_written (line state) machines) ≡ length machines

-- the FMMUs of a slave that is programmed pair its areas' bits, and no others
abbrev pub ProgrammedSlavesPairTheirAreas : Type 0
ProgrammedSlavesPairTheirAreas =
    (state : State) (member : Member) (memory : List ℕ) (x m : ℕ) → IsConfigurable state → Contains (line state) member → IsProgrammed (line state) member memory
    → MachinePairs memory x m ↔ LinePairs (line state) member.slave.station x m

-- if each number of the machines' memories is a byte, each is a byte after the writes
abbrev pub WritingKeepsBytes : Type 0
WritingKeepsBytes =
    (state : State) (machines : List (List ℕ)) → IsConfigurable state → AreMachinesOf (line state) machines → All AreBytes machines
    → All AreBytes (machines_written (line state) machines)

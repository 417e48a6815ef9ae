-- The machines of a wire that hold what a record says of their registers: known blocks, and in each FMMU one of the contents that it may have. Also the tasks
-- that they then carry.
use Rattle.std.specs.Prelude.{◌≡◌, false, true, ℕ, ◌+◌, ◌*◌, ◌<◌, ◌≤◌, ◌⊎◌, All, Contains, List, Some, length, replicate, slice_get, slice_range}
use Rattle.hc_bits.specs.Bits.{AreBytes}
use Rattle.hc_records.specs.declared.records.Slave.{Slave}
use Rattle.hc_records.specs.Line.{Member, opened}
use Rattle.hc_registers.specs.declared.registers.TheConstants.{FMMU_BLOCK_BYTES}
use Rattle.hc_registers.specs.Blocks.{LineBlock, member_blocks}
use Rattle.hc_events.specs.Accepted.{IsReachable}
use Rattle.hc_events.specs.Entries.{History}
use Rattle.hc_events.specs.Holding.{MayHold, is_unplugged, may_hold}
use Rattle.hc_events.specs.Owed.{known_bytes}
use Rattle.hc_events.specs.Points.{line_of, opened_with, state_of}
use Rattle.hc_events.specs.Ready.{is_ready, slaves_outside}
use Rattle.hc_machine.specs.declared.limits.TheConstants.{FMMUS, MEMORY_BYTES}
use Rattle.hc_machine.specs.Fmmus.{fmmu_block_at}
use Rattle.hc_machine.specs.Laws.{IsPair}
use Rattle.hc_exchange.specs.PairLaws.{IsConfigurable}
use Rattle.hc_exchange.specs.Exchanged.{IsExchangedOnWire}
use Rattle.hc_exchange.specs.Wire.{WireCarriesTask, WireMachine, line_machines, outside_machines, wire_machines}
use Rattle.hc_exchange.specs.Writing.{IsMachineOf}

-- bytes of an FMMU are zeros, or one of the contents that the register may have
abbrev pub HoldsContents : MayHold → List ℕ → Type 0
HoldsContents held bytes = (bytes ≡ replicate FMMU_BLOCK_BYTES 0) ⊎ Contains held.contents bytes

-- the bytes of an FMMU are zeros or one of its contents, unless the register is unknown
abbrev pub MayHoldBytes : MayHold → List ℕ → Type 0
MayHoldBytes held bytes = held.unknown ≡ false → HoldsContents held bytes

-- the machine of a slave of the line holds what a record says of the slave's registers: the known bytes of each block, and in the FMMU of each area what it may hold
pub record HoldsRegisters (history : History) (member : Member) (memory : List ℕ) : Type 0 where
  pub machine : IsMachineOf member memory
  pub all_bytes : AreBytes memory
  pub known : (block : LineBlock) (bytes : List ℕ) → Contains (member_blocks (line_of history) member) block → known_bytes history block.station block.number ≡ Some bytes
      → slice_range memory block.block.register (block.block.register + length block.block.bytes) ≡ bytes
  pub held : (index : ℕ) → index < length member.slave.areas → MayHoldBytes (may_hold history member.slave.station (2 * index + 1)) (fmmu_block_at memory index)

-- the machine of a declared slave outside the line that was not said to be unplugged: the FMMU of each of its areas holds zeros or one of its contents, the
-- others zeros
pub record IsPlugged (history : History) (memory : List ℕ) : Type 0 where
  pub slave : Slave
  pub outside : Contains (slaves_outside (state_of history)) slave
  pub plugged : is_unplugged history slave.station ≡ false
  pub areas : (index : ℕ) → index < length slave.areas → HoldsContents (may_hold history slave.station (2 * index + 1)) (fmmu_block_at memory index)
  pub others : (i : ℕ) → length slave.areas ≤ i → i < FMMUS → fmmu_block_at memory i ≡ replicate FMMU_BLOCK_BYTES 0

-- no FMMU of a machine pairs anything
abbrev pub PairsNothing : List ℕ → Type 0
PairsNothing memory = (i x m : ℕ) → i < FMMUS → ¬ IsPair (fmmu_block_at memory i) x m

-- a machine on the wire beside the line's: it pairs nothing, or it is a declared slave outside the line that is still plugged
pub record IsOutsider (history : History) (memory : List ℕ) : Type 0 where
  pub size : length memory ≡ MEMORY_BYTES
  pub all_bytes : AreBytes memory
  pub pairs : PairsNothing memory ⊎ IsPlugged history memory

-- the machines of a wire hold what a record says: the line's, in its order, and the others
pub record HoldRegisters (history : History) (wire : List WireMachine) : Type 0 where
  pub count : length (line_machines wire) ≡ length (line_of history)
  pub each : (k : ℕ) (member : Member) (memory : List ℕ) → slice_get (line_of history) k ≡ Some member → slice_get (line_machines wire) k ≡ Some memory
      → HoldsRegisters history member memory
  pub outside : All (IsOutsider history) (outside_machines wire)

-- a record that events lead to from the opening of a project that can be configured
pub record IsRecord (history : History) : Type 0 where
  pub reachable : IsReachable history
  pub opening : IsConfigurable (opened (opened_with history))

-- machines that hold what a record says carry each task that is ready
abbrev pub ReadyTasksAreCarried : Type 0
ReadyTasksAreCarried =
    (history : History) (wire : List WireMachine) (task : ℕ) → IsRecord history → HoldRegisters history wire → is_ready history task ≡ true → WireCarriesTask (line_of history) task wire

-- the machines of a wire that hold what a record of the line says exchange the values of a task that is ready
abbrev pub IsExchangedWhenReady : List Member → ℕ → ℕ → List ℕ → List (List ℕ) → List (List ℕ) → List (List ℕ) → Type 0
IsExchangedWhenReady line task serial image machines frames machines' =
    (history : History) (wire : List WireMachine) → IsRecord history → line_of history ≡ line → machines ≡ wire_machines wire → HoldRegisters history wire → is_ready history task ≡ true
    → IsExchangedOnWire line task serial image wire frames machines'

-- the line of each record that begins with a project that can be configured (`IsRecord`) can be configured
abbrev pub RecordsAreConfigurable : Type 0
RecordsAreConfigurable = (history : History) → IsRecord history → IsConfigurable (state_of history)

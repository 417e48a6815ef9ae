-- The effect of a record's entries on the machines of a wire. Premises on the line stand here as definitions: frames pass each slave in the order in which they
-- were handed to the line, and a frame comes back only if it passed all machines.
use Rattle.std.specs.Prelude.{◌≡◌, ◌≢◌, false, true, ℕ, ◌+◌, ◌*◌, ◌<◌, ◌≤◌, ◌⊎◌, All, Bool, Contains, List, [], ◌∷◌, ◌++◌, Some, drop, length, replicate, slice_get, slice_range, take}
use Rattle.std.specs.List.{list_any}
use Rattle.hc_bits.specs.Bits.{AreBytes}
use Rattle.hc_records.specs.declared.edit.Edit.{Edit}
use Rattle.hc_records.specs.Line.{Member}
use Rattle.hc_registers.specs.declared.registers.TheConstants.{FMMU_BLOCK_BYTES}
use Rattle.hc_registers.specs.Blocks.{LineBlock, member_blocks}
use Rattle.hc_frames.specs.FrameText.{frame_text}
use Rattle.hc_events.specs.AnswerLaws.{sent_datagrams}
use Rattle.hc_events.specs.Answering.{judged_by}
use Rattle.hc_events.specs.Arrivals.{Arrival}
use Rattle.hc_events.specs.Entries.{HistoryEntry, History, Opened, Edited, Posted, Sent, Wrote, Came, Forgot, Cleared, Unplugged}
use Rattle.hc_events.specs.Heads.{Block}
use Rattle.hc_events.specs.Holding.{may_hold}
use Rattle.hc_events.specs.Owed.{confirms, is_in_line, last_write, was_confirmed}
use Rattle.hc_events.specs.Points.{line_of, next_serial}
use Rattle.hc_machine.specs.declared.limits.TheConstants.{FMMUS}
use Rattle.hc_machine.specs.Fmmus.{fmmu_block_at}
use Rattle.hc_segment.specs.Line.{machines_after_frame}
use Rattle.hc_exchange.specs.Holding.{HoldRegisters, IsOutsider, IsRecord, MayHoldBytes}
use Rattle.hc_exchange.specs.Wire.{InLine, Outside, WireMachine, line_machines, outside_machines, wire_machines}
use Rattle.hc_exchange.specs.Writing.{IsMachineOf}

-- frames

-- the machines after a frame that passed the first n of them: those after them did not meet it
abbrev pub after_front : ℕ → List ℕ → List (List ℕ) → List (List ℕ)
after_front n frame machines = machines_after_frame (take n machines) frame ++ drop n machines

-- the wire with these memories in its machines, in order
abbrev pub with_memories : List WireMachine → List (List ℕ) → List WireMachine
with_memories [] memories = []
with_memories (machine ∷ wire) [] = machine ∷ wire
with_memories (InLine memory ∷ wire) (next ∷ memories) = InLine next ∷ with_memories wire memories
with_memories (Outside memory ∷ wire) (next ∷ memories) = Outside next ∷ with_memories wire memories

-- the bytes of the frame that an entry sends, with its own serial
abbrev pub entry_frame : History → HistoryEntry → List ℕ
entry_frame history entry = frame_text (next_serial history) (sent_datagrams history entry)

-- the frame of an entry passes the first machines of the wire: all of them if it is among those that passed all
pub record PassesFront (passed : ℕ → Bool) (history : History) (entry : HistoryEntry) (wire wire' : List WireMachine) : Type 0 where
  pub front : ℕ
  pub line_is : line_machines wire' ≡ line_machines (with_memories wire (after_front front (entry_frame history entry) (wire_machines wire)))
  pub whole : passed (next_serial history) ≡ true → length (wire_machines wire) ≤ front

-- an arrival changes no machine of the line; one that is good for a register block is the answer of a frame that passed all machines
pub record ArrivalComesBack (passed : ℕ → Bool) (history : History) (arrival : Arrival) (wire wire' : List WireMachine) : Type 0 where
  pub line_is : line_machines wire' ≡ line_machines wire
  pub whole : (station number : ℕ) → list_any (confirms (Block station number)) (judged_by history arrival) ≡ true → passed arrival.serial ≡ true

-- slaves

-- the k-th slave of the line, with its machine before an entry and after it
pub record AtSlave (line : List Member) (wire wire' : List WireMachine) (k : ℕ) (member : Member) (memory memory' : List ℕ) : Type 0 where
  pub member_is : slice_get line k ≡ Some member
  pub before : slice_get (line_machines wire) k ≡ Some memory
  pub after : slice_get (line_machines wire') k ≡ Some memory'

-- the machine of the slave with a station address changes in a way, and no other machine of the line changes
pub record ChangesSlave (Changed : Member → List ℕ → List ℕ → Type 0) (history : History) (station : ℕ) (wire wire' : List WireMachine) : Type 0 where
  pub count : length (line_machines wire') ≡ length (line_machines wire)
  pub own : (k : ℕ) (member : Member) (memory memory' : List ℕ) → AtSlave (line_of history) wire wire' k member memory memory' → member.slave.station ≡ station → Changed member memory memory'
  pub others : (k : ℕ) (member : Member) (memory memory' : List ℕ) → AtSlave (line_of history) wire wire' k member memory memory' → member.slave.station ≢ station → memory' ≡ memory

-- a slave that lost its registers: it has its station address again, and each of its FMMUs has zeros, or what it had
pub record LosesRegisters (member : Member) (memory memory' : List ℕ) : Type 0 where
  pub machine : IsMachineOf member memory'
  pub all_bytes : AreBytes memory'
  pub fmmus : (i : ℕ) → i < FMMUS → (fmmu_block_at memory' i ≡ replicate FMMU_BLOCK_BYTES 0) ⊎ (fmmu_block_at memory' i ≡ fmmu_block_at memory i)

-- a slave that was cleared: its FMMUs have zeros
pub record IsCleared (member : Member) (memory memory' : List ℕ) : Type 0 where
  pub machine : IsMachineOf member memory'
  pub all_bytes : AreBytes memory'
  pub fmmus : (i : ℕ) → i < FMMUS → fmmu_block_at memory' i ≡ replicate FMMU_BLOCK_BYTES 0

-- a slave that stays in the line keeps its machine as it is, and one that comes has its station address, and zeros in the FMMUs past its areas
pub record ChangesLine (history : History) (edit : Edit) (wire wire' : List WireMachine) : Type 0 where
  pub count : length (line_machines wire') ≡ length (line_of (Edited edit ∷ history))
  pub stays : (k k' : ℕ) (member member' : Member) (memory memory' : List ℕ) → slice_get (line_of history) k ≡ Some member → slice_get (line_machines wire) k ≡ Some memory
      → slice_get (line_of (Edited edit ∷ history)) k' ≡ Some member' → slice_get (line_machines wire') k' ≡ Some memory' → member'.slave.station ≡ member.slave.station → memory' ≡ memory
  pub comes : (k' : ℕ) (member' : Member) (memory' : List ℕ) → slice_get (line_of (Edited edit ∷ history)) k' ≡ Some member' → slice_get (line_machines wire') k' ≡ Some memory'
      → is_in_line history member'.slave.station ≡ false → IsMachineOf member' memory' × AreBytes memory'

-- entries

-- the effect of an entry on the machines of the line
abbrev pub MovesMachines : (ℕ → Bool) → History → HistoryEntry → List WireMachine → List WireMachine → Type 0
MovesMachines passed history (Opened groups) wire wire' = ⊥
MovesMachines passed history (Edited edit) wire wire' = ChangesLine history edit wire wire'
MovesMachines passed history (Posted task bytes) wire wire' = line_machines wire' ≡ line_machines wire
MovesMachines passed history (Sent frame) wire wire' = PassesFront passed history (Sent frame) wire wire'
MovesMachines passed history (Wrote blocks) wire wire' = PassesFront passed history (Wrote blocks) wire wire'
MovesMachines passed history (Came arrival) wire wire' = ArrivalComesBack passed history arrival wire wire'
MovesMachines passed history (Forgot station) wire wire' = ChangesSlave LosesRegisters history station wire wire'
MovesMachines passed history (Cleared station) wire wire' = ChangesSlave IsCleared history station wire wire'
MovesMachines passed history (Unplugged station) wire wire' = line_machines wire' ≡ line_machines wire

-- an entry leads from a wire to the next one: machines outside the line come and go, and hold what the premises on them say
pub record Goes (passed : ℕ → Bool) (history : History) (entry : HistoryEntry) (wire wire' : List WireMachine) : Type 0 where
  pub moves : MovesMachines passed history entry wire wire'
  pub outside : All (IsOutsider (entry ∷ history)) (outside_machines wire')

-- a wire at the opening: the machines of the line have their station addresses and zeros past their slaves' areas, and hold anything else
pub record IsOpenedWire (history : History) (wire : List WireMachine) : Type 0 where
  pub count : length (line_machines wire) ≡ length (line_of history)
  pub each : (k : ℕ) (member : Member) (memory : List ℕ) → slice_get (line_of history) k ≡ Some member → slice_get (line_machines wire) k ≡ Some memory → IsMachineOf member memory × AreBytes memory
  pub outside : All (IsOutsider history) (outside_machines wire)

-- wires, one after each entry of a record, the newest first: each entry leads from the wire before it
abbrev pub IsRun : (ℕ → Bool) → History → List (List WireMachine) → Type 0
IsRun passed [] wires = ⊥
IsRun passed (entry ∷ history) [] = ⊥
IsRun passed (Opened groups ∷ history) (wire ∷ wires) = IsOpenedWire (Opened groups ∷ history) wire
IsRun passed (entry ∷ history) (wire' ∷ []) = ⊥
IsRun passed (entry ∷ history) (wire' ∷ wire ∷ wires) = Goes passed history entry wire wire' × IsRun passed history (wire ∷ wires)

-- the invariant that entries keep

-- the machine of a slave of the line took each block's last write, if the write's frame passed all machines, and holds in each FMMU what it may hold
pub record TakesWrites (passed : ℕ → Bool) (history : History) (member : Member) (memory : List ℕ) : Type 0 where
  pub machine : IsMachineOf member memory
  pub all_bytes : AreBytes memory
  pub taken : (block : LineBlock) (write : ℕ × List ℕ) → Contains (member_blocks (line_of history) member) block → last_write history block.station block.number ≡ Some write
      → passed write.0 ≡ true → slice_range memory block.block.register (block.block.register + length block.block.bytes) ≡ write.1
  pub held : (index : ℕ) → index < length member.slave.areas → MayHoldBytes (may_hold history member.slave.station (2 * index + 1)) (fmmu_block_at memory index)

-- `TakesWrites` holds for each machine of the line, and each block that had a good answer was in a frame that passed all machines
pub record TakeWrites (passed : ℕ → Bool) (history : History) (wire : List WireMachine) : Type 0 where
  pub count : length (line_machines wire) ≡ length (line_of history)
  pub each : (k : ℕ) (member : Member) (memory : List ℕ) → slice_get (line_of history) k ≡ Some member → slice_get (line_machines wire) k ≡ Some memory
      → TakesWrites passed history member memory
  pub outside : All (IsOutsider history) (outside_machines wire)
  pub answered : (serial station number : ℕ) → was_confirmed history serial (Block station number) ≡ true → passed serial ≡ true

-- machines that took the writes hold what the record says
abbrev pub TakenWritesAreHeld : Type 0
TakenWritesAreHeld = (passed : ℕ → Bool) (history : History) (wire : List WireMachine) → TakeWrites passed history wire → HoldRegisters history wire

-- each entry keeps the writes that the machines of the wire took
abbrev pub EntriesKeepRegisters : Type 0
EntriesKeepRegisters =
    (passed : ℕ → Bool) (history : History) (entry : HistoryEntry) (wire wire' : List WireMachine) → IsRecord (entry ∷ history) → TakeWrites passed history wire
    → Goes passed history entry wire wire' → TakeWrites passed (entry ∷ history) wire'

-- the machines of a run hold what its record says
abbrev pub RunsHoldRegisters : Type 0
RunsHoldRegisters =
    (passed : ℕ → Bool) (history : History) (wire : List WireMachine) (wires : List (List WireMachine)) → IsRecord history → IsRun passed history (wire ∷ wires) → HoldRegisters history wire

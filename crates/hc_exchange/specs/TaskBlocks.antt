-- The FMMU blocks of a task's areas: what a machine must have so that a task is carried, and what it may have beside them.
use Rattle.std.specs.Prelude.{◌≡◌, ◌≢◌, true, false, ℕ, ◌+◌, ◌*◌, ◌^◌, ◌<◌, ◌≤◌, ◌⊎◌, All, Bool, Contains, List, Some, filter, length, slice_get}
use Rattle.hc_bits.specs.Bits.{AreBytes}
use Rattle.hc_records.specs.declared.records.Area.{Area}
use Rattle.hc_records.specs.Area.{width}
use Rattle.hc_records.specs.Line.{Member, State, line}
use Rattle.hc_registers.specs.Blocks.{LineBlock, fmmu_bytes, line_blocks, mapping_of}
use Rattle.hc_frames.specs.declared.limits.TheConstants.{STATION_REGISTER}
use Rattle.hc_frames.specs.Arrived.{word_at}
use Rattle.hc_machine.specs.declared.limits.TheConstants.{FMMUS, MEMORY_BYTES}
use Rattle.hc_machine.specs.Fmmus.{fmmu_block_at, is_active}
use Rattle.hc_machine.specs.Laws.{IsPair}
use Rattle.hc_segment.specs.Line.{machines_after}
use Rattle.hc_exchange.specs.PairLaws.{IsConfigurable}
use Rattle.hc_exchange.specs.Pairs.{member_area_key}
use Rattle.hc_exchange.specs.Carrying.{AreCarryingTask, IsBitOfTask}
use Rattle.hc_exchange.specs.Writing.{write_frames}

-- the area at an index of a slave's record is in the task: an area of 0 bits is in none
pub record IsTaskArea (task : ℕ) (member : Member) (index : ℕ) (area : Area) : Type 0 where
  pub in_record : slice_get member.slave.areas index ≡ Some area
  pub in_task : area.task ≡ task
  pub some_bits : 0 < width area

-- a machine has its slave's part of a task: the FMMU of each of the slave's areas in the task has the block that the line has for it, and no other FMMU pairs a logical bit of the task
pub record HasTaskBlocks (line : List Member) (task : ℕ) (member : Member) (memory : List ℕ) : Type 0 where
  pub size : length memory ≡ MEMORY_BYTES
  pub blocks : (i : ℕ) (area : Area) → IsTaskArea task member i area → fmmu_block_at memory i ≡ fmmu_bytes area (mapping_of line task (member_area_key member i area))
  pub others : (i x m : ℕ) → i < FMMUS → IsBitOfTask line task x → IsPair (fmmu_block_at memory i) x m → (area : Area) × IsTaskArea task member i area
  pub all_bytes : AreBytes memory

-- the machines are the line's, in its order, and each has its slave's part of the task
pub record HaveTaskBlocks (line : List Member) (task : ℕ) (machines : List (List ℕ)) : Type 0 where
  pub count : length machines ≡ length line
  pub each : (k : ℕ) (member : Member) (memory : List ℕ) → slice_get line k ≡ Some member → slice_get machines k ≡ Some memory → HasTaskBlocks line task member memory

-- machines with their slaves' parts of a task carry the task
abbrev pub TaskBlocksCarry : Type 0
TaskBlocksCarry =
    (state : State) (task : ℕ) (machines : List (List ℕ)) → IsConfigurable state → HaveTaskBlocks (line state) task machines → AreCarryingTask (line state) task machines

-- a machine without an active FMMU, whose slave has no area in the task
pub record IsInactive (task : ℕ) (member : Member) (memory : List ℕ) : Type 0 where
  pub size : length memory ≡ MEMORY_BYTES
  pub inactive : (i : ℕ) → i < FMMUS → is_active (fmmu_block_at memory i) ≡ false
  pub none : (i : ℕ) (area : Area) → ¬ IsTaskArea task member i area
  pub all_bytes : AreBytes memory

-- a machine without an active FMMU, as a tool that was just connected, has its slave's part of the task, whatever its station register holds
abbrev pub FreshMachinesPass : Type 0
FreshMachinesPass = (line : List Member) (task : ℕ) (member : Member) (memory : List ℕ) → IsInactive task member memory → HasTaskBlocks line task member memory

-- the chosen ones of the line's blocks
abbrev pub chosen_blocks : (LineBlock → Bool) → List Member → List LineBlock
chosen_blocks choice line = filter choice (line_blocks line)

-- the choice has the FMMU block of each of the line's areas in the task
abbrev pub ChoosesTask : (LineBlock → Bool) → List Member → ℕ → Type 0
ChoosesTask choice line task =
    (block : LineBlock) (member : Member) (index : ℕ) (area : Area) → Contains (line_blocks line) block → block.station ≡ member.slave.station → block.number ≡ 2 * index + 1
    → IsTaskArea task member index area → choice block ≡ true

-- before the writes a machine holds its slave's station address, or no address of the line if the slave has no area in the task; and no other FMMU than its areas' in the task pairs a logical bit of the task
pub record IsBeforeTask (line : List Member) (task : ℕ) (member : Member) (memory : List ℕ) : Type 0 where
  pub size : length memory ≡ MEMORY_BYTES
  pub station : (word_at memory STATION_REGISTER ≡ member.slave.station)
      ⊎ (((other : Member) → Contains line other → word_at memory STATION_REGISTER ≢ other.slave.station) × ((i : ℕ) (area : Area) → ¬ IsTaskArea task member i area))
  pub others : (i x m : ℕ) → i < FMMUS → IsBitOfTask line task x → IsPair (fmmu_block_at memory i) x m → (area : Area) × IsTaskArea task member i area
  pub all_bytes : AreBytes memory

-- the machines are the line's, in its order, and `IsBeforeTask` holds for each before the writes
pub record AreBeforeTask (line : List Member) (task : ℕ) (machines : List (List ℕ)) : Type 0 where
  pub count : length machines ≡ length line
  pub each : (k : ℕ) (member : Member) (memory : List ℕ) → slice_get line k ≡ Some member → slice_get machines k ≡ Some memory → IsBeforeTask line task member memory

-- each slave of the line has a station address of 16 bits
abbrev pub HaveAddresses : List Member → Type 0
HaveAddresses line = All (λ member. member.slave.station < 2 ^ 16) line

-- after the writes of chosen blocks alone, the task's among them, the machines carry the task
abbrev pub WritingCarriesTheTask : Type 0
WritingCarriesTheTask =
    (state : State) (task serial : ℕ) (choice : LineBlock → Bool) (machines : List (List ℕ)) → IsConfigurable state → HaveAddresses (line state)
    → ChoosesTask choice (line state) task → AreBeforeTask (line state) task machines → serial + length (chosen_blocks choice (line state)) ≤ 2 ^ 40
    → AreCarryingTask (line state) task (machines_after machines (write_frames serial (chosen_blocks choice (line state))))

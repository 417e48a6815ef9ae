-- The slaves that hold a task up.
use Rattle.std.specs.Prelude.{◌≡◌, ℕ, ◌-◌, ◌+◌, ◌*◌, ◌/◌, ◌<◌, ◌==◌, ◌||◌, nat_lt, Bool, if◌then◌else◌, List, ◌++◌, filter, length, map, slice_get, slice_range}
use Rattle.std.specs.List.{list_any, range_with_len}
use Rattle.hc_records.specs.declared.records.Slave.{Slave}
use Rattle.hc_records.specs.Line.{Member, State, line}
use Rattle.hc_registers.specs.Blocks.{LineBlock}
use Rattle.hc_registers.specs.RankPlaces.{stations}
use Rattle.hc_events.specs.Ready.{slaves_outside}
use Rattle.hc_owed.specs.declared.area.JudgedArea.{JudgedArea}
use Rattle.hc_owed.specs.Areas.{fmmu_concerns, register_concerns, sync_manager_concerns}
use Rattle.hc_owed.specs.Readiness.{Holdings, blocks_waited_for, registers_waited_for}
use Rattle.hc_owed.specs.RegisterState.{Knowledge}
use Rattle.hc_owed.specs.TaskSets.{has_task}

-- the slave with a station address holds up a task that waits for one of its blocks
abbrev pub holds_task : Knowledge → Holdings → State → ℕ → ℕ → Bool
holds_task known held state task station = list_any (λ (block : LineBlock). block.station == station) (blocks_waited_for known held state task)

-- the slave with a station address holds up a task that waits for one of its registers outside the line
abbrev pub holds_task_outside : Holdings → (ℕ → Bool) → State → ℕ → ℕ → Bool
holds_task_outside held unplugged state task station = list_any (λ (register : ℕ × ℕ). register.0 == station) (registers_waited_for held unplugged state task)

-- the slaves that hold a task up, by their station addresses: first those of the line, in line order, then those outside it, in declared order
abbrev pub holding_slaves : Knowledge → Holdings → (ℕ → Bool) → State → ℕ → List ℕ
holding_slaves known held unplugged state task =
    map (λ (member : Member). member.slave.station) (filter (λ (member : Member). holds_task known held state task member.slave.station) (line state))
    ++ map (λ (slave : Slave). slave.station) (filter (λ (slave : Slave). holds_task_outside held unplugged state task slave.station) (slaves_outside state))

-- the declared slave with an index by rank is the holder with an index
pub record IsHolder (known : Knowledge) (held : Holdings) (unplugged : ℕ → Bool) (state : State) (task n index : ℕ) : Type 0 where
  pub low : index < length (stations state)
  pub is : slice_get (holding_slaves known held unplugged state task) n ≡ slice_get (stations state) index

-- by the state of the areas

-- one of the owed blocks of an area concerns a task
abbrev pub area_holds : ℕ → JudgedArea → Bool
area_holds task area = has_task task (sync_manager_concerns area) || has_task task (fmmu_concerns area)

-- the register of an area concerns a task outside the line
abbrev pub area_holds_outside : ℕ → JudgedArea → Bool
area_holds_outside task area = has_task task (register_concerns area)

-- the eight areas of the slave with an index by rank
abbrev pub own_areas : List JudgedArea → ℕ → List JudgedArea
own_areas areas n = slice_range areas (8 * n) (8 * n + 8)

-- the flag with a number: for each slave whether it holds a task up in the line, and after these for each whether it does
-- outside it
abbrev pub flag_at : ℕ → List JudgedArea → ℕ → ℕ → Bool
flag_at task areas slaves n =
    if nat_lt n slaves then list_any (area_holds task) (own_areas areas n) else list_any (area_holds_outside task) (own_areas areas (n - slaves))

-- all flags of a task, two for each slave
abbrev pub flags_of : ℕ → List JudgedArea → List Bool
flags_of task areas = map (flag_at task areas (length areas / 8)) (range_with_len 0 (2 * (length areas / 8)))

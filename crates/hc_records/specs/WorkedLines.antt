-- Worked lines, computed by the definitions: a wrong definition fails here. Areas are written with one PDO of one
-- entry, which for these sums may have any number of bits.
use Rattle.std.specs.Prelude.{◌≡◌, ℕ, ◌*◌, List, [], ◌∷◌, map, Option, Some, None, refl}
use Rattle.std.specs.List.{range_with_len}
use Rattle.hc_records.specs.declared.records.Dir.{Dir}
use Rattle.hc_records.specs.declared.records.Dir.TheVariants.{Out, In}
use Rattle.hc_records.specs.declared.records.Area.{Area}
use Rattle.hc_records.specs.declared.records.Slave.{Slave}
use Rattle.hc_records.specs.declared.records.Group.{Group}
use Rattle.hc_records.specs.declared.edit.Edit.{Edit}
use Rattle.hc_records.specs.declared.edit.Edit.TheVariants.{Connect, Disconnect, Remap, Move, Declare}
use Rattle.hc_records.specs.declared.faults.EditFault.{EditFault}
use Rattle.hc_records.specs.declared.faults.ProjectFault.TheVariants.{OutOfRange}
use Rattle.hc_records.specs.declared.faults.EditFault.TheVariants.{UnknownAlias, AlreadyPresent, NotPresent, Mandatory, TooManyDatagrams, EpochsSpent, BadGroup, AliasTaken, StationTaken, VariableTaken, TooManyGroups, TooManySlaves}
use Rattle.hc_records.specs.declared.limits.TheConstants.{LAST_EPOCH}
use Rattle.hc_records.specs.Lists.{lowest}
use Rattle.hc_records.specs.Line.{State, line, opened}
use Rattle.hc_records.specs.Image.{task_places, datagram_length, datagram_count, logical_address, output_length, input_length, expected_counter, variable_place}
use Rattle.hc_records.specs.Boundaries.{recut}
use Rattle.hc_records.specs.Edits.{edit_faults, state_after, state_after_all}

-- an area of task 0
abbrev area_of : Dir → ℕ → ℕ → Area
area_of dir phys bits = record {
  sm = 0;
  dir = dir;
  phys = phys;
  offered = record { index = 0x1600; entries = (None, bits) ∷ [] } ∷ [];
  assigned = 0x1600 ∷ [];
  task = 0;
}

-- a slave with one output area of so many bytes
abbrev with_output : ℕ → ℕ → Slave
with_output station bytes = record { station = station; areas = area_of Out 0x1000 (8 * bytes) ∷ [] }

-- a slave with an output area and an input area of so many bytes
abbrev with_both : ℕ → ℕ → Slave
with_both station bytes = record {
  station = station;
  areas = area_of Out 0x1000 (8 * bytes) ∷ area_of In 0x2000 (8 * bytes) ∷ [];
}

abbrev group_of : ℕ → List Slave → Group
group_of alias slaves = record { alias = alias; slaves = slaves }

-- a task's parts, and for each datagram its length in bytes and its expected counter
abbrev parts : ℕ → State → ℕ × ℕ
parts task state =
    let areas = task_places task (line state) in (output_length areas, input_length areas)

abbrev datagrams : ℕ → State → List (ℕ × ℕ)
datagrams task state =
    let areas = task_places task (line state) in
    map (λ d. (datagram_length areas d, expected_counter task d (line state))) (range_with_len 0 (datagram_count areas))

-- the datagram and the first bit of each area
abbrev starts : ℕ → State → List (ℕ × ℕ)
starts task state = map (λ area. (area.datagram, area.bit)) (task_places task (line state))

-- recut of an edit that is not refused
abbrev recut_by : State → Edit → ℕ
recut_by state edit = recut (line state) (line (state_after state edit))

abbrev fault_of : State → Edit → Option EditFault
fault_of state edit = lowest (edit_faults state edit)

-- The three areas of 3 bits of two slaves take 9 bits, in two bytes; an input of 1 bit begins the next byte, at bit 16.

abbrev three_bits : State
three_bits = opened (group_of 0 (
    record { station = 1001; areas = area_of Out 0x1000 3 ∷ area_of Out 0x1010 3 ∷ [] }
    ∷ record { station = 1002; areas = area_of Out 0x1000 3 ∷ [] }
    ∷ []) ∷ [])

three_bits_starts : starts 0 three_bits ≡ (0, 0) ∷ (0, 3) ∷ (0, 6) ∷ []
three_bits_starts = refl

three_bits_datagram : datagrams 0 three_bits ≡ (2, 4) ∷ []
three_bits_datagram = refl

abbrev and_an_input : State
and_an_input = opened (group_of 0 (
    record { station = 1001; areas = area_of Out 0x1000 3 ∷ area_of Out 0x1010 3 ∷ area_of In 0x1020 1 ∷ [] }
    ∷ record { station = 1002; areas = area_of Out 0x1000 3 ∷ [] }
    ∷ []) ∷ [])

and_an_input_starts : starts 0 and_an_input ≡ (0, 0) ∷ (0, 3) ∷ (0, 6) ∷ (0, 16) ∷ []
and_an_input_starts = refl

and_an_input_datagram : datagrams 0 and_an_input ≡ (3, 5) ∷ []
and_an_input_datagram = refl

and_an_input_parts : parts 0 and_an_input ≡ (2, 1)
and_an_input_parts = refl

-- An empty project has no datagram.

empty_datagrams : datagrams 0 (opened (group_of 0 [] ∷ [])) ≡ []
empty_datagrams = refl

-- 1,485 bytes and 8 bits fill a datagram; one bit more begins the next one.

abbrev full : State
full = opened (group_of 0 (
    with_output 1001 1485
    ∷ record { station = 1002; areas = area_of Out 0x1000 8 ∷ [] }
    ∷ record { station = 1003; areas = area_of Out 0x1000 1 ∷ [] }
    ∷ []) ∷ [])

full_datagrams : datagrams 0 full ≡ (1486, 4) ∷ (1, 2) ∷ []
full_datagrams = refl

full_address : logical_address 0 1 ≡ 0x01000800
full_address = refl

full_parts : parts 0 full ≡ (1487, 0)
full_parts = refl

-- A tool of one slave and a module of seven: each edit cuts anew only what it reaches.

abbrev tool_and_module : State
tool_and_module = opened (
    group_of 0 []
    ∷ group_of 10 (with_output 1 700 ∷ [])
    ∷ group_of 20 (with_output 2 700 ∷ with_output 3 700 ∷ with_output 4 700 ∷ with_output 5 700 ∷ with_output 6 1400 ∷ with_output 7 700 ∷ with_output 8 700 ∷ [])
    ∷ [])

tool_recut : recut_by tool_and_module (Connect 10) ≡ 1
tool_recut = refl

abbrev with_tool : State
with_tool = state_after tool_and_module (Connect 10)

module_recut : recut_by with_tool (Connect 20) ≡ 5
module_recut = refl

abbrev with_module : State
with_module = state_after with_tool (Connect 20)

module_starts : starts 0 with_module ≡ (0, 0) ∷ (0, 5600) ∷ (1, 0) ∷ (1, 5600) ∷ (2, 0) ∷ (3, 0) ∷ (4, 0) ∷ (4, 5600) ∷ []
module_starts = refl

undocked_recut : recut_by with_module (Disconnect 10) ≡ 2
undocked_recut = refl

undocked_starts : starts 0 (state_after with_module (Disconnect 10)) ≡ (0, 0) ∷ (0, 5600) ∷ (1, 0) ∷ (1, 5600) ∷ (2, 0) ∷ (3, 0) ∷ (3, 5600) ∷ []
undocked_starts = refl

undocked_addresses : (logical_address 0 3 ∷ logical_address 0 2 ∷ []) ≡ 0x01001800 ∷ 0x01001000 ∷ []
undocked_addresses = refl

three_epochs : (state_after_all tool_and_module (Connect 10 ∷ Connect 20 ∷ Disconnect 10 ∷ [])).epoch ≡ 3
three_epochs = refl

-- A remapped slave moves back into the datagram before the one that held it.

abbrev remapped : State
remapped = opened (group_of 0 (
    with_output 1 1000
    ∷ record {
      station = 2;
      areas = record {
        sm = 0;
        dir = Out;
        phys = 0x1000;
        offered = record { index = 0x1600; entries = (None, 8 * 300) ∷ [] } ∷ record { index = 0x1601; entries = (None, 8 * 400) ∷ [] } ∷ [];
        assigned = 0x1600 ∷ 0x1601 ∷ [];
        task = 0;
      } ∷ [];
    }
    ∷ with_output 3 700
    ∷ []) ∷ [])

remapped_before : datagrams 0 remapped ≡ (1000, 2) ∷ (1400, 4) ∷ []
remapped_before = refl

remapped_recut : recut_by remapped (Remap 2 0 (0x1600 ∷ [])) ≡ 2
remapped_recut = refl

remapped_after : datagrams 0 (state_after remapped (Remap 2 0 (0x1600 ∷ []))) ≡ (1300, 4) ∷ (700, 2) ∷ []
remapped_after = refl

remapped_starts : starts 0 (state_after remapped (Remap 2 0 (0x1600 ∷ []))) ≡ (0, 0) ∷ (0, 8000) ∷ (1, 0) ∷ []
remapped_starts = refl

-- Outputs and inputs are both touched, and the datagrams between them stay.

abbrev gripper : State
gripper = state_after_all
    (opened (group_of 0 [] ∷ group_of 10 (with_both 1 100 ∷ []) ∷ group_of 20 (with_both 2 1400 ∷ with_output 3 1400 ∷ with_output 4 1400 ∷ []) ∷ []))
    (Connect 10 ∷ Connect 20 ∷ [])

gripper_count : datagram_count (task_places 0 (line gripper)) ≡ 6
gripper_count = refl

gripper_recut : recut_by gripper (Disconnect 10) ≡ 2
gripper_recut = refl

gripper_after : datagrams 0 (state_after gripper (Disconnect 10)) ≡ (1400, 2) ∷ (1400, 2) ∷ (1400, 2) ∷ (1400, 1) ∷ []
gripper_after = refl

-- The seventeenth slave that fills a datagram is refused, and the line stays.

abbrev sixteen : List Slave
sixteen = map (λ station. with_output station 1400) (range_with_len 1 16)

abbrev over_limit : State
over_limit = opened (group_of 0 sixteen ∷ group_of 10 (with_output 17 1400 ∷ []) ∷ [])

over_limit_fault : fault_of over_limit (Connect 10) ≡ Some (TooManyDatagrams 0)
over_limit_fault = refl

over_limit_stays : (state_after over_limit (Connect 10)).epoch ≡ 0
over_limit_stays = refl

-- A tool is connected and disconnected, each twice.

abbrev tool : State
tool = opened (group_of 0 [] ∷ group_of 100 (record {
  station = 1001;
  areas = record {
    sm = 2;
    dir = Out;
    phys = 0x1100;
    offered = record { index = 0x1600; entries = (Some 1, 2) ∷ [] } ∷ [];
    assigned = 0x1600 ∷ [];
    task = 0;
  }
      ∷ record {
        sm = 3;
        dir = In;
        phys = 0x1180;
        offered = record { index = 0x1a00; entries = (Some 2, 12) ∷ [] } ∷ [];
        assigned = 0x1a00 ∷ [];
        task = 0;
      }
      ∷ [];
} ∷ []) ∷ [])

abbrev docked : State
docked = state_after tool (Connect 100)

abbrev undocked : State
undocked = state_after docked (Disconnect 100)

tool_recuts : (recut_by tool (Connect 100) ∷ recut_by docked (Disconnect 100) ∷ []) ≡ 1 ∷ 1 ∷ []
tool_recuts = refl

docked_faults : (fault_of docked (Connect 100) ∷ fault_of docked (Disconnect 0) ∷ fault_of docked (Connect 0) ∷ fault_of docked (Connect 7) ∷ [])
    ≡ Some AlreadyPresent ∷ Some Mandatory ∷ Some AlreadyPresent ∷ Some UnknownAlias ∷ []
docked_faults = refl

undocked_faults : (fault_of undocked (Disconnect 100) ∷ fault_of undocked (Connect 100) ∷ []) ≡ Some NotPresent ∷ None ∷ []
undocked_faults = refl

docked_variables : (variable_place 1 (line docked) ∷ variable_place 2 (line docked) ∷ variable_place 3 (line docked) ∷ [])
    ≡ Some (record { task = 0; datagram = 0; bit = 0; bits = 2; dir = Out })
    ∷ Some (record { task = 0; datagram = 0; bit = 8; bits = 12; dir = In })
    ∷ None
    ∷ []
docked_variables = refl

undocked_variable : variable_place 1 (line undocked) ≡ None
undocked_variable = refl

-- Its inputs are unassigned, assigned again as they were, and its outputs move to another task.

without_inputs : recut_by docked (Remap 1001 1 []) ≡ 1
without_inputs = refl

without_inputs_datagram : datagrams 0 (state_after docked (Remap 1001 1 [])) ≡ (1, 2) ∷ []
without_inputs_datagram = refl

same_inputs : recut_by docked (Remap 1001 1 (0x1a00 ∷ [])) ≡ 0
same_inputs = refl

moved_outputs : recut_by docked (Move 1001 0 1) ≡ 2
moved_outputs = refl

moved_inputs : datagrams 0 (state_after docked (Move 1001 0 1)) ≡ (2, 1) ∷ []
moved_inputs = refl

moved_output : datagrams 1 (state_after docked (Move 1001 0 1)) ≡ (1, 2) ∷ []
moved_output = refl

-- Two PDOs of one width exchange their places: nothing is cut anew, and the variables move.

abbrev sensor : State
sensor = opened (group_of 0 (record {
  station = 1001;
  areas = record {
    sm = 3;
    dir = In;
    phys = 0x1000;
    offered = record { index = 0x1a00; entries = (Some 2, 4) ∷ [] } ∷ record { index = 0x1a01; entries = (Some 3, 4) ∷ [] } ∷ [];
    assigned = 0x1a00 ∷ 0x1a01 ∷ [];
    task = 0;
  } ∷ [];
} ∷ []) ∷ [])

exchanged : recut_by sensor (Remap 1001 0 (0x1a01 ∷ 0x1a00 ∷ [])) ≡ 0
exchanged = refl

exchanged_variable : variable_place 3 (line (state_after sensor (Remap 1001 0 (0x1a01 ∷ 0x1a00 ∷ []))))
    ≡ Some (record { task = 0; datagram = 0; bit = 0; bits = 4; dir = In })
exchanged_variable = refl

-- Another tool is declared while the first one is docked: the line stays, and the tool is connected as any other. What
-- a declared group has, no later one may have.

abbrev another : ℕ → ℕ → Group
another alias station = group_of alias (record {
  station = station;
  areas = record {
    sm = 2;
    dir = Out;
    phys = 0x1000;
    offered = record { index = 5; entries = (Some 3, 8) ∷ [] } ∷ [];
    assigned = 5 ∷ [];
    task = 0;
  } ∷ [];
} ∷ [])

abbrev declared : State
declared = state_after docked (Declare (another 200 2001))

declared_fault : fault_of docked (Declare (another 200 2001)) ≡ None
declared_fault = refl

declared_epoch : declared.epoch ≡ 2
declared_epoch = refl

declared_recut : recut_by docked (Declare (another 200 2001)) ≡ 0
declared_recut = refl

declared_line : line declared ≡ line docked
declared_line = refl

declared_variable : variable_place 3 (line declared) ≡ None
declared_variable = refl

abbrev both_docked : State
both_docked = state_after declared (Connect 200)

both_docked_epoch : both_docked.epoch ≡ 3
both_docked_epoch = refl

both_docked_recut : recut_by declared (Connect 200) ≡ 1
both_docked_recut = refl

both_docked_datagram : datagrams 0 both_docked ≡ (4, 5) ∷ []
both_docked_datagram = refl

both_docked_variable : variable_place 3 (line both_docked)
    ≡ Some (record { task = 0; datagram = 0; bit = 8; bits = 8; dir = Out })
both_docked_variable = refl

-- the variable is taken while the group that offers it is absent, too
taken : (fault_of both_docked (Declare (another 200 2001))
    ∷ fault_of both_docked (Declare (another 201 2001))
    ∷ fault_of both_docked (Declare (another 201 2002))
    ∷ fault_of declared (Declare (another 201 2002))
    ∷ [])
    ≡ Some AliasTaken ∷ Some StationTaken ∷ Some VariableTaken ∷ Some VariableTaken ∷ []
taken = refl

-- A group that no project may have is refused as such, after the last epoch and before what is taken.

bare_group : fault_of docked (Declare (another 0 1001)) ≡ Some (BadGroup OutOfRange)
bare_group = refl

last_epoch : fault_of (record docked { epoch = LAST_EPOCH }) (Declare (another 0 1001)) ≡ Some EpochsSpent
last_epoch = refl

-- The last group and the last slave that a project may have are declared, and no more.

abbrev bare_slave : ℕ → Slave
bare_slave station = record { station = station; areas = [] }

abbrev with_slaves : ℕ → State
with_slaves count = opened (group_of 0 (map bare_slave (range_with_len 1 count)) ∷ [])

many_slaves : (fault_of (with_slaves 2047) (Declare (another 10 3000)) ∷ fault_of (with_slaves 2048) (Declare (another 10 3000)) ∷ [])
    ≡ None ∷ Some TooManySlaves ∷ []
many_slaves = refl

abbrev with_groups : ℕ → State
with_groups count = opened (group_of 0 [] ∷ map (λ n. group_of n (bare_slave n ∷ [])) (range_with_len 1 count))

many_groups : (fault_of (with_groups 510) (Declare (another 1000 3000)) ∷ fault_of (with_groups 511) (Declare (another 1000 3000)) ∷ [])
    ≡ None ∷ Some TooManyGroups ∷ []
many_groups = refl

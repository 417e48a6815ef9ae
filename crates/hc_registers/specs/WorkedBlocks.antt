-- Worked blocks, computed by the definitions: a wrong definition fails here.
use Rattle.std.specs.Prelude.{◌≡◌, ℕ, ◌*◌, List, [], ◌∷◌, map, Option, Some, None, refl}
use Rattle.hc_records.specs.declared.records.Dir.{Dir}
use Rattle.hc_records.specs.declared.records.Dir.TheVariants.{Out, In}
use Rattle.hc_records.specs.declared.records.Area.{Area}
use Rattle.hc_records.specs.declared.records.Slave.{Slave}
use Rattle.hc_records.specs.declared.edit.Edit.{Edit}
use Rattle.hc_records.specs.declared.edit.Edit.TheVariants.{Connect, Disconnect, Remap, Move}
use Rattle.hc_records.specs.Line.{State, line, opened}
use Rattle.hc_records.specs.Edits.{state_after}
use Rattle.hc_registers.specs.Blocks.{line_blocks, moved}

abbrev area_of : ℕ → Dir → ℕ → ℕ → Option ℕ → Area
area_of sm dir phys bits variable = record {
  sm = sm;
  dir = dir;
  phys = phys;
  offered = record { index = 0x1600; entries = (variable, bits) ∷ [] } ∷ [];
  assigned = 0x1600 ∷ [];
  task = 0;
}

abbrev slave_of : ℕ → List Area → Slave
slave_of station areas = record { station = station; areas = areas }

abbrev bytes_of : State → List (List ℕ)
bytes_of state = map (λ block. block.block.bytes) (line_blocks (line state))

abbrev registers_of : State → List ℕ
registers_of state = map (λ block. block.block.register) (line_blocks (line state))

abbrev moved_by : State → Edit → ℕ
moved_by state edit = moved (line state) (line (state_after state edit))

-- One slave with 2 output bits and 12 input bits.

abbrev two_areas : List Slave
two_areas = slave_of 1001 (area_of 2 Out 0x1100 2 (Some 1) ∷ area_of 3 In 0x1180 12 (Some 2) ∷ []) ∷ []

abbrev one_slave : State
one_slave = opened (record { alias = 0; slaves = two_areas } ∷ [])

one_slave_registers : registers_of one_slave ≡ 0x0810 ∷ 0x0600 ∷ 0x0818 ∷ 0x0610 ∷ []
one_slave_registers = refl

one_slave_blocks : bytes_of one_slave ≡
    (0x00 ∷ 0x11 ∷ 0x01 ∷ 0x00 ∷ 0x64 ∷ 0x00 ∷ 0x01 ∷ 0x00 ∷ [])
    ∷ (0x00 ∷ 0x00 ∷ 0x00 ∷ 0x01 ∷ 0x01 ∷ 0x00 ∷ 0x00 ∷ 0x01 ∷ 0x00 ∷ 0x11 ∷ 0x00 ∷ 0x02 ∷ 0x01 ∷ 0x00 ∷ 0x00 ∷ 0x00 ∷ [])
    ∷ (0x80 ∷ 0x11 ∷ 0x02 ∷ 0x00 ∷ 0x20 ∷ 0x00 ∷ 0x01 ∷ 0x00 ∷ [])
    ∷ (0x01 ∷ 0x00 ∷ 0x00 ∷ 0x01 ∷ 0x02 ∷ 0x00 ∷ 0x00 ∷ 0x03 ∷ 0x80 ∷ 0x11 ∷ 0x00 ∷ 0x01 ∷ 0x01 ∷ 0x00 ∷ 0x00 ∷ 0x00 ∷ [])
    ∷ []
one_slave_blocks = refl

-- Three areas of 3 bits take 9 bits: the second ends at bit 5 of the first byte, the third spans two bytes.

abbrev three_bits : State
three_bits = opened (record {
  alias = 0;
  slaves =
      slave_of 1001 (area_of 0 Out 0x1000 3 None ∷ area_of 1 Out 0x1010 3 None ∷ []) ∷ slave_of 1002 (area_of 0 Out 0x1000 3 None ∷ []) ∷ [];
} ∷ [])

abbrev second_of : List (List ℕ) → List (List ℕ)
second_of [] = []
second_of (bytes ∷ []) = []
second_of (bytes ∷ next ∷ rest) = next ∷ second_of rest

three_bits_fmmus : second_of (bytes_of three_bits) ≡
    (0x00 ∷ 0x00 ∷ 0x00 ∷ 0x01 ∷ 0x01 ∷ 0x00 ∷ 0x00 ∷ 0x02 ∷ 0x00 ∷ 0x10 ∷ 0x00 ∷ 0x02 ∷ 0x01 ∷ 0x00 ∷ 0x00 ∷ 0x00 ∷ [])
    ∷ (0x00 ∷ 0x00 ∷ 0x00 ∷ 0x01 ∷ 0x01 ∷ 0x00 ∷ 0x03 ∷ 0x05 ∷ 0x10 ∷ 0x10 ∷ 0x00 ∷ 0x02 ∷ 0x01 ∷ 0x00 ∷ 0x00 ∷ 0x00 ∷ [])
    ∷ (0x00 ∷ 0x00 ∷ 0x00 ∷ 0x01 ∷ 0x02 ∷ 0x00 ∷ 0x06 ∷ 0x00 ∷ 0x00 ∷ 0x10 ∷ 0x00 ∷ 0x02 ∷ 0x01 ∷ 0x00 ∷ 0x00 ∷ 0x00 ∷ [])
    ∷ []
three_bits_fmmus = refl

-- A tool comes and goes, its inputs are unassigned, its outputs move to another task.

abbrev tool : State
tool = opened (record { alias = 0; slaves = [] } ∷ record { alias = 100; slaves = two_areas } ∷ [])

docked_moves : moved_by tool (Connect 100) ≡ 4
docked_moves = refl

undocked_moves : moved_by (state_after tool (Connect 100)) (Disconnect 100) ≡ 0
undocked_moves = refl

unassigned_moves : moved_by one_slave (Remap 1001 1 []) ≡ 2
unassigned_moves = refl

unassigned_blocks : second_of (second_of (bytes_of (state_after one_slave (Remap 1001 1 []))))
    ≡ (0 ∷ 0 ∷ 0 ∷ 0 ∷ 0 ∷ 0 ∷ 0 ∷ 0 ∷ 0 ∷ 0 ∷ 0 ∷ 0 ∷ 0 ∷ 0 ∷ 0 ∷ 0 ∷ []) ∷ []
unassigned_blocks = refl

same_moves : moved_by one_slave (Remap 1001 1 (0x1600 ∷ [])) ≡ 0
same_moves = refl

other_task_moves : moved_by one_slave (Move 1001 0 1) ≡ 2
other_task_moves = refl

-- A tool of one slave and a module of seven: connecting the module moves both blocks of each of its slaves, and disconnecting the tool moves the
-- FMMU block of each, and no sync manager block.

abbrev with_output : ℕ → ℕ → Slave
with_output station bytes = slave_of station (area_of 0 Out 0x1000 (8 * bytes) None ∷ [])

abbrev tool_and_module : State
tool_and_module = opened (
    record { alias = 0; slaves = [] }
    ∷ record { alias = 10; slaves = with_output 1 700 ∷ [] }
    ∷ record { alias = 20; slaves = with_output 2 700 ∷ with_output 3 700 ∷ with_output 4 700 ∷ with_output 5 700 ∷ with_output 6 1400 ∷ with_output 7 700 ∷ with_output 8 700 ∷ [] }
    ∷ [])

tool_moves : moved_by tool_and_module (Connect 10) ≡ 2
tool_moves = refl

module_moves : moved_by (state_after tool_and_module (Connect 10)) (Connect 20) ≡ 14
module_moves = refl

undocked_tool_moves : moved_by (state_after (state_after tool_and_module (Connect 10)) (Connect 20)) (Disconnect 10) ≡ 7
undocked_tool_moves = refl

-- A remapped slave and its follower move; with outputs and inputs both touched, the datagrams between stay.

abbrev remapped : State
remapped = opened (record {
  alias = 0;
  slaves =
      with_output 1 1000
      ∷ slave_of 2 (record {
        sm = 0;
        dir = Out;
        phys = 0x1000;
        offered = record { index = 0x1600; entries = (None, 8 * 300) ∷ [] } ∷ record { index = 0x1601; entries = (None, 8 * 400) ∷ [] } ∷ [];
        assigned = 0x1600 ∷ 0x1601 ∷ [];
        task = 0;
      } ∷ [])
      ∷ with_output 3 700
      ∷ [];
} ∷ [])

remapped_moves : moved_by remapped (Remap 2 0 (0x1600 ∷ [])) ≡ 3
remapped_moves = refl

abbrev with_both : ℕ → ℕ → Slave
with_both station bytes = slave_of station (area_of 0 Out 0x1000 (8 * bytes) None ∷ area_of 1 In 0x2000 (8 * bytes) None ∷ [])

abbrev gripper : State
gripper = opened (
    record { alias = 0; slaves = [] }
    ∷ record { alias = 10; slaves = with_both 1 100 ∷ [] }
    ∷ record { alias = 20; slaves = with_both 2 1400 ∷ with_output 3 1400 ∷ with_output 4 1400 ∷ [] }
    ∷ [])

gripper_moves : moved_by (state_after (state_after gripper (Connect 10)) (Connect 20)) (Disconnect 10) ≡ 4
gripper_moves = refl

-- Worked histories of ready tasks, computed by the definitions: a wrong definition fails here. The numbers beside each history are counted by hand.
use Rattle.std.specs.Prelude.{◌≡◌, ℕ, List, [], ◌∷◌, ◌++◌, length, map, replicate, refl, Some, None}
use Rattle.hc_bits.specs.Bits.{bit_of, number_of}
use Rattle.hc_records.specs.declared.records.Dir.TheVariants.{Out, In}
use Rattle.hc_records.specs.declared.records.Slave.{Slave}
use Rattle.hc_records.specs.declared.edit.Edit.TheVariants.{Connect, Disconnect, Move}
use Rattle.hc_frames.specs.Arrived.{starts_within}
use Rattle.hc_events.specs.declared.answer.Answer.TheVariants as answer
use Rattle.hc_events.specs.declared.answer.Outcome.TheVariants.{Inputs}
use Rattle.hc_events.specs.declared.faults.CoreFault.TheVariants.{AlreadyPresent, NoSuchTask, UnknownStation, Unprogrammed, Waits}
use Rattle.hc_events.specs.Entries.{History, Opened}
use Rattle.hc_events.specs.Faults.{core_fault_number}
use Rattle.hc_events.specs.Ready.{held_by, holders, ready_mask, waited_for, waited_for_outside, waiting_after}
use Rattle.hc_events.specs.Steps.{Step, Clears, Edits, Forgets, SendsReady, SendsTasks, SendsWrite, SendsWrites, Unplugs, answers_to, clear_faults, entries_after_all, ready_faults, unplug_faults}
use Rattle.hc_events.specs.WorkedAxis.{area_of, axis, back, data_back, four_answers, head_of, write_back, written, written_at}
use Rattle.hc_events.specs.WorkedWrites.{fmmu_write, input_fmmu}

-- for how many owed blocks each of the first three tasks waits, and for how many registers outside the line
abbrev pub waits : History → List (ℕ × ℕ)
waits history = map (λ (task : ℕ). (length (waited_for history task), length (waited_for_outside history task))) (0 ∷ 1 ∷ 2 ∷ [])

-- The axis' input area moves from task 0 to task 1, while its sync manager is owed, since the axis was forgotten. Before the move task 0 waits for four blocks. After it task 0 waits for the two of the output area, and
-- for the FMMU whose register has its addresses; task 1 waits for that FMMU and for the sync manager, although the move changed no byte of the latter.

abbrev input_to : ℕ → Step
input_to task = Edits (Move 1001 1 task)

sync_manager_goes_along :
    waits (entries_after_all written (Forgets 1001 ∷ [])) ∷ waits (entries_after_all written (Forgets 1001 ∷ input_to 1 ∷ [])) ∷ []
    ≡ ((4, 0) ∷ (0, 0) ∷ (0, 0) ∷ []) ∷ ((3, 0) ∷ (2, 0) ∷ (0, 0) ∷ []) ∷ []
unfolding bit_of number_of starts_within
sync_manager_goes_along = refl

-- All is written, and the input area moves. The two blocks of task 0 hold what the line configures; but the moved FMMU still reads into task 0, so task 0 waits for it, as task 1 does.

old_mappings_count : waits (entries_after_all written (input_to 1 ∷ [])) ≡ (1, 0) ∷ (1, 0) ∷ (0, 0) ∷ []
unfolding bit_of number_of starts_within
old_mappings_count = refl

-- The write of the new mapping is sent, and nothing comes back; then the area moves back. Nothing is known of the register, and it may hold either mapping: task 1, which has no datagram now, waits as well. A good answer to
-- the next write ends that.

abbrev moved_and_back : List Step
moved_and_back = input_to 1 ∷ SendsWrite ∷ input_to 0 ∷ []

lost_writes_count :
    waits (entries_after_all written moved_and_back) ∷ waits (entries_after_all written (moved_and_back ++ SendsWrite ∷ write_back 5 0x0610 16 1 ∷ [])) ∷ []
    ≡ ((1, 0) ∷ (1, 0) ∷ (0, 0) ∷ []) ∷ ((0, 0) ∷ (0, 0) ∷ (0, 0) ∷ []) ∷ []
unfolding bit_of number_of starts_within
lost_writes_count = refl

-- a task without datagrams waits as well, also after a write that missed
no_datagram_waits :
    answers_to (entries_after_all written moved_and_back) (SendsReady (1 ∷ []) ∷ SendsWrite ∷ write_back 5 0x0610 16 0 ∷ SendsReady (1 ∷ []) ∷ [])
    ≡ answer.Refused (Waits 1 1 0)
    ∷ answer.WriteSent (fmmu_write 5 0x10 input_fmmu)
    ∷ answer.WriteMissed
    ∷ answer.Refused (Waits 1 1 0)
    ∷ []
unfolding bit_of number_of starts_within
no_datagram_waits = refl

-- Two moves without a write between: the register holds the first mapping, so that tasks 0 and 2 wait, and task 1 does not.

two_moves : waits (entries_after_all written (input_to 1 ∷ input_to 2 ∷ [])) ≡ (1, 0) ∷ (0, 0) ∷ (1, 0) ∷ []
unfolding bit_of number_of starts_within
two_moves = refl

-- A write that missed, and the late answer to one that was sent again since, leave the bytes that the register may hold. The good answer to the
-- last write does not.

abbrev late_answers : List Step
late_answers = input_to 1 ∷ SendsWrite ∷ write_back 4 0x0610 16 0 ∷ SendsWrite ∷ SendsWrite ∷ write_back 5 0x0610 16 1 ∷ []

bad_answers_leave :
    waits (entries_after_all written late_answers) ∷ waits (entries_after_all written (late_answers ++ write_back 6 0x0610 16 1 ∷ [])) ∷ []
    ≡ ((1, 0) ∷ (1, 0) ∷ (0, 0) ∷ []) ∷ ((0, 0) ∷ (0, 0) ∷ (0, 0) ∷ []) ∷ []
unfolding bit_of number_of starts_within
bad_answers_leave = refl

-- A cell with a gripper in task 2, whose group is not in the line at first.

abbrev gripper : Slave
gripper = record {
  station = 1004;
  areas = record (area_of 2 Out 0x1100 0x1600 3 8) { task = 2 } ∷ record (area_of 3 In 0x1180 0x1a00 4 4) { task = 2 } ∷ [];
}

abbrev pub cell : History
cell = entries_after_all (Opened (record { alias = 0; slaves = axis ∷ [] } ∷ record { alias = 100; slaves = gripper ∷ [] } ∷ []) ∷ []) (four_answers 0)

abbrev comes : Step
comes = Edits (Connect 100)

abbrev goes : Step
goes = Edits (Disconnect 100)

-- The gripper comes: its two FMMUs may hold anything, so each task waits for them, and task 2 for all four blocks. Once it is cleared task 2 waits alone. Then it never answers: its writes are sent and come back with
-- counter 0, are sent again, and it is forgotten. Task 0 stays ready.

abbrev never_answers : List Step
never_answers =
    SendsWrite ∷ back 4 (written_at 1004 0x0810 8 0 ∷ []) ∷ SendsWrites ∷ SendsWrites ∷ Forgets 1004 ∷ SendsWrites ∷ []

gripper_comes :
    waits (entries_after_all cell (comes ∷ []))
    ∷ waits (entries_after_all cell (comes ∷ Clears 1004 ∷ []))
    ∷ waits (entries_after_all cell (comes ∷ Clears 1004 ∷ never_answers))
    ∷ []
    ≡ ((2, 0) ∷ (2, 0) ∷ (4, 0) ∷ []) ∷ ((0, 0) ∷ (0, 0) ∷ (4, 0) ∷ []) ∷ ((0, 0) ∷ (0, 0) ∷ (4, 0) ∷ []) ∷ []
unfolding bit_of number_of starts_within
gripper_comes = refl

-- The gripper goes and stays plugged: task 2 waits for its two registers, until it is cleared, or unplugged. A gripper that is plugged again and comes may hold anything; and if it goes as it came, it may hold what it
-- held before.

abbrev gone : List Step
gone = comes ∷ Clears 1004 ∷ never_answers ++ goes ∷ []

gripper_goes :
    waits (entries_after_all cell gone)
    ∷ waits (entries_after_all cell (gone ++ Clears 1004 ∷ []))
    ∷ waits (entries_after_all cell (gone ++ Unplugs 1004 ∷ []))
    ∷ waits (entries_after_all cell (gone ++ Unplugs 1004 ∷ comes ∷ []))
    ∷ waits (entries_after_all cell (gone ++ Unplugs 1004 ∷ comes ∷ goes ∷ []))
    ∷ []
    ≡ ((0, 0) ∷ (0, 0) ∷ (0, 2) ∷ [])
    ∷ ((0, 0) ∷ (0, 0) ∷ (0, 0) ∷ [])
    ∷ ((0, 0) ∷ (0, 0) ∷ (0, 0) ∷ [])
    ∷ ((2, 0) ∷ (2, 0) ∷ (4, 0) ∷ [])
    ∷ ((0, 0) ∷ (0, 0) ∷ (0, 2) ∷ [])
    ∷ []
unfolding bit_of number_of starts_within
gripper_goes = refl

-- who holds a task up
holders_are_named :
    holders (entries_after_all cell (comes ∷ [])) 0
    ∷ holders (entries_after_all cell (comes ∷ Clears 1004 ∷ Forgets 1001 ∷ input_to 2 ∷ [])) 2
    ∷ holders (entries_after_all cell (gone ++ input_to 2 ∷ [])) 2
    ∷ []
    ≡ (1004 ∷ []) ∷ (1001 ∷ 1004 ∷ []) ∷ (1001 ∷ 1004 ∷ []) ∷ []
unfolding bit_of number_of starts_within
holders_are_named = refl

one_by_one :
    held_by (entries_after_all cell (gone ++ input_to 2 ∷ [])) 2 0
    ∷ held_by (entries_after_all cell (gone ++ input_to 2 ∷ [])) 2 1
    ∷ held_by (entries_after_all cell (gone ++ input_to 2 ∷ [])) 2 2
    ∷ []
    ≡ Some 1001 ∷ Some 1004 ∷ None ∷ []
unfolding bit_of number_of starts_within
one_by_one = refl

-- the ready tasks as a number, and those that an edit will make wait
masks :
    ready_mask cell ∷ ready_mask (entries_after_all cell (comes ∷ [])) ∷ ready_mask (entries_after_all cell (comes ∷ Clears 1004 ∷ []))
    ∷ waiting_after cell (Connect 100) ∷ waiting_after cell (Move 1001 1 1) ∷ []
    ≡ 255 ∷ 0 ∷ 251 ∷ 4 ∷ 3 ∷ []
unfolding bit_of number_of starts_within
masks = refl

-- The refusals. Before the gripper is cleared both sendings are refused, `SendsReady` for the first of the tasks that waits.

refused_before :
    answers_to (entries_after_all cell (comes ∷ [])) (
    Clears 1002
    ∷ Unplugs 1002
    ∷ SendsTasks (0 ∷ [])
    ∷ SendsReady (8 ∷ 0 ∷ [])
    ∷ SendsReady (0 ∷ 2 ∷ [])
    ∷ Unplugs 1004
    ∷ Clears 1004
    ∷ SendsTasks (0 ∷ [])
    ∷ SendsReady (0 ∷ 2 ∷ [])
    ∷ [])
    ≡ answer.Refused UnknownStation
    ∷ answer.Refused UnknownStation
    ∷ answer.Refused (Unprogrammed 4)
    ∷ answer.Refused NoSuchTask
    ∷ answer.Refused (Waits 0 2 0)
    ∷ answer.Refused AlreadyPresent
    ∷ answer.Cleared
    ∷ answer.Refused (Unprogrammed 4)
    ∷ answer.Refused (Waits 2 4 0)
    ∷ []
unfolding bit_of number_of starts_within
refused_before = refl

-- The gripper's blocks are sent after the frame of task 0, in the same cycle, and that frame is answered well.

abbrev gripper_cleared : History
gripper_cleared = entries_after_all cell (comes ∷ Clears 1004 ∷ [])

task_0_is_sent :
    answers_to gripper_cleared (SendsReady (0 ∷ []) ∷ [])
    ++ answers_to (entries_after_all gripper_cleared (SendsReady (0 ∷ []) ∷ SendsWrites ∷ [])) (back 4 (data_back 0x01000000 (0x00 ∷ 0x34 ∷ 0x0a ∷ []) 3 ∷ []) ∷ [])
    ≡ answer.Sent ((head_of 4 0x0f ++ 0x0c ∷ 0x04 ∷ 0 ∷ 0 ∷ 0 ∷ 0x01 ∷ 0x03 ∷ 0 ∷ 0 ∷ 0 ∷ replicate 34 0) ∷ [])
    ∷ answer.Answered (Inputs 0 0 ∷ [])
    ∷ []
unfolding bit_of number_of starts_within
task_0_is_sent = refl

-- the order of refusals, by their numbers
ready_order : (history : History) (first second : ℕ) → map (λ judged. core_fault_number judged.1) (ready_faults history (first ∷ second ∷ [])) ≡ 8 ∷ 36 ∷ 36 ∷ 19 ∷ []
ready_order history first second = refl

clear_order : (history : History) (station : ℕ) → map (λ judged. core_fault_number judged.1) (clear_faults history station) ≡ 5 ∷ []
clear_order history station = refl

unplug_order : (history : History) (station : ℕ) → map (λ judged. core_fault_number judged.1) (unplug_faults history station) ≡ 5 ∷ 2 ∷ []
unplug_order history station = refl

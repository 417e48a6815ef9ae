-- Worked records of posts, sendings and edits, computed by the definitions: a wrong definition fails here.
use Rattle.std.specs.Prelude.{◌≡◌, ℕ, List, [], ◌∷◌, ◌++◌, map, replicate, Some, None, refl}
use Rattle.hc_bits.specs.Bits.{bit_of, number_of}
use Rattle.hc_records.specs.declared.records.Dir.TheVariants.{Out}
use Rattle.hc_records.specs.declared.records.Slave.{Slave}
use Rattle.hc_records.specs.declared.records.Group.{Group}
use Rattle.hc_records.specs.declared.edit.Edit.TheVariants.{Connect, Disconnect, Remap, Move}
use Rattle.hc_frames.specs.Arrived.{starts_within}
use Rattle.hc_events.specs.declared.answer.Answer.TheVariants as answer
use Rattle.hc_events.specs.declared.answer.Outcome.TheVariants.{Inputs, WrongCount}
use Rattle.hc_events.specs.declared.faults.CoreFault.TheVariants.{NoSuchTask, NothingOwed, StalePost, UnknownAlias, Unprogrammed}
use Rattle.hc_events.specs.Entries.{History, Opened}
use Rattle.hc_events.specs.Steps.{Step, Edits, Posts, SendsTasks, SendsWrite, Arrives, Reads, answer_to, answers_to, entries_after_all, proposal, sent_text}
use Rattle.hc_events.specs.WorkedAxis.{area_of, axis, back, data_back, four_answers, head_of, inputs_back, moved, posted, sent_once, to_task_1, written, written_at}

-- A task posts, is sent, and reads what comes back: the data of a good answer, and those still when the next one has another counter.

posted_is_sent : answers_to written (Posts 0 0 (2 ∷ []) ∷ SendsTasks (0 ∷ []) ∷ [])
    ≡ answer.Posted
    ∷ answer.Sent ((head_of 4 0x0f ++ 0x0c ∷ 0x04 ∷ 0 ∷ 0 ∷ 0 ∷ 0x01 ∷ 0x03 ∷ 0 ∷ 0 ∷ 0 ∷ 0x02 ∷ replicate 33 0) ∷ [])
    ∷ []
unfolding bit_of number_of starts_within
posted_is_sent = refl

answered_once : answers_to sent_once (
    Arrives inputs_back
    ∷ Arrives inputs_back
    ∷ SendsWrite
    ∷ Reads 0
    ∷ Reads 8
    ∷ [])
    ≡ answer.Answered (Inputs 0 0 ∷ [])
    ∷ answer.Stale
    ∷ answer.Refused NothingOwed
    ∷ answer.Image 0 (Some (0x02 ∷ 0x34 ∷ 0x0a ∷ []) ∷ [])
    ∷ answer.Refused NoSuchTask
    ∷ []
unfolding bit_of number_of starts_within
answered_once = refl

abbrev answered_twice : History
answered_twice = entries_after_all sent_once (back 4 (data_back 0x01000000 (0x02 ∷ 0x34 ∷ 0x0a ∷ []) 3 ∷ []) ∷ SendsTasks (0 ∷ []) ∷ [])

wrong_counters : answers_to answered_twice (
    back 5 (data_back 0x01000000 (0x02 ∷ 0x55 ∷ 0x55 ∷ []) 2 ∷ [])
    ∷ Reads 0
    ∷ back 5 (data_back 0x01000000 (0x02 ∷ 0x66 ∷ 0x66 ∷ []) 3 ∷ [])
    ∷ SendsTasks (0 ∷ [])
    ∷ back 6 (data_back 0x01000000 (0x02 ∷ 0x77 ∷ 0x77 ∷ []) 4 ∷ [])
    ∷ Reads 0
    ∷ [])
    ≡ answer.Answered (WrongCount 3 2 ∷ [])
    ∷ answer.Image 0 (Some (0x02 ∷ 0x34 ∷ 0x0a ∷ []) ∷ [])
    ∷ answer.Stale
    ∷ answer.Sent ((head_of 6 0x0f ++ 0x0c ∷ 0x06 ∷ 0 ∷ 0 ∷ 0 ∷ 0x01 ∷ 0x03 ∷ 0 ∷ 0 ∷ 0 ∷ 0x02 ∷ replicate 33 0) ∷ [])
    ∷ answer.Answered (WrongCount 3 4 ∷ [])
    ∷ answer.Image 0 (Some (0x02 ∷ 0x34 ∷ 0x0a ∷ []) ∷ [])
    ∷ []
unfolding bit_of number_of starts_within
wrong_counters = refl

-- A task that posted nothing is sent with zeros, and a sending of a task that does not exist is refused.

unposted : answers_to written (SendsTasks (0 ∷ []) ∷ SendsTasks (8 ∷ []) ∷ SendsTasks (1 ∷ []) ∷ [])
    ≡ answer.Sent ((head_of 4 0x0f ++ 0x0c ∷ 0x04 ∷ 0 ∷ 0 ∷ 0 ∷ 0x01 ∷ 0x03 ∷ replicate 37 0) ∷ [])
    ∷ answer.Refused NoSuchTask
    ∷ answer.Sent []
    ∷ []
unfolding bit_of number_of starts_within
unposted = refl

-- An edit that leaves the layout as it is begins an epoch all the same: frames that are under way answer nothing any more, and what was read is gone.

abbrev same_inputs : Step
same_inputs = Edits (Remap 1001 1 (0x1a00 ∷ []))

three_epochs : answers_to written (same_inputs ∷ same_inputs ∷ same_inputs ∷ [])
    ≡ answer.Edited 1 0 0 ∷ answer.Edited 2 0 0 ∷ answer.Edited 3 0 0 ∷ []
unfolding bit_of number_of starts_within
three_epochs = refl

abbrev three_epochs_on : History
three_epochs_on = entries_after_all written (same_inputs ∷ same_inputs ∷ same_inputs ∷ SendsTasks (0 ∷ []) ∷ [])

fourth_epoch : answers_to three_epochs_on (same_inputs ∷ back 4 (data_back 0x01000000 (0x00 ∷ 0x34 ∷ 0x0a ∷ []) 3 ∷ []) ∷ Reads 0 ∷ [])
    ≡ answer.Edited 4 0 0 ∷ answer.Stale ∷ answer.Image 4 (None ∷ []) ∷ []
unfolding bit_of number_of starts_within
fourth_epoch = refl

read_before_it : answers_to three_epochs_on (back 4 (data_back 0x01000000 (0x00 ∷ 0x34 ∷ 0x0a ∷ []) 3 ∷ []) ∷ same_inputs ∷ Reads 0 ∷ [])
    ≡ answer.Answered (Inputs 0 0 ∷ []) ∷ answer.Edited 4 0 0 ∷ answer.Image 4 (None ∷ []) ∷ []
unfolding bit_of number_of starts_within
read_before_it = refl

-- The outputs move to another task: a post of the epoch before is refused, and no task is sent before the two blocks that are new in the line are written.

moved_answers : answers_to posted (to_task_1 ∷ Posts 1 0 (2 ∷ []) ∷ SendsTasks (1 ∷ []) ∷ [])
    ≡ answer.Edited 1 2 2 ∷ answer.Refused StalePost ∷ answer.Refused (Unprogrammed 2) ∷ []
unfolding bit_of number_of starts_within
moved_answers = refl

-- a variable keeps its value when its area moves to another task

moved_is_sent : answer_to moved (SendsTasks (1 ∷ []))
    ≡ answer.Sent ((head_of 6 0x0d ++ 0x0c ∷ 0x06 ∷ 0 ∷ 0 ∷ 0 ∷ 0x02 ∷ 0x01 ∷ 0 ∷ 0 ∷ 0 ∷ 0x02 ∷ replicate 33 0) ∷ [])
unfolding bit_of number_of starts_within
moved_is_sent = refl

-- a variable's value is lost once the variable had no place in between; the blocks are then known again as they were

abbrev lost_and_found : History
lost_and_found = entries_after_all moved (SendsTasks (1 ∷ []) ∷ Edits (Remap 1001 0 []) ∷ Edits (Remap 1001 0 (0x1600 ∷ [])) ∷ [])

zeros_are_sent : answer_to lost_and_found (SendsTasks (1 ∷ []))
    ≡ answer.Sent ((head_of 7 0x0d ++ 0x0c ∷ 0x07 ∷ 0 ∷ 0 ∷ 0 ∷ 0x02 ∷ 0x01 ∷ 0 ∷ 0 ∷ 0 ∷ replicate 34 0) ∷ [])
unfolding bit_of number_of starts_within
zeros_are_sent = refl

-- A tool goes and comes again: its blocks are owed again, the task's value is 0 again, and nothing is read until it answers.

abbrev docking : List Group
docking = record { alias = 0; slaves = [] } ∷ record { alias = 100; slaves = axis ∷ [] } ∷ []

abbrev docked : History
docked = entries_after_all (Opened docking ∷ []) (Edits (Connect 100) ∷ four_answers 0 ++ Posts 0 1 (2 ∷ []) ∷ SendsTasks (0 ∷ []) ∷ [])

docked_again : answers_to docked (
    Edits (Connect 7)
    ∷ back 4 (data_back 0x01000000 (2 ∷ 0x34 ∷ 0x0a ∷ []) 3 ∷ [])
    ∷ Edits (Disconnect 100)
    ∷ Reads 0
    ∷ SendsTasks (0 ∷ [])
    ∷ Edits (Connect 100)
    ∷ SendsTasks (0 ∷ [])
    ∷ Reads 0
    ∷ [])
    ≡ answer.Refused UnknownAlias
    ∷ answer.Answered (Inputs 0 0 ∷ [])
    ∷ answer.Edited 2 1 0
    ∷ answer.Image 2 []
    ∷ answer.Sent []
    ∷ answer.Edited 3 1 4
    ∷ answer.Refused (Unprogrammed 4)
    ∷ answer.Image 3 (None ∷ [])
    ∷ []
unfolding bit_of number_of starts_within
docked_again = refl

zeros_again : answer_to (entries_after_all docked (Edits (Disconnect 100) ∷ Edits (Connect 100) ∷ four_answers 5)) (SendsTasks (0 ∷ []))
    ≡ answer.Sent ((head_of 9 0x0f ++ 0x0c ∷ 0x09 ∷ 0 ∷ 0 ∷ 0 ∷ 0x01 ∷ 0x03 ∷ replicate 37 0) ∷ [])
unfolding bit_of number_of starts_within
zeros_again = refl

-- Two tools with a byte of outputs each: a value goes with its variable to another place, and is 0 once the variable's tool
-- comes again.

abbrev byte_slave : ℕ → ℕ → Slave
byte_slave station variable = record { station = station; areas = area_of 2 Out 0x1100 0x1600 variable 8 ∷ [] }

abbrev two_tools : History
two_tools = entries_after_all (Opened (
    record { alias = 0; slaves = [] }
    ∷ record { alias = 10; slaves = byte_slave 1001 1 ∷ [] }
    ∷ record { alias = 20; slaves = byte_slave 1002 2 ∷ [] }
    ∷ []) ∷ []) (
    Edits (Connect 10)
    ∷ Edits (Connect 20)
    ∷ SendsWrite ∷ back 0 (written_at 1001 0x0810 8 1 ∷ [])
    ∷ SendsWrite ∷ back 1 (written_at 1001 0x0600 16 1 ∷ [])
    ∷ SendsWrite ∷ back 2 (written_at 1002 0x0810 8 1 ∷ [])
    ∷ SendsWrite ∷ back 3 (written_at 1002 0x0600 16 1 ∷ [])
    ∷ Posts 0 2 (0x11 ∷ 0x22 ∷ [])
    ∷ [])

both_values : map (sent_text two_tools) (proposal two_tools (0 ∷ []))
    ≡ (head_of 4 0x0e ++ 0x0c ∷ 0x04 ∷ 0 ∷ 0 ∷ 0 ∷ 0x01 ∷ 0x02 ∷ 0 ∷ 0 ∷ 0 ∷ 0x11 ∷ 0x22 ∷ replicate 32 0) ∷ []
unfolding bit_of number_of starts_within
both_values = refl

abbrev one_tool : History
one_tool = entries_after_all two_tools (Edits (Disconnect 10) ∷ SendsWrite ∷ back 4 (written_at 1002 0x0600 16 1 ∷ []) ∷ [])

value_moves : answer_to one_tool (SendsTasks (0 ∷ []))
    ≡ answer.Sent ((head_of 5 0x0d ++ 0x0c ∷ 0x05 ∷ 0 ∷ 0 ∷ 0 ∷ 0x01 ∷ 0x01 ∷ 0 ∷ 0 ∷ 0 ∷ 0x22 ∷ replicate 33 0) ∷ [])
unfolding bit_of number_of starts_within
value_moves = refl

abbrev two_again : History
two_again = entries_after_all one_tool (Edits (Connect 10) ∷ [])

value_is_new : map (sent_text two_again) (proposal two_again (0 ∷ []))
    ≡ (head_of 5 0x0e ++ 0x0c ∷ 0x05 ∷ 0 ∷ 0 ∷ 0 ∷ 0x01 ∷ 0x02 ∷ 0 ∷ 0 ∷ 0 ∷ 0x00 ∷ 0x22 ∷ replicate 32 0) ∷ []
unfolding bit_of number_of starts_within
value_is_new = refl

-- A post speaks for the variables that its task has when it is made, and for no others.

other_posts : answers_to posted (Posts 1 0 [] ∷ SendsTasks (0 ∷ []) ∷ [])
    ≡ answer.Posted
    ∷ answer.Sent ((head_of 4 0x0f ++ 0x0c ∷ 0x04 ∷ 0 ∷ 0 ∷ 0 ∷ 0x01 ∷ 0x03 ∷ 0 ∷ 0 ∷ 0 ∷ 0x02 ∷ replicate 33 0) ∷ [])
    ∷ []
unfolding bit_of number_of starts_within
other_posts = refl

abbrev there_and_back : History
there_and_back = entries_after_all posted (to_task_1 ∷ Posts 1 1 (1 ∷ []) ∷ Edits (Move 1001 0 0) ∷ Posts 1 2 [] ∷ [])

posted_elsewhere : map (sent_text there_and_back) (proposal there_and_back (0 ∷ []))
    ≡ (head_of 4 0x0f ++ 0x0c ∷ 0x04 ∷ 0 ∷ 0 ∷ 0 ∷ 0x01 ∷ 0x03 ∷ 0 ∷ 0 ∷ 0 ∷ 0x01 ∷ replicate 33 0) ∷ []
unfolding bit_of number_of starts_within
posted_elsewhere = refl

-- While a variable is in another task, a post of the task that it was in before, and comes back to, says nothing of it.

abbrev two_slaves : History
two_slaves = Opened (record { alias = 0; slaves = byte_slave 1001 1 ∷ byte_slave 1002 2 ∷ [] } ∷ []) ∷ []

abbrev moves_and_back : List Step → History
moves_and_back meanwhile = entries_after_all two_slaves (Posts 0 0 (0x11 ∷ 0x22 ∷ []) ∷ to_task_1 ∷ meanwhile ++ Edits (Move 1001 0 0) ∷ [])

abbrev data_of : ℕ → ℕ → List ℕ
data_of first second = head_of 0 0x0e ++ 0x0c ∷ 0 ∷ 0 ∷ 0 ∷ 0 ∷ 0x01 ∷ 0x02 ∷ 0 ∷ 0 ∷ 0 ∷ first ∷ second ∷ replicate 32 0

accepted_meanwhile : answers_to two_slaves (Posts 0 0 (0x11 ∷ 0x22 ∷ []) ∷ to_task_1 ∷ Posts 0 1 (0x33 ∷ []) ∷ Posts 1 1 (0x44 ∷ []) ∷ [])
    ≡ answer.Posted ∷ answer.Edited 1 2 2 ∷ answer.Posted ∷ answer.Posted ∷ []
unfolding bit_of number_of starts_within
accepted_meanwhile = refl

posted_without_it : map (λ history. map (sent_text history) (proposal history (0 ∷ []))) (
    moves_and_back (Posts 0 1 (0x33 ∷ []) ∷ [])
    ∷ moves_and_back (Posts 1 1 (0x44 ∷ []) ∷ Posts 0 1 (0x33 ∷ []) ∷ [])
    ∷ [])
    ≡ (data_of 0x11 0x33 ∷ []) ∷ (data_of 0x44 0x33 ∷ []) ∷ []
unfolding bit_of number_of starts_within
posted_without_it = refl

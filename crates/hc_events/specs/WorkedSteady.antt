-- Worked histories of tasks over edits, computed by the definitions: a wrong definition fails here. The numbers beside each history are counted by hand.
use Rattle.std.specs.Prelude.{◌≡◌, ℕ, List, [], ◌∷◌, ◌++◌, map, refl, replicate, Option, Some, None}
use Rattle.hc_bits.specs.Bits.{bit_of, number_of}
use Rattle.hc_records.specs.declared.records.Dir.TheVariants.{Out, In}
use Rattle.hc_records.specs.declared.records.Slave.{Slave}
use Rattle.hc_records.specs.declared.edit.Edit.{Edit}
use Rattle.hc_records.specs.declared.edit.Edit.TheVariants.{Connect, Declare, Disconnect, Move, Remap}
use Rattle.hc_frames.specs.Arrived.{starts_within}
use Rattle.hc_events.specs.declared.answer.Answer.{Answer}
use Rattle.hc_events.specs.declared.answer.Answer.TheVariants as answer
use Rattle.hc_events.specs.declared.faults.CoreFault.TheVariants.{NoSuchTask, PostLength, StalePost}
use Rattle.hc_events.specs.Entries.{History, Opened}
use Rattle.hc_events.specs.Images.{slot_of}
use Rattle.hc_events.specs.Outputs.{sent_data}
use Rattle.hc_events.specs.Steady.{SteadyData, steady_data, task_epoch}
use Rattle.hc_events.specs.Steps.{Step, Clears, Edits, Posts, PostsSteady, SendsReady, SendsTasks, answers_to, entries_after_all}
use Rattle.hc_events.specs.WorkedAxis.{area_of, axis, back, data_back}
use Rattle.hc_events.specs.WorkedReady.{cell}

-- the epochs of the first three tasks after a record and these edits
abbrev epochs : History → List Edit → List ℕ
epochs history edits = map (task_epoch (entries_after_all history (map Edits edits))) (0 ∷ 1 ∷ 2 ∷ [])

-- The gripper, which is in task 2 alone, comes, goes and comes: the epochs of the other tasks stay.

in_its_own_task : epochs cell [] ∷ epochs cell (Connect 100 ∷ []) ∷ epochs cell (Connect 100 ∷ Disconnect 100 ∷ Connect 100 ∷ []) ∷ [] ≡ (0 ∷ 0 ∷ 0 ∷ []) ∷ (0 ∷ 0 ∷ 1 ∷ []) ∷ (0 ∷ 0 ∷ 3 ∷ []) ∷ []
unfolding bit_of number_of starts_within
in_its_own_task = refl

-- A probe that has an input area in task 0 comes there: the datagram keeps its 3 bytes, and its expected counter gets higher, so the edit raises the task's epoch.

abbrev probe : Slave
probe = record { station = 1005; areas = area_of 3 In 0x1180 0x1a00 5 4 ∷ [] }

abbrev with_probe : History
with_probe = Opened (record { alias = 0; slaves = axis ∷ [] } ∷ record { alias = 200; slaves = probe ∷ [] } ∷ []) ∷ []

in_a_shared_task : epochs with_probe (Connect 200 ∷ []) ≡ 1 ∷ 0 ∷ 0 ∷ []
unfolding bit_of number_of starts_within
in_a_shared_task = refl

-- A spindle offers two PDOs of 4 bits. If it changes from one to the other no datagram differs, but the place of a variable does: that changes its task, which is task 1, or after a move to task 0 that one.

abbrev spindle : Slave
spindle = record {
  station = 1002;
  areas = record {
    sm = 2;
    dir = Out;
    phys = 0x1100;
    offered = record { index = 0x1600; entries = (Some 7, 4) ∷ [] } ∷ record { index = 0x1601; entries = (Some 8, 4) ∷ [] } ∷ [];
    assigned = 0x1600 ∷ [];
    task = 1;
  } ∷ [];
}

abbrev with_spindle : History
with_spindle = Opened (record { alias = 0; slaves = axis ∷ spindle ∷ [] } ∷ []) ∷ []

equal_width :
    epochs with_spindle (Remap 1002 0 (0x1601 ∷ []) ∷ [])
    ∷ epochs with_spindle (Move 1002 0 0 ∷ [])
    ∷ epochs with_spindle (Move 1002 0 0 ∷ Remap 1002 0 (0x1601 ∷ []) ∷ [])
    ∷ []
    ≡ (0 ∷ 1 ∷ 0 ∷ []) ∷ (1 ∷ 1 ∷ 0 ∷ []) ∷ (2 ∷ 1 ∷ 0 ∷ []) ∷ []
unfolding bit_of number_of starts_within
equal_width = refl

-- A move and its reverse are two edits that change both tasks. A move and a remap to what there is change none, and neither does a group that is declared.

reversed :
    epochs cell (Move 1001 1 1 ∷ Move 1001 1 0 ∷ [])
    ∷ epochs cell (Move 1001 1 0 ∷ Remap 1001 1 (0x1a00 ∷ []) ∷ Declare (record { alias = 300; slaves = [] }) ∷ [])
    ∷ []
    ≡ (2 ∷ 2 ∷ 0 ∷ []) ∷ (0 ∷ 0 ∷ 0 ∷ []) ∷ []
unfolding bit_of number_of starts_within
reversed = refl

-- Task 0 has posted and has data. After the gripper came the slot is empty, while the steady data are there with their serial and their epoch; what the task is sent with is the same. The next good answer brings newer
-- steady data; a move of the task's inputs leaves none.

abbrev running : List Step
running = Posts 0 0 (2 ∷ []) ∷ SendsTasks (0 ∷ []) ∷ back 4 (data_back 0x01000000 (0x02 ∷ 0x34 ∷ 0x0a ∷ []) 3 ∷ []) ∷ []

abbrev over_the_edit : List Step
over_the_edit = running ++ Edits (Connect 100) ∷ Clears 1004 ∷ []

abbrev sent_again : List Step
sent_again = over_the_edit ++ SendsReady (0 ∷ []) ∷ back 5 (data_back 0x01000000 (0x02 ∷ 0x35 ∷ 0x0b ∷ []) 3 ∷ []) ∷ []

-- the data that task 0 reads of its datagram after these events, and its steady data
abbrev data_after : List Step → Option (List ℕ) × Option SteadyData
data_after steps = (slot_of (entries_after_all cell steps) 0 0, steady_data (entries_after_all cell steps) 0 0)

steady_over_the_edit :
    map data_after
    (running ∷ over_the_edit ∷ sent_again ∷ (sent_again ++ Edits (Move 1001 1 1) ∷ []) ∷ [])
    ≡ (Some (0x02 ∷ 0x34 ∷ 0x0a ∷ []), Some (record { bytes = 0x02 ∷ 0x34 ∷ 0x0a ∷ []; serial = 4; epoch = 0 }))
    ∷ (None, Some (record { bytes = 0x02 ∷ 0x34 ∷ 0x0a ∷ []; serial = 4; epoch = 0 }))
    ∷ (Some (0x02 ∷ 0x35 ∷ 0x0b ∷ []), Some (record { bytes = 0x02 ∷ 0x35 ∷ 0x0b ∷ []; serial = 5; epoch = 1 }))
    ∷ (None, None)
    ∷ []
unfolding bit_of number_of starts_within
steady_over_the_edit = refl

sent_as_before : sent_data (entries_after_all cell running) 0 0 ∷ sent_data (entries_after_all cell over_the_edit) 0 0 ∷ [] ≡ (2 ∷ 0 ∷ 0 ∷ []) ∷ (2 ∷ 0 ∷ 0 ∷ []) ∷ []
unfolding bit_of number_of starts_within
sent_as_before = refl

-- Posts after the gripper came, which changed task 2 and not task 0. A post counts for the present epoch alone: one of the epoch before is refused, also of task 0, and so is one of an epoch that is still to come.

posts_over_the_edit :
    answers_to (entries_after_all cell over_the_edit) (
    Posts 0 0 (1 ∷ [])
    ∷ Posts 0 1 (3 ∷ [])
    ∷ Posts 0 2 (1 ∷ [])
    ∷ Posts 2 0 (1 ∷ [])
    ∷ Posts 2 1 (1 ∷ [])
    ∷ Posts 2 0 (1 ∷ 1 ∷ [])
    ∷ Posts 2 1 (1 ∷ 1 ∷ [])
    ∷ Posts 8 1 []
    ∷ [])
    ≡ answer.Refused StalePost
    ∷ answer.Posted
    ∷ answer.Refused StalePost
    ∷ answer.Refused StalePost
    ∷ answer.Posted
    ∷ answer.Refused StalePost
    ∷ answer.Refused PostLength
    ∷ answer.Refused NoSuchTask
    ∷ []
unfolding bit_of number_of starts_within
posts_over_the_edit = refl

-- Steady posts after the gripper came. A post of the epoch before counts for task 0, which the edit did not change, and not for task 2. An epoch that is still to come is refused for both.

steady_posts_over_the_edit :
    answers_to (entries_after_all cell over_the_edit) (
    PostsSteady 0 0 (1 ∷ [])
    ∷ PostsSteady 0 1 (3 ∷ [])
    ∷ PostsSteady 0 2 (1 ∷ [])
    ∷ PostsSteady 0 0 (1 ∷ 1 ∷ [])
    ∷ PostsSteady 2 0 (1 ∷ [])
    ∷ PostsSteady 2 1 (1 ∷ [])
    ∷ PostsSteady 2 2 (1 ∷ [])
    ∷ PostsSteady 2 0 (1 ∷ 1 ∷ [])
    ∷ PostsSteady 2 1 (1 ∷ 1 ∷ [])
    ∷ PostsSteady 8 2 []
    ∷ [])
    ≡ answer.Posted
    ∷ answer.Posted
    ∷ answer.Refused StalePost
    ∷ answer.Refused PostLength
    ∷ answer.Refused StalePost
    ∷ answer.Posted
    ∷ answer.Refused StalePost
    ∷ answer.Refused StalePost
    ∷ answer.Refused PostLength
    ∷ answer.Refused NoSuchTask
    ∷ []
unfolding bit_of number_of starts_within
steady_posts_over_the_edit = refl

-- the data that task 0 is sent with after these events in the cell
abbrev sent_after : List Step → List ℕ
sent_after steps = sent_data (entries_after_all cell steps) 0 0

steady_posts_are_sent :
    map sent_after
    ((over_the_edit ++ PostsSteady 0 0 (1 ∷ []) ∷ []) ∷ (over_the_edit ++ PostsSteady 0 0 (1 ∷ []) ∷ PostsSteady 0 2 (3 ∷ []) ∷ []) ∷ [])
    ≡ (1 ∷ 0 ∷ 0 ∷ [])
    ∷ (1 ∷ 0 ∷ 0 ∷ [])
    ∷ []
unfolding bit_of number_of starts_within
steady_posts_are_sent = refl

-- whether task 0 and task 1 accept a post of each of the first three epochs, after these edits: task 0 of one byte, task 1 of so many
abbrev posts_after : History → ℕ → List Edit → List Answer
posts_after history size edits =
    answers_to (entries_after_all history (map Edits edits)) (
    PostsSteady 0 0 (1 ∷ [])
    ∷ PostsSteady 0 1 (1 ∷ [])
    ∷ PostsSteady 0 2 (1 ∷ [])
    ∷ PostsSteady 1 0 (replicate size 1)
    ∷ PostsSteady 1 1 (replicate size 1)
    ∷ PostsSteady 1 2 (replicate size 1)
    ∷ [])

abbrev stale : Answer
stale = answer.Refused StalePost

-- The probe comes in task 0: posts of the epoch before are refused there, and accepted for task 1, which has no outputs.

steady_posts_in_a_shared_task :
    posts_after with_probe 0 (Connect 200 ∷ []) ≡ stale ∷ answer.Posted ∷ stale ∷ answer.Posted ∷ answer.Posted ∷ stale ∷ []
unfolding bit_of number_of starts_within
steady_posts_in_a_shared_task = refl

-- The spindle is remapped in task 1: posts of the epoch before count for task 0, and no longer for task 1. After a second remap too, posts of task 0 count from the opening on, and posts of task 1 from the second remap on.

steady_posts_over_remaps :
    posts_after with_spindle 1 (Remap 1002 0 (0x1601 ∷ []) ∷ [])
    ∷ posts_after with_spindle 1 (Remap 1002 0 (0x1601 ∷ []) ∷ Remap 1002 0 (0x1600 ∷ []) ∷ [])
    ∷ []
    ≡ (answer.Posted ∷ answer.Posted ∷ stale ∷ stale ∷ answer.Posted ∷ stale ∷ [])
    ∷ (answer.Posted ∷ answer.Posted ∷ answer.Posted ∷ stale ∷ stale ∷ answer.Posted ∷ [])
    ∷ []
unfolding bit_of number_of starts_within
steady_posts_over_remaps = refl

-- The spindle moves to task 0, and is remapped there: the second edit changes task 0 alone, so task 1 accepts posts from the first edit on. Then it has no outputs.

steady_posts_over_two_edits :
    posts_after with_spindle 0 (Move 1002 0 0 ∷ Remap 1002 0 (0x1601 ∷ []) ∷ []) ≡ stale ∷ stale ∷ answer.Posted ∷ stale ∷ answer.Posted ∷ answer.Posted ∷ []
unfolding bit_of number_of starts_within
steady_posts_over_two_edits = refl

-- The axis' inputs move to task 1 and back: no post from before counts, although the line is as it was. The gripper comes and goes: each post counts for both tasks.

steady_posts_over_reverses :
    posts_after cell 0 (Move 1001 1 1 ∷ Move 1001 1 0 ∷ [])
    ∷ posts_after cell 0 (Connect 100 ∷ Disconnect 100 ∷ [])
    ∷ []
    ≡ (stale ∷ stale ∷ answer.Posted ∷ stale ∷ stale ∷ answer.Posted ∷ [])
    ∷ (answer.Posted ∷ answer.Posted ∷ answer.Posted ∷ answer.Posted ∷ answer.Posted ∷ answer.Posted ∷ [])
    ∷ []
unfolding bit_of number_of starts_within
steady_posts_over_reverses = refl

-- The data that a task reads: for each datagram of the present epoch the data of its last good answer in it, or none.
use Rattle.std.specs.Prelude.{ℕ, ◌==◌, ◌<◌, ◌≤◌, ◌&&◌, Bool, if◌then◌else◌, List, [], ◌∷◌, fold, length, map, Option, Some, None}
use Rattle.std.specs.List.{flat_map, range_with_len}
use Rattle.hc_records.specs.declared.limits.TheConstants.{MOST_DATAGRAMS, MOST_DATAGRAM_BYTES, TASKS}
use Rattle.hc_records.specs.Image.{datagram_count, task_places}
use Rattle.hc_events.specs.Arrivals.{Arrival}
use Rattle.hc_events.specs.Entries.{History, Opened, Edited, Came}
use Rattle.hc_events.specs.Points.{line_of}
use Rattle.hc_events.specs.Heads.{Item, Datagram, Block}
use Rattle.hc_events.specs.Answering.{Judged, has_good, judged_by}

-- a good answer of a task's datagram, with its data
pub record NewAnswer : Type 0 where
  pub task : ℕ
  pub datagram : ℕ
  pub bytes : List ℕ

-- a good answer is of a datagram that a task can have, with no more data than a datagram can have
pub record FitsImage (good : NewAnswer) : Type 0 where
  pub task : good.task < TASKS
  pub datagram : good.datagram < MOST_DATAGRAMS
  pub few : length good.bytes ≤ MOST_DATAGRAM_BYTES

-- a list of one, the good answer of a task's datagram with these data; empty for a register block
abbrev pub new_answer_item : Item → List ℕ → List NewAnswer
new_answer_item (Datagram task d) bytes = record { task = task; datagram = d; bytes = bytes } ∷ []
new_answer_item (Block station number) bytes = []

-- the good answer that a judged datagram is for its task, in a list of one; empty if it is not good or is a register block
abbrev pub new_answer : Judged → List NewAnswer
new_answer datagram = if has_good datagram then new_answer_item datagram.head.item datagram.part.bytes else []

-- the good answers of an arrival for tasks' datagrams, in the frame's order
abbrev pub new_answer_by : History → Arrival → List NewAnswer
new_answer_by history arrival = flat_map new_answer (judged_by history arrival)

-- a good answer is of this datagram of the task
abbrev pub is_for : ℕ → ℕ → NewAnswer → Bool
is_for task d good = (good.task == task) && (good.datagram == d)

-- the data of a datagram once a good answer came: those of the answer if it is of this datagram, otherwise those of `slot`, if
-- any
abbrev pub renewed : ℕ → ℕ → Option (List ℕ) → NewAnswer → Option (List ℕ)
renewed task d slot good = if is_for task d good then Some good.bytes else slot

-- the data of a datagram's last good answer since the last accepted edit, or none
abbrev pub slot_of : History → ℕ → ℕ → Option (List ℕ)
slot_of [] task d = None
slot_of (Opened groups ∷ history) task d = None
slot_of (Edited edit ∷ history) task d = None
slot_of (Came arrival ∷ history) task d = fold (renewed task d) (slot_of history task d) (new_answer_by history arrival)
slot_of (entry ∷ history) task d = slot_of history task d

-- the data of each datagram that a task has in the present epoch, in order, or none
abbrev pub slots_of : History → ℕ → List (Option (List ℕ))
slots_of history task = map (slot_of history task) (range_with_len 0 (datagram_count (task_places task (line_of history))))

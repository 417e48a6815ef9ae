-- The meaning of a task's state: which of its datagrams have data of the last frame that carried them.
use Rattle.std.specs.Prelude.{◌≡◌, ◌≢◌, ◌↔◌, ℕ, ◌<◌, ◌==◌, is_none, if◌then◌else◌, Bool, true, false, List, [], ◌∷◌, ◌++◌, length, replicate, Option, Some, None}
use Rattle.std.specs.List.{list_any}
use Rattle.hc_records.specs.declared.limits.TheConstants.{TASKS}
use Rattle.hc_records.specs.declared.records.Group.{Group}
use Rattle.hc_records.specs.Lists.{lowest}
use Rattle.hc_core.specs.LastData.{begins_epoch}
use Rattle.hc_events.specs.Accepted.{just_opened}
use Rattle.hc_events.specs.Answering.{sends}
use Rattle.hc_events.specs.Arrivals.{Arrival}
use Rattle.hc_events.specs.Entries.{History, HistoryEntry, Came, Opened, Sent}
use Rattle.hc_events.specs.Heads.{Datagram}
use Rattle.hc_events.specs.Images.{is_for, new_answer_by}
use Rattle.hc_events.specs.Points.{next_serial}
use Rattle.hc_events.specs.Sendings.{Named}
use Rattle.hc_events.specs.Steady.{steady_serial}
use Rattle.hc_events.specs.Steps.{Step, SendsReady, SendsTasks, entries_after, ready_faults, task_faults}
use Rattle.hc_mail.specs.declared.image.ImageHead.{ImageHead}
use Rattle.hc_c.specs.Embedded.{all_sent_from, embedded_history, task_sent_from, tasks_sent}
use Rattle.hc_c.specs.Opening.{at_opening}
use Rattle.hc_c.specs.Reads.{datagrams_of, image_out}
use Rattle.hc_c.specs.SeatImages.{image_shown}
use Rattle.hc_c.specs.States.{task_state}
use Rattle.hc_c.specs.declared.embedded.Embedded.{Embedded}
use Rattle.hc_c.specs.declared.states.TheConstants.{COMPLETE, INCOMPLETE, NO_DATA}

-- frames that carried a datagram, and what became of them

-- the serial of the last frame that carried a task's datagram, or none
abbrev pub last_frame_serial : History → ℕ → ℕ → Option ℕ
last_frame_serial [] task d = None
last_frame_serial (Opened groups ∷ history) task d = None
last_frame_serial (Sent frame ∷ history) task d = if sends (Datagram task d) (Sent frame) then Some (next_serial history) else last_frame_serial history task d
last_frame_serial (entry ∷ history) task d = last_frame_serial history task d

-- the data of a task's datagram are of the last frame that carried it
pub record HasLastData (history : History) (task d : ℕ) : Type 0 where
  pub serial : ℕ
  pub read : steady_serial history task d ≡ Some serial
  pub sent : last_frame_serial history task d ≡ Some serial

-- an arrival was a good answer for a datagram; since then no frame carried the datagram, and no edit was accepted
pub record WasAnswered (history : History) (task d : ℕ) : Type 0 where
  pub since : List HistoryEntry
  pub arrival : Arrival
  pub before : History
  pub came : history ≡ since ++ Came arrival ∷ before
  pub good : list_any (is_for task d) (new_answer_by before arrival) ≡ true
  pub last : list_any (sends (Datagram task d)) since ≡ false
  pub present : list_any begins_epoch since ≡ false

-- the entry is an arrival with this serial
abbrev pub comes_with : ℕ → HistoryEntry → Bool
comes_with serial (Came arrival) = arrival.serial == serial
comes_with serial entry = false

-- the last frame that carried a datagram did not come back
pub record WasLost (history : History) (task d : ℕ) : Type 0 where
  pub since : List HistoryEntry
  pub frame : List Named
  pub before : History
  pub split : history ≡ since ++ Sent frame ∷ before
  pub carries : sends (Datagram task d) (Sent frame) ≡ true
  pub last : list_any (sends (Datagram task d)) since ≡ false
  pub lost : list_any (comes_with (next_serial before)) since ≡ false

-- lines that events led to

-- the first serials of the tasks' last sendings after an event: tasks that are sent get the serial that was next, and every other task keeps its own
abbrev pub firsts_after : History → List ℕ → Step → List ℕ
firsts_after history firsts (SendsReady tasks) = if is_none (lowest (ready_faults history tasks)) then all_sent_from (next_serial history) firsts tasks else firsts
firsts_after history firsts (SendsTasks tasks) = if is_none (lowest (task_faults history tasks)) then all_sent_from (next_serial history) firsts tasks else firsts
firsts_after history firsts step = firsts

-- the history that events lead to from the opening of these groups, the newest event first
abbrev pub history_led : List Group → List Step → History
history_led groups [] = just_opened groups
history_led groups (step ∷ earlier) = entries_after (history_led groups earlier) step

-- the first serials of the tasks' last sendings that they lead to: 0 before a sending
abbrev pub firsts_led : List Group → List Step → List ℕ
firsts_led groups [] = replicate TASKS 0
firsts_led groups (step ∷ earlier) = firsts_after (history_led groups earlier) (firsts_led groups earlier) step

-- events led to a line since its project was opened
pub record LineIsLed (line : Embedded) : Type 0 where
  pub groups : List Group
  pub steps : List Step
  pub history : embedded_history line ≡ history_led groups steps
  pub firsts : line.sent_from ≡ firsts_led groups steps

-- events led to a line as the contracts of C's calls say: an opened line, one whose tasks were sent, and one after any other
-- event, which leaves the first serials
pub record CallsLead : Type 0 where
  pub opened : (lookers : ℕ) (groups : List Group) → LineIsLed (at_opening lookers groups)
  pub sent : (line : Embedded) (tasks : List ℕ) → LineIsLed line → lowest (ready_faults (embedded_history line) tasks) ≡ None → LineIsLed (tasks_sent tasks line)
  pub others :
      (line next : Embedded) (step : Step) → LineIsLed line → embedded_history next ≡ entries_after (embedded_history line) step
      → next.sent_from ≡ firsts_after (embedded_history line) line.sent_from step → LineIsLed next

-- the state that a read of a line's task reports
abbrev pub read_state : Embedded → ℕ → ℕ
read_state line task = (image_out (embedded_history line) task (datagrams_of (embedded_history line) task) (task_sent_from line task)).state

-- each datagram of a task has this property
abbrev pub EachDatagram : History → ℕ → (ℕ → Type 0) → Type 0
EachDatagram history task says = (d : ℕ) → d < length (datagrams_of history task) → says d

-- the meaning of the state of a line's task
pub record StateSays (line : Embedded) (task : ℕ) : Type 0 where
  -- complete: the data of each datagram are of the last frame that carried it
  pub complete : (read_state line task ≡ COMPLETE) ↔ EachDatagram (embedded_history line) task (HasLastData (embedded_history line) task)
  -- no data: there is a datagram, and none has data of the last frame that carried it
  pub no_data : (read_state line task ≡ NO_DATA) ↔ ((0 < length (datagrams_of (embedded_history line) task)) × EachDatagram (embedded_history line) task (λ d. ¬ (HasLastData (embedded_history line) task d)))
  -- incomplete: otherwise
  pub incomplete : read_state line task ≢ COMPLETE → read_state line task ≢ NO_DATA → read_state line task ≡ INCOMPLETE
  -- a task without datagrams is complete
  pub empty : length (datagrams_of (embedded_history line) task) ≡ 0 → read_state line task ≡ COMPLETE
  -- a task each of whose datagrams had a good answer since it was sent last is complete
  pub answered : EachDatagram (embedded_history line) task (WasAnswered (embedded_history line) task) → read_state line task ≡ COMPLETE
  -- a task is not complete if the last frame that carried one of its datagrams was lost
  pub lost : (d : ℕ) → d < length (datagrams_of (embedded_history line) task) → WasLost (embedded_history line) task d → read_state line task ≢ COMPLETE

-- the state has this meaning for each task of each line that events led to
abbrev pub StatesTellLastData : Type 0
StatesTellLastData = (line : Embedded) (task : ℕ) → LineIsLed line → task < TASKS → StateSays line task

-- an image that a seat is shown has the state that a read reports at that moment
abbrev pub SeatsSeeTheState : Type 0
SeatsSeeTheState =
    (line : Embedded) (task : ℕ) (head : ImageHead)
    → task_state (task_sent_from line task) (image_shown (embedded_history line) task head).serials ≡ read_state line task

-- The data that a task reads, in terms of the record alone: the arrivals that were good answers of a datagram, and the last one
-- of them (this project's profile).
use Rattle.std.specs.Prelude.{◌≡◌, ℕ, ◌<◌, ◌⊎◌, All, Bool, true, false, not, if◌then◌else◌, List, [], ◌∷◌, ◌++◌, filter, length, slice_get, take, Option, Some, None}
use Rattle.std.specs.List.{list_any, zip}
use Rattle.hc_records.specs.declared.limits.TheConstants.{TASKS}
use Rattle.hc_records.specs.Image.{datagram_count, expected_counter, task_places}
use Rattle.hc_events.specs.declared.answer.Answer.{Answer}
use Rattle.hc_events.specs.declared.answer.Answer.TheVariants as answer
use Rattle.hc_events.specs.declared.faults.CoreFault.TheVariants.{Memory}
use Rattle.hc_events.specs.Arrivals.{Arrival, Part}
use Rattle.hc_events.specs.Entries.{HistoryEntry, History, Opened, Edited, Sent, Came}
use Rattle.hc_events.specs.Points.{epoch_of, line_of, next_serial}
use Rattle.hc_events.specs.Sendings.{Named, line_data_length}
use Rattle.hc_events.specs.Heads.{Datagram, data_heads}
use Rattle.hc_events.specs.Ages.{data_serial}
use Rattle.hc_events.specs.Answering.{has_heads, sends}
use Rattle.hc_events.specs.AnswerLaws.{LeavesAwaited}
use Rattle.hc_events.specs.Stale.{SameAfter, SaysTheSame, without_stale}
use Rattle.hc_events.specs.Steps.{Step, Reads, answer_to, answers_to, entries_after_all}
use Rattle.hc_core.specs.Serving.{MayAnswerAll}

-- an arrival is the return of a frame of tasks: one that was sent before, with as many sendings before it as the arrival's serial says, and with the same commands, addresses and lengths, datagram for datagram; between the two no edit was accepted, and no other such arrival came
pub record FrameCameBack (history : History) (arrival : Arrival) : Type 0 where
  pub since : List HistoryEntry
  pub frame : List Named
  pub before : History
  pub sent : history ≡ since ++ Sent frame ∷ before
  pub serial : arrival.serial ≡ next_serial before
  pub fits : has_heads (data_heads (line_of before) frame) arrival.parts ≡ true
  pub first : All (LeavesAwaited arrival.serial (data_heads (line_of before) frame)) since

-- a good datagram of such an arrival: at this place of the frame is the task's datagram, with the part that came back. It was
-- not sent again in between, and its working counter is the one that the slaves of the line at its sending lead to
pub record IsGoodIn (history : History) (arrival : Arrival) (task d place : ℕ) (part : Part) : Type 0 where
  pub back : FrameCameBack history arrival
  pub at : slice_get (zip back.frame arrival.parts) place ≡ Some ((task, d), part)
  pub last_sent : list_any (sends (Datagram task d)) back.since ≡ false
  pub counter : part.counter ≡ expected_counter task d (line_of back.before)

-- an entry that begins an epoch: the opening, or an accepted edit
abbrev pub begins_epoch : HistoryEntry → Bool
begins_epoch (Opened groups) = true
begins_epoch (Edited edit) = true
begins_epoch entry = false

-- a good answer of a task's datagram in the present epoch: an arrival with no accepted edit after it, in which the datagram was
-- good
pub record GoodAnswer (history : History) (task d : ℕ) : Type 0 where
  pub after_it : List HistoryEntry
  pub arrival : Arrival
  pub before : History
  pub came : history ≡ after_it ++ Came arrival ∷ before
  pub present : list_any begins_epoch after_it ≡ false
  pub place : ℕ
  pub part : Part
  pub good : IsGoodIn before arrival task d place part

-- of two answers the first came later: fewer entries lie after it; or it is after the other in one frame
abbrev pub IsLater : {history : History} {task d : ℕ} → GoodAnswer history task d → GoodAnswer history task d → Type 0
IsLater one other = (length one.after_it < length other.after_it) ⊎ ((length one.after_it ≡ length other.after_it) × (other.place < one.place))

-- the data of a datagram: those of its last good answer in the present epoch. The answer's frame was sent in this epoch too, in
-- a line with the present places, and the data have as many bytes as the datagram has in the line. Their serial is that of the
-- answer's arrival, and of the sending that it answered
pub record AreLastData (history : History) (task d : ℕ) (bytes : List ℕ) : Type 0 where
  pub which : GoodAnswer history task d
  pub read : bytes ≡ which.part.bytes
  pub last : (other : GoodAnswer history task d) → ¬ (IsLater other which)
  pub serial : data_serial history task d ≡ Some which.arrival.serial
  pub epoch : epoch_of which.good.back.before ≡ epoch_of history
  pub line : line_of which.good.back.before ≡ line_of history
  pub fits : length bytes ≡ line_data_length (line_of history) (task, d)

-- the data of a datagram, or none if it has no good answer in the present epoch
abbrev pub IsLastData : History → ℕ → ℕ → Option (List ℕ) → Type 0
IsLastData history task d None = ¬ (GoodAnswer history task d)
IsLastData history task d (Some bytes) = AreLastData history task d bytes

-- an image of a task: the present epoch, and for each datagram that the task has in the present line the data of its last good
-- answer in this epoch, or none
pub record ShowsLastData (history : History) (task : ℕ) (returned : Answer) : Type 0 where
  pub slots : List (Option (List ℕ))
  pub image : returned ≡ answer.Image (epoch_of history) slots
  pub counted : length slots ≡ datagram_count (task_places task (line_of history))
  pub each : (d : ℕ) (slot : Option (List ℕ)) → slice_get slots d ≡ Some slot → IsLastData history task d slot

-- every task reads such an image
abbrev pub TasksReadLastData : History → Type 0
TasksReadLastData history = (task : ℕ) → task < TASKS → ShowsLastData history task (answer_to history (Reads task))

-- a read in a list of events: the events before it, with their answers, lead to a history, and the answer to it is such an
-- image of that history, or the refusal with `Memory`
pub record ShowsAt (history : History) (steps : List Step) (answers : List Answer) (n task : ℕ) (returned : Answer) : Type 0 where
  pub point : History
  pub reached : MayAnswerAll history (take n steps) (take n answers) point
  pub shows : ShowsLastData point task returned ⊎ (returned ≡ answer.Refused Memory)

-- every read of a task in a list of events is answered with such an image, or with `Memory`
abbrev pub ReadsShowLastData : History → List Step → List Answer → Type 0
ReadsShowLastData history steps answers =
    (n task : ℕ) (returned : Answer) → task < TASKS → slice_get steps n ≡ Some (Reads task) → slice_get answers n ≡ Some returned
    → ShowsAt history steps answers n task returned

-- a stale arrival leaves nothing: all later events have the same answers as without it, reads of tasks among them
abbrev pub StaleLeavesNothing : History → Answer → History → Type 0
StaleLeavesNothing history returned next = returned ≡ answer.Stale → (later : List Step) → SameAfter next history later

-- all stale arrivals of a record leave nothing: later events have the same answers as without them
abbrev pub IsAsWithoutStale : History → Type 0
IsAsWithoutStale history = (later : List Step) → SameAfter history (without_stale history) later

-- an answer to an event that leaves nothing: the answer to a stale arrival, and a refusal with
-- `Memory`
abbrev pub leaves_nothing : Answer → Bool
leaves_nothing answer.Stale = true
leaves_nothing (answer.Refused Memory) = true
leaves_nothing returned = false

-- the events whose answers leave something
abbrev pub events_left : List Step → List Answer → List Step
events_left (step ∷ steps) (returned ∷ answers) = if leaves_nothing returned then events_left steps answers else step ∷ events_left steps answers
events_left _ _ = []

-- the answers that leave something
abbrev pub answers_left : List Answer → List Answer
answers_left answers = filter (λ returned. not (leaves_nothing returned)) answers

-- without the events whose answers leave nothing the others have the same answers, and the record that they lead to says the
-- same as the present one
pub record GoesWithoutThem (history : History) (steps : List Step) (answers : List Answer) (next : History) : Type 0 where
  pub answers_are : answers_to history (events_left steps answers) ≡ answers_left answers
  pub says : SaysTheSame (entries_after_all history (events_left steps answers)) next

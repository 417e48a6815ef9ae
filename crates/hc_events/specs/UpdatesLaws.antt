-- Laws of updates and of changes: a task reads the data of the last good answer in them, and a legal list of changes alone
-- decides which data are read.
use Rattle.std.specs.Prelude.{◌≡◌, ◌↔◌, ℕ, false, All, Contains, List, [], ◌∷◌, ◌++◌, map, None, Some}
use Rattle.std.specs.List.{list_any, zip}
use Rattle.hc_records.specs.declared.records.Group.{Group}
use Rattle.hc_records.specs.Line.{State, line, opened}
use Rattle.hc_records.specs.Edits.{state_after}
use Rattle.hc_places.specs.Table.{table_of}
use Rattle.hc_events.specs.declared.change.Change.{Change}
use Rattle.hc_events.specs.declared.change.Change.TheVariants as change
use Rattle.hc_events.specs.Arrivals.{Arrival, Part}
use Rattle.hc_events.specs.Entries.{HistoryEntry, History, Edited, Came}
use Rattle.hc_events.specs.Points.{epoch_of, line_of, opened_with}
use Rattle.hc_events.specs.Heads.{Datagram, Head}
use Rattle.hc_events.specs.Answering.{Sending, answered_by, sends}
use Rattle.hc_events.specs.Images.{NewAnswer, is_for, slot_of}
use Rattle.hc_events.specs.Changes.{AreChangesOf, AreLegal, IsAnswerIn, Update, Swapped, Answered, epoch_after, updates_of, slot_after, table_after, update_in}
use Rattle.hc_events.specs.Steps.{Step, entries_after_all}
use Rattle.hc_events.specs.Accepted.{IsReachable}

-- events add updates after those that there are, and take none away
pub record Grows (old new : List Update) : Type 0 where
  pub more : List Update
  pub joined : new ≡ old ++ more

-- `Grows` holds for the updates before any events and after them
abbrev pub UpdatesOnlyGrow : Type 0
UpdatesOnlyGrow = (history : History) (steps : List Step) → Grows (updates_of history) (updates_of (entries_after_all history steps))

-- a datagram of an arrival, good when it came: the arrival answered a sending with this datagram, which was not sent again
-- since, and it came back with the expected working counter and these data
pub record IsGoodAnswer (history : History) (good : NewAnswer) : Type 0 where
  pub since : List HistoryEntry
  pub arrival : Arrival
  pub before : History
  pub split : history ≡ since ++ Came arrival ∷ before
  pub sending : Sending
  pub answered : answered_by before arrival ≡ Some sending
  pub head : Head
  pub part : Part
  pub paired : Contains (zip sending.heads arrival.parts) (head, part)
  pub item : head.item ≡ Datagram good.task good.datagram
  pub newest : list_any (sends head.item) sending.since ≡ false
  pub counter : part.counter ≡ head.expected
  pub bytes : good.bytes ≡ part.bytes

-- an update is an accepted edit of the record, or a good answer of the record (`IsGoodAnswer`)
abbrev pub AreUpdatesOf : History → Update → Type 0
AreUpdatesOf history (Swapped edit) = Contains history (Edited edit)
AreUpdatesOf history (Answered good) = IsGoodAnswer history good

-- `AreUpdatesOf` holds for all updates of a record
abbrev pub UpdatesAreOfTheHistory : Type 0
UpdatesAreOfTheHistory = (history : History) → All (AreUpdatesOf history) (updates_of history)

-- an update leaves a datagram's data: it is no accepted edit, and no good answer of that datagram
abbrev pub LeavesData : ℕ → ℕ → Update → Type 0
LeavesData task d (Swapped edit) = ⊥
LeavesData task d (Answered good) = is_for task d good ≡ false

-- a datagram's last good answer has these data, and no edit was accepted since
pub record IsLastAnswer (task d : ℕ) (bytes : List ℕ) (updates : List Update) : Type 0 where
  pub before : List Update
  pub after_it : List Update
  pub split : updates ≡ before ++ Answered (record { task = task; datagram = d; bytes = bytes }) ∷ after_it
  pub leaves : All (LeavesData task d) after_it

-- the data that a task reads of a datagram are those of its last good answer in the updates
abbrev pub SlotsAreLastAnswers : Type 0
SlotsAreLastAnswers = (history : History) (task d : ℕ) (bytes : List ℕ) → (slot_of history task d ≡ Some bytes) ↔ IsLastAnswer task d bytes (updates_of history)

-- the state to which the edits lead that a list of changes names
abbrev pub state_after_changes : State → List Change → State
state_after_changes state [] = state
state_after_changes state (change.Swapped swap ∷ changes) = state_after_changes (state_after state swap.edit) changes
state_after_changes state (change.Good good ∷ changes) = state_after_changes state changes

-- a list of changes decides by itself, without any event, what is read after it: the places are those of its state's line, the epoch is that state's, and a datagram's data are its last good answer's after the last swap, of a datagram of that line and with its length
pub record DecidesAll (groups : List Group) (changes : List Change) : Type 0 where
  pub table : table_after (table_of (line (opened groups))) changes ≡ table_of (line (state_after_changes (opened groups) changes))
  pub epoch : epoch_after 0 changes ≡ (state_after_changes (opened groups) changes).epoch
  pub slots : (task d : ℕ) (bytes : List ℕ) → (slot_after task d None changes ≡ Some bytes) ↔ IsLastAnswer task d bytes (map update_in changes)
  pub fits : (task d : ℕ) (bytes : List ℕ) → slot_after task d None changes ≡ Some bytes → IsAnswerIn (state_after_changes (opened groups) changes) task d bytes

-- `DecidesAll` holds for each legal list of changes
abbrev pub LegalChangesDecide : Type 0
LegalChangesDecide = (groups : List Group) (changes : List Change) → AreLegal groups changes → DecidesAll groups changes

-- the changes that events lead to are legal for the project
abbrev pub ChangesAreLegal : Type 0
ChangesAreLegal =
    (history : History) (changes : List Change) → IsReachable history → AreChangesOf (opened_with history) history changes
    → AreLegal (opened_with history) changes

-- a list of changes leads to what is read after a record
pub record LeadsToHistory (groups : List Group) (history : History) (changes : List Change) : Type 0 where
  pub table : table_after (table_of (line (opened groups))) changes ≡ table_of (line_of history)
  pub epoch : epoch_after 0 changes ≡ epoch_of history
  pub slots : (task d : ℕ) → slot_after task d None changes ≡ slot_of history task d

-- `LeadsToHistory` holds for each legal list with the record's edits and answers, however its swaps come to the next places
abbrev pub ChangesShowAll : Type 0
ChangesShowAll =
    (history : History) (changes : List Change) → IsReachable history → AreLegal (opened_with history) changes
    → map update_in changes ≡ updates_of history → LeadsToHistory (opened_with history) history changes

-- two lists of changes lead to the same
pub record LeadToTheSame (groups : List Group) (first second : List Change) : Type 0 where
  pub table : table_after (table_of (line (opened groups))) first ≡ table_after (table_of (line (opened groups))) second
  pub epoch : epoch_after 0 first ≡ epoch_after 0 second
  pub slots : (task d : ℕ) → slot_after task d None first ≡ slot_after task d None second

-- `LeadToTheSame` holds for two legal lists of a project that name the same edits and the same answers
abbrev pub LegalChangesAgree : Type 0
LegalChangesAgree =
    (groups : List Group) (first second : List Change) → AreLegal groups first → AreLegal groups second
    → map update_in first ≡ map update_in second → LeadToTheSame groups first second

-- A stale arrival changes nothing: what that says of records.
use Rattle.std.specs.Prelude.{◌≡◌, ◌<◌, ℕ, true, if◌then◌else◌, IsErr, List, [], ◌∷◌, ◌++◌}
use Rattle.hc_events.specs.Arrivals.{Arrival, arrival_in}
use Rattle.hc_events.specs.Entries.{History, Came}
use Rattle.hc_events.specs.Points.{epoch_of, next_serial, state_of}
use Rattle.hc_events.specs.Answering.{is_stale_to}
use Rattle.hc_events.specs.Images.{slot_of}
use Rattle.hc_events.specs.Outputs.{value_bit}
use Rattle.hc_events.specs.Owed.{known_bytes}
use Rattle.hc_events.specs.Holding.{is_unplugged, may_hold}
use Rattle.hc_events.specs.Ages.{data_serial}
use Rattle.hc_events.specs.Steady.{steady_data, task_epoch}
use Rattle.hc_events.specs.UnderWay.{is_under_way}
use Rattle.hc_events.specs.Changes.{updates_of}
use Rattle.hc_events.specs.Steps.{Step, Arrives, answers_to, entries_after, entries_after_all}

-- a record without the arrivals that were stale when they came
abbrev pub without_stale : History → History
without_stale [] = []
without_stale (Came arrival ∷ history) =
    if is_stale_to history arrival then without_stale history else Came arrival ∷ without_stale history
without_stale (entry ∷ history) = entry ∷ without_stale history

-- two records say the same of the line, the epoch, the next serial, the input images and the serials of their data, the output values, the known bytes, the register blocks that are under way, what the
-- registers may hold, the slaves that are unplugged, the tasks' epochs and steady data, and the updates
pub record SaysTheSame (a b : History) : Type 0 where
  pub state : state_of a ≡ state_of b
  pub epoch : epoch_of a ≡ epoch_of b
  pub serial : next_serial a ≡ next_serial b
  pub slots : (task d : ℕ) → slot_of a task d ≡ slot_of b task d
  pub dates : (task d : ℕ) → data_serial a task d ≡ data_serial b task d
  pub values : (variable k : ℕ) → value_bit a variable k ≡ value_bit b variable k
  pub known : (station number : ℕ) → known_bytes a station number ≡ known_bytes b station number
  pub under_way : (station number : ℕ) → is_under_way a station number ≡ is_under_way b station number
  pub held : (station number : ℕ) → may_hold a station number ≡ may_hold b station number
  pub unplugged : (station : ℕ) → is_unplugged a station ≡ is_unplugged b station
  pub epochs : (task : ℕ) → task_epoch a task ≡ task_epoch b task
  pub steady : (task d : ℕ) → steady_data a task d ≡ steady_data b task d
  pub updates : updates_of a ≡ updates_of b

-- after both, these events have the same answers and lead to records that say the same
pub record SameAfter (a b : History) (steps : List Step) : Type 0 where
  pub answers : answers_to a steps ≡ answers_to b steps
  pub says : SaysTheSame (entries_after_all a steps) (entries_after_all b steps)

-- `SameAfter` holds for a record with an arrival that was stale when it came and the same record without it, whatever was recorded since and whatever comes
abbrev pub StaleChangesNothing : Type 0
StaleChangesNothing =
    (since history : History) (arrival : Arrival) (steps : List Step) → is_stale_to history arrival ≡ true
    → SameAfter (since ++ Came arrival ∷ history) (since ++ history) steps

-- `SameAfter` holds for a record and the same record without its stale arrivals
abbrev pub StaleArrivalsCanGo : Type 0
StaleArrivalsCanGo = (history : History) (steps : List Step) → SameAfter history (without_stale history) steps

-- an arrival is stale to a record exactly if it is stale to the record without the stale ones
abbrev pub StaleIsJudgedWithout : Type 0
StaleIsJudgedWithout = (history : History) (arrival : Arrival) → is_stale_to (without_stale history) arrival ≡ is_stale_to history arrival

-- an event leads from a record, and from that record without its stale arrivals, to records that are equal without theirs
abbrev pub StepsKeepWithout : Type 0
StepsKeepWithout =
    (history : History) (step : Step) → without_stale (entries_after history step) ≡ without_stale (entries_after (without_stale history) step)

-- an arrival that is stale once a sending with its serial was made stays stale, whatever comes; before that the very same frame may be the answer later
abbrev pub StaleStaysStale : Type 0
StaleStaysStale =
    (history : History) (steps : List Step) (arrival : Arrival) → arrival.serial < next_serial history → is_stale_to history arrival ≡ true
    → is_stale_to (entries_after_all history steps) arrival ≡ true

-- a frame that cannot be read is not recorded
abbrev pub UnreadableChangesNothing : Type 0
UnreadableChangesNothing = (history : History) (bytes : List ℕ) → IsErr (arrival_in bytes) → entries_after history (Arrives bytes) ≡ history

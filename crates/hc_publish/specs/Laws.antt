-- Laws of what a copy shows. Each law is the contract of a function of `laws`.
use Rattle.std.specs.Prelude.{◌≡◌, ◌↔◌, ℕ, ◌<◌, List, length, map, Some, Ok, Result}
use Rattle.std.specs.List.{range_with_len}
use Rattle.hc_records.specs.declared.limits.TheConstants.{TASKS}
use Rattle.hc_records.specs.declared.records.Group.{Group}
use Rattle.hc_records.specs.declared.records.Dir.TheVariants.{In}
use Rattle.hc_records.specs.Image.{VariablePlace, variable_place}
use Rattle.hc_records.specs.Line.{groups_of, line, opened}
use Rattle.hc_places.specs.Table.{datagrams_in, part_in, place_in, table_of}
use Rattle.hc_events.specs.declared.answer.Answer.TheVariants as answer
use Rattle.hc_events.specs.declared.change.Change.{Change}
use Rattle.hc_events.specs.Accepted.{IsReachable}
use Rattle.hc_events.specs.Changes.{updates_of, update_in}
use Rattle.hc_events.specs.Entries.{History}
use Rattle.hc_events.specs.Images.{slot_of}
use Rattle.hc_events.specs.UpdatesLaws.{IsLastAnswer, state_after_changes}
use Rattle.hc_events.specs.Points.{epoch_of, line_of, opened_with}
use Rattle.hc_events.specs.Steps.{Reads, answer_to}
use Rattle.hc_publish.specs.declared.view_faults.ViewFault.{ViewFault}
use Rattle.hc_publish.specs.ChangesSince.{IsLegal, IsOpening, ChangesSince, data_shown, epoch_shown, table_shown}
use Rattle.hc_publish.specs.Values.{number_at, value_by, value_shown}

-- the value of a variable for a task after a record, or the fault: by the variable's place in the record's line and the data
-- that tasks read there
abbrev pub value_read : History → ℕ → ℕ → Result ℕ ViewFault
value_read history task variable = value_by (slot_of history) task (variable_place variable (line_of history))

-- the epoch of a copy, and the data, or none, of each datagram that its table has of a task
pub record ShowsTask (history : History) (changes_since : ChangesSince) (task : ℕ) : Type 0 where
  pub part : part_in (table_shown changes_since) task ≡ part_in (table_of (line_of history)) task
  pub data_are : (d : ℕ) → data_shown changes_since task d ≡ slot_of history task d
  pub values : (variable : ℕ) → value_shown changes_since task variable ≡ value_read history task variable
  pub reads :
      task < TASKS
      → answer_to history (Reads task)
      ≡ answer.Image (epoch_shown changes_since)
      (map (data_shown changes_since task) (range_with_len 0 (length (datagrams_in (table_shown changes_since) task))))

-- a copy shows what a core with the record has
pub record ShowsHistory (history : History) (changes_since : ChangesSince) : Type 0 where
  pub epoch : epoch_shown changes_since ≡ epoch_of history
  pub places : (variable : ℕ) → place_in (table_shown changes_since) variable ≡ variable_place variable (line_of history)
  pub tasks : (task : ℕ) → ShowsTask history changes_since task

-- each copy with a legal list that gives the record's edits and good answers shows what a core with the record has
abbrev pub ShowsWhatIsRead : Type 0
ShowsWhatIsRead =
    (history : History) (changes : List Change)
    → IsReachable history → IsLegal (record { groups = opened_with history; changes = changes }) → map update_in changes ≡ updates_of history
    → ShowsHistory history (record { groups = opened_with history; changes = changes })

-- a number is a variable's value for a task: the variable is an input of this task in the line that the changes' edits lead to,
-- and its bits in the data of its datagram's last good answer since the last of them have this number
pub record IsLastValue (changes_since : ChangesSince) (task variable number : ℕ) : Type 0 where
  pub place : VariablePlace
  pub there : variable_place variable (line (state_after_changes (opened changes_since.groups) changes_since.changes)) ≡ Some place
  pub input : place.dir ≡ In
  pub own : place.task ≡ task
  pub bytes : List ℕ
  pub last : IsLastAnswer task place.datagram bytes (map update_in changes_since.changes)
  pub value : number ≡ number_at bytes place

-- after a legal list exactly such a number is returned
abbrev pub ValuesAreLastAnswers : Type 0
ValuesAreLastAnswers =
    (changes_since : ChangesSince) (task variable number : ℕ)
    → IsLegal changes_since → (value_shown changes_since task variable ≡ Ok number) ↔ IsLastValue changes_since task variable number

-- a copy can be made of a project's plan at its opening, and has its groups
abbrev pub PlansOpen : Type 0
PlansOpen = (groups : List Group) → IsOpening (opened groups) × (groups_of (opened groups).groups ≡ groups)

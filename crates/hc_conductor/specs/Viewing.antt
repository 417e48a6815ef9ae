-- A task's view of a variable.
use Rattle.std.specs.Prelude.{◌≡◌, ℕ, Option, Result, option_and_then}
use Rattle.hc_records.specs.Image.{VariablePlace}
use Rattle.hc_records.specs.Variables.{variable_of}
use Rattle.hc_publish.specs.declared.view_faults.ViewFault.{ViewFault}
use Rattle.hc_publish.specs.ChangesSince.{ChangesSince, data_shown, epoch_shown, table_shown}
use Rattle.hc_publish.specs.Values.{value_by}
use Rattle.hc_events.specs.Entries.{History}
use Rattle.hc_events.specs.Images.{slot_of}
use Rattle.hc_events.specs.Points.{epoch_of, line_of}
use Rattle.hc_places.specs.Table.{Table, place_in, table_of}
use Rattle.hc_conductor.specs.declared.one_thread.viewing.Viewed.{Viewed}

-- the place of the variable with a number; 0 is no variable's number
abbrev pub viewed_place : Table → ℕ → Option VariablePlace
viewed_place table number = option_and_then (place_in table) (variable_of number)

-- the value of the variable with a number for a task in what is shown, or the reason for which the task gets none
abbrev pub value_answered : ChangesSince → ℕ → ℕ → Result ℕ ViewFault
value_answered shown task number = value_by (data_shown shown) task (viewed_place (table_shown shown) number)

-- the value of the variable with a number for a task after a record, by the places of its line and the data that tasks read
-- there
abbrev pub value_at : History → ℕ → ℕ → Result ℕ ViewFault
value_at history task number = value_by (slot_of history) task (viewed_place (table_of (line_of history)) number)

-- a view of what is shown: the epoch, and the variable's value in it
pub record IsViewOf (shown : ChangesSince) (task number : ℕ) (viewed : Viewed) : Type 0 where
  pub epoch : viewed.epoch ≡ epoch_shown shown
  pub value : viewed.value ≡ value_answered shown task number

-- a view of all that a record gives: the epoch, and the variable's value in it
pub record IsViewAfter (history : History) (task number : ℕ) (viewed : Viewed) : Type 0 where
  pub epoch : viewed.epoch ≡ epoch_of history
  pub value : viewed.value ≡ value_at history task number

-- Edits, in C.
use Rattle.std.specs.Prelude.{◌≡◌, ◌≢◌, ℕ, Bool, true, false, ◌∷◌, length, replicate, IfSome, Result, Ok, Err}
use Rattle.hc_records.specs.declared.edit.Edit.{Edit}
use Rattle.hc_records.specs.declared.faults.EditFault.{EditFault}
use Rattle.hc_records.specs.declared.faults.EditFault.TheVariants.{TooManyDatagrams}
use Rattle.hc_records.specs.Boundaries.{recut}
use Rattle.hc_records.specs.Edits.{edited, state_after}
use Rattle.hc_records.specs.Line.{State, line}
use Rattle.hc_registers.specs.Blocks.{moved}
use Rattle.hc_groups.specs.Edits.{own_fault}
use Rattle.hc_events.specs.Entries.{History, Edited}
use Rattle.hc_events.specs.Faults.{core_fault_number, edit_refusal}
use Rattle.hc_events.specs.Points.{state_of}
use Rattle.hc_events.specs.Ready.{waiting_after}
use Rattle.hc_core.specs.Prepared.{CoreEdit}
use Rattle.hc_places.specs.Swap.{changed_variables}
use Rattle.hc_places.specs.Table.{table_of}
use Rattle.hc_c.specs.declared.editing.Cost.{Cost}
use Rattle.hc_c.specs.declared.embedded.Embedded.{Embedded}
use Rattle.hc_c.specs.declared.numbers.TheConstants.{OVER_LIMIT, DONE, MEMORY}
use Rattle.hc_c.specs.Embedded.{embedded_discarding, embedded_history}

-- the effect of an edit that leads from one state to another, with these tasks waiting after it; no task is over its limit
pub record IsCost (old new : State) (waits : ℕ) (cost : Cost) : Type 0 where
  pub epoch : cost.epoch ≡ new.epoch
  pub recut : cost.recut ≡ recut (line old) (line new)
  pub moved : cost.moved ≡ moved (line old) (line new)
  pub places : cost.places ≡ length (changed_variables (table_of (line old)) (table_of (line new)))
  pub crowded : cost.crowded ≡ 0
  pub waits_are : cost.waits ≡ waits
  pub reserved : cost.reserved ≡ replicate 2 0

-- the effect of an edit of a line with this history; the tasks that wait after it are those that wait once each slave that
-- comes is cleared
abbrev pub CostsEdit : History → Edit → Cost → Type 0
CostsEdit history edit = IsCost (state_of history) (state_after (state_of history) edit) (waiting_after history edit)

-- the tasks that will wait after a prepared edit
abbrev pub prepared_waits : CoreEdit → ℕ
prepared_waits core_edit = waiting_after core_edit.core.history core_edit.edit.report.swap.edit

-- 0 if the state accepts an edit, else its fault's number
abbrev pub edit_number : Result State EditFault → ℕ
edit_number (Ok state) = DONE
edit_number (Err fault) = core_fault_number (edit_refusal fault)

-- the edit is judged as the core judges it, or an allocation failed, which hides no fault that the edit has by itself; if it is
-- accepted its effect is written, and it is carried out unless C only asks; otherwise nothing changes, and only the task over
-- its limit is written, if there is one
pub record Serves (old new : Embedded) (edit : Edit) (asks : Bool) (number : ℕ) (before after : Cost) : Type 0 where
  pub answer : number ≢ MEMORY → number ≡ edit_number (edited (state_of (embedded_history old)) edit)
  pub own : IfSome (own_fault (state_of (embedded_history old)).groups edit) (λ fault. number ≡ core_fault_number (edit_refusal fault))
  pub cost : number ≡ DONE → CostsEdit (embedded_history old) edit after
  pub carried : number ≡ DONE → asks ≡ false → new ≡ embedded_discarding old (Edited edit ∷ embedded_history old)
  pub asked : asks ≡ true → new ≡ old
  pub refused : number ≢ DONE → new ≡ old
  pub unwritten : number ≢ DONE → number ≢ OVER_LIMIT → after ≡ before
  pub crowds : (task : ℕ) → number ≢ MEMORY → edited (state_of (embedded_history old)) edit ≡ Err (TooManyDatagrams task) → after ≡ record before { crowded = task }

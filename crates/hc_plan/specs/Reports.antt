-- The answers to edits of a plan, and the states that the edits leave.
use Rattle.std.specs.Prelude.{◌≡◌, ◌≢◌, ℕ, not, IfSome, Bool, true, false, List, [], ◌∷◌, filter, length, map, Result, Ok, Err}
use Rattle.hc_records.specs.declared.edit.Edit.{Edit}
use Rattle.hc_records.specs.declared.faults.EditFault.{EditFault}
use Rattle.hc_records.specs.declared.faults.EditFault.TheVariants.{Memory}
use Rattle.hc_records.specs.Boundaries.{recut}
use Rattle.hc_records.specs.Edits.{edited}
use Rattle.hc_records.specs.Line.{State, line}
use Rattle.hc_groups.specs.Edits.{own_fault}
use Rattle.hc_registers.specs.Blocks.{LineBlock, moved, moved_blocks}
use Rattle.hc_places.specs.Swap.{SaysWhatDiffers, changed_places, changed_variables, swapped}
use Rattle.hc_places.specs.Table.{table_of}
use Rattle.hc_plan.specs.declared.report.Report.{Report}

-- a block of the line by its slave's station address and its number in the slave's order
abbrev pub found_name : LineBlock → ℕ × ℕ
found_name found = (found.station, found.number)

-- a report says how the lines of two states differ; an edit made the second from the first
pub record ReportsEdit (old : State) (edit : Edit) (new : State) (report : Report) : Type 0 where
  pub epoch : report.epoch ≡ new.epoch
  pub recut : report.recut ≡ recut (line old) (line new)
  pub moved : report.moved ≡ moved (line old) (line new)
  pub blocks : report.blocks ≡ map found_name (moved_blocks (line old) (line new))
  pub named : report.swap.edit ≡ edit
  pub leads : swapped report.swap.change (table_of (line old)) ≡ table_of (line new)
  pub says : SaysWhatDiffers (table_of (line old)) (table_of (line new)) report.swap.change
  pub places : changed_places report.swap ≡ length (changed_variables (table_of (line old)) (table_of (line new)))

-- the answer to an edit: a report, or a fault
abbrev pub Answer : Type 0
Answer = Result Report EditFault

-- a refused edit leaves the state as it was; its fault is the edit's own if it has one, else the lowest that holds, or `Memory`
pub record IsRefusal (old : State) (edit : Edit) (fault : EditFault) (new : State) : Type 0 where
  pub stays : new ≡ old
  pub own : IfSome (own_fault old.groups edit) (λ own. fault ≡ own)
  pub lowest : fault ≢ Memory → edited old edit ≡ Err fault

-- an accepted edit makes the new state, and its report is true of it; a refused one leaves the old state
abbrev pub IsAnswer : State → Edit → Answer → State → Type 0
IsAnswer old edit (Ok report) new = (edited old edit ≡ Ok new) × ReportsEdit old edit new report
IsAnswer old edit (Err fault) new = IsRefusal old edit fault new

-- the answers to a list of edits, each in the state that those before it left, and the state that all of them leave
abbrev pub AreAnswers : State → List (Edit × Answer) → State → Type 0
AreAnswers old [] new = new ≡ old
AreAnswers old (pair ∷ pairs) new = (next : State) × IsAnswer old pair.0 pair.1 next × AreAnswers next pairs new

-- an allocation failed
abbrev pub wants_memory : Answer → Bool
wants_memory (Err Memory) = true
wants_memory _ = false

-- the edits without those refused with `Memory`
abbrev pub carried_out : List (Edit × Answer) → List Edit
carried_out pairs = map (λ pair. pair.0) (filter (λ pair. not (wants_memory pair.1)) pairs)

use Rattle.std.proofs.Common.{◌≡◌, refl, ◌∷◌, Option, Some, None}
use Rattle.std.specs.Prelude.{IsNone, ℕ}
use Rattle.hc_events.specs.declared.faults.CoreFault.{CoreFault}
use Rattle.hc_records.specs.declared.edit.Edit.{Edit}
use Rattle.hc_events.specs.Entries.{History, Edited}
use Rattle.hc_events.specs.Images.{slot_of}
use Rattle.hc_events.specs.Steps.{edit_refused, unless_fault}
use Rattle.hc_events.proofs.laws.edits_leave_no_slot.Goals as goal

gone : (history : History) (edit : Edit) (task d : ℕ) (refused : Option CoreFault) → IsNone refused → slot_of (unless_fault refused history (Edited edit ∷ history)) task d ≡ None
gone history edit task d None e = refl
gone history edit task d (Some fault) e = cc

pub returns : goal.returns
returns c history edit task d accepted = gone history edit task d (edit_refused history edit) accepted

-- The command `view`: a task views a variable.
use Rattle.std.specs.Prelude.{ℕ, nat_lt, if◌then◌else◌, List, ◌++◌, Result, Ok, Err, codes}
use Rattle.std.specs.Fmt.{decimal}
use Rattle.hc_records.specs.declared.limits.TheConstants.{TASKS}
use Rattle.hc_events.specs.declared.faults.CoreFault.TheVariants.{NoSuchTask}
use Rattle.hc_events.specs.Entries.{History}
use Rattle.hc_events.specs.Points.{epoch_of}
use Rattle.hc_publish.specs.declared.view_faults.ViewFault.{ViewFault}
use Rattle.hc_publish.specs.declared.view_faults.ViewFault.TheVariants.{NoSuchVariable, IsOutput, OtherTask, NotAnswered}
use Rattle.hc_publish.specs.ViewFaults.{view_fault_number}
use Rattle.hc_conductor.specs.Viewing.{value_at}
use Rattle.hc_program.specs.Refusals.{refusal_text}

-- the name of the fault for which a task gets no value
abbrev pub view_fault_name : ViewFault → List ℕ
view_fault_name NoSuchVariable = codes "NoSuchVariable"
view_fault_name IsOutput = codes "IsOutput"
view_fault_name OtherTask = codes "OtherTask"
view_fault_name NotAnswered = codes "NotAnswered"

-- the line of that fault
unfoldable pub view_fault_text : ViewFault → List ℕ
view_fault_text fault = codes "refused " ++ decimal (view_fault_number fault) ++ codes " " ++ view_fault_name fault ++ codes "\n"

-- the line of an epoch and a variable's value in it
unfoldable pub value_text : ℕ → ℕ → ℕ → List ℕ
value_text epoch variable value = codes "epoch " ++ decimal epoch ++ codes " var " ++ decimal variable ++ codes " value " ++ decimal value ++ codes "\n"

-- the line of the value, or of the fault if there is no value
abbrev pub viewed_text : ℕ → ℕ → Result ℕ ViewFault → List ℕ
viewed_text epoch variable (Ok value) = value_text epoch variable value
viewed_text epoch variable (Err fault) = view_fault_text fault

-- the printed text of a view if this record was published last; a task over 7 is refused before all
unfoldable pub view_text : History → ℕ → ℕ → List ℕ
view_text seen task variable =
    if nat_lt task TASKS then viewed_text (epoch_of seen) variable (value_at seen task variable) else refusal_text NoSuchTask

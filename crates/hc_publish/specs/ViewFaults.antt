-- The numbers of the faults of reading a variable.
use Rattle.std.specs.Prelude.{ℕ}
use Rattle.hc_publish.specs.declared.view_faults.ViewFault.{ViewFault}
use Rattle.hc_publish.specs.declared.view_faults.ViewFault.TheVariants.{NoSuchVariable, IsOutput, OtherTask, NotAnswered}

-- the numbers, in the order in which the faults are judged
abbrev pub view_fault_number : ViewFault → ℕ
view_fault_number NoSuchVariable = 1
view_fault_number IsOutput = 2
view_fault_number OtherTask = 3
view_fault_number NotAnswered = 4

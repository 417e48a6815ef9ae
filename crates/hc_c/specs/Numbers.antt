-- The numbers that calls return.
use Rattle.std.specs.Prelude.{ℕ, Option, Some, None, ◌≡◌, IfSome}
use Rattle.hc_events.specs.declared.faults.CoreFault.{CoreFault}
use Rattle.hc_events.specs.Faults.{core_fault_number}

-- 0 if there is no fault, else the fault's number
abbrev pub refusal_number : Option CoreFault → ℕ
refusal_number None = 0
refusal_number (Some fault) = core_fault_number fault

-- the number is the fault's, if there is a fault
abbrev pub IsNumberOf : Option CoreFault → ℕ → Type 0
IsNumberOf found number = IfSome found (λ fault. number ≡ core_fault_number fault)

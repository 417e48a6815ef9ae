-- The numbers of refused edits.
use Rattle.std.proofs.Common.{◌≡◌, ◌≢◌, ◌∙◌, ℕ, ap, sym, IfSome, Option, Some, None, Result, Ok, Err}
use Rattle.std.proofs.lemmas.Option.{same_Some}
use Rattle.hc_records.specs.declared.faults.EditFault.{EditFault}
use Rattle.hc_records.specs.declared.faults.EditFault.TheVariants.{UnknownAlias, AlreadyPresent, NotPresent, Mandatory, UnknownStation, Absent, NoSuchArea, NoSuchTask, UnknownPdo, RepeatedPdo, AreaTooBig, TooManyDatagrams, EpochsSpent, Memory, BadGroup, AliasTaken, StationTaken, VariableTaken, TooManyGroups, TooManySlaves}
use Rattle.hc_records.specs.Line.{State}
use Rattle.hc_events.specs.Faults.{core_fault_number, edit_refusal}

-- the number of `Memory` is no other fault's
pub not_memory : (fault : EditFault) → core_fault_number (edit_refusal fault) ≢ 28 → fault ≢ Memory
not_memory fault other is = other (ap (λ (it : EditFault). core_fault_number (edit_refusal it)) is)

-- none is 0
pub not_done : (fault : EditFault) → core_fault_number (edit_refusal fault) ≢ 0
not_done UnknownAlias e = cc
not_done AlreadyPresent e = cc
not_done NotPresent e = cc
not_done Mandatory e = cc
not_done UnknownStation e = cc
not_done Absent e = cc
not_done NoSuchArea e = cc
not_done NoSuchTask e = cc
not_done UnknownPdo e = cc
not_done RepeatedPdo e = cc
not_done AreaTooBig e = cc
not_done (TooManyDatagrams task) e = cc
not_done EpochsSpent e = cc
not_done Memory e = cc
not_done (BadGroup bad) e = cc
not_done AliasTaken e = cc
not_done StationTaken e = cc
not_done VariableTaken e = cc
not_done TooManyGroups e = cc
not_done TooManySlaves e = cc

-- an edit is accepted or refused, and refused for one fault
pub not_accepted : {state : State} {fault : EditFault} → ◌≡◌ {A = Result State EditFault} (Ok state) (Err fault) → ⊥
not_accepted e = cc

pub same_fault : {first second : EditFault} → ◌≡◌ {A = Result State EditFault} (Err first) (Err second) → first ≡ second
same_fault e = cc

-- a fault that an edit has by itself: one that is accepted has none, and of one that is refused it is the fault
-- reported

same_found : {X : Type 0} {value : X} {fault : EditFault} → ◌≡◌ {A = Result X EditFault} (Ok value) (Err fault) → ⊥
same_found e = cc

same_answered : {X : Type 0} {first second : EditFault} → ◌≡◌ {A = Result X EditFault} (Err first) (Err second) → first ≡ second
same_answered e = cc

pub own-accepted : {X : Type 0} (found : Option EditFault) (value : X) (number : ℕ) → IfSome found (λ fault. ◌≡◌ {A = Result X EditFault} (Ok value) (Err fault))
    → IfSome found (λ fault. number ≡ core_fault_number (edit_refusal fault))
own-accepted None value number own = tt
own-accepted (Some fault) value number own = absurd (same_found own)

pub own-refused : (X : Type 0) (found : Option EditFault) (judged_fault : EditFault) (number : ℕ) → number ≡ core_fault_number (edit_refusal judged_fault)
    → IfSome found (λ fault. ◌≡◌ {A = Result X EditFault} (Err judged_fault) (Err fault)) → IfSome found (λ fault. number ≡ core_fault_number (edit_refusal fault))
own-refused X None judged_fault number is own = tt
own-refused X (Some fault) judged_fault number is own = is ∙ ap (λ (it : EditFault). core_fault_number (edit_refusal it)) (same_answered own)

pub own-found : (found : Option EditFault) (judged_fault : EditFault) (number : ℕ) → number ≡ core_fault_number (edit_refusal judged_fault) → found ≡ Some judged_fault
    → IfSome found (λ fault. number ≡ core_fault_number (edit_refusal fault))
own-found None judged_fault number is same = tt
own-found (Some fault) judged_fault number is same = is ∙ sym (ap (λ (it : EditFault). core_fault_number (edit_refusal it)) (same_Some fault judged_fault same))

-- Why a project isn't opened.
use Rattle.std.proofs.Common.{◌≡◌, ◌⊎◌, inl, inr, List, sym, subst}
use Rattle.std.specs.Prelude.{IfErr, Result, Ok, Err}
use Rattle.std.specs.Result.{IsErrAnd}
use Rattle.hc_records.specs.declared.records.Group.{Group}
use Rattle.hc_publish.specs.declared.faults.OpenFault.{OpenFault}
use Rattle.hc_publish.specs.declared.faults.OpenFault.TheVariants.{Memory, NoSeat}
use Rattle.hc_conductor.specs.Openings.{IsOpenFault, IsOpenable}

fault-answer_given : (groups : List Group) (fault : OpenFault) → IsOpenable groups → (fault ≡ Memory) ⊎ (fault ≡ NoSeat) → IsOpenFault groups fault
fault-answer_given groups fault openable (inl memory) = subst (IsOpenFault groups) (sym memory) tt
fault-answer_given groups fault openable (inr none) = subst (IsOpenFault groups) (sym none) openable

-- what is passed on says why the project isn't opened
pub refusal-answer_given : {B : Type 0} (groups : List Group) (outer : Result B OpenFault) (fault : OpenFault) → IsOpenable groups → (fault ≡ Memory) ⊎ (fault ≡ NoSeat) → IsErrAnd outer (λ f. f ≡ fault)
    → IfErr outer (IsOpenFault groups)
refusal-answer_given groups (Ok opened) fault openable refused answer_given = tt
refusal-answer_given groups (Err f) fault openable refused answer_given = subst (IsOpenFault groups) (sym answer_given) (fault-answer_given groups fault openable refused)

-- The declaration of a group from a text.
use Rattle.std.specs.Prelude.{◌≡◌, ◌≢◌, ℕ, ◌+◌, Bool, Result, Ok, Err}
use Rattle.hc_records.specs.declared.edit.Edit.TheVariants.{Declare}
use Rattle.hc_records.specs.declared.faults.ProjectFault.{ProjectFault}
use Rattle.hc_records.specs.declared.records.Group.{Group}
use Rattle.hc_records.specs.ProjectFault.{project_fault_number}
use Rattle.hc_c.specs.declared.editing.Cost.{Cost}
use Rattle.hc_c.specs.declared.embedded.Embedded.{Embedded}
use Rattle.hc_c.specs.declared.numbers.TheConstants.{MEMORY, PROJECT}
use Rattle.hc_c.specs.Edits.{Serves}

-- the text is no group's and its fault is returned, or an allocation failed; nothing changes
pub record IsNoGroup (fault : ProjectFault) (old new : Embedded) (number : ℕ) (before after : Cost) : Type 0 where
  pub answer : number ≢ MEMORY → number ≡ PROJECT + project_fault_number fault
  pub unchanged : new ≡ old
  pub cost_stays : after ≡ before

-- the group of a text is declared, judged as every edit is; if the text is no group's, its fault is returned
abbrev pub Declares : Result Group ProjectFault → Embedded → Embedded → Bool → ℕ → Cost → Cost → Type 0
Declares (Ok group) old new asks number before after = Serves old new (Declare group) asks number before after
Declares (Err fault) old new asks number before after = IsNoGroup fault old new number before after

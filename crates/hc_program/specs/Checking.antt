-- The printed text of `projectcheck` for a project text, and its exit status.
use Rattle.std.specs.Prelude.{◌≡◌, ◌≤◌, ◌⊎◌, ℕ, List, ◌++◌, length, Option, Some, None, codes}
use Rattle.std.specs.Fmt.{decimal}
use Rattle.hc_project.specs.declared.located.Found.{Found}
use Rattle.hc_project.specs.declared.located.Found.TheVariants.{InText, InProject}
use Rattle.hc_project.specs.Located.{LocatesFault}
use Rattle.hc_records.specs.declared.faults.ProjectFault.TheVariants as project
use Rattle.hc_text.specs.declared.input.TheConstants.{MOST_INPUT}
use Rattle.hc_program.specs.declared.opening.Unopened.TheVariants.{Project}
use Rattle.hc_program.specs.Places.{location_text}
use Rattle.hc_program.specs.Refusals.{project_fault_text}
use Rattle.hc_program.specs.Runs.{Outcome}
use Rattle.hc_program.specs.Text.{unopened, unread}

-- the line of a line and a column
abbrev pub position_text : ℕ → ℕ → List ℕ
position_text line column = codes "at line " ++ decimal line ++ codes " column " ++ decimal column ++ codes "\n"

-- the printed text: `ok` for a project, else the fault's line and the line of its place
abbrev pub answered_text : Option Found → List ℕ
answered_text None = codes "ok\n"
answered_text (Some (InText line column)) = project_fault_text project.NotToml ++ position_text line column
answered_text (Some (InProject lowest location)) = project_fault_text lowest ++ location_text location

-- the exit status: 0 for a project, 3 for a fault
abbrev pub answered_status : Option Found → ℕ
answered_status None = 0
answered_status (Some found) = 3

-- the text and the status are those of a fault that the project text has, or of none if it is a project
abbrev pub IsCheckedText : List ℕ → List ℕ → ℕ → Type 0
IsCheckedText input text status = (found : Option Found) × LocatesFault input found × (text ≡ answered_text found) × (status ≡ answered_status found)

-- a run prints nothing, or the checked text of an input that is not too long
abbrev pub CheckOutcome : List ℕ → Outcome → Type 0
CheckOutcome input outcome = (outcome ≡ unread) ⊎ (length input ≤ MOST_INPUT) × IsCheckedText input outcome.text outcome.status

-- if an allocation failed, a run prints nothing, or the fault of failed memory
abbrev pub StarvedCheck : Outcome → Type 0
StarvedCheck outcome = (outcome ≡ unread) ⊎ (outcome ≡ unopened (Project project.Memory))

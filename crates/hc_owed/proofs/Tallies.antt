-- The tasks that wait are those with a count.
use Rattle.std.proofs.Common.{◌≡◌, ℕ, ◌<◌, ◌==◌, ◌&&◌, Bool, List, ap, ap₂, ◌∙◌}
use Rattle.std.specs.Prelude.{not}
use Rattle.hc_records.specs.Line.{State}
use Rattle.hc_owed.specs.declared.area.JudgedArea.{JudgedArea}
use Rattle.hc_owed.specs.declared.tally.Tally.{Tally}
use Rattle.hc_owed.specs.declared.task_set.TaskSet.{TaskSet}
use Rattle.hc_owed.specs.Readiness.{Holdings, may_be_sent}
use Rattle.hc_owed.specs.ReadinessLaws.{AreWaiting}
use Rattle.hc_owed.specs.ReadinessSteps.{IsReadinessFor}
use Rattle.hc_owed.specs.RegisterState.{Knowledge}
use Rattle.hc_owed.specs.Tally.{Tallies, counts_none}
use Rattle.hc_owed.specs.TaskSets.{has_task, tasks_where}
use Rattle.hc_owed.proofs.TaskLists.{has-where, same-where}
use Rattle.hc_owed.proofs.Waits.{waiting-right}
use Rattle.hc_owed.proofs.WaitsOutside.{outside-right}

-- nothing is counted for the tasks that can be sent
pub free-right : (known : Knowledge) (held : Holdings) (unplugged : ℕ → Bool) (state : State) (areas : List JudgedArea) (tally : Tally) (t : ℕ) → t < 8 → Tallies areas tally → IsReadinessFor known held unplugged state areas
    → counts_none tally t ≡ may_be_sent known held unplugged state t
free-right known held unplugged state areas tally t low counts is =
    ap₂ (λ (a b : ℕ). (a == 0) && (b == 0)) (counts.0 t low ∙ waiting-right known held unplugged state areas t low is) (counts.1 t low ∙ outside-right known held unplugged state areas t low is)

-- the others wait
pub are-waiting : (areas : List JudgedArea) (tally : Tally) (free set : TaskSet) → Tallies areas tally → free ≡ tasks_where (counts_none tally) → set ≡ tasks_where (λ (t : ℕ). not (has_task t free)) → AreWaiting areas set
are-waiting areas tally free set counts is others known held unplugged state right =
    others
    ∙ same-where (λ (t : ℕ). not (has_task t free)) (λ (t : ℕ). not (may_be_sent known held unplugged state t))
    (λ t low. ap not (ap (has_task t) is ∙ has-where (counts_none tally) t low ∙ free-right known held unplugged state areas tally t low counts right))

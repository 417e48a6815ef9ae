-- The present proposal of some tasks (this project's profile).
use Rattle.std.specs.Prelude.{◌≡◌, ◌⊎◌, ℕ, List, None}
use Rattle.hc_records.specs.Lists.{lowest}
use Rattle.hc_events.specs.Calls.{AreSentTogether}
use Rattle.hc_events.specs.Entries.{History}
use Rattle.hc_events.specs.Sendings.{Frame}
use Rattle.hc_events.specs.Steps.{proposal, ready_faults, task_faults}

-- frames are a present proposal: all frames in which tasks would be sent next. Nothing refuses the sending, because nothing is
-- owed or each task is ready
pub record IsProposal (history : History) (frames : List Frame) : Type 0 where
  pub tasks : List ℕ
  pub together : AreSentTogether tasks
  pub accepted : (lowest (task_faults history tasks) ≡ None) ⊎ (lowest (ready_faults history tasks) ≡ None)
  pub whole : frames ≡ proposal history tasks

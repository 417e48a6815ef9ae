use Rattle.std.proofs.Common.{◌≡◌, ℕ, ◌<◌, ◌≤◌, cond, None}
use Rattle.hc_records.specs.declared.limits.TheConstants.{MOST_DATAGRAMS}
use Rattle.hc_images.specs.Image.{data_of}
use Rattle.hc_owed.specs.TaskSets.{has_task}
use Rattle.hc_core.specs.Ages.{age_of}
use Rattle.hc_core.proofs.changed.empty_tasks.Given as goal

-- the changed tasks before the present one are emptied, and every other task is as it was
abbrev pub invariant-loop-task : goal.invariant-loop-task
invariant-loop-task l = record {
  no_data : (t d : ℕ) → t < l.task → d < MOST_DATAGRAMS → data_of l.inputs t d ≡ cond (has_task t l.changed) None (data_of l.fn.inputs t d);
  data_left : (t d : ℕ) → l.task ≤ t → d < MOST_DATAGRAMS → data_of l.inputs t d ≡ data_of l.fn.inputs t d;
  undated : (t d : ℕ) → t < l.task → d < MOST_DATAGRAMS → age_of l.ages t d ≡ cond (has_task t l.changed) None (age_of l.fn.ages t d);
  ages_left : (t d : ℕ) → l.task ≤ t → d < MOST_DATAGRAMS → age_of l.ages t d ≡ age_of l.fn.ages t d;
}

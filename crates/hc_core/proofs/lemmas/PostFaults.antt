-- Which posts are refused.
use Rattle.std.proofs.Common.{◌≡◌, ℕ, suc, ◌<◌, ◌==◌, Bool, true, false, not, List, [], ◌∷◌, length, refl, ap, arith, Option, Some, None}
use Rattle.hc_records.specs.declared.limits.TheConstants.{TASKS}
use Rattle.hc_records.specs.Image.{output_length, task_places}
use Rattle.hc_records.specs.Line.{Member}
use Rattle.hc_records.specs.Lists.{lowest}
use Rattle.hc_places.specs.Table.{part_in, table_of}
use Rattle.hc_events.specs.declared.faults.CoreFault.{CoreFault}
use Rattle.hc_events.specs.declared.faults.CoreFault.TheVariants.{NoSuchTask, PostLength, StalePost}
use Rattle.hc_events.specs.Entries.{History}
use Rattle.hc_events.specs.Points.{epoch_of, line_of}
use Rattle.hc_events.specs.Steps.{is_no_task, is_stale_epoch, post_faults, post_steady_faults}
use Rattle.hc_events.proofs.lemmas.Views.{is_task}

-- a task's outputs, as the table of its line lists them

pub outputs-listed : (line : List Member) (task : ℕ) → task < TASKS → (part_in (table_of line) task).0 ≡ output_length (task_places task line)
outputs-listed line (suc (suc (suc (suc (suc (suc (suc (suc task)))))))) low = absurd (omega arith)
outputs-listed line other low = refl

-- the three tests

abbrev refused_by : Bool → Bool → Bool → Option CoreFault
refused_by none stale other = lowest ((none, NoSuchTask) ∷ (stale, StalePost) ∷ (other, PostLength) ∷ [])

is_stale : (none stale other : Bool) → none ≡ false → stale ≡ true → refused_by none stale other ≡ Some StalePost
is_stale false true other a b = refl
is_stale false false other a b = cc
is_stale true stale other a b = cc

is_other_length : (none stale other : Bool) → none ≡ false → stale ≡ false → other ≡ true → refused_by none stale other ≡ Some PostLength
is_other_length false false true a b c = refl
is_other_length false false false a b c = cc
is_other_length false true other a b c = cc
is_other_length true stale other a b c = cc

is_accepted : (none stale other : Bool) → none ≡ false → stale ≡ false → other ≡ false → refused_by none stale other ≡ None
is_accepted false false false a b c = refl
is_accepted false false true a b c = cc
is_accepted false true other a b c = cc
is_accepted true stale other a b c = cc

abbrev fits : History → ℕ → List ℕ → Bool
fits history task bytes = length bytes == output_length (task_places task (line_of history))

-- of a post

pub post-stale : (history : History) (task epoch : ℕ) (bytes : List ℕ) → task < TASKS → not (epoch == epoch_of history) ≡ true → lowest (post_faults history task epoch bytes) ≡ Some StalePost
post-stale history task epoch bytes low other = is_stale (is_no_task task) (not (epoch == epoch_of history)) (not (fits history task bytes)) (is_task task low) other

pub post-length : (history : History) (task epoch : ℕ) (bytes : List ℕ) → task < TASKS → not (epoch == epoch_of history) ≡ false → fits history task bytes ≡ false
    → lowest (post_faults history task epoch bytes) ≡ Some PostLength
post-length history task epoch bytes low same other = is_other_length (is_no_task task) (not (epoch == epoch_of history)) (not (fits history task bytes)) (is_task task low) same (ap not other)

pub post-accepted : (history : History) (task epoch : ℕ) (bytes : List ℕ) → task < TASKS → not (epoch == epoch_of history) ≡ false → fits history task bytes ≡ true
    → lowest (post_faults history task epoch bytes) ≡ None
post-accepted history task epoch bytes low same size = is_accepted (is_no_task task) (not (epoch == epoch_of history)) (not (fits history task bytes)) (is_task task low) same (ap not size)

-- of a steady post

pub steady_post-stale : (history : History) (task epoch : ℕ) (bytes : List ℕ) → task < TASKS → is_stale_epoch history task epoch ≡ true → lowest (post_steady_faults history task epoch bytes) ≡ Some StalePost
steady_post-stale history task epoch bytes low stale =
    is_stale (is_no_task task) (is_stale_epoch history task epoch) (not (fits history task bytes)) (is_task task low) stale

pub steady_post-length : (history : History) (task epoch : ℕ) (bytes : List ℕ) → task < TASKS → is_stale_epoch history task epoch ≡ false → fits history task bytes ≡ false
    → lowest (post_steady_faults history task epoch bytes) ≡ Some PostLength
steady_post-length history task epoch bytes low within other =
    is_other_length (is_no_task task) (is_stale_epoch history task epoch) (not (fits history task bytes)) (is_task task low) within (ap not other)

pub steady_post-accepted : (history : History) (task epoch : ℕ) (bytes : List ℕ) → task < TASKS → is_stale_epoch history task epoch ≡ false → fits history task bytes ≡ true
    → lowest (post_steady_faults history task epoch bytes) ≡ None
steady_post-accepted history task epoch bytes low within size =
    is_accepted (is_no_task task) (is_stale_epoch history task epoch) (not (fits history task bytes)) (is_task task low) within (ap not size)

-- Which steady posts are accepted, and that an edit of other tasks leaves them so.
use Rattle.std.proofs.Common.{◌≡◌, ℕ, ◌+◌, ◌<◌, ◌≤◌, ◌==◌, ◌||◌, nat_lt, Bool, true, false, not, List, [], ◌∷◌, length, refl, sym, ap, ◌∙◌, subst, arith, Option, Some, None, ltb-true, ltb-false, inl, inr, ⊎_elim}
use Rattle.std.specs.Prelude.{◌⊎◌, ◌↔◌}
use Rattle.std.proofs.lemmas.Bool.{eq-eqb, eqb-true, le-ltb, lt-ltb, not-false, or_cases, or_left, or_parts, or_right}
use Rattle.hc_records.specs.declared.edit.Edit.{Edit}
use Rattle.hc_records.specs.declared.limits.TheConstants.{TASKS}
use Rattle.hc_records.specs.Image.{output_length, task_places}
use Rattle.hc_records.specs.Lists.{lowest}
use Rattle.hc_places.specs.Table.{TaskTable, task_table}
use Rattle.hc_events.specs.declared.answer.Answer.TheVariants as answer
use Rattle.hc_events.specs.declared.faults.CoreFault.{CoreFault}
use Rattle.hc_events.specs.declared.faults.CoreFault.TheVariants.{NoSuchTask, PostLength, StalePost}
use Rattle.hc_events.specs.Entries.{History, Edited, Posted}
use Rattle.hc_events.specs.Points.{epoch_of, line_of}
use Rattle.hc_events.specs.Steady.{task_epoch}
use Rattle.hc_events.specs.SteadyLaws.{IsAnsweredAsPost, IsSteadyPost}
use Rattle.hc_events.specs.Steps.{Posts, PostsSteady, answer_to, is_no_task, is_stale_epoch, post_faults, post_steady_faults, unless, unless_fault}
use Rattle.hc_events.proofs.lemmas.Accepted.{passed}
use Rattle.hc_events.proofs.lemmas.Awaited.{same_is}
use Rattle.hc_events.proofs.lemmas.Steady.{epochs-bounded}

-- a post is accepted where nothing refuses it

abbrev judged : Bool → Bool → Bool → Option CoreFault
judged none stale other = lowest ((none, NoSuchTask) ∷ (stale, StalePost) ∷ (other, PostLength) ∷ [])

not_refused : (refused : Option CoreFault) → unless refused answer.Posted ≡ answer.Posted → refused ≡ None
not_refused None e = refl
not_refused (Some fault) e = cc

none_refuses : (none stale other : Bool) → none ≡ false → stale ≡ false → other ≡ false → judged none stale other ≡ None
none_refuses false false false a b c = refl
none_refuses true stale other a b c = cc
none_refuses false true other a b c = cc
none_refuses false false true a b c = cc

-- the tests of a steady post

there_is : (task : ℕ) → is_no_task task ≡ false → task < TASKS
there_is task e = ltb-true task TASKS (not-false _ e)

is_there : (task : ℕ) → task < TASKS → is_no_task task ≡ false
is_there task low = ap not (lt-ltb task TASKS low)

is_within : (history : History) (task epoch : ℕ) → task_epoch history task ≤ epoch → epoch ≤ epoch_of history → is_stale_epoch history task epoch ≡ false
is_within history task epoch from most =
    ap (λ b. b || nat_lt (epoch_of history) epoch) (le-ltb epoch (task_epoch history task) from) ∙ le-ltb (epoch_of history) epoch most

fits : (history : History) (task : ℕ) (bytes : List ℕ) → length bytes ≡ output_length (task_places task (line_of history)) → not (length bytes == output_length (task_places task (line_of history))) ≡ false
fits history task bytes size = ap not (eq-eqb (length bytes) (output_length (task_places task (line_of history))) size)

is_one : (history : History) (task epoch : ℕ) (bytes : List ℕ) → answer_to history (PostsSteady task epoch bytes) ≡ answer.Posted → IsSteadyPost history task epoch bytes
is_one history task epoch bytes accepted =
    let lengths = (not (length bytes == output_length (task_places task (line_of history))), PostLength) ∷ [] in
    let first = passed (is_no_task task) NoSuchTask ((is_stale_epoch history task epoch, StalePost) ∷ lengths) (not_refused (lowest (post_steady_faults history task epoch bytes)) accepted) in
    let second = passed (is_stale_epoch history task epoch) StalePost lengths first.1 in
    let third = passed (not (length bytes == output_length (task_places task (line_of history)))) PostLength [] second.1 in
    let epochs = or_parts (nat_lt epoch (task_epoch history task)) (nat_lt (epoch_of history) epoch) second.0 in
    record {
      there = there_is task first.0;
      from = ltb-false epoch (task_epoch history task) epochs.0;
      most = ltb-false (epoch_of history) epoch epochs.1;
      size = eqb-true (length bytes) (output_length (task_places task (line_of history))) (not-false _ third.0);
    }

one_is : (history : History) (task epoch : ℕ) (bytes : List ℕ) → IsSteadyPost history task epoch bytes → answer_to history (PostsSteady task epoch bytes) ≡ answer.Posted
one_is history task epoch bytes post =
    ap (λ refused. unless refused answer.Posted)
    (none_refuses (is_no_task task) (is_stale_epoch history task epoch) (not (length bytes == output_length (task_places task (line_of history))))
    (is_there task post.there) (is_within history task epoch post.from post.most) (fits history task bytes post.size))

pub steady-accepted : (history : History) (task epoch : ℕ) (bytes : List ℕ) → (answer_to history (PostsSteady task epoch bytes) ≡ answer.Posted) ↔ IsSteadyPost history task epoch bytes
steady-accepted history task epoch bytes = (is_one history task epoch bytes, one_is history task epoch bytes)

-- and the epochs that are refused

stale_is : (none stale other : Bool) → none ≡ false → unless (judged none stale other) answer.Posted ≡ answer.Refused StalePost → stale ≡ true
stale_is true stale other there e = cc
stale_is false true other there e = refl
stale_is false false true there e = cc
stale_is false false false there e = cc

is_refused : (none stale other : Bool) → none ≡ false → stale ≡ true → unless (judged none stale other) answer.Posted ≡ answer.Refused StalePost
is_refused false true other a b = refl
is_refused true stale other a b = cc
is_refused false false other a b = cc

epoch_is : (history : History) (task epoch : ℕ) → is_stale_epoch history task epoch ≡ true → (epoch < task_epoch history task) ⊎ (epoch_of history < epoch)
epoch_is history task epoch stale =
    ⊎_elim (λ below. inl (ltb-true epoch (task_epoch history task) below)) (λ above. inr (ltb-true (epoch_of history) epoch above))
    (or_cases (nat_lt epoch (task_epoch history task)) (nat_lt (epoch_of history) epoch) stale)

is_epoch : (history : History) (task epoch : ℕ) → (epoch < task_epoch history task) ⊎ (epoch_of history < epoch) → is_stale_epoch history task epoch ≡ true
is_epoch history task epoch outside =
    ⊎_elim (λ below. or_left (nat_lt epoch (task_epoch history task)) (nat_lt (epoch_of history) epoch) (lt-ltb epoch (task_epoch history task) below))
    (λ above. or_right (nat_lt epoch (task_epoch history task)) (nat_lt (epoch_of history) epoch) (lt-ltb (epoch_of history) epoch above)) outside

pub steady-stale : (history : History) (task epoch : ℕ) (bytes : List ℕ) → task < TASKS
    → (answer_to history (PostsSteady task epoch bytes) ≡ answer.Refused StalePost) ↔ ((epoch < task_epoch history task) ⊎ (epoch_of history < epoch))
steady-stale history task epoch bytes low =
    let other = not (length bytes == output_length (task_places task (line_of history))) in (
      λ e. epoch_is history task epoch (stale_is (is_no_task task) (is_stale_epoch history task epoch) other (is_there task low) e),
      λ outside. is_refused (is_no_task task) (is_stale_epoch history task epoch) other (is_there task low) (is_epoch history task epoch outside),
    )

-- a post of the present epoch, and any that is accepted

itself : (n : ℕ) → n ≤ n
itself n = omega arith

same_faults : (history : History) (task : ℕ) (bytes : List ℕ) → lowest (post_steady_faults history task (epoch_of history) bytes) ≡ lowest (post_faults history task (epoch_of history) bytes)
same_faults history task bytes =
    ap (λ stale. judged (is_no_task task) stale (not (length bytes == output_length (task_places task (line_of history)))))
    (is_within history task (epoch_of history) (epochs-bounded history task) (itself (epoch_of history)) ∙ sym (ap not (same_is (epoch_of history))))

pub posts-alike : (history : History) (task : ℕ) (bytes : List ℕ) → IsAnsweredAsPost history task (epoch_of history) bytes
posts-alike history task bytes = record {
  answer = ap (λ refused. unless refused answer.Posted) (same_faults history task bytes);
  entries = ap (λ refused. unless_fault refused history (Posted task bytes ∷ history)) (same_faults history task bytes);
}

of_the_epoch : (history : History) (task epoch : ℕ) (bytes : List ℕ) → answer_to history (Posts task epoch bytes) ≡ answer.Posted → epoch ≡ epoch_of history
of_the_epoch history task epoch bytes accepted =
    let lengths = (not (length bytes == output_length (task_places task (line_of history))), PostLength) ∷ [] in
    let first = passed (is_no_task task) NoSuchTask ((not (epoch == epoch_of history), StalePost) ∷ lengths) (not_refused (lowest (post_faults history task epoch bytes)) accepted) in
    eqb-true epoch (epoch_of history) (not-false _ (passed (not (epoch == epoch_of history)) StalePost lengths first.1).0)

pub accepted-alike : (history : History) (task epoch : ℕ) (bytes : List ℕ) → answer_to history (Posts task epoch bytes) ≡ answer.Posted → IsAnsweredAsPost history task epoch bytes
accepted-alike history task epoch bytes accepted =
    subst (λ n. IsAnsweredAsPost history task n bytes) (sym (of_the_epoch history task epoch bytes accepted)) (posts-alike history task bytes)

-- over an edit that leaves the task's epoch and its table

one_more : (epoch own : ℕ) → own ≤ epoch → own ≤ epoch + 1
one_more epoch own most = omega arith

pub posts-stay : (history : History) (edit : Edit) (task epoch : ℕ) (bytes : List ℕ) → task_epoch (Edited edit ∷ history) task ≡ task_epoch history task
    → task_table (line_of (Edited edit ∷ history)) task ≡ task_table (line_of history) task → answer_to history (PostsSteady task epoch bytes) ≡ answer.Posted
    → answer_to (Edited edit ∷ history) (PostsSteady task epoch bytes) ≡ answer.Posted
posts-stay history edit task epoch bytes same table accepted =
    let post = is_one history task epoch bytes accepted in
    one_is (Edited edit ∷ history) task epoch bytes (record {
      there = post.there;
      from = subst (λ n. n ≤ epoch) (sym same) post.from;
      most = one_more (epoch_of history) epoch post.most;
      size = post.size ∙ sym (ap (λ (found : TaskTable). found.outputs) table);
    })

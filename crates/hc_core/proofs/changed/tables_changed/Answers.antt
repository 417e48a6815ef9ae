use Rattle.std.proofs.Common.{◌≡◌, ℕ, ◌+◌, ◌==◌, ◌||◌, Bool, List, ◌∷◌, add-one, drop, drop-cons, ap, sym, ◌∙◌, rules}
use Rattle.std.specs.List.{list_any}
use Rattle.std.proofs.lemmas.List.{drop_all}
use Rattle.hc_places.specs.Swap.{ChangedTask}
use Rattle.hc_owed.specs.TaskSets.{has_task}
use Rattle.hc_owed.proofs.lemmas.TaskSums.{none-any, whole-any, with-any}
use Rattle.hc_core.proofs.changed.tables_changed.Goals as goal

pub loop-changed-init : goal.loop-changed-init
loop-changed-init c = λ task low.
    none-any task (list_any (λ (one : ChangedTask). one.0 == task) c.tasks-tasks.result.now) low c.none-set.result c.none-set.ensures
    ∙ ap (list_any (λ (one : ChangedTask). one.0 == task)) c.tasks-tasks.ensures.tasks

pub loop-changed-preserved : goal.loop-changed-preserved
loop-changed-preserved c = λ task low.
    let test : ChangedTask → Bool = λ one. one.0 == task in
    let i = c.loop-changed.changed-index in
    let rest = list_any test (drop (i + 1) c.tasks-tasks.result.now) in
    let split : drop i c.tasks-tasks.result.now ≡ c.changed-item.result ∷ drop (i + 1) c.tasks-tasks.result.now = search (rules, drop-cons, add-one) in
    with-any task c.number.result c.loop-changed.set c.with_task-set.result rest low c.with_task-set.ensures
    ∙ ap (λ (n : ℕ). has_task task c.loop-changed.set || ((n == task) || rest)) c.number.ensures.value
    ∙ ap (λ (b : Bool). has_task task c.loop-changed.set || b) (sym (ap (list_any test) split))
    ∙ c.loop-changed.invariant task low

pub returns : goal.returns
returns c = λ task low.
    whole-any task c.loop-changed.set
    ∙ ap (λ (l : List ChangedTask). has_task task c.loop-changed.set || list_any (λ (one : ChangedTask). one.0 == task) l)
    (sym (drop_all c.loop-changed.changed-index c.tasks-tasks.result.now c.loop-changed-test.false))
    ∙ c.loop-changed.invariant task low

use Rattle.std.proofs.Common.{◌≡◌, ◌+◌, ◌||◌, Bool, List, ◌∷◌, add-one, drop, drop-cons, ap, ap₂, sym, ◌∙◌, rules}
use Rattle.std.specs.List.{list_any}
use Rattle.std.proofs.lemmas.List.{drop_all}
use Rattle.hc_places.specs.Swap.{ChangedRow}
use Rattle.hc_events.specs.Steady.{lies_in_task}
use Rattle.hc_owed.specs.TaskSets.{has_task}
use Rattle.hc_owed.proofs.lemmas.TaskSums.{either-has, more-any, none-any, whole-any}
use Rattle.hc_core.specs.Changed.{row_lies}
use Rattle.hc_core.proofs.changed.places_changed.Goals as goal

pub loop-changed-init : goal.loop-changed-init
loop-changed-init c = λ task low.
    none-any task (list_any (row_lies c.args.places.now task) c.changes-rows.result.now) low c.none-set.result c.none-set.ensures
    ∙ ap (list_any (row_lies c.args.places.now task)) c.changes-rows.ensures.rows

pub loop-changed-preserved : goal.loop-changed-preserved
loop-changed-preserved c = λ task low.
    let test = row_lies c.args.places.now task in
    let i = c.loop-changed.changed-index in
    let rest = list_any test (drop (i + 1) c.changes-rows.result.now) in
    let split : drop i c.changes-rows.result.now ≡ c.changed-item.result ∷ drop (i + 1) c.changes-rows.result.now = search (rules, drop-cons, add-one) in
    let one : has_task task c.with.result ≡ test c.changed-item.result =
    either-has task c.task_of-was.result c.task_of.result c.with.result low c.with.ensures
    ∙ ap₂ (λ (a b : Bool). a || b)
    (c.task_of-was.ensures task low ∙ ap (lies_in_task task) c.old_place.ensures)
    (c.task_of.ensures task low ∙ ap (lies_in_task task) c.place.ensures) in
    more-any task c.loop-changed.set c.with.result c.with-set.result (test c.changed-item.result) rest low c.with-set.ensures one
    ∙ ap (λ (b : Bool). has_task task c.loop-changed.set || b) (sym (ap (list_any test) split))
    ∙ c.loop-changed.invariant task low

pub returns-clause-tasks : goal.returns-clause-tasks
returns-clause-tasks c = λ task low.
    whole-any task c.loop-changed.set
    ∙ ap (λ (l : List ChangedRow). has_task task c.loop-changed.set || list_any (row_lies c.args.places.now task) l)
    (sym (drop_all c.loop-changed.changed-index c.changes-rows.result.now c.loop-changed-test.false))
    ∙ c.loop-changed.invariant task low

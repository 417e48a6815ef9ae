use Rattle.std.proofs.Common.{◌≡◌, ℕ, ◌+◌, ◌-◌, ◌*◌, ◌/◌, ◌<◌, ◌≤◌, ◌||◌, Bool, ap, sym, ◌∙◌, arith}
use Rattle.std.specs.List.{list_any, range_with_len}
use Rattle.hc_owed.specs.ChangedTasks.{own_at}
use Rattle.hc_owed.specs.TaskSets.{has_task}
use Rattle.hc_owed.proofs.ChangedTasks.{row-any, row-over}
use Rattle.hc_owed.proofs.lemmas.TaskSums.{more-any, none-any, whole-any}
use Rattle.hc_owed.proofs.readiness.Readiness.tasks_left.Goals as goal

pub loop-n-init : goal.loop-n-init
loop-n-init c = λ task low.
    let first = 8 * (c.args.gone.rank - 1) in
    let count = 8 * c.args.gone.slaves in
    let from : c.first_place-from.result / 2 ≡ first = omega (arith, c.first_place-from.ensures) in
    let size : first + count - first ≡ count = omega arith in
    let test : ℕ → Bool = λ i. has_task task (own_at c.args.self.now i) in
    none-any task (list_any test (range_with_len (c.first_place-from.result / 2) (first + count - c.first_place-from.result / 2))) low c.none-set.result c.none-set.ensures
    ∙ ap (λ (n : ℕ). list_any test (range_with_len n (first + count - n))) from
    ∙ ap (λ (n : ℕ). list_any test (range_with_len first n)) size

pub loop-n-preserved : goal.loop-n-preserved
loop-n-preserved c = λ task low.
    let first = 8 * (c.args.gone.rank - 1) in
    let count = 8 * c.args.gone.slaves in
    let n = c.loop-n.n in
    let test : ℕ → Bool = λ i. has_task task (own_at c.args.self.now i) in
    let within : n < first + count = omega (arith, c.loop-n-test.true, c.first_place-from.ensures, c.from.ensures) in
    more-any task c.loop-n.set c.own.result c.with-set.result (test n) (list_any test (range_with_len (n + 1) (first + count - (n + 1)))) low c.with-set.ensures (ap (has_task task) c.own.ensures)
    ∙ ap (λ (b : Bool). has_task task c.loop-n.set || b) (sym (row-any test n (first + count) within))
    ∙ c.loop-n.invariant task low

pub returns : goal.returns
returns c = λ task low.
    let first = 8 * (c.args.gone.rank - 1) in
    let count = 8 * c.args.gone.slaves in
    let n = c.loop-n.n in
    let test : ℕ → Bool = λ i. has_task task (own_at c.args.self.now i) in
    let over : first + count ≤ n = omega (arith, c.loop-n-test.false, c.first_place-from.ensures, c.from.ensures) in
    whole-any task c.loop-n.set ∙ ap (λ (b : Bool). has_task task c.loop-n.set || b) (sym (row-over test n (first + count) over)) ∙ c.loop-n.invariant task low

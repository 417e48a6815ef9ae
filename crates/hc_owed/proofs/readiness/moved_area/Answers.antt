use Rattle.std.proofs.Common.{◌≡◌, ℕ, ◌%◌, ◌==◌, Bool, true, cond, Some, sym, ap, ◌∙◌, rules}
use Rattle.std.proofs.lemmas.Bool.{eq-eqb}
use Rattle.hc_registers.specs.RankDifferences.{block_place}
use Rattle.hc_events.specs.Ready.{is_fmmu}
use Rattle.hc_owed.specs.declared.task_set.TaskSet.{TaskSet}
use Rattle.hc_owed.specs.Areas.{fmmu_moved, sync_manager_moved}
use Rattle.hc_owed.specs.Readiness.{own_set}
use Rattle.hc_owed.proofs.JudgedAreas.{own-named}
use Rattle.hc_owed.proofs.readiness.moved_area.Goals as goal

pub returns-then-place-eq1 : goal.returns-then-place-eq1
returns-then-place-eq1 c =
    let moved = c.args.moved.now in
    let owes = c.args.owes in
    let area = c.args.area in
    let odd : is_fmmu (block_place moved) ≡ true = ap (λ (k : ℕ). k % 2 == 1) (sym c.place.ensures) ∙ eq-eqb (c.place.result % 2) 1 c.if-place-eq1.true in
    c.fmmu_moved.ensures
    ∙ ap (λ (s : TaskSet). fmmu_moved s owes area) (c.of-own.ensures ∙ own-named moved.found c.named_task.result (search rules))
    ∙ ap (λ (t : Bool). cond t (fmmu_moved (own_set (Some moved.found)) owes area) (sync_manager_moved owes area)) (sym odd)

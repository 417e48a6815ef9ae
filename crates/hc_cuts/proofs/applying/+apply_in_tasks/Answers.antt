use Rattle.std.proofs.Common.{◌≡◌, ℕ, suc, ◌+◌, ◌*◌, ◌≤◌, List, None, Some, length, ◌∷◌, ap, length-append, slice_index_or, sym, subst, ◌∙◌, arith}
use Rattle.hc_records.specs.declared.records.Area.{Area}
use Rattle.hc_cuts.specs.Starts.{TaskCuts}
use Rattle.hc_cuts.specs.TaskCuts.{over_limit_from, both_task_cuts, task_cuts_from}
use Rattle.hc_cuts.specs.Recut.{recut_from, touched_by, touched_from}
use Rattle.hc_cuts.proofs.WidthsApply.{first-over_limit, parts, rest-over_limit, set-again, set-at, set-first, split-tasks}
use Rattle.hc_cuts.proofs.lemmas.Applying.{answer_given-back}
use Rattle.hc_cuts.proofs.applying.+apply_in_tasks.Goals as goal

-- the steps of the first task and those of the rest
more : (count task start mid last : ℕ) (old new : List (List Area)) → mid ≤ start + 1664 * touched_by task old new → last ≤ mid + 1664 * touched_from count (task + 1) old new
    → last ≤ start + 1664 * touched_from (suc count) task old new
more count task start mid last old new first rest = omega arith

pub returns-in_default-clause-refused : goal.returns-in_default-clause-refused
returns-in_default-clause-refused g t c = λ old new apply_widths.
    let s = c.split_at_mut-these in
    let p = parts c.args.task c.args.change.now old new c.args.tasks.now s.result.0.now s.result.1.now c.index-these-0-2.result s.ensures.value s.ensures.front_len apply_widths in
    subst (λ (n : ℕ). over_limit_from n c.args.task new ≡ Some c.args.task) (sym p.2)
    (first-over_limit (length s.result.1.now) c.args.task new (c.in_default.ensures.refused old new p.0))

pub restore_in_task-requires : goal.restore_in_task-requires
restore_in_task-requires g t c =
    let s = c.split_at_mut-these in
    let r = c.requires.lines in
    let p = parts c.args.task c.args.change.now r.old r.new c.args.tasks.now s.result.0.now s.result.1.now c.index-these-0-2.result s.ensures.value s.ensures.front_len r.apply_widths in
    record {
      old = r.new;
      new = r.old;
      lines = answer_given-back c.args.change.now c.back-back.result r.old r.new c.back-back.ensures r.apply_widths.lines;
      holds =
          ap (λ (k : TaskCuts). k.tree)
          (set-at s.result.0.now c.apply_in_task.new.cuts c.index-these-0-in-Err.result s.ensures.front_len ∙ c.in-Ok.ensures.applied r.old r.new p.0);
    }

pub returns-in-Ok-apply_in_tasks-clause-applied : goal.returns-in-Ok-apply_in_tasks-clause-applied
returns-in-Ok-apply_in_tasks-clause-applied g t c = λ old new apply_widths.
    let s = c.split_at_mut-these in
    let p = parts c.args.task c.args.change.now old new c.args.tasks.now s.result.0.now s.result.1.now c.index-these-0-2.result s.ensures.value s.ensures.front_len apply_widths in
    set-first s.result.0.now c.apply_in_tasks.new.tasks c.apply_in_task.new.cuts s.ensures.front_len
    ∙ ap (λ (k : TaskCuts). k ∷ c.apply_in_tasks.new.tasks) (c.in-Ok.ensures.applied old new p.0)
    ∙ ap (λ (ks : List TaskCuts). both_task_cuts c.args.task new ∷ ks) (c.in-Ok-apply_in_tasks.ensures.applied old new p.1)
    ∙ ap (λ (n : ℕ). task_cuts_from n c.args.task new) (sym p.2)

pub returns-in-Ok-apply_in_tasks-clause-accepted : goal.returns-in-Ok-apply_in_tasks-clause-accepted
returns-in-Ok-apply_in_tasks-clause-accepted g t c = λ old new apply_widths.
    let s = c.split_at_mut-these in
    let p = parts c.args.task c.args.change.now old new c.args.tasks.now s.result.0.now s.result.1.now c.index-these-0-2.result s.ensures.value s.ensures.front_len apply_widths in
    subst (λ (n : ℕ). over_limit_from n c.args.task new ≡ None) (sym p.2)
    (rest-over_limit (length s.result.1.now) c.args.task new None (c.in-Ok.ensures.fits old new p.0) (c.in-Ok-apply_in_tasks.ensures.accepted old new p.1))

pub returns-in-Err-clause-refused : goal.returns-in-Err-clause-refused
returns-in-Err-clause-refused g t c = λ old new apply_widths.
    let s = c.split_at_mut-these in
    let p = parts c.args.task c.args.change.now old new c.args.tasks.now s.result.0.now s.result.1.now c.index-these-0-2.result s.ensures.value s.ensures.front_len apply_widths in
    subst (λ (n : ℕ). over_limit_from n c.args.task new ≡ Some c.in-Err.over_limit) (sym p.2)
    (rest-over_limit (length s.result.1.now) c.args.task new (Some c.in-Err.over_limit) (c.in-Ok.ensures.fits old new p.0) (c.in-Err.ensures.refused old new p.1))

pub returns-in-Err-clause-unchanged : goal.returns-in-Err-clause-unchanged
returns-in-Err-clause-unchanged g t c =
    let s = c.split_at_mut-these in
    let r = c.requires.lines in
    let p = parts c.args.task c.args.change.now r.old r.new c.args.tasks.now s.result.0.now s.result.1.now c.index-these-0-2.result s.ensures.value s.ensures.front_len r.apply_widths in
    let q = parts c.args.task c.args.change.now r.old r.new c.args.tasks.now s.result.0.now s.result.1.now c.index-these-0.result s.ensures.value s.ensures.front_len r.apply_widths in
    let holds =
    ap (λ (k : TaskCuts). k.tree)
    (set-at s.result.0.now c.apply_in_task.new.cuts c.index-these-0-in-Err.result s.ensures.front_len ∙ c.in-Ok.ensures.applied r.old r.new p.0) in
    let restore_widths = c.restore_in_task.ensures r.new r.old (answer_given-back c.args.change.now c.back-back.result r.old r.new c.back-back.ensures r.apply_widths.lines) holds (c.copied_starts-starts.ensures ∙ ap (λ (k : TaskCuts). k.starts) q.0.of_old) in
    set-again s.result.0.now c.apply_in_tasks.new.tasks c.apply_in_task.new.cuts c.restore_in_task.new.cuts s.ensures.front_len
    ∙ ap (λ (k : TaskCuts). k ∷ c.apply_in_tasks.new.tasks) (restore_widths ∙ sym q.0.of_old)
    ∙ ap (λ (ks : List TaskCuts). slice_index_or s.result.0.now 0 c.index-these-0.result ∷ ks) c.in-Err.ensures.unchanged
    ∙ sym (split-tasks s.result.0.now s.result.1.now c.args.tasks.now c.index-these-0.result (sym s.ensures.value) s.ensures.front_len)

pub returns-in-Ok-apply_in_tasks-clause-recut : goal.returns-in-Ok-apply_in_tasks-clause-recut
returns-in-Ok-apply_in_tasks-clause-recut g t c = λ old new apply_widths.
    let s = c.split_at_mut-these in
    let p = parts c.args.task c.args.change.now old new c.args.tasks.now s.result.0.now s.result.1.now c.index-these-0-2.result s.ensures.value s.ensures.front_len apply_widths in
    subst (λ (n : ℕ). c.in-Ok.recut + c.in-Ok-apply_in_tasks.after_it ≡ recut_from n c.args.task old new) (sym p.2)
    (omega (arith, c.in-Ok.ensures.recut old new p.0, c.in-Ok-apply_in_tasks.ensures.recut old new p.1))

pub returns-in-Ok-apply_in_tasks-clause-steps : goal.returns-in-Ok-apply_in_tasks-clause-steps
returns-in-Ok-apply_in_tasks-clause-steps g t c = λ old new apply_widths.
    let s = c.split_at_mut-these in
    let p = parts c.args.task c.args.change.now old new c.args.tasks.now s.result.0.now s.result.1.now c.index-these-0-2.result s.ensures.value s.ensures.front_len apply_widths in
    subst (λ (n : ℕ). c.apply_in_tasks.new.steps ≤ c.args.steps.now + 1664 * touched_from n c.args.task old new) (sym p.2)
    (more (length s.result.1.now) c.args.task c.args.steps.now c.apply_in_task.new.steps c.apply_in_tasks.new.steps old new (c.in-Ok.ensures.steps old new p.0) (c.in-Ok-apply_in_tasks.ensures.steps old new p.1))

pub returns-in-Err-clause-steps : goal.returns-in-Err-clause-steps
returns-in-Err-clause-steps g t c = λ old new apply_widths.
    let s = c.split_at_mut-these in
    let p = parts c.args.task c.args.change.now old new c.args.tasks.now s.result.0.now s.result.1.now c.index-these-0-2.result s.ensures.value s.ensures.front_len apply_widths in
    subst (λ (n : ℕ). c.apply_in_tasks.new.steps ≤ c.args.steps.now + 1664 * touched_from n c.args.task old new) (sym p.2)
    (more (length s.result.1.now) c.args.task c.args.steps.now c.apply_in_task.new.steps c.apply_in_tasks.new.steps old new (c.in-Ok.ensures.steps old new p.0) (c.in-Err.ensures.steps old new p.1))

pub returns-in_default-clause-steps : goal.returns-in_default-clause-steps
returns-in_default-clause-steps g t c = λ old new apply_widths.
    let s = c.split_at_mut-these in
    let p = parts c.args.task c.args.change.now old new c.args.tasks.now s.result.0.now s.result.1.now c.index-these-0-2.result s.ensures.value s.ensures.front_len apply_widths in
    subst (λ (n : ℕ). c.apply_in_task.new.steps ≤ c.args.steps.now + 1664 * touched_from n c.args.task old new) (sym p.2)
    (more (length s.result.1.now) c.args.task c.args.steps.now c.apply_in_task.new.steps c.apply_in_task.new.steps old new (c.in_default.ensures.steps old new p.0) (omega arith))

pub returns-in-Ok-apply_in_tasks-clause-few : goal.returns-in-Ok-apply_in_tasks-clause-few
returns-in-Ok-apply_in_tasks-clause-few g t c =
    let s = c.split_at_mut-these in
    omega (arith, ap length s.ensures.value, length-append s.result.0.now s.result.1.now, s.ensures.front_len, c.in-Ok.ensures.few, c.in-Ok-apply_in_tasks.ensures.few)

pub returns-in-Ok-apply_in_tasks-clause-least : goal.returns-in-Ok-apply_in_tasks-clause-least
returns-in-Ok-apply_in_tasks-clause-least g t c = omega (arith, c.in-Ok.ensures.least, c.in-Ok-apply_in_tasks.ensures.least)

pub returns-in-Ok-apply_in_tasks-clause-most : goal.returns-in-Ok-apply_in_tasks-clause-most
returns-in-Ok-apply_in_tasks-clause-most g t c = omega (arith, c.in-Ok.ensures.most, c.in-Ok-apply_in_tasks.ensures.most)

pub apply_in_task-requires : goal.apply_in_task-requires
apply_in_task-requires g t c =
    let s = c.split_at_mut-these in
    let r = c.requires.lines in
    let p = parts c.args.task c.args.change.now r.old r.new c.args.tasks.now s.result.0.now s.result.1.now c.index-these-0-2.result s.ensures.value s.ensures.front_len r.apply_widths in
    record { old = r.old; new = r.new; apply_widths = p.0 }

pub overflow_add-task : goal.overflow_add-task
overflow_add-task g t c = omega (arith, c.requires.numbers)

pub overflow_add-result : goal.overflow_add-result
overflow_add-result g t c =
    let s = c.split_at_mut-these in
    omega (arith, c.requires.numbers, ap length s.ensures.value, length-append s.result.0.now s.result.1.now, s.ensures.front_len, c.in-Ok.ensures.few, c.in-Ok-apply_in_tasks.ensures.few)

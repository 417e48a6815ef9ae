use Rattle.std.proofs.Common.{ℕ, ◌<◌, List, ◌∷◌, arith, ap, sym, ◌∙◌}
use Rattle.hc_records.specs.declared.limits.TheConstants.{TASKS}
use Rattle.hc_cuts.specs.Starts.{TaskCuts}
use Rattle.hc_cuts.specs.TaskCuts.{both_task_cuts, task_cuts_from}
use Rattle.hc_cuts.proofs.WidthsApply.{restore_widths-parts, set-first}
use Rattle.hc_cuts.proofs.applying.+restore_in_tasks.Goals as goal

pub returns : goal.returns
returns t c = λ old new restore_widths.
    let s = c.split_at_mut-these in
    let p =
    restore_widths-parts c.args.task c.args.change.now c.args.starts.now old new c.args.tasks.now s.result.0.now s.result.1.now c.index-these-0.result s.ensures.value s.ensures.front_len restore_widths in
    let low : c.args.task < TASKS = let numbers = c.requires.numbers in let many = p.2 in omega (arith, numbers, many) in
    let own = c.restore_in_task.ensures old new restore_widths.lines (ap (λ (k : TaskCuts). k.tree) p.0) (c.copied.ensures ∙ restore_widths.known c.args.task low) in
    set-first s.result.0.now c.restore_in_tasks.new.tasks c.restore_in_task.new.cuts s.ensures.front_len
    ∙ ap (λ (k : TaskCuts). k ∷ c.restore_in_tasks.new.tasks) own
    ∙ ap (λ (ks : List TaskCuts). both_task_cuts c.args.task new ∷ ks) (c.restore_in_tasks.ensures old new p.1)
    ∙ ap (λ (n : ℕ). task_cuts_from n c.args.task new) (sym p.2)

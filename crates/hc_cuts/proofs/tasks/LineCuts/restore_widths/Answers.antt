use Rattle.std.proofs.Common.{◌≡◌, ◌∙◌, ℕ, List, ap, length, subst, sym}
use Rattle.std.specs.Prelude.{All}
use Rattle.hc_cuts.specs.Starts.{TaskCuts}
use Rattle.hc_cuts.specs.TaskCuts.{IsCut, task_cuts_from}
use Rattle.hc_cuts.proofs.WidthsApply.{eight-restore_widths, restore_widths-back}
use Rattle.hc_cuts.proofs.tasks.LineCuts.restore_widths.Goals as goal

pub invariant_of-self : goal.invariant_of-self
invariant_of-self c =
    let r = c.requires in
    let s = c.as_mut_slice in
    let eight = ap length s.ensures.value ∙ c.self.invariant.0 in
    let own = eight-restore_widths c.args.self.now s.result.now c.args.change.now c.args.starts.now r.old r.new (s.ensures.value ∙ c.self.view_is) eight r.restore_widths in
    let is = c.restore_in_tasks.ensures r.old r.new own ∙ ap (λ (n : ℕ). task_cuts_from n 0 r.new) eight in
    let p = restore_widths-back c.self.inside.tasks.len c.self.inside.tasks.items c.restore_in_tasks.new.tasks r.new c.self.inside.tasks.ok.0 c.self.invariant.0 is in
    subst (λ (ks : List TaskCuts). (length ks ≡ 8) × All IsCut ks) (sym p.0) (p.1, p.2)

pub returns : goal.returns
returns c = λ old new restore_widths.
    let s = c.as_mut_slice in
    let eight = ap length s.ensures.value ∙ c.self.invariant.0 in
    let own = eight-restore_widths c.args.self.now s.result.now c.args.change.now c.args.starts.now old new (s.ensures.value ∙ c.self.view_is) eight restore_widths in
    let is = c.restore_in_tasks.ensures old new own ∙ ap (λ (n : ℕ). task_cuts_from n 0 new) eight in
    let p = restore_widths-back c.self.inside.tasks.len c.self.inside.tasks.items c.restore_in_tasks.new.tasks new c.self.inside.tasks.ok.0 c.self.invariant.0 is in
    p.0 ∙ is

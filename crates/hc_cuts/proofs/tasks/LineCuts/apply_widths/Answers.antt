use Rattle.std.proofs.Common.{◌≡◌, ◌*◌, ◌+◌, ◌≤◌, ◌∙◌, ℕ, List, ap, length, subst, sym}
use Rattle.std.specs.Prelude.{All, IfErr, IfOk, None, OnOk, Some}
use Rattle.std.proofs.lemmas.Result.{on_ok_weaker}
use Rattle.hc_records.specs.declared.limits.TheConstants.{MOST_DATAGRAMS}
use Rattle.hc_cuts.specs.Starts.{TaskCuts, most_read}
use Rattle.hc_cuts.specs.TaskCuts.{IsCut, over_limit_from, task_cuts_from}
use Rattle.hc_cuts.specs.Recut.{recut_from, touched_from}
use Rattle.hc_cuts.proofs.WidthsApply.{eight-apply_widths, given-back}
use Rattle.hc_cuts.proofs.tasks.LineCuts.apply_widths.Goals as goal

pub invariant_of-self : goal.invariant_of-self
invariant_of-self g c =
    let r = c.requires in
    let s = c.as_mut_slice in
    let own = eight-apply_widths c.args.self.now s.result.now c.args.change.now r.old r.new (s.ensures.value ∙ c.self.view_is) (ap length s.ensures.value ∙ c.self.invariant.0) r.apply_widths in
    let p =
    given-back c.self.inside.tasks.len c.self.inside.tasks.items s.result.now c.apply_in_tasks.new.tasks c.apply_in_tasks.result r.new c.self.inside.tasks.ok.0 s.ensures.value c.self.invariant
    (c.apply_in_tasks.ensures.applied r.old r.new own) c.apply_in_tasks.ensures.unchanged in
    subst (λ (ks : List TaskCuts). (length ks ≡ 8) × All IsCut ks) (sym p.0) (p.1, p.2)

pub returns-clause-applied : goal.returns-clause-applied
returns-clause-applied g c = λ old new apply_widths.
    let s = c.as_mut_slice in
    let own = eight-apply_widths c.args.self.now s.result.now c.args.change.now old new (s.ensures.value ∙ c.self.view_is) (ap length s.ensures.value ∙ c.self.invariant.0) apply_widths in
    let p =
    given-back c.self.inside.tasks.len c.self.inside.tasks.items s.result.now c.apply_in_tasks.new.tasks c.apply_in_tasks.result new c.self.inside.tasks.ok.0 s.ensures.value c.self.invariant
    (c.apply_in_tasks.ensures.applied old new own) c.apply_in_tasks.ensures.unchanged in
    on_ok_weaker c.apply_in_tasks.result (λ is. p.0 ∙ is ∙ ap (λ (n : ℕ). task_cuts_from n 0 new) (ap length s.ensures.value ∙ c.self.invariant.0)) (c.apply_in_tasks.ensures.applied old new own)

pub returns-clause-accepted : goal.returns-clause-accepted
returns-clause-accepted g c = λ old new apply_widths.
    let s = c.as_mut_slice in
    let eight = ap length s.ensures.value ∙ c.self.invariant.0 in
    let own = eight-apply_widths c.args.self.now s.result.now c.args.change.now old new (s.ensures.value ∙ c.self.view_is) eight apply_widths in
    subst (λ (n : ℕ). OnOk c.apply_in_tasks.result (over_limit_from n 0 new ≡ None)) eight (c.apply_in_tasks.ensures.accepted old new own)

pub returns-clause-refused : goal.returns-clause-refused
returns-clause-refused g c = λ old new apply_widths.
    let s = c.as_mut_slice in
    let eight = ap length s.ensures.value ∙ c.self.invariant.0 in
    let own = eight-apply_widths c.args.self.now s.result.now c.args.change.now old new (s.ensures.value ∙ c.self.view_is) eight apply_widths in
    subst (λ (n : ℕ). IfErr c.apply_in_tasks.result (λ task. over_limit_from n 0 new ≡ Some task)) eight (c.apply_in_tasks.ensures.refused old new own)

pub returns-clause-recut : goal.returns-clause-recut
returns-clause-recut g c = λ old new apply_widths.
    let s = c.as_mut_slice in
    let eight = ap length s.ensures.value ∙ c.self.invariant.0 in
    let own = eight-apply_widths c.args.self.now s.result.now c.args.change.now old new (s.ensures.value ∙ c.self.view_is) eight apply_widths in
    subst (λ (n : ℕ). IfOk c.apply_in_tasks.result (λ recut. recut ≡ recut_from n 0 old new)) eight (c.apply_in_tasks.ensures.recut old new own)

pub returns-clause-steps : goal.returns-clause-steps
returns-clause-steps g c = λ old new apply_widths.
    let s = c.as_mut_slice in
    let eight = ap length s.ensures.value ∙ c.self.invariant.0 in
    let own = eight-apply_widths c.args.self.now s.result.now c.args.change.now old new (s.ensures.value ∙ c.self.view_is) eight apply_widths in
    subst (λ (n : ℕ). c.apply_in_tasks.new.steps ≤ c.args.steps.now + most_read * MOST_DATAGRAMS * touched_from n 0 old new) eight (c.apply_in_tasks.ensures.steps old new own)

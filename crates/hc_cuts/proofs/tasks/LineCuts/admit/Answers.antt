use Rattle.std.proofs.Common.{◌≡◌, ◌∙◌, List, length, subst, sym}
use Rattle.std.specs.Prelude.{All}
use Rattle.hc_cuts.specs.Starts.{TaskCuts}
use Rattle.hc_cuts.specs.TaskCuts.{IsCut}
use Rattle.hc_cuts.proofs.WidthsApply.{restore_widths-back}
use Rattle.hc_cuts.proofs.Wider.{each-room, fewer-wider, line-wider}
use Rattle.hc_cuts.proofs.tasks.LineCuts.admit.Goals as goal

pub admit_all-requires : goal.admit_all-requires
admit_all-requires c = each-room c.args.self.now c.as_mut_slice.result.now c.args.slaves (c.as_mut_slice.ensures.value ∙ c.self.view_is) c.requires

pub invariant_of-self : goal.invariant_of-self
invariant_of-self c =
    let fewer = c.requires.fewer in
    let is = fewer-wider c.args.slaves c.args.self.now c.as_mut_slice.result.now c.admit_all.new.tasks fewer (c.as_mut_slice.ensures.value ∙ c.self.view_is) c.admit_all.ensures in
    let p = restore_widths-back c.self.inside.tasks.len c.self.inside.tasks.items c.admit_all.new.tasks _ c.self.inside.tasks.ok.0 c.self.invariant.0 is in
    subst (λ (ks : List TaskCuts). (length ks ≡ 8) × All IsCut ks) (sym p.0) (p.1, p.2)

pub returns : goal.returns
returns c = λ line count are_placed many.
    let is = line-wider c.args.slaves count line c.args.self.now c.as_mut_slice.result.now c.admit_all.new.tasks (c.as_mut_slice.ensures.value ∙ c.self.view_is) are_placed many c.admit_all.ensures in
    let p = restore_widths-back c.self.inside.tasks.len c.self.inside.tasks.items c.admit_all.new.tasks _ c.self.inside.tasks.ok.0 c.self.invariant.0 is in
    p.0 ∙ is

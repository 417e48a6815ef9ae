use Rattle.std.proofs.Common.{subst, sym}
use Rattle.hc_records.specs.Line.{State}
use Rattle.hc_plan.specs.declared.work.Work.{Work}
use Rattle.hc_plan.specs.inner.Declaring.{CanDeclare}
use Rattle.hc_plan.specs.inner.Prepared.{IsWorkReady}
use Rattle.hc_plan.proofs.Preparing.{declared-line}
use Rattle.hc_plan.proofs.plan.Plan.carry_work.Goals as goal

pub invariant_of-self : goal.invariant_of-self
invariant_of-self c =
    let groups = c.self.inside.groups in
    let declaration = c.in-NewGroup.declaration in
    let ready = subst (λ (w : Work). IsWorkReady c.args.self.now c.args.report.now w) c.in-NewGroup.is c.requires.ready in
    let can = subst (λ (s : State). CanDeclare s.groups declaration) (sym c.self.view_is) ready in
    let after = declared-line groups c.carry_out.new.groups declaration can c.carry_out.ensures.groups c.self.inside.places c.self.invariant.1 c.self.invariant.2 in
    (after.project, after.fits, after.is_placed, c.carry_out.ensures.cuts, c.carry_out.ensures.index, c.carry_out.ensures.blocks)

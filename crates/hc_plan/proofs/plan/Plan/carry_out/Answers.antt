use Rattle.std.proofs.Common.{◌∙◌, List, ap, sym, subst}
use Rattle.hc_records.specs.Line.{State}
use Rattle.hc_registers.specs.Ranked.{RankedBlock}
use Rattle.hc_plan.specs.Prepared.{PreparedEdit}
use Rattle.hc_plan.specs.inner.Prepared.{CanCarry}
use Rattle.hc_plan.proofs.plan.Plan.carry_out.Goals as goal

pub carry_work-requires : goal.carry_work-requires
carry_work-requires c =
    let inside = c.prepared.inside in
    subst (λ (s : State). CanCarry s inside.report inside.work c.as_slice.result.now) (ap (λ (p : PreparedEdit). p.old) c.prepared.view_is ∙ c.requires)
    (subst (λ (moved : List RankedBlock). CanCarry inside.was.value inside.report inside.work moved) (sym c.as_slice.ensures.value) (record { ready = c.prepared.invariant.1; prepared = c.prepared.invariant.0 }))

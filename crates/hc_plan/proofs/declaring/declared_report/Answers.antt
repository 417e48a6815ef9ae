use Rattle.std.proofs.Common.{[], refl, subst}
use Rattle.hc_places.specs.Swap.{LeadsAsSaid}
use Rattle.hc_plan.proofs.Declared.{shows-nothing}
use Rattle.hc_plan.proofs.declaring.declared_report.Goals as goal

pub returns : goal.returns
returns c =
    let leads = subst (λ tasks. LeadsAsSaid (record { tasks = tasks; rows = c.new-2.result.items }) c.in_ok-swap.swap) c.new.ensures.items c.in_ok-swap.ensures.leads in
    shows-nothing (record { groups = c.args.groups.now; epoch = c.args.epoch }) c.args.edit.now _ c.requires.project refl refl refl c.new-3.ensures c.in_ok-swap.ensures.edit
    (subst (λ rows. LeadsAsSaid (record { tasks = []; rows = rows }) c.in_ok-swap.swap) c.new-2.ensures.items leads)

use Rattle.std.proofs.Common.{ap, set, sym, ◌∙◌}
use Rattle.std.proofs.lemmas.List.Edits.{map_over_more}
use Rattle.hc_cuts.specs.Starts.{cuts_with_slaves}
use Rattle.hc_cuts.proofs.widening.admit_all.Goals as goal

pub loop-task-preserved : goal.loop-task-preserved
loop-task-preserved c =
    let l = c.loop-task in
    ap (set l.tasks l.task-index) (c.admit.ensures.admitted ∙ ap (cuts_with_slaves c.args.slaves) (sym c.task-item.is))
    ∙ map_over_more (cuts_with_slaves c.args.slaves) c.args.tasks.now l.tasks l.task-index c.task-item.result c.loop-task-test.true l.invariant c.task-item.is

use Rattle.std.proofs.Common.{subst, arith}
use Rattle.std.specs.Prelude.{slice_index_or}
use Rattle.hc_cuts.specs.Cursors.{IsCursorOf}
use Rattle.hc_cuts.specs.Starts.{TaskCuts}
use Rattle.hc_cuts.proofs.Finding.{unchanged-same, one-moved}
use Rattle.hc_cuts.proofs.tasks.LineCuts.place_from.Goals as goal

pub place_from-requires-clause-stood : goal.place_from-requires-clause-stood
place_from-requires-clause-stood c =
    let own = c.index.result.now in
    subst (λ (unchanged : TaskCuts). IsCursorOf unchanged.starts unchanged.tree.list (slice_index_or c.args.cursors.now c.as_index-task.result _))
    (unchanged-same c.self.inside.tasks.items c.args.self.now c.as_index-task.result own c.self.view_is c.index.ensures)
    (c.requires c.as_index-task.result own _ (omega (arith, c.as_index-task.ensures.value)))

pub returns-clause-in_tasks : goal.returns-clause-in_tasks
returns-clause-in_tasks c =
    one-moved c.self.inside.tasks.items c.args.self.now c.args.cursors.now c.as_index-task.result c.index.result.now _ c.self.view_is
    (omega (arith, c.as_index-task.ensures.value, c.self.invariant.0)) (omega (arith, c.as_index-task.ensures.value, c.told-cursors)) c.requires c.index.ensures
    c.place_from.ensures.in_task

use Rattle.std.proofs.Common.{List, replicate, subst}
use Rattle.hc_cuts.specs.Starts.{TaskCuts}
use Rattle.hc_cuts.specs.LineCursors.{AreInTasks}
use Rattle.hc_cuts.proofs.Finding.{all-are_placed}
use Rattle.hc_cuts.proofs.tasks.LineCuts.cursors.Goals as goal

pub returns : goal.returns
returns c =
    subst (λ (tasks : List TaskCuts). AreInTasks tasks (replicate 8 c.start.result)) c.self.view_is
    (all-are_placed c.self.inside.tasks.items c.start.result c.self.invariant.0 c.self.invariant.1 c.start.ensures)

use Rattle.std.proofs.Common.{arith}
use Rattle.hc_cuts.specs.Starts.{empty_task_cuts}
use Rattle.hc_cuts.proofs.Lines.{eight-absent, line-is, replicate-more}
use Rattle.hc_cuts.proofs.tasks.LineCuts.new.Goals as goal

pub loop-init : goal.loop-init
loop-init c = c.in_ok-tasks.ensures.items

pub loop-preserved : goal.loop-preserved
loop-preserved c =
    rw (c.in_ok-push.ensures.items, c.in_ok-new.ensures, c.loop.invariant) (replicate-more c.loop.counter (empty_task_cuts c.args.slaves))

pub invariant_of-result : goal.invariant_of-result
invariant_of-result c = grind (arith, line-is, eight-absent)

pub returns : goal.returns
returns c = grind (arith, eight-absent)

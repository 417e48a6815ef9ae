use Rattle.std.proofs.Common.{arith}
use Rattle.hc_cuts.proofs.lemmas.Inside.{begins}
use Rattle.worked_lines.proofs.pieces.growing.grown.Goals as goal

pub loop-init : goal.loop-init
loop-init c =
    let task = begins 2 c.in_ok-cuts.cuts c.in_ok-cuts.ensures in
    record { some = omega arith; few = omega arith; slaves = task.many; holds = task.holds; cut = task.cut }

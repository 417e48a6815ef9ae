use Rattle.hc_cuts.proofs.lemmas.Inside.{begins}
use Rattle.worked_lines.proofs.pieces.repairs.are_repaired.Goals as goal

pub loop-row-init : goal.loop-row-init
loop-row-init c =
    let task = begins 20 c.in_ok-cuts.cuts c.in_ok-cuts.ensures in
    record { slaves = task.many; holds = task.holds; cut = task.cut }

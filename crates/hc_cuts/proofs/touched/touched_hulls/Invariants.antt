use Rattle.std.proofs.Common.{◌+◌, List, length}
use Rattle.hc_records.specs.declared.records.Area.{Area}
use Rattle.hc_cuts.specs.Hulls.{AreHulls}
use Rattle.hc_cuts.specs.ApplyWidths.{AreLines}
use Rattle.hc_cuts.proofs.Taking.{up_to_rank}
use Rattle.hc_cuts.proofs.touched.touched_hulls.Given as goal

-- the touched keys of the slaves so far are taken in
abbrev pub invariant-loop-i : goal.invariant-loop-i
invariant-loop-i l =
    (old new : List (List Area)) (lines : AreLines l.change old new) → AreHulls (up_to_rank l.task (length lines.front + l.i) old new) l.hulls

use Rattle.std.proofs.Common.{◌≡◌, ◌+◌, List, length}
use Rattle.hc_records.specs.declared.records.Area.{Area}
use Rattle.hc_cuts.specs.TaskCuts.{tree_by}
use Rattle.hc_cuts.specs.ApplyWidths.{AreLines}
use Rattle.hc_cuts.specs.Widths.{IsSetTo}
use Rattle.hc_cuts.proofs.Setting.{up_to}
use Rattle.hc_cuts.proofs.widths.set_widths.Given as goal

-- the widths of the slaves so far are set
abbrev pub invariant-loop-i : goal.invariant-loop-i
invariant-loop-i l =
    (old new : List (List Area)) (lines : AreLines l.change old new) → l.fn.cuts.tree ≡ tree_by l.task old
    → IsSetTo l.fn.cuts l.cuts (up_to l.task (length lines.front + l.i) old new)

use Rattle.std.proofs.Common.{◌≡◌, ◌++◌, [], ◌∷◌}
use Rattle.hc_records.specs.Boundaries.{boundaries}
use Rattle.hc_records.specs.declared.keys.TheConstants.Key.{END}
use Rattle.hc_bitsum.specs.Tree.{HoldsTaskList}
use Rattle.worked_lines.proofs.pieces.repairs.are_repaired.Given as goal

abbrev pub invariant-loop-row : goal.invariant-loop-row
invariant-loop-row l = record {
  slaves : l.cuts.tree.slaves ≡ 20;
  holds : HoldsTaskList l.cuts.tree;
  cut : l.cuts.starts ++ END ∷ [] ≡ boundaries l.cuts.tree.list;
}

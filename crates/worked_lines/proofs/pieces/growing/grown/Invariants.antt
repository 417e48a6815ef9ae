use Rattle.std.proofs.Common.{◌≡◌, ◌≤◌, ◌++◌, [], ◌∷◌}
use Rattle.hc_records.specs.Boundaries.{boundaries}
use Rattle.hc_records.specs.declared.keys.TheConstants.Key.{END}
use Rattle.hc_bitsum.specs.Tree.{HoldsTaskList}
use Rattle.worked_lines.proofs.pieces.growing.grown.Given as goal

abbrev pub invariant-loop : goal.invariant-loop
invariant-loop l = record {
  some : 2 ≤ l.slaves;
  few : l.slaves ≤ 128;
  slaves : l.cuts.tree.slaves ≡ l.slaves;
  holds : HoldsTaskList l.cuts.tree;
  cut : l.cuts.starts ++ END ∷ [] ≡ boundaries l.cuts.tree.list;
}

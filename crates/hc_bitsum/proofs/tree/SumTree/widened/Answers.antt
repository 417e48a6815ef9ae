use Rattle.std.proofs.Common.{◌≡◌, subst, sym}
use Rattle.std.proofs.lemmas.Result.{IfOk-weaker}
use Rattle.hc_bitsum.specs.Tree.{HoldsTaskList, Tree}
use Rattle.hc_bitsum.proofs.More.{between-all, holds-more}
use Rattle.hc_bitsum.proofs.tree.SumTree.widened.Goals as goal

pub filled_tree-requires-clause-holds : goal.filled_tree-requires-clause-holds
filled_tree-requires-clause-holds c =
    let holds = c.in_ok-areas.ensures.holds in
    rw (c.deref.ensures.value, c.in_ok-areas.ensures.areas, between-all c.args.self.now.list holds.list)
    (holds-more c.args.self.now.slaves c.args.slaves c.args.self.now.list c.requires.more holds)

pub returns-clause-widened : goal.returns-clause-widened
returns-clause-widened c =
    rw (← between-all c.args.self.now.list c.in_ok-areas.ensures.holds.list, ← c.in_ok-areas.ensures.areas, ← c.deref.ensures.value) c.filled_tree.ensures

pub returns-clause-holds : goal.returns-clause-holds
returns-clause-holds c =
    let wider : Tree = record { slaves = c.args.slaves; list = c.args.self.now.list } in
    let holds = holds-more c.args.self.now.slaves c.args.slaves c.args.self.now.list c.requires.more c.in_ok-areas.ensures.holds in
    IfOk-weaker c.filled_tree.result (λ tree. tree ≡ wider) HoldsTaskList (λ tree is. subst HoldsTaskList (sym is) holds)
    (rw (← between-all c.args.self.now.list c.in_ok-areas.ensures.holds.list, ← c.in_ok-areas.ensures.areas, ← c.deref.ensures.value) c.filled_tree.ensures)

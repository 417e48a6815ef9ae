use Rattle.std.proofs.Common.{refl, ap}
use Rattle.hc_records.specs.declared.records.Dir.TheVariants.{Out}
use Rattle.hc_bitsum.specs.Branch.{branch_slots}
use Rattle.hc_bitsum.specs.Tree.{Tree}
use Rattle.hc_bitsum.proofs.More.{room-answer_given, rows-few}
use Rattle.hc_bitsum.proofs.tree.SumTree.has_room.Goals as goal

pub levels_of-requires : goal.levels_of-requires
levels_of-requires c =
    rows-few Out c.self.inside.slaves c.self.inside.outputs.levels (branch_slots c.self.inside.outputs) refl c.self.invariant.out_sums.low c.self.invariant.outs

pub returns : goal.returns
returns c =
    room-answer_given c.self.inside.slaves c.args.self.now.slaves c.args.slaves c.from.result c.levels_of.result (ap (λ (tree : Tree). tree.slaves) c.self.view_is) c.from.ensures
    c.levels_of.ensures.room c.levels_of.ensures.low c.levels_of.ensures.least

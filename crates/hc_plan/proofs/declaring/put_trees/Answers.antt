use Rattle.std.proofs.Common.{subst}
use Rattle.hc_plan.specs.inner.Declaring.{AreTrees}
use Rattle.hc_plan.proofs.declaring.put_trees.Goals as goal

pub admit-requires : goal.admit-requires
admit-requires c =
    let fewer = c.requires.fewer in
    record { fewer = fewer; room = subst (AreTrees c.args.cuts.now c.args.slaves) c.in-None.is c.requires.trees fewer.line fewer.of_line }

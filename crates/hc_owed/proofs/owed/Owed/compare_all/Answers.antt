use Rattle.std.proofs.Common.{rules}
use Rattle.hc_plan.proofs.lemmas.Replaced.{item-cons}
use Rattle.hc_owed.proofs.owed.Owed.compare_all.Goals as goal

pub loop-block-preserved : goal.loop-block-preserved
loop-block-preserved c = search (rules, item-cons)

use Rattle.std.proofs.Common.{rules}
use Rattle.hc_plan.proofs.lemmas.Replaced.{item-cons}
use Rattle.hc_owed.proofs.holders.one_holds_outside.Goals as goal

pub loop-area-preserved : goal.loop-area-preserved
loop-area-preserved c = search (rules, item-cons)

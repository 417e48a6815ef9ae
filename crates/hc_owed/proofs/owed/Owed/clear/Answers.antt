use Rattle.std.proofs.Common.{rules}
use Rattle.hc_plan.proofs.lemmas.Replaced.{length-changed, length-filled}
use Rattle.hc_owed.proofs.owed.Owed.clear.Goals as goal

pub learn-requires : goal.learn-requires
learn-requires c = search (rules, length-filled)

pub judge-requires : goal.judge-requires
judge-requires c = search (rules, length-filled, length-changed)

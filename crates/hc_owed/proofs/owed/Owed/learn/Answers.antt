use Rattle.std.proofs.Common.{rules}
use Rattle.hc_plan.proofs.lemmas.Replaced.{map-set}
use Rattle.hc_owed.proofs.owed.Owed.learn.Goals as goal

pub returns : goal.returns
returns c = search (rules, map-set)

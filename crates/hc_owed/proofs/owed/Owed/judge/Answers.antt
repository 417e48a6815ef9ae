use Rattle.std.proofs.Common.{rules}
use Rattle.hc_plan.proofs.lemmas.Replaced.{length-changed}
use Rattle.hc_owed.proofs.owed.Owed.judge.Goals as goal

pub invariant_of-self : goal.invariant_of-self
invariant_of-self c = search (rules, length-changed)

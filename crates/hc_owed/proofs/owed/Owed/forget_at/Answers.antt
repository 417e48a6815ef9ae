use Rattle.std.proofs.Common.{rules}
use Rattle.hc_plan.proofs.lemmas.Replaced.{length-changed}
use Rattle.hc_owed.proofs.owed.Owed.forget_at.Goals as goal

pub judge-requires : goal.judge-requires
judge-requires c = search (rules, length-changed)

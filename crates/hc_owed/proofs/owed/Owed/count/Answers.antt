use Rattle.std.proofs.Common.{arith, rules}
use Rattle.hc_owed.proofs.FlagLists.{count-le}
use Rattle.hc_owed.proofs.Saying.{counts-owed}
use Rattle.hc_owed.proofs.owed.Owed.count.Goals as goal

pub overflow_cast-result : goal.overflow_cast-result
overflow_cast-result c = let inv = c.self.invariant in omega (arith, count-le c.self.inside.owed.list, c.count.ensures, inv.1, inv.2)

pub returns : goal.returns
returns c = search (rules, counts-owed)

use Rattle.std.proofs.Common.{sym, ap, ◌∙◌, arith}
use Rattle.hc_owed.specs.Flags.{one}
use Rattle.hc_owed.proofs.TaskLists.{none-in-empty}
use Rattle.hc_owed.proofs.tally.take_out.Goals as goal

pub returns-then-is_empty : goal.returns-then-is_empty
returns-then-is_empty c = λ t low. let none = ap one (none-in-empty c.args.set t (sym c.is_empty.ensures ∙ c.if-is_empty.true)) in omega (arith, none)

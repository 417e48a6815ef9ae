use Rattle.std.proofs.Common.{◌*◌}
use Rattle.hc_owed.proofs.FlagLists.{ClearBetween}
use Rattle.hc_owed.proofs.flags.Flags.next_from.Given as goal

abbrev pub invariant-loop-i : goal.invariant-loop-i
invariant-loop-i l = ClearBetween l.self-inside.words.items l.from (64 * l.i)

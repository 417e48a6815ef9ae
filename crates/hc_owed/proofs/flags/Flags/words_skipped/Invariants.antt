use Rattle.std.proofs.Common.{◌≡◌, ◌*◌, drop}
use Rattle.hc_owed.specs.Flags.{nth_set}
use Rattle.hc_owed.proofs.flags.Flags.words_skipped.Given as goal

-- the flag that is sought is the one with what is left of the index, of the words that are left
abbrev pub invariant-loop-i : goal.invariant-loop-i
invariant-loop-i l = nth_set l.left (64 * l.i) (drop (64 * l.i) l.self.list) ≡ nth_set l.index 0 l.self.list

use Rattle.std.proofs.Common.{◌≡◌, ◌-◌, ◌*◌, map}
use Rattle.std.specs.List.{range_with_len}
use Rattle.hc_owed.specs.Flags.{nth_set}
use Rattle.hc_owed.specs.Holders.{flag_at, flags_of}
use Rattle.hc_owed.proofs.readiness.Readiness.nth_flag.Given as goal

-- what is sought is the flag after so many others of those that are left
abbrev pub invariant-loop-at : goal.invariant-loop-at
invariant-loop-at l = nth_set l.left l.at (map (flag_at l.task l.self l.slaves) (range_with_len l.at (2 * l.slaves - l.at))) ≡ nth_set l.n 0 (flags_of l.task l.self)

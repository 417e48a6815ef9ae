use Rattle.std.proofs.Common.{◌≡◌, ◌++◌, map}
use Rattle.std.specs.List.{range_with_len}
use Rattle.hc_owed.specs.Opening.{slave_has_block}
use Rattle.hc_owed.proofs.FlagLists.{flags_of}
use Rattle.hc_owed.proofs.opening.push_slave.Given as goal

abbrev pub invariant-loop-number : goal.invariant-loop-number
invariant-loop-number l =
    l.flags ≡ flags_of (l.fn.flags.list ++ map (slave_has_block l.fn.present l.fn.slave) (range_with_len 0 l.number)) l.fn.flags.room

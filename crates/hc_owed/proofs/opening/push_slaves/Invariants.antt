use Rattle.std.proofs.Common.{◌≡◌, ◌≤◌, ◌+◌, ◌*◌, ◌++◌, drop, length}
use Rattle.hc_owed.specs.Opening.{slaves_flags}
use Rattle.hc_owed.proofs.opening.push_slaves.Given as goal

abbrev pub invariant-loop-slave : goal.invariant-loop-slave
invariant-loop-slave l =
    (l.flags.list ++ slaves_flags l.fn.present (drop l.slave-index l.slaves) ≡ l.fn.flags.list ++ slaves_flags l.fn.present l.slaves)
    × (l.flags.room ≡ l.fn.flags.room)
    × (length l.flags.list + 16 * length (drop l.slave-index l.slaves) ≤ l.fn.flags.room)

use Rattle.std.proofs.Common.{◌≡◌, ◌≤◌, ◌+◌, ◌*◌, ◌++◌, drop, length}
use Rattle.hc_records.specs.Line.{groups_of}
use Rattle.hc_records.specs.Project.{slaves_of}
use Rattle.hc_owed.specs.Opening.{declared_flags}
use Rattle.hc_owed.proofs.opening.declared_flags.Given as goal

abbrev pub invariant-loop-declared : goal.invariant-loop-declared
invariant-loop-declared l =
    (l.flags.list ++ declared_flags (drop l.declared-index l.groups) ≡ declared_flags l.groups)
    × (length l.flags.list + 16 * length (slaves_of (groups_of (drop l.declared-index l.groups))) ≤ l.flags.room)

use Rattle.hc_changes.proofs.Loading.{AreLoaded}
use Rattle.hc_changes.proofs.tables.new_table.Given as goal

-- the datagrams so far are added
abbrev pub invariant-loop-number : goal.invariant-loop-number
invariant-loop-number l = AreLoaded l.old l.before l.cuts l.task l.number l.table

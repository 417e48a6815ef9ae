use Rattle.hc_places.proofs.Compared.{AreAnswered}
use Rattle.hc_places.proofs.table.Places.changed_tasks.Given as goal

-- the tasks so far are reported
abbrev pub invariant-loop-number : goal.invariant-loop-number
invariant-loop-number l = AreAnswered l.self.tasks l.new l.number l.tasks.items

use Rattle.worked_views.specs.Lines.{LeadsTo}
use Rattle.worked_views.proofs.turns.publish_turns.Given as goal

abbrev pub invariant-loop : goal.invariant-loop
invariant-loop g l = LeadsTo l.publisher l.plan

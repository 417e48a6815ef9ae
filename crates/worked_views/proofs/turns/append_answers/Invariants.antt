use Rattle.worked_views.specs.Lines.{LeadsTo}
use Rattle.worked_views.proofs.turns.append_answers.Given as goal

abbrev pub invariant-loop-task : goal.invariant-loop-task
invariant-loop-task l = LeadsTo l.publisher l.initial.plan

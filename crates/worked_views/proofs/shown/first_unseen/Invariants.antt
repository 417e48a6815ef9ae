use Rattle.worked_views.specs.Lines.{LeadsTo}
use Rattle.worked_views.proofs.shown.first_unseen.Given as goal

abbrev pub invariant-loop-row : goal.invariant-loop-row
invariant-loop-row g l = LeadsTo l.publisher l.plan

use Rattle.worked_views.specs.Lines.{LeadsTo}
use Rattle.worked_views.proofs.shown.append_all.Given as goal

abbrev pub invariant-loop-one : goal.invariant-loop-one
invariant-loop-one l = LeadsTo l.publisher l.plan

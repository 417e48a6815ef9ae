use Rattle.hc_cuts.proofs.lemmas.Inside.{IsSet}
use Rattle.worked_lines.proofs.pieces.repairs.set_all.Given as goal

abbrev pub invariant-loop-area : goal.invariant-loop-area
invariant-loop-area l = IsSet l.slaves l.fn.cuts l.cuts l.hulls

use Rattle.std.proofs.Common.{◌≡◌, drop}
use Rattle.hc_project.specs.Reading.{both, faults_joined}
use Rattle.hc_project.proofs.reading.SyntaxFaults.joined.Given as goal

-- what was wrong so far, with what is left, is all
abbrev pub invariant-loop-index : goal.invariant-loop-index
invariant-loop-index l = both l.all (faults_joined (drop l.index l.list)) ≡ faults_joined l.list

use Rattle.std.proofs.Common.{◌≡◌, ◌++◌, drop}
use Rattle.hc_changes.specs.Rows.{candidate_rows}
use Rattle.hc_changes.proofs.rows.candidate_rows.Given as goal

-- the rows so far, and those of the candidates that are left, are all
abbrev pub invariant-loop-candidate : goal.invariant-loop-candidate
invariant-loop-candidate l = l.rows.items ++ candidate_rows (drop l.candidate-index l.candidates) ≡ candidate_rows l.candidates

use Rattle.std.proofs.Common.{◌≡◌, map, take}
use Rattle.hc_cuts.proofs.starts.LineStarts.of.Given as goal

-- the tasks so far are copied
abbrev pub invariant-loop-cuts : goal.invariant-loop-cuts
invariant-loop-cuts l = l.starts.items ≡ map (λ unchanged. unchanged.starts) (take l.cuts-index l.fn.tasks)

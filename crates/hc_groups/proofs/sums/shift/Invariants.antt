use Rattle.std.proofs.Common.{◌≡◌, ◌+◌, ◌-◌, ◌++◌, drop, map, take}
use Rattle.hc_groups.proofs.sums.shift.Given as goal

-- those so far are shifted
abbrev pub invariant-loop-sum : goal.invariant-loop-sum
invariant-loop-sum l = l.sums ≡ map (λ sum. sum + l.more - l.less) (take l.sum-index l.initial.sums) ++ drop l.sum-index l.initial.sums

use Rattle.std.proofs.Common.{◌+◌, ◌-◌, arith, get_or}
use Rattle.std.proofs.lemmas.List.{get_or_default}
use Rattle.std.proofs.lemmas.List.Edits.{map_over_more}
use Rattle.hc_groups.proofs.sums.shift.Goals as goal

pub loop-sum-preserved : goal.loop-sum-preserved
loop-sum-preserved c =
    let l = c.loop-sum in
    let sum = get_or l.sums l.sum-index 0 in
    map_over_more (λ s. s + c.args.more - c.args.less) c.args.sums.now l.sums l.sum-index sum (omega (arith, c.loop-sum-test.true)) l.invariant
    (get_or_default l.sums l.sum-index 0 sum (omega (arith, c.loop-sum-test.true)))

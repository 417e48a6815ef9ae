use Rattle.std.proofs.Common.{◌≡◌, ◌≤◌, Bool, arith, false, length, not, refl, true}
use Rattle.hc_places.proofs.Reached.{below-answer_given}
use Rattle.hc_places.proofs.merging.is_count_below.Goals as goal

none : (b : Bool) → not b ≡ true → b ≡ false
none true is = cc
none false is = refl

pub returns : goal.returns
returns c is =
    let bound : c.args.count ≤ length c.args.rows.now = omega arith in
    (bound, below-answer_given c.args.rows.now c.args.variable c.args.count c.requires (c.ends_lower.ensures c.if-not-ends_lower.false) (c.goes_on_lower.ensures (none c.goes_on_lower.result is)) bound)

use Rattle.std.proofs.Common.{arith}
use Rattle.hc_segment.proofs.Fourths.{few-segments}
use Rattle.hc_segment.proofs.rows.Cut.new.Goals as goal

pub returns-clause-few : goal.returns-clause-few
returns-clause-few c =
    let most = c.max.ensures in
    let few = few-segments c.args.count c.div_ceil-size.result c.max.result c.div_ceil-number.result (omega (arith, c.div_ceil-size.ensures)) (omega (arith, most)) (omega (arith, most)) c.div_ceil-number.ensures in
    omega (arith, few, c.in_ok-rows_of.ensures.count)

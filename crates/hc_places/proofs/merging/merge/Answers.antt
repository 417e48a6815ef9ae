use Rattle.std.proofs.Common.{arith}
use Rattle.hc_places.proofs.Roomy.{room-left}
use Rattle.hc_places.proofs.merging.merge.Goals as goal

pub push_reserved-requires : goal.push_reserved-requires
push_reserved-requires c =
    let left = room-left c.loop-changes.rows.items _ _ _ c.next_row-row.result.0 c.in-Some.row _ c.in-Some.is c.next_row-row.ensures.rows c.loop-changes.invariant.is c.loop-changes.invariant.room in
    omega (arith, left, c.loop-changes.rows.ok.0)

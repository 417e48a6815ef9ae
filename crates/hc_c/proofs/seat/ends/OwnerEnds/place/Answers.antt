use Rattle.std.proofs.Common.{arith}
use Rattle.hc_c.proofs.SeatEnds.{none-later}
use Rattle.hc_c.proofs.seat.ends.OwnerEnds.place.Goals as goal

pub invariant_of-self : goal.invariant_of-self
invariant_of-self c =
    let own = c.args.self.now in
    let most = c.max-self.ensures in
    record { none_after = none-later own.used c.max-self.result own.by_task (omega (arith, most)) own.none_after }

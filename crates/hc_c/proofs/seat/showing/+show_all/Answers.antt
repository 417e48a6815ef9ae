use Rattle.std.proofs.Common.{◌≡◌, ℕ, false, subst}
use Rattle.hc_c.specs.SeatEnds.{has_seat_from}
use Rattle.hc_c.proofs.SeatEnds.{shows-none}
use Rattle.hc_c.proofs.seat.showing.+show_all.Goals as goal

pub returns-then-count-eq0-clause-shown : goal.returns-then-count-eq0-clause-shown
returns-then-count-eq0-clause-shown t c =
    shows-none c.args.core.now.history c.args.sent_from.now c.args.line c.args.task c.args.ends.now (subst (λ (n : ℕ). has_seat_from n c.args.ends.now ≡ false) c.if-count-eq0.true c.requires.none)

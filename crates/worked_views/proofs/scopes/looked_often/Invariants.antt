use Rattle.std.proofs.Common.{◌≡◌}
use Rattle.hc_publish.specs.Seats.{seat_origin}
use Rattle.worked_views.proofs.scopes.looked_often.Given as goal

abbrev pub invariant-loop : goal.invariant-loop
invariant-loop l = seat_origin l.seat ≡ seat_origin l.initial.seat

use Rattle.std.proofs.Common.{All, subst}
use Rattle.std.proofs.lemmas.List.Elements.{All-head}
use Rattle.hc_publish.specs.PublishedState.{origin_of}
use Rattle.hc_publish.specs.Seats.{SeatIsAtOpening}
use Rattle.worked_views.proofs.steady.is_steady_of.Goals as goal

pub is_steady-steady-requires-clause-own : goal.is_steady-steady-requires-clause-own
is_steady-steady-requires-clause-own g c =
    let P = SeatIsAtOpening (origin_of c.in-Some.publisher) in
    (All-head P _ _ (subst (All P) c.in-Some-first_seat.ensures.1 c.in-Some.ensures.seats)).1

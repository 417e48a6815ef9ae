use Rattle.std.proofs.Common.{◌≡◌}
use Rattle.hc_publish.specs.PublishedState.{origin_of}
use Rattle.hc_publish.specs.Seats.{seat_origin}
use Rattle.worked_views.specs.Lines.{LeadsTo}
use Rattle.worked_views.proofs.steady.is_steady.Given as goal

abbrev pub invariant-loop : goal.invariant-loop
invariant-loop g l = LeadsTo l.publisher l.plan × (seat_origin l.seat ≡ origin_of l.publisher)

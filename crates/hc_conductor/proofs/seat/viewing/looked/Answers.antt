use Rattle.std.proofs.Common.{subst}
use Rattle.std.specs.Prelude.{IfOk, MatchResult, Result}
use Rattle.hc_publish.specs.ChangesSince.{IsLegal}
use Rattle.hc_publish.specs.declared.seat.Seat.{Seat}
use Rattle.hc_publish.specs.Looks.{Look}
use Rattle.hc_publish.specs.Seats.{seat_origin}
use Rattle.hc_conductor.specs.Openings.{IsOpenable}
use Rattle.hc_conductor.proofs.lemmas.Images.{shown-short}
use Rattle.hc_conductor.proofs.seat.viewing.looked.Goals as goal

pub invariant_of-result-clause-fits : goal.invariant_of-result-clause-fits
invariant_of-result-clause-fits c =
    shown-short c.in-Ok.view.changes_since
    (subst (λ (r : Result Look Seat). MatchResult r (λ view. IsOpenable view.changes_since.groups) (λ seat. IsOpenable (seat_origin seat).groups)) c.in-Ok.is c.requires.openable)
    (subst (λ (r : Result Look Seat). IfOk r (λ view. IsLegal view.changes_since)) c.in-Ok.is c.requires.legal)

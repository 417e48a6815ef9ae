use Rattle.std.proofs.Common.{IfSome, subst}
use Rattle.std.proofs.lemmas.List.Elements.{All-pop}
use Rattle.hc_publish.specs.PublishedState.{origin_of}
use Rattle.hc_publish.specs.Seats.{SeatIsAtOpening}
use Rattle.worked_views.proofs.scopes.is_seen.Goals as goal

pub two_scopes-seen-requires-clause-one : goal.two_scopes-seen-requires-clause-one
two_scopes-seen-requires-clause-one g c =
    let P = SeatIsAtOpening (origin_of c.in-Some.publisher) in
    let first = All-pop P _ _ c.pop.result c.pop.ensures.items c.in-Some.ensures.seats in
    (subst (λ r. IfSome r P) c.in-Some-Some.is-0 first.1).1

pub two_scopes-seen-requires-clause-two : goal.two_scopes-seen-requires-clause-two
two_scopes-seen-requires-clause-two g c =
    let P = SeatIsAtOpening (origin_of c.in-Some.publisher) in
    let first = All-pop P _ _ c.pop.result c.pop.ensures.items c.in-Some.ensures.seats in
    let second = All-pop P _ _ c.pop-2.result c.pop-2.ensures.items first.0 in
    (subst (λ r. IfSome r P) c.in-Some-Some.is-1 second.1).1

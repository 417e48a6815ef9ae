use Rattle.std.proofs.Common.{◌≡◌, ◌<◌, [], ◌++◌, length, ap, drop, sym, ◌∙◌}
use Rattle.std.proofs.lemmas.List.{append-nil}
use Rattle.hc_publish.specs.Rule.{changes_in}
use Rattle.hc_publish.specs.PublishedState.{published}
use Rattle.hc_publish.specs.Published.{published_state_in}
use Rattle.hc_publish.proofs.Ruled.{none_in}
use Rattle.hc_publish.proofs.publisher.Publisher.publish.Goals as goal

pub returns-then-not-has_pending_operations-clause-lists :
    goal.returns-then-not-has_pending_operations-clause-lists
returns-then-not-has_pending_operations-clause-lists g c =
    let w = c.self.inside.writer in
    let shown = published (published_state_in c.self.inside) in
    let none : changes_in (drop w.behind w.log.items) ≡ [] = none_in (drop w.behind w.log.items) (λ (some : 0 < length (drop w.behind w.log.items)). absurd (cc (c.if-not-has_pending_operations.ensures.1 some))) in
    rw (← c.self.view_is) (sym (ap (λ z. shown ++ z) none ∙ append-nil shown), none)

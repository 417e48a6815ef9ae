use Rattle.std.proofs.Common.{List, refl, ap, subst}
use mathlib.Core.List.{IsPrefix}
use Rattle.hc_publish.specs.ChangesSince.{ChangesSince}
use Rattle.hc_publish.proofs.Rising.{within}
use Rattle.hc_publish.proofs.publication_log.LogPrefix.is_within.Goals as goal

pub returns : goal.returns
returns c =
    let a = c.self.inside in
    let b = c.other.inside in
    let both = c.learn.new.self.log in
    let this : IsPrefix a.seen.log both = subst (λ (l : List ChangesSince). IsPrefix l both) (ap (λ s. s.log) c.again-both.ensures) c.learn.ensures.2 in
    rw (← c.self.view_is, ← c.other.view_is) (within both a.seen.log b.seen.log a.count b.count c.learn.ensures.4.1.rises c.self.invariant.1 c.other.invariant.1 this c.learn.ensures.3 c.self.invariant.0 c.other.invariant.0 _ refl)

use Rattle.std.proofs.Common.{ap}
use Rattle.std.specs.Prelude.{reverse}
use Rattle.hc_conductor.proofs.Lists.{last-first, legal-next}
use Rattle.hc_conductor.proofs.publishing.append_all.Goals as goal

pub append-requires : goal.append-requires
append-requires c =
    let i = c.loop-change.invariant in
    let first = last-first c.pop.new.self.items c.loop-change.waiting.items c.in-Some.change c.in-Some.ensures.items in
    legal-next _ _ _ _ _ _ _ (reverse c.loop-change.waiting.items) (reverse c.pop.new.self.items) c.in-Some.change (ap (λ o. o.groups) i.1) i.0 i.2 first c.requires

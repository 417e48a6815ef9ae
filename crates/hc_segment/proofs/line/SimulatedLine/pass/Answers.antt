use Rattle.std.proofs.Common.{length, map, ap, ◌∙◌, List, ℕ}
use Rattle.hc_segment.proofs.Dealt.{lengths-joined}
use Rattle.hc_segment.proofs.Written.{unchanged-count, unchanged-cut}
use Rattle.hc_segment.proofs.line.SimulatedLine.pass.Goals as goal

pub invariant_of-self : goal.invariant_of-self
invariant_of-self g c =
    let items = c.self.inside.segments.items in
    let new = c.chain.new.segments in
    let value = c.deref_mut.ensures.value in
    let many = c.chain.auto.segments ∙ ap (λ (ss : List (List (List ℕ))). length ss) value in
    let sizes = c.chain.ensures.segments ∙ ap (λ (ss : List (List (List ℕ))). map (length {A = List ℕ}) ss) value in
    record {
      counted = unchanged-count items new c.self.inside.count c.self.inside.segments.len c.self.invariant.counted c.self.inside.segments.ok.0 many (lengths-joined new items sizes);
      cut = unchanged-cut items new c.self.inside.count c.self.inside.segments.len c.self.invariant.cut c.self.inside.segments.ok.0 many sizes;
    }

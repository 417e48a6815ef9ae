use Rattle.std.proofs.Common.{length, map, ap, ◌∙◌, List, ℕ}
use Rattle.hc_segment.specs.Line.{all_machines}
use Rattle.hc_segment.proofs.Written.{unchanged-count, unchanged-cut}
use Rattle.hc_segment.proofs.line.SimulatedLine.write_memory.Goals as goal
use Rattle.hc_segment.proofs.lemmas.Counts.{poked-count}

pub invariant_of-self : goal.invariant_of-self
invariant_of-self c =
    let items = c.self.inside.segments.items in
    let new = c.write_in.new.segments in
    let value = c.deref_mut.ensures.value in
    let many = c.write_in.auto.segments ∙ ap (λ (ss : List (List (List ℕ))). length ss) value in
    record {
      counted = unchanged-count items new c.self.inside.count c.self.inside.segments.len c.self.invariant.counted c.self.inside.segments.ok.0 many
          (ap (λ (ms : List (List ℕ)). length ms) c.write_in.ensures.memory ∙ poked-count (all_machines c.deref_mut.result.now) c.args.position c.args.at c.args.bytes.now ∙ ap (λ (ss : List (List (List ℕ))). length (all_machines ss)) value);
      cut = unchanged-cut items new c.self.inside.count c.self.inside.segments.len c.self.invariant.cut c.self.inside.segments.ok.0 many
          (c.write_in.ensures.sizes ∙ ap (λ (ss : List (List (List ℕ))). map (length {A = List ℕ}) ss) value);
    }

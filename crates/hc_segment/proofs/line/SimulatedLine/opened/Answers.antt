use Rattle.std.proofs.Common.{length, ap, ◌∙◌, sym, List, ℕ}
use Rattle.hc_segment.proofs.Fourths.{cut-so}
use Rattle.hc_segment.proofs.line.SimulatedLine.opened.Goals as goal

pub invariant_of-result : goal.invariant_of-result
invariant_of-result c =
    let cut = c.in_ok-cut.cut in
    record {
      counted = c.len-count.ensures ∙ c.in_ok-machines.machines.ok.0 ∙ sym (ap (λ (ms : List (List ℕ)). length ms) c.segments.ensures.machines);
      cut = cut-so c.len-count.result cut.number cut.size c.segments.result.items c.in_ok-cut.ensures.few c.in_ok-cut.ensures.size c.segments.ensures.number c.segments.ensures.sizes;
    }

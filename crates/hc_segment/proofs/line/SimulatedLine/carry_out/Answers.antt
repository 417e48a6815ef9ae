use Rattle.std.proofs.Common.{◌≡◌, ◌+◌, ◌++◌, length, take, drop, ap, ◌∙◌, sym, arith, List, ℕ, length-append, length-take, length-drop}
use Rattle.hc_segment.specs.Changing.{Prepared}
use Rattle.hc_segment.specs.Cutting.{fourth}
use Rattle.hc_segment.specs.Prepared.{count_after}
use Rattle.hc_segment.proofs.Fourths.{cut-so}
use Rattle.hc_segment.proofs.line.SimulatedLine.carry_out.Goals as goal

pub invariant_of-self : goal.invariant_of-self
invariant_of-self c =
    let e = c.ready.inside in
    let machines = c.gathered-machines.result.items in
    let coming = e.coming.items in
    let rest = drop (e.position + e.gone) machines in
    let all : c.len-self-inside.result ≡ length c.turned-machines.result.items = c.len-self-inside.ensures ∙ c.turned-machines.result.ok.0 in
    let before : length machines ≡ length c.args.self.now = ap (λ (ms : List (List ℕ)). length ms) (c.gathered-machines.ensures.items ∙ c.self.view_is) in
    let same : e.count ≡ length machines = ap (λ (p : Prepared). p.count) c.ready.view_is ∙ c.requires ∙ sym before in
    let lengths : length c.turned-machines.result.items ≡ length (take e.position machines ++ (coming ++ rest)) = ap (λ (ms : List (List ℕ)). length ms) c.turned-machines.ensures in
    let many : c.len-self-inside.result ≡ count_after e =
    omega (arith, all, lengths, same, e.coming.ok.0, length-append (take e.position machines) (coming ++ rest), length-append coming rest, length-take e.position machines, length-drop (e.position + e.gone) machines) in
    record {
      counted = all ∙ sym (ap (λ (ms : List (List ℕ)). length ms) c.segments.ensures.machines);
      cut = cut-so c.len-self-inside.result e.cut.number e.cut.size c.segments.result.items c.ready.invariant.few_segments (c.ready.invariant.small_segments ∙ ap fourth (sym many)) c.segments.ensures.number c.segments.ensures.sizes;
    }

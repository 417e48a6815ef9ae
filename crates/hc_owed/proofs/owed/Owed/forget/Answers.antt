use Rattle.std.proofs.Common.{◌≡◌, length, ap, ◌∙◌, arith}
use Rattle.std.specs.Prelude.{Option, option_map}
use Rattle.std.proofs.lemmas.List.{length-map}
use Rattle.hc_registers.specs.Blocks.{RegisterBlock}
use Rattle.hc_owed.specs.RegisterState.{RegisterState}
use Rattle.hc_owed.proofs.Forgetting.{forgotten-right, known-size}
use Rattle.hc_owed.proofs.owed.Owed.forget.Goals as goal

pub forget_of-requires : goal.forget_of-requires
forget_of-requires c =
    let now = c.args.self.now in
    let known = c.self.inside.known in
    let own = ap (λ (b : RegisterState). length b.known) c.self.view_is in
    let size = length-map known.items (λ (one : Option RegisterBlock). option_map (λ (block : RegisterBlock). block.bytes) one) in
    let left : length c.loop-place.self.known ≡ length now.known =
    ap (λ (b : RegisterState). length b.known) c.loop-place.invariant ∙ known-size c.args.station now c.loop-place.place in
    omega (arith, c.loop-place-test.true, c.len-place-end.ensures, known.ok.0, own, size, left)

pub returns : goal.returns
returns c = λ known state right.
    let now = c.args.self.now in
    let own = ap (λ (b : RegisterState). length b.known) c.self.view_is in
    let size = length-map c.self.inside.known.items (λ (one : Option RegisterBlock). option_map (λ (block : RegisterBlock). block.bytes) one) in
    let all : c.loop-place.place ≡ length now.known =
    omega (arith, c.loop-place-test.false, c.loop-place.auto.place-end, c.len-place-end.ensures, c.self.inside.known.ok.0, own, size) in
    c.loop-place.invariant ∙ forgotten-right c.args.station c.loop-place.place now known state right all

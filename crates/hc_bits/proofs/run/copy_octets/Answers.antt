use Rattle.std.proofs.Common.{◌≡◌, ◌+◌, ◌*◌, ap, refl, ◌∙◌, arith}
use Rattle.std.specs.Int.{bit_at}
use Rattle.std.proofs.lemmas.List.{length-set}
use Rattle.hc_bits.specs.Bits.{bit_of}
use Rattle.hc_bits.proofs.Runs.{ReplacesRun-then, ReplacesRun-nothing, ReplacesRun-set}
use Rattle.hc_bits.proofs.run.copy_octets.Goals as goal

pub loop-i-init : goal.loop-i-init
loop-i-init c = (refl, ReplacesRun-nothing _ _ _)

pub loop-i-preserved : goal.loop-i-preserved
loop-i-preserved c =
    let a = c.args in
    let i = c.loop-i.i in
    let octet = c.octet_at.result in
    let long = c.loop-i.invariant.0 in
    let inside = c.requires.to_within in
    let one = ReplacesRun-set c.loop-i.to (a.first2 + i) octet 0 8 (8 * (a.first2 + i)) (bit_at octet) (omega (arith, long, inside)) (omega arith) (omega arith)
    (λ k h. ap (bit_at octet) (omega arith)) (λ k h. absurd (omega arith)) (λ k h p. absurd (omega arith)) in (
      length-set c.loop-i.to (a.first2 + i) octet ∙ long,
      ReplacesRun-then _ _ _ (8 * a.first2) (8 * i) (8 * (a.first2 + i)) 8 (8 * (i + 1)) (λ k. bit_of a.from.now (8 * a.first + a.at + k)) (bit_at octet)
          (omega arith) (omega arith) c.loop-i.invariant.1 one
          (λ k h. c.octet_at.ensures k h ∙ ap (bit_of a.from.now) (let e : 8 * (a.first + i) + a.at + k ≡ 8 * a.first + a.at + (8 * i + k) = omega arith in e)),
    )

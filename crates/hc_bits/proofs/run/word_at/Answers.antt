use Rattle.std.proofs.Common.{rules, ◌≡◌, ℕ, ◌+◌, ◌-◌, ◌*◌, ◌^◌, ◌<◌, get_or, ap, sym, ◌∙◌, arith, inl, inr}
use Rattle.std.specs.Int.{bit_at}
use Rattle.std.proofs.lemmas.Bool.{cases_lt}
use Rattle.hc_bits.specs.Bits.{bit_of}
use Rattle.hc_bits.proofs.Numbers.{funnel-low, funnel-high}
use Rattle.hc_bits.proofs.Runs.{bit_of-byte}
use Rattle.hc_bits.proofs.run.word_at.Goals as goal

pub returns : goal.returns
returns c = λ k h.
    let a = c.args in
    let low = c.whole_word-low.result in
    let high = c.from-high.result in
    let fits : low < 2 ^ 64 = search rules in
    let next : high ≡ get_or a.bytes.now (a.first + 8) 0 = search rules in
    elim (cases_lt k (64 - a.at)) [
      | inl below ↦
          funnel-low 64 low high a.at k (omega arith) below
          ∙ c.whole_word-low.ensures (a.at + k) (omega arith)
          ∙ ap (bit_of a.bytes.now) (let e : 8 * a.first + (a.at + k) ≡ 8 * a.first + a.at + k = omega arith in e)
      | inr above ↦
          funnel-high 64 low high a.at k fits (omega arith) h above ∙ ap (λ x. bit_at x (a.at + k - 64)) next
          ∙ sym (bit_of-byte a.bytes.now (a.first + 8) (a.at + k - 64) (8 * a.first + a.at + k) (omega arith) (omega arith))
    ]

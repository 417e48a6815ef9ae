use Rattle.std.proofs.Common.{rules, ◌+◌, ◌-◌, ◌*◌, ◌^◌, ◌<◌, get_or, sym, ◌∙◌, arith, inl, inr}
use Rattle.std.proofs.lemmas.Bool.{cases_lt}
use Rattle.hc_bits.proofs.Numbers.{funnel-low, funnel-high}
use Rattle.hc_bits.proofs.Runs.{bit_of-byte}
use Rattle.hc_bits.proofs.run.octet_at.Goals as goal

pub returns : goal.returns
returns c = λ k h.
    let a = c.args in
    let low = get_or a.bytes.now a.first 0 in
    let high = get_or a.bytes.now (a.first + 1) 0 in
    let fits : low < 2 ^ 8 = let f = c.type_inv.bytes a.first in search rules in
    elim (cases_lt k (8 - a.at)) [
      | inl below ↦
          funnel-low 8 low high a.at k (omega arith) below
          ∙ sym (bit_of-byte a.bytes.now a.first (a.at + k) (8 * a.first + a.at + k) (omega arith) (omega arith))
      | inr above ↦
          funnel-high 8 low high a.at k fits (omega arith) h above
          ∙ sym (bit_of-byte a.bytes.now (a.first + 1) (a.at + k - 8) (8 * a.first + a.at + k) (omega arith) (omega arith))
    ]

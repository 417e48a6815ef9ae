use Rattle.std.proofs.Common.{◌<◌, ◌≢◌, ℕ, length, arith, sym, ◌∙◌, length-set, get_or-set_other, get_or-set_same, below_more}
use Rattle.std.proofs.lemmas.Grind.{same_number_lists}
use Rattle.hc_bitsum.specs.Sums.{end_from, start_at, ends_by}
use Rattle.hc_bitsum.proofs.Ends.{ends_by-at}
use Rattle.hc_bitsum.proofs.sum.ends_of_both.Goals as goal

pub loop-bit-preserved : goal.loop-bit-preserved
loop-bit-preserved c =
    let at : c.loop-bit.bit < length c.loop-bit.both = omega arith in (
      simp length-set (c.loop-bit.invariant.0),
      below_more _ _
          (λ k h. let ne : k ≢ c.loop-bit.bit = omega arith in rw get_or-set_other (c.loop-bit.invariant.1 k h))
          (rw get_or-set_same c.end_of_both.ensures),
    )

pub returns : goal.returns
returns c =
    let f = λ (p : ℕ). end_from c.args.laters.now (start_at c.args.turns (end_from c.args.ends.now p)) in
    same_number_lists _ (ends_by f) c.loop-bit.invariant.0 (λ k h.
    let below : k < 8 = omega arith in
    let passed : k < c.loop-bit.bit = omega arith in
    c.loop-bit.invariant.1 k passed ∙ sym (ends_by-at f k below))

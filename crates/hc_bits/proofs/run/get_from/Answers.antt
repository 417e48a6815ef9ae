use Rattle.std.proofs.Common.{rules, ◌≡◌, ◌+◌, ◌-◌, ◌*◌, ◌/◌, ◌%◌, ◌^◌, ◌<◌, ◌≤◌, ap, sym, ◌∙◌, arith, inl, inr}
use Rattle.std.specs.Int.{bit_at}
use Rattle.std.proofs.lemmas.Bool.{cases_lt}
use Rattle.hc_bits.proofs.Numbers.{joined-lt, joined-low, joined-high}
use Rattle.hc_bits.proofs.Runs.{bit_of-byte}
use Rattle.hc_bits.proofs.run.get_from.Goals as goal

pub loop-done-preserved : goal.loop-done-preserved
loop-done-preserved c =
    let so_far = c.loop-done.invariant in
    let value = c.loop-done.value in
    let done = c.loop-done.done in
    let count = c.min-count.result in
    let place = c.args.at + done in
    let part = c.from.result in
    let same : part ≡ c.part_of-part.result = search rules in
    let fits : part < 2 ^ count = rw same c.part_of-part.ensures.fits in
    let room : done + count ≤ 64 = omega (arith, c.requires.word) in
    record {
      within = omega arith;
      fits = joined-lt value part done count so_far.fits fits room;
      bits = λ k h. elim (cases_lt k done) [
        | inl before ↦ joined-low value part done count k fits room before ∙ so_far.bits k before
        | inr from ↦
            joined-high value part done count k so_far.fits fits room from ∙ ap (λ x. bit_at x (k - done)) same
            ∙ c.part_of-part.ensures.bits (k - done) (omega arith)
            ∙ sym (bit_of-byte c.args.bytes.now (c.args.first + place / 8) (place % 8 + (k - done)) (8 * c.args.first + c.args.at + k) (omega arith) (omega arith))
      ];
    }

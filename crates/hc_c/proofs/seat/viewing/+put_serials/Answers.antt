use Rattle.std.proofs.Common.{ℕ, ◌*◌, ◌^◌, ◌≤◌, ap, arith, length, subst}
use Rattle.hc_c.proofs.Masks.{next_fits}
use Rattle.hc_c.proofs.seat.viewing.+put_serials.Goals as goal

pub with_bit-more-requires : goal.with_bit-more-requires
with_bit-more-requires t c =
    let next = next_fits c.args.bit (length c.in-Some.rest.now) (subst (λ (n : ℕ). c.args.bit * 2 ^ n ≤ 65536) (ap length c.in-Some.ensures.cases.0) c.requires.few) in
    omega (arith, next.0, c.requires.before)

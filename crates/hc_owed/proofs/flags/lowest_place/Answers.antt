use Rattle.std.proofs.Common.{arith, w64}
use Rattle.std.proofs.lemmas.Nat.Bits.{bit_at-trailing_zeros}
use Rattle.hc_owed.proofs.flags.lowest_place.Goals as goal

pub returns : goal.returns
returns c =
    let found = bit_at-trailing_zeros w64 c.args.word (omega (arith, c.if-word-eq0.false)) c.ranges.word.fits in
    record { inside = found.0; set = found.1; below = found.2 }

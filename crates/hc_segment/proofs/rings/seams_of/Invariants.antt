use Rattle.std.proofs.Common.{◌≡◌, vec_len}
use Rattle.hc_segment.proofs.rings.seams_of.Given as goal

abbrev pub invariant-loop : goal.invariant-loop
invariant-loop l = vec_len l.seams ≡ l.counter

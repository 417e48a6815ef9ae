use Rattle.std.proofs.Common.{◌≡◌, ◌+◌, [], length}
use Rattle.rtrb.specs.Ring.{sent, received, known_free, IsPair}
use Rattle.hc_rings.proofs.posts.opening.spares.Given as goal

abbrev pub invariant-loop : goal.invariant-loop
invariant-loop l = record {
  pair : IsPair l.spares l.taken;
  put : length (sent l.spares) ≡ l.counter;
  free : known_free l.spares + l.counter ≡ 4;
  none_taken : received l.taken ≡ [];
}

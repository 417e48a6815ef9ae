use Rattle.std.proofs.Common.{◌≡◌, ℕ, ◌+◌, ◌<◌, ◌≤◌, List, length, true, slice_index_or}
use Rattle.hc_records.specs.declared.keys.TheConstants.Key.{END}
use Rattle.hc_records.specs.declared.keys.Key.{Key}
use Rattle.hc_records.specs.Keys.{is_before, is_within}
use Rattle.hc_cuts.proofs.cursor.carrier.Given as goal

-- the datagrams that are left: the first of them begins by the key, and the one after the last after it
pub record AreLeft (starts : List Key) (key : Key) (begun left : ℕ) : Type 0 where
  pub some : 0 < left
  pub inside : begun + left ≤ length starts
  pub first : is_within (slice_index_or starts begun END) key ≡ true
  pub next : begun + left < length starts → is_before key (slice_index_or starts (begun + left) END) ≡ true

abbrev pub invariant-loop-left : goal.invariant-loop-left
invariant-loop-left l = AreLeft l.starts l.key l.begun l.left

abbrev pub decreases-loop-left : goal.decreases-loop-left
decreases-loop-left l = l.left

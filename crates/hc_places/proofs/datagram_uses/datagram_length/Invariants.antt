use Rattle.std.proofs.Common.{◌≡◌, ◌+◌, ◌≤◌, drop}
use Rattle.std.specs.Prelude.{fold, max}
use Rattle.hc_records.specs.declared.limits.TheConstants.{MOST_AREA_BITS}
use Rattle.hc_records.specs.Image.{end_of, inside}
use Rattle.hc_places.proofs.datagram_uses.datagram_length.Given as goal

abbrev pub invariant-loop-area : goal.invariant-loop-area
invariant-loop-area l = record {
  reaches : fold (λ end area. max end (area.bit + area.bits)) l.end (inside l.number (drop l.area-index l.areas)) ≡ end_of (inside l.number l.areas);
  low : l.end ≤ MOST_AREA_BITS;
}

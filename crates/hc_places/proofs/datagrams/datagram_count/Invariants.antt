use Rattle.std.proofs.Common.{◌≡◌, ◌+◌, drop}
use Rattle.std.specs.Prelude.{fold, max}
use Rattle.hc_records.specs.Image.{datagram_count}
use Rattle.hc_places.proofs.datagrams.datagram_count.Given as goal

abbrev pub invariant-loop-area : goal.invariant-loop-area
invariant-loop-area l =
    fold (λ count area. max count (area.datagram + 1)) l.count (drop l.area-index l.areas) ≡ datagram_count l.areas

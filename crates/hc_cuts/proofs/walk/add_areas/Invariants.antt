use Rattle.std.proofs.Common.{◌≡◌, ◌++◌, drop}
use Rattle.hc_records.specs.SpanLaws.{places_in_span, next_cut}
use Rattle.hc_records.specs.declared.keys.TheConstants.Key.{END}
use Rattle.hc_cuts.specs.Walk.{blank_datagram}
use Rattle.hc_cuts.proofs.walk.add_areas.Given as goal

-- the places so far and those of the areas that are left are all; these have room after the others
abbrev pub invariant-loop-area : goal.invariant-loop-area
invariant-loop-area l = record {
  places : l.places.items ++ places_in_span l.front (drop l.area-index l.areas) ≡ l.fn.places.items ++ places_in_span (blank_datagram l.datagram) l.areas;
  room : next_cut l.front (drop l.area-index l.areas) ≡ END;
  number : l.front.datagram ≡ l.datagram;
}

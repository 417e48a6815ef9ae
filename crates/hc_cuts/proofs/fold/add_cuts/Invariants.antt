use Rattle.std.proofs.Common.{◌≡◌, ◌+◌, ◌≤◌, ◌++◌, length, drop}
use Rattle.hc_records.specs.declared.limits.TheConstants.{MOST_DATAGRAMS}
use Rattle.hc_records.specs.Laws.{cuts_from}
use Rattle.hc_cuts.proofs.fold.add_cuts.Given as goal

-- the keys so far and the remaining ones, are all; there is one for each datagram so far
abbrev pub invariant-loop-area : goal.invariant-loop-area
invariant-loop-area l = record {
  keys : l.keys.items ++ cuts_from l.front (drop l.area-index l.areas) ≡ l.initial.keys.items ++ cuts_from l.fn.first l.areas;
  begun : l.front.datagram + 1 ≡ length l.keys.items;
  few : length l.keys.items ≤ MOST_DATAGRAMS;
}

use Rattle.std.proofs.Common.{◌≡◌, ◌≤◌, length, take}
use Rattle.std.specs.List.{filter}
use Rattle.hc_segment.specs.Setup.{is_taken_once}
use Rattle.hc_segment.proofs.setup.taken_once.Given as goal

abbrev pub invariant-loop-frame : goal.invariant-loop-frame
invariant-loop-frame l = record {
  counted : l.count ≡ length (filter is_taken_once (take l.frame-index l.frames));
  few : l.count ≤ l.frame-index;
}

use Rattle.std.proofs.Common.{◌≡◌, ◌++◌, length}
use Rattle.hc_records.specs.Line.{line_from}
use Rattle.hc_segment.specs.Setup.{station_frames}
use Rattle.hc_segment.proofs.setup.station_frames.Given as goal

abbrev pub invariant-loop-member : goal.invariant-loop-member
invariant-loop-member l = l.frames.items ++ station_frames (length l.frames.items) l.member-iterator ≡ station_frames 0 (line_from 1 l.groups)

-- A line by its fields.
use Rattle.std.specs.Prelude.{◌≡◌, ℕ, List, length, map}
use Rattle.hc_segment.specs.Line.{all_machines}
use Rattle.hc_segment.specs.declared.line.SimulatedLine.TheInside.{Inside}
use Rattle.hc_segment.specs.Cutting.{AreSegmentSizes}

-- the machines of a line's segments
abbrev pub machines_in : Inside → List (List ℕ)
machines_in line = all_machines line.segments.items

-- the machines of a line are counted, and cut into at most four segments
pub record IsSegmentLine (line : Inside) : Type 0 where
  pub counted : line.count ≡ length (machines_in line)
  pub cut : AreSegmentSizes line.count (map length line.segments.items)

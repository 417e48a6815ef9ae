-- The areas of the slaves of a change, as they are lent.
use Rattle.std.specs.Prelude.{List, [], ◌∷◌, replicate, true}
use Rattle.hc_records.specs.declared.records.Area.{Area}
use Rattle.hc_cuts.specs.declared.line_change.Side.{Side}
use Rattle.hc_cuts.specs.declared.line_change.Side.TheVariants.{Absent, Line, One, Present}
use Rattle.hc_cuts.specs.LineChange.{areas_if}

-- the areas of the slaves of one side
abbrev pub side_areas : Side → List (List Area)
side_areas (Absent slaves) = replicate slaves []
side_areas (Present slaves) = areas_if true slaves.now
side_areas (One areas) = areas.now ∷ []
side_areas (Line slaves) = slaves.now

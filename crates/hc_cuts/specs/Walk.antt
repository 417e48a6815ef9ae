-- The places of a task's areas, a span at a time.
use Rattle.std.specs.Prelude.{ℕ, List}
use Rattle.hc_records.specs.declared.records.Dir.TheVariants.{Out}
use Rattle.hc_records.specs.declared.keys.Key.{Key}
use Rattle.hc_records.specs.TaskList.{Keyed}
use Rattle.hc_records.specs.Packing.{Front, Placed}
use Rattle.hc_records.specs.SpanLaws.{areas_from, places_in_span}
use Rattle.hc_bitsum.specs.declared.filled.Filled.{Filled}

-- the datagram with a number, before any area is in it
abbrev pub blank_datagram : ℕ → Front
blank_datagram datagram = record { datagram = datagram; bit = 0; last = Out }

-- the datagram with a number, filled so far
abbrev pub filled_datagram : ℕ → Filled → Front
filled_datagram datagram filled = record { datagram = datagram; bit = filled.bit; last = filled.last }

-- the areas from a key on that the datagram with a number carries, each with its place
abbrev pub span_places : ℕ → Key → List Keyed → List Placed
span_places datagram from list = places_in_span (blank_datagram datagram) (areas_from from list)

-- The stored bytes of the outputs, by the record.
use Rattle.hc_places.specs.Table.{table_of}
use Rattle.hc_images.specs.Packed.{HoldsOutputValues, Packed}
use Rattle.hc_events.specs.Entries.{History}
use Rattle.hc_events.specs.Outputs.{value_bit}
use Rattle.hc_events.specs.Points.{line_of}

-- at each output variable's place in the present line are the bits of its value, and every other bit is 0
abbrev pub HoldsValues : History → Packed → Type 0
HoldsValues history packed = HoldsOutputValues (table_of (line_of history)) (value_bit history) packed

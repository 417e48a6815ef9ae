-- Datagrams of a task as the code passes them on. No public contract names these words.
use Rattle.std.specs.Prelude.{◌≡◌, ℕ, ◌+◌, List, [], ◌∷◌}
use Rattle.hc_records.specs.Line.{Member}
use Rattle.hc_places.specs.declared.table.Datagram.{Datagram}
use Rattle.hc_events.specs.Sendings.{line_data_length}

-- these datagrams of a task, from a number on, have the lengths that the line gives them
abbrev pub HaveLengths : List Member → ℕ → ℕ → List Datagram → Type 0
HaveLengths line task number [] = Unit {0}
HaveLengths line task number (datagram ∷ datagrams) = (datagram.length ≡ line_data_length line (task, number)) × HaveLengths line task (number + 1) datagrams

-- The rows and datagrams that follow from the places of a task's areas.
use Rattle.std.specs.Prelude.{ℕ, ◌<◌, ◌≤◌, All, List}
use Rattle.hc_records.specs.declared.limits.TheConstants.{MOST_DATAGRAMS}
use Rattle.hc_records.specs.declared.records.Dir.{Dir}
use Rattle.hc_records.specs.Packing.{Placed}
use Rattle.hc_records.specs.Image.{datagram_count, datagram_length}
use Rattle.hc_records.specs.Laws.{IsDatagramLength, LiesInside}
use Rattle.hc_places.specs.DatagramUses.{counted_inside}
use Rattle.hc_places.specs.Table.{VariableRow}

-- the row of a variable of an area, with its first bit and its bits
abbrev pub row_at : ℕ → ℕ → Dir → ℕ × (ℕ × ℕ) → VariableRow
row_at task datagram dir found =
    (found.0, record { task = task; datagram = datagram; bit = found.1.0; bits = found.1.1; dir = dir })

-- places whose datagrams can be sent: at most 16; none is empty or too long, or expects a working counter over its 16 bits
pub record AreSendable (areas : List Placed) : Type 0 where
  pub few : datagram_count areas ≤ MOST_DATAGRAMS
  pub inside : All LiesInside areas
  pub lengths : (d : ℕ) → d < datagram_count areas → IsDatagramLength (datagram_length areas d)
  pub counted : (d : ℕ) → counted_inside d areas < 65536

-- Machines outside the line do nothing to a logical datagram if they pass each of its bits. Each is stated for the logical bits that are asked about, and is the contract of a function of `task_laws` for the bits of each task.
use Rattle.std.specs.Prelude.{◌≡◌, ℕ, List, length}
use Rattle.hc_bits.specs.Bits.{AreBytes}
use Rattle.hc_records.specs.Line.{State, line}
use Rattle.hc_exchange.specs.PairLaws.{IsConfigurable}
use Rattle.hc_exchange.specs.Carrying.{AreAsked, count_through, data_through, memories_after}
use Rattle.hc_exchange.specs.Wire.{WireCarries, WireMachine, line_machines, outside_machines, wire_after, wire_machines}

-- a logical datagram comes back from a wire as from the machines of the line alone, with the same counter; the line's machines are as without the others, and those are as they were
pub record PassesOutsiders (wire : List WireMachine) (from : ℕ) (bytes : List ℕ) : Type 0 where
  pub data_is : data_through (wire_machines wire) from bytes ≡ data_through (line_machines wire) from bytes
  pub counter : count_through (wire_machines wire) from (length bytes) ≡ count_through (line_machines wire) from (length bytes)
  pub all_machines : memories_after (wire_machines wire) from bytes ≡ wire_machines (wire_after wire from bytes)
  pub of_line : line_machines (wire_after wire from bytes) ≡ memories_after (line_machines wire) from bytes
  pub outside : outside_machines (wire_after wire from bytes) ≡ outside_machines wire

-- `PassesOutsiders` holds for each datagram whose bits the wire carries: the line's machines carry them, and the others pass them
abbrev pub OutsidersPassDatagrams : (ℕ → Type 0) → State → Type 0
OutsidersPassDatagrams Asked state =
    (wire : List WireMachine) (bytes : List ℕ) (from : ℕ) → WireCarries Asked (line state) wire → AreAsked Asked from bytes → AreBytes bytes
    → PassesOutsiders wire from bytes

-- the wire carries the bits after the datagram too
abbrev pub WiresStayCarrying : (ℕ → Type 0) → State → Type 0
WiresStayCarrying Asked state =
    (wire : List WireMachine) (bytes : List ℕ) (from : ℕ) → IsConfigurable state → WireCarries Asked (line state) wire → AreAsked Asked from bytes → AreBytes bytes
    → WireCarries Asked (line state) (wire_after wire from bytes)

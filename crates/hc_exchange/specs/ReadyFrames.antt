-- A frame of ready tasks over a wire: each of its datagrams comes back good.
use Rattle.std.specs.Prelude.{◌≡◌, true, ◌*◌, All, List, ◌∷◌, Ok, map}
use Rattle.std.specs.List.{list_all}
use Rattle.hc_records.specs.Image.{logical_address}
use Rattle.hc_events.specs.Answering.{has_good, judged_by}
use Rattle.hc_events.specs.Arrivals.{Part, arrival_in}
use Rattle.hc_events.specs.Entries.{History, Sent}
use Rattle.hc_events.specs.Outputs.{sent_data}
use Rattle.hc_events.specs.Points.{next_serial}
use Rattle.hc_events.specs.Ready.{is_ready}
use Rattle.hc_events.specs.Sendings.{Named}
use Rattle.hc_segment.specs.Line.{frame_through}
use Rattle.hc_exchange.specs.Holding.{HoldRegisters, IsRecord}
use Rattle.hc_exchange.specs.Runs.{entry_frame}
use Rattle.hc_exchange.specs.Sequences.{Logical, all_through}
use Rattle.hc_exchange.specs.Wire.{WireMachine, line_machines, wire_machines}

-- a datagram of a frame of tasks with its data, as the record sends it
abbrev pub sent_logical : History → Named → Logical
sent_logical history named = record { from = 8 * logical_address named.0 named.1; bytes = sent_data history named.0 named.1 }

-- the frame as it comes back after all machines of the wire: it is read, each of its datagrams is judged good right after the sending, and the data of each are what the line's machines alone make of them
pub record ComesBackGood (history : History) (frame : List Named) (wire : List WireMachine) : Type 0 where
  pub parts : List Part
  pub read : arrival_in (frame_through (wire_machines wire) (entry_frame history (Sent frame))) ≡ Ok (record { serial = next_serial history; parts = parts })
  pub good : list_all has_good (judged_by (Sent frame ∷ history) (record { serial = next_serial history; parts = parts })) ≡ true
  pub data_are : map (λ part. part.bytes) parts ≡ all_through (line_machines wire) (map (sent_logical history) frame)

-- each frame of tasks that are ready comes back good, if the machines of the wire hold what the record says
abbrev pub ReadyFramesComeBackGood : Type 0
ReadyFramesComeBackGood =
    (history : History) (frame : List Named) (wire : List WireMachine) → IsRecord (Sent frame ∷ history) → HoldRegisters history wire → All (λ named. is_ready history named.0 ≡ true) frame
    → ComesBackGood history frame wire

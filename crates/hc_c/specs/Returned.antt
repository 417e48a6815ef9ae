-- Outcomes beside the datagrams of a frame, as the code pairs them: by the address in the datagram and the table of the present
-- line. No public contract names these words.
use Rattle.std.specs.Prelude.{ℕ, ◌+◌, ◌≤◌, List, [], ◌∷◌, length}
use Rattle.std.specs.Option.{option_map_or}
use Rattle.hc_frames.specs.Arrived.{ArrivedDatagram}
use Rattle.hc_places.specs.Table.{Table, datagram_in}
use Rattle.hc_registers.specs.declared.counters.TheConstants.{WRITE_COUNT}
use Rattle.hc_events.specs.declared.answer.Arrived.{Arrived}
use Rattle.hc_events.specs.declared.answer.Arrived.TheVariants as arrived
use Rattle.hc_events.specs.declared.answer.Outcome as core
use Rattle.hc_events.specs.declared.answer.Outcome.TheVariants as outcome
use Rattle.hc_events.specs.Names.{named_at, written_at}
use Rattle.hc_events.specs.Sendings.{Named}
use Rattle.hc_c.specs.declared.arriving.Arrival.{Arrival}
use Rattle.hc_c.specs.declared.arriving.Outcome.{Outcome}
use Rattle.hc_c.specs.declared.arriving.TheConstants.{BLOCK_MISSED, BLOCK_WRITTEN, INPUTS, OF_BLOCKS, OF_TASKS, SENT_AGAIN, STALE, WRONG_COUNT}
use Rattle.hc_c.specs.Arrivals.{arrival_as}

-- the kind of an outcome
abbrev pub kind_by : core.Outcome → ℕ
kind_by (outcome.Inputs task d) = INPUTS
kind_by (outcome.WrongCount expected got) = WRONG_COUNT
kind_by outcome.Stale = SENT_AGAIN
kind_by outcome.Done = BLOCK_WRITTEN
kind_by outcome.Missed = BLOCK_MISSED

-- the expected working counter of a task's datagram in a table; 0 if the task has no such datagram
abbrev pub expected_in : Table → Named → ℕ
expected_in table named = option_map_or (λ datagram. datagram.expected) (datagram_in table named.0 named.1) 0

-- the C form of a task's datagram, from its outcome and the datagram that came back
abbrev pub part_outcome_out : Table → core.Outcome → ArrivedDatagram → Outcome
part_outcome_out table one placed = record {
  kind = kind_by one;
  task = (named_at placed.carried.address).0;
  datagram = (named_at placed.carried.address).1;
  reserved = 0;
  expected = expected_in table (named_at placed.carried.address);
  got = placed.carried.counter;
  at = placed.start + 10;
  length = length placed.carried.bytes;
  station = 0;
  start = 0;
}

-- the C forms of tasks' datagrams, in the frame's order
abbrev pub parts_out : Table → List core.Outcome → List ArrivedDatagram → List Outcome
parts_out table [] placed = []
parts_out table (one ∷ outcomes) [] = []
parts_out table (one ∷ outcomes) (part ∷ placed) = part_outcome_out table one part ∷ parts_out table outcomes placed

-- the C form of a register block, from its outcome and the datagram that came back
abbrev pub block_outcome_out : core.Outcome → ArrivedDatagram → Outcome
block_outcome_out one placed = record {
  kind = kind_by one;
  task = 0;
  datagram = 0;
  reserved = 0;
  expected = WRITE_COUNT;
  got = placed.carried.counter;
  at = placed.start + 10;
  length = length placed.carried.bytes;
  station = (written_at placed.carried.address).0;
  start = (written_at placed.carried.address).1;
}

-- the C forms of register blocks, in the frame's order
abbrev pub answered_blocks : List core.Outcome → List ArrivedDatagram → List Outcome
answered_blocks [] placed = []
answered_blocks (one ∷ outcomes) [] = []
answered_blocks (one ∷ outcomes) (part ∷ placed) = block_outcome_out one part ∷ answered_blocks outcomes placed

-- the C forms of a frame's datagrams, by what the frame answers
abbrev pub answered_as : Arrived → Table → List core.Outcome → List ArrivedDatagram → List Outcome
answered_as arrived.Answered table outcomes placed = parts_out table outcomes placed
answered_as arrived.Written table outcomes placed = answered_blocks outcomes placed
answered_as arrived.WriteDone table outcomes placed = answered_blocks (outcome.Done ∷ []) placed
answered_as arrived.WriteMissed table outcomes placed = answered_blocks (outcome.Missed ∷ []) placed
answered_as _ table outcomes placed = []

-- the C forms that are counted: those of tasks' datagrams
abbrev pub counted_as : Arrived → Table → List core.Outcome → List ArrivedDatagram → List Outcome
counted_as arrived.Answered table outcomes placed = parts_out table outcomes placed
counted_as _ table outcomes placed = []

-- the datagram ends within the first 2,064 bytes of its frame
abbrev pub IsInFrame : ArrivedDatagram → Type 0
IsInFrame placed = placed.start + (12 + length placed.carried.bytes) ≤ 2064

-- the C form of an arriving frame whose list of outcomes in the core has this many items
abbrev pub arrival_out : Arrived → ℕ → ℕ → Arrival
arrival_out arrived.Answered count serial = arrival_as serial count OF_TASKS
arrival_out arrived.Written count serial = arrival_as serial count OF_BLOCKS
arrival_out arrived.WriteDone count serial = arrival_as serial 1 OF_BLOCKS
arrival_out arrived.WriteMissed count serial = arrival_as serial 1 OF_BLOCKS
arrival_out arrived.Stale count serial = arrival_as serial 0 STALE

-- Arriving frames, in C.
use Rattle.std.specs.Prelude.{◌≡◌, ℕ, ◌+◌, List, [], ◌∷◌, length, replicate, Result, Ok, Err}
use Rattle.hc_frames.specs.declared.reading.faults.FrameFault.{FrameFault}
use Rattle.hc_events.specs.declared.answer.Answer.{Answer}
use Rattle.hc_events.specs.declared.answer.Answer.TheVariants as answer
use Rattle.hc_events.specs.Answering.{Judged, Verdict, Good, Wrong, Stale, judged_by}
use Rattle.hc_events.specs.Arrivals as frame
use Rattle.hc_events.specs.Arrivals.{arrival_in}
use Rattle.hc_events.specs.Entries.{History}
use Rattle.hc_events.specs.Faults.{core_fault_number}
use Rattle.hc_events.specs.Heads.{Item, Datagram, Block}
use Rattle.hc_events.specs.Names.{written_at}
use Rattle.hc_events.specs.Sendings.{Named}
use Rattle.hc_events.specs.Steps.{Arrives as ArrivesStep, answer_to, entries_after}
use Rattle.hc_core.specs.LastData.{StaleLeavesNothing}
use Rattle.hc_c.specs.declared.arriving.Arrival.{Arrival}
use Rattle.hc_c.specs.declared.arriving.Outcome.{Outcome}
use Rattle.hc_c.specs.declared.arriving.TheConstants.{BLOCK_MISSED, BLOCK_WRITTEN, INPUTS, OF_BLOCKS, OF_TASKS, SENT_AGAIN, STALE, WRONG_COUNT}
use Rattle.hc_c.specs.declared.embedded.Embedded.{Embedded}
use Rattle.hc_c.specs.declared.numbers.TheConstants.{DONE}
use Rattle.hc_c.specs.declared.handle.Handle.{Handle}
use Rattle.hc_c.specs.Counts.{all_judged}
use Rattle.hc_c.specs.Embedded.{embedded_discarding, embedded_history, with_counts}
use Rattle.hc_c.specs.Handles.{HoldsAsBefore}
use Rattle.hc_c.specs.Lists.{put_first}

-- the kind of a task's datagram that came back, by its outcome
abbrev pub kind_of : Verdict → ℕ
kind_of Good = INPUTS
kind_of Wrong = WRONG_COUNT
kind_of Stale = SENT_AGAIN

-- the kind of a register block that came back, by its outcome
abbrev pub block_kind : Verdict → ℕ
block_kind Good = BLOCK_WRITTEN
block_kind Wrong = BLOCK_MISSED
block_kind Stale = SENT_AGAIN

-- the kind of a datagram that came back, by its content
abbrev pub kind_in : Item → Verdict → ℕ
kind_in (Datagram task d) verdict = kind_of verdict
kind_in (Block station number) verdict = block_kind verdict

-- the task of a task's datagram, and its number in the task; 0 and 0 for a register block
abbrev pub item_name : Item → Named
item_name (Datagram task d) = (task, d)
item_name (Block station number) = (0, 0)

-- the station address and the register of a register block; 0 and 0 for a task's datagram
abbrev pub register_place : Item → ℕ → ℕ × ℕ
register_place (Datagram task d) address = (0, 0)
register_place (Block station number) address = written_at address

-- the C form of a datagram that came back, whose data begin at a byte of the frame
abbrev pub datagram_outcome_out : ℕ → Judged → Outcome
datagram_outcome_out at datagram = record {
  kind = kind_in datagram.head.item datagram.verdict;
  task = (item_name datagram.head.item).0;
  datagram = (item_name datagram.head.item).1;
  reserved = 0;
  expected = datagram.head.expected;
  got = datagram.part.counter;
  at = at;
  length = length datagram.part.bytes;
  station = (register_place datagram.head.item datagram.head.address).0;
  start = (register_place datagram.head.item datagram.head.address).1;
}

-- the C forms of datagrams that came back one after another: 12 bytes lie between the data of two, the first one's working
-- counter and the next one's header
abbrev pub outcomes_from : ℕ → List Judged → List Outcome
outcomes_from at [] = []
outcomes_from at (datagram ∷ datagrams) = datagram_outcome_out at datagram ∷ outcomes_from (at + (12 + length datagram.part.bytes)) datagrams

-- the C forms of the datagrams of a frame of tasks or of register writes: the first one's data begin at byte 26 (ETG.1000.4,
-- 5.3 and 5.4); nothing for any other answer
abbrev pub outcomes_out : Answer → List Judged → List Outcome
outcomes_out (answer.Answered outcomes) datagrams = outcomes_from 26 datagrams
outcomes_out (answer.Written outcomes) datagrams = outcomes_from 26 datagrams
outcomes_out answer.WriteDone datagrams = outcomes_from 26 datagrams
outcomes_out answer.WriteMissed datagrams = outcomes_from 26 datagrams
outcomes_out _ datagrams = []

-- the C forms that are counted: those of frames of tasks
abbrev pub counted_in : Answer → List Judged → List Outcome
counted_in (answer.Answered outcomes) datagrams = outcomes_from 26 datagrams
counted_in _ datagrams = []

-- the number of the core's answer: a refusal's fault, and 0 for every other answer
abbrev pub answer_number : Answer → ℕ
answer_number (answer.Refused fault) = core_fault_number fault
answer_number _ = DONE

-- the datagrams of the sending that a frame answers, each with its content as it came back; none if the frame cannot be read
abbrev pub bytes_judged : History → Result frame.Arrival FrameFault → List Judged
bytes_judged history (Ok arrival) = judged_by history arrival
bytes_judged history (Err fault) = []

-- the serial in a frame; 0 if the frame cannot be read
abbrev pub serial_borne : Result frame.Arrival FrameFault → ℕ
serial_borne (Ok arrival) = arrival.serial
serial_borne (Err fault) = 0

-- the C form of an arriving frame as a whole
abbrev pub arrival_as : ℕ → ℕ → ℕ → Arrival
arrival_as serial datagrams kind = record { serial = serial; datagrams = datagrams; kind = kind; reserved = replicate 5 0 }

-- the struct of an arriving frame after the call: its serial, the number of its datagrams with an outcome, and what it answers;
-- after a refusal it is unchanged
abbrev pub arrival_of : Answer → ℕ → List Judged → Arrival → Arrival
arrival_of (answer.Answered outcomes) serial datagrams before = arrival_as serial (length datagrams) OF_TASKS
arrival_of (answer.Written outcomes) serial datagrams before = arrival_as serial (length datagrams) OF_BLOCKS
arrival_of answer.WriteDone serial datagrams before = arrival_as serial (length datagrams) OF_BLOCKS
arrival_of answer.WriteMissed serial datagrams before = arrival_as serial (length datagrams) OF_BLOCKS
arrival_of answer.Stale serial datagrams before = arrival_as serial 0 STALE
arrival_of _ serial datagrams before = before

-- a line after an arrival with this answer: a refusal changes nothing; otherwise the arrival is recorded, no change is left to
-- take, and the outcomes of tasks' datagrams are counted
abbrev pub after_arrival : Answer → List ℕ → Embedded → Embedded
after_arrival (answer.Refused fault) bytes old = old
after_arrival given bytes old =
    with_counts (embedded_discarding old (entries_after (embedded_history old) (ArrivesStep bytes)))
    (all_judged old.counts (counted_in given (bytes_judged (embedded_history old) (arrival_in bytes))))

-- a frame arrives and the core's answer to it is this one: its number is returned, the line is as the answer leaves it, and the
-- outcomes are written, as many as fit, with the frame as a whole; a stale frame changes no later answer
pub record ArrivesAs (given : Answer) (old new : Embedded) (bytes : List ℕ) (number : ℕ) (before after : List Outcome) (arrival arrival' : Arrival) : Type 0 where
  pub numbered : number ≡ answer_number given
  pub line : new ≡ after_arrival given bytes old
  pub outcomes : after ≡ put_first (outcomes_out given (bytes_judged (embedded_history old) (arrival_in bytes))) before
  pub arrival_is : arrival' ≡ arrival_of given (serial_borne (arrival_in bytes)) (bytes_judged (embedded_history old) (arrival_in bytes)) arrival
  pub stale : StaleLeavesNothing (embedded_history old) given (embedded_history new)

-- a frame arrives, and the answer to it is the core's
abbrev pub Arrives : Embedded → Embedded → List ℕ → ℕ → List Outcome → List Outcome → Arrival → Arrival → Type 0
Arrives old new bytes number before after arrival arrival' =
    ArrivesAs (answer_to (embedded_history old) (ArrivesStep bytes)) old new bytes number before after arrival arrival'

-- the handle's line and the caller's structs are unchanged
abbrev pub LeavesAll : Handle → Handle → List Outcome → List Outcome → Arrival → Arrival → Type 0
LeavesAll handle handle' outcomes outcomes' before after = HoldsAsBefore handle handle' × (outcomes' ≡ outcomes) × (after ≡ before)

-- The names of a returned frame's datagrams, by the addresses in it: FPWR addresses a slave by its station address and a
-- register (ETG.1000.4, 5.4), LRW a task's datagram by its logical address (this project's profile).
use Rattle.std.specs.Prelude.{◌≡◌, ℕ, ◌-◌, ◌/◌, ◌%◌, ◌<◌, All, List, None}
use Rattle.hc_records.specs.declared.limits.TheConstants.{MOST_DATAGRAMS}
use Rattle.hc_records.specs.Edits.{over_limit_task}
use Rattle.hc_records.specs.Line.{Member, State, groups_of, line}
use Rattle.hc_records.specs.Project.{lowest_fault}
use Rattle.hc_events.specs.declared.answer.Answer.TheVariants as answer
use Rattle.hc_events.specs.declared.answer.Outcome.{Outcome}
use Rattle.hc_events.specs.Arrivals.{Arrival}
use Rattle.hc_events.specs.Entries.{History}
use Rattle.hc_events.specs.Points.{line_of}
use Rattle.hc_events.specs.Sendings.{Named}
use Rattle.hc_events.specs.Heads.{data_head}
use Rattle.hc_events.specs.Answering.{Judged, judged_by}
use Rattle.hc_events.specs.Steps.{judged_answer}
use Rattle.hc_events.specs.Accepted.{IsReachable, IsInLine}

-- the task and the number of the datagram with a logical address, which is 0x01000000 * (task + 1) + 2048 * number
abbrev pub named_at : ℕ → Named
named_at address = (address / 0x01000000 - 1, address / 2048 % 16)

-- the station address and the register in the address of an FPWR: its low and its high word
abbrev pub written_at : ℕ → ℕ × ℕ
written_at address = (address % 65536, address / 65536)

-- a datagram that came back has the address that it was sent with
abbrev pub HasItsAddress : Judged → Type 0
HasItsAddress datagram = datagram.part.address ≡ datagram.head.address

-- each datagram that an arrival answers has its head's address
abbrev pub AddressesAreThoseSent : Type 0
AddressesAreThoseSent = (history : History) (arrival : Arrival) → All HasItsAddress (judged_by history arrival)

-- a datagram that came back is a task's in the line, which says of it what the sending said, and its own address names it
pub record IsNamedByAddress (line : List Member) (datagram : Judged) : Type 0 where
  pub named : Named
  pub in_line : IsInLine line named
  pub head : datagram.head ≡ data_head line named
  pub names : named_at datagram.part.address ≡ named

-- each datagram of a task of the line has a number below 16
abbrev pub HasFewDatagrams : List Member → Type 0
HasFewDatagrams line = (named : Named) → IsInLine line named → named.1 < MOST_DATAGRAMS

-- `HasFewDatagrams` holds for the line of any project's state in which no task has more than 16 datagrams: `Plan` gives both
-- conditions of its state
abbrev pub ProjectsHaveFewDatagrams : Type 0
ProjectsHaveFewDatagrams = (state : State) → lowest_fault (groups_of state.groups) ≡ None → over_limit_task (line state) ≡ None → HasFewDatagrams (line state)

-- if an arrival answers frames of tasks, each of its datagrams names a task's datagram of the present line: the one that was
-- sent in its place
abbrev pub AnsweredAreNamed : Type 0
AnsweredAreNamed =
    (history : History) (arrival : Arrival) (outcomes : List Outcome) → IsReachable history → HasFewDatagrams (line_of history)
    → judged_answer (judged_by history arrival) ≡ answer.Answered outcomes → All (IsNamedByAddress (line_of history)) (judged_by history arrival)

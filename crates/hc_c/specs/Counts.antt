-- The counters of each datagram since the line was opened: its sendings, and the outcomes of its arrivals. Edits leave the
-- counters.
use Rattle.std.specs.Prelude.{ℕ, ◌+◌, ◌*◌, ◌-◌, ◌^◌, ◌==◌, ◌&&◌, nat_lt, min, if◌then◌else◌, List, fold, replicate, slice_index_or, slice_set}
use Rattle.hc_records.specs.declared.limits.TheConstants.{MOST_DATAGRAMS, TASKS}
use Rattle.hc_records.specs.Slots.{slot_number}
use Rattle.hc_events.specs.Sendings.{Frame, Named}
use Rattle.hc_c.specs.declared.arriving.Outcome.{Outcome}
use Rattle.hc_c.specs.declared.arriving.TheConstants.{INPUTS, WRONG_COUNT}
use Rattle.hc_c.specs.declared.counting.Counters.{Counters}
use Rattle.hc_c.specs.declared.numbers.TheConstants.{DONE, NOTHING}

-- the counters of each datagram that a line can have, task by task
abbrev pub Counts : Type 0
Counts = List Counters

-- the counters of a datagram that was never sent
abbrev pub nothing_counted : Counters
nothing_counted = record { sent = 0; good = 0; wrong = 0; again = 0 }

-- the counters of an opened line: no datagram was sent yet
abbrev pub opening_counts : Counts
opening_counts = replicate (TASKS * MOST_DATAGRAMS) nothing_counted

-- one more; the largest number of 64 bits stays
abbrev pub counted_up : ℕ → ℕ
counted_up number = min (number + 1) (2 ^ 64 - 1)

-- the counters of a datagram
abbrev pub counters_of : Counts → ℕ → ℕ → Counters
counters_of counts task d = slice_index_or counts (slot_number task d) nothing_counted

-- the counters, with these for a datagram
abbrev pub with_counters : Counts → ℕ → ℕ → Counters → Counts
with_counters counts task d counters = slice_set counts (slot_number task d) counters

-- the counters, with one more sending of a datagram
abbrev pub sent_once : Counts → Named → Counts
sent_once counts named =
    with_counters counts named.0 named.1
    (record (counters_of counts named.0 named.1) { sent = counted_up (counters_of counts named.0 named.1).sent })

-- the counters, with one more sending of each datagram of a frame
abbrev pub frame_sent : Counts → Frame → Counts
frame_sent counts frame = fold sent_once counts frame.datagrams

-- the counters, with one more sending of each datagram of all frames of a sending
abbrev pub all_counted_sent : Counts → List Frame → Counts
all_counted_sent counts frames = fold frame_sent counts frames

-- the counters of a datagram after an arrival of this kind for it
abbrev pub judged_as : ℕ → Counters → Counters
judged_as kind counters =
    if kind == INPUTS then record counters { good = counted_up counters.good }
    else (if kind == WRONG_COUNT then record counters { wrong = counted_up counters.wrong } else record counters { again = counted_up counters.again })

-- the counters after an outcome for a datagram
abbrev pub judged_once : Counts → Outcome → Counts
judged_once counts one =
    with_counters counts one.task one.datagram (judged_as one.kind (counters_of counts one.task one.datagram))

-- the counters after the outcomes of an arriving frame's datagrams
abbrev pub all_judged : Counts → List Outcome → Counts
all_judged counts outcomes = fold judged_once counts outcomes

-- 0 if a line can have the datagram of a task with a number, else 100
abbrev pub counters_number : ℕ → ℕ → ℕ
counters_number task d = if nat_lt task TASKS && nat_lt d MOST_DATAGRAMS then DONE else NOTHING

-- The awaited sendings: those that an arrival can still answer without being stale.
use Rattle.std.specs.Prelude.{ℕ, ◌||◌, Bool, true, false, if◌then◌else◌, List, filter, Option, Some, None, option_and_then}
use Rattle.std.specs.List.{list_all, list_any}
use Rattle.hc_events.specs.Entries.{HistoryEntry, History, Came}
use Rattle.hc_events.specs.Heads.{Head, is_block}
use Rattle.hc_events.specs.Answering.{Sending, ends, is_outdated, sending_of}

-- an accepted edit or an arrival that fits was recorded since
abbrev pub is_ended : ℕ → Sending → Bool
is_ended serial sending = list_any (ends serial sending.heads) sending.since

-- all that these datagrams carry is out of date
abbrev pub all_outdated : List HistoryEntry → List Head → Bool
all_outdated since heads = list_all (λ head. is_outdated head.item since) heads

-- the entry is of another kind than a frame that arrived (`Came`)
abbrev pub is_no_arrival : HistoryEntry → Bool
is_no_arrival (Came arrival) = false
is_no_arrival entry = true

-- a sending that neither ended nor is wholly out of date, without the arrivals since then: those that do not end it say nothing
-- of it
abbrev pub still_awaited : ℕ → Sending → Option Sending
still_awaited serial sending =
    if is_ended serial sending || all_outdated sending.since sending.heads then None
    else Some (record { heads = sending.heads; since = filter is_no_arrival sending.since })

-- the awaited sending with a serial, or none
abbrev pub awaited : History → ℕ → Option Sending
awaited history serial = option_and_then (still_awaited serial) (sending_of history serial)

-- the sending carries a register block
abbrev pub is_write_sending : Sending → Bool
is_write_sending sending = list_any (λ head. is_block head.item) sending.heads

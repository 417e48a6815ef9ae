-- Which sending an arrival answers, and what it is for each of the sending's datagrams (this project's profile; the working counter of ETG.1000.4, 5.4).
use Rattle.std.specs.Prelude.{ℕ, ◌==◌, ◌&&◌, ◌||◌, not, Bool, true, false, if◌then◌else◌, List, [], ◌∷◌, length, map, Option, Some, None, option_map, option_and_then}
use Rattle.std.specs.Option.{option_map_or}
use Rattle.std.specs.List.{list_any, zip}
use Rattle.hc_frames.specs.Commands.{code_of}
use Rattle.hc_events.specs.Arrivals.{Arrival, Part}
use Rattle.hc_events.specs.Entries.{HistoryEntry, History, Opened, Edited, Sent, Wrote, Came, Forgot}
use Rattle.hc_events.specs.Points.{line_of, next_serial}
use Rattle.hc_events.specs.Heads.{Item, Datagram, Block, Head, same_item, item_of, block_item, data_heads, write_heads}

-- a sending as it is looked back upon: what it said of its datagrams, and the entries since, the newest first
pub record Sending : Type 0 where
  pub heads : List Head
  pub since : List HistoryEntry

-- the sending with these heads since which nothing was recorded
abbrev pub sending_of_heads : List Head → Sending
sending_of_heads heads = record { heads = heads; since = [] }

-- the sending with one more entry since, put before the others as the newest
abbrev pub followed_by : HistoryEntry → Sending → Sending
followed_by entry sending = record { heads = sending.heads; since = entry ∷ sending.since }

-- the sending with a serial, which is the number of sendings before it
abbrev pub sending_of : History → ℕ → Option Sending
sending_of [] serial = None
sending_of (Opened groups ∷ history) serial = None
sending_of (Sent frame ∷ history) serial =
    if next_serial history == serial then Some (sending_of_heads (data_heads (line_of history) frame))
    else option_map (followed_by (Sent frame)) (sending_of history serial)
sending_of (Wrote blocks ∷ history) serial =
    if next_serial history == serial then Some (sending_of_heads (write_heads blocks))
    else option_map (followed_by (Wrote blocks)) (sending_of history serial)
sending_of (entry ∷ history) serial = option_map (followed_by entry) (sending_of history serial)

-- a datagram came back with the command, the address and the length that it was sent with
abbrev pub has_head : Head → Part → Bool
has_head head part =
    (code_of head.command == code_of part.command) && (head.address == part.address) && (head.length == length part.bytes)

-- each part has the head of its datagram, in order, with none missing and none left over
abbrev pub has_heads : List Head → List Part → Bool
has_heads [] [] = true
has_heads [] (part ∷ parts) = false
has_heads (head ∷ heads) [] = false
has_heads (head ∷ heads) (part ∷ parts) = has_head head part && has_heads heads parts

-- the arrival has the sending's serial and its list of commands, addresses and lengths
abbrev pub fits_sending : ℕ → List Head → Arrival → Bool
fits_sending serial heads arrival = (serial == arrival.serial) && has_heads heads arrival.parts

-- an accepted edit, or an arrival that fits the sending (`fits_sending`): no arrival after it answers the sending
abbrev pub ends : ℕ → List Head → HistoryEntry → Bool
ends serial heads (Edited edit) = true
ends serial heads (Came arrival) = fits_sending serial heads arrival
ends serial heads entry = false

-- an arrival answers a sending, which has its serial: it fits the sending, and since then no edit was accepted and no other
-- arrival that fits came
abbrev pub is_answer : Arrival → Sending → Bool
is_answer arrival sending =
    fits_sending arrival.serial sending.heads arrival && not (list_any (ends arrival.serial sending.heads) sending.since)

-- `x` if it passes the test, otherwise none
abbrev pub only_if : {X : Type 0} → (X → Bool) → X → Option X
only_if test x = if test x then Some x else None

-- the sending that an arrival answers: the one with its serial, if the arrival is an answer to it; otherwise none
abbrev pub answered_by : History → Arrival → Option Sending
answered_by history arrival = option_and_then (only_if (is_answer arrival)) (sending_of history arrival.serial)

-- the entry sends the item: it is a frame with that datagram, or a write of that block
abbrev pub sends : Item → HistoryEntry → Bool
sends item (Sent frame) = list_any (λ named. same_item item (item_of named)) frame
sends item (Wrote blocks) = list_any (λ block. same_item item (block_item block)) blocks
sends item entry = false

-- a slave's registers were forgotten
abbrev pub is_forgetting : HistoryEntry → Bool
is_forgetting (Forgot station) = true
is_forgetting entry = false

-- the registers of the slave with a station address were forgotten
abbrev pub forgets : ℕ → HistoryEntry → Bool
forgets station (Forgot other) = station == other
forgets station entry = false

-- after some slave's registers were forgotten a register write was sent: it takes the place of every write before that
abbrev pub starts_over : List HistoryEntry → Bool
starts_over [] = false
starts_over (Wrote blocks ∷ since) = list_any is_forgetting since || starts_over since
starts_over (entry ∷ since) = starts_over since

-- a write of the register block says nothing any more: the slave was forgotten since, or the writes started over; a task's datagram has no part in either
abbrev pub is_dropped : Item → List HistoryEntry → Bool
is_dropped (Datagram task d) since = false
is_dropped (Block station number) since = list_any (forgets station) since || starts_over since

-- an item that was sent is out of date: it was dropped or sent again since
abbrev pub is_outdated : Item → List HistoryEntry → Bool
is_outdated item since = is_dropped item since || list_any (sends item) since

-- the verdict on an answer to a datagram: good by its working counter, wrong by it, or stale if the datagram or block was sent
-- again since, or if the block's write was dropped
pub data Verdict : Type 0 where
  Good : Verdict
  Wrong : Verdict
  Stale : Verdict

-- the verdict is `Good`: the expected working counter came back, and the datagram is not out of date
abbrev pub is_good : Verdict → Bool
is_good Good = true
is_good Wrong = false
is_good Stale = false

-- the verdict is `Stale`: the datagram is out of date
abbrev pub is_stale : Verdict → Bool
is_stale Good = false
is_stale Wrong = false
is_stale Stale = true

-- the verdict on a part that came back: stale if its datagram is out of date (`is_outdated`), otherwise good if its working
-- counter is the expected one, otherwise wrong
abbrev pub verdict : List HistoryEntry → Head → Part → Verdict
verdict since head part =
    if is_outdated head.item since then Stale else (if part.counter == head.expected then Good else Wrong)

-- a datagram of a sending, what came back of it, and what that is
pub record Judged : Type 0 where
  pub head : Head
  pub part : Part
  pub verdict : Verdict

-- a head and what came back of it, with the verdict that follows from the entries since the sending
abbrev pub judge : List HistoryEntry → Head × Part → Judged
judge since pair = record { head = pair.0; part = pair.1; verdict = verdict since pair.0 pair.1 }

-- the sending's heads in order, each with the arrival's datagram in its place and the verdict, as far as both go; the fit of
-- the arrival is not tested
abbrev pub judged : Arrival → Sending → List Judged
judged arrival sending = map (judge sending.since) (zip sending.heads arrival.parts)

-- the datagrams of the sending that an arrival answers; none if it answers none
abbrev pub judged_by : History → Arrival → List Judged
judged_by history arrival = option_map_or (judged arrival) (answered_by history arrival) []

-- the judged datagram is good or wrong, not stale
abbrev pub is_current : Judged → Bool
is_current datagram = not (is_stale datagram.verdict)

-- the judged datagram's verdict is `Good`
abbrev pub has_good : Judged → Bool
has_good datagram = is_good datagram.verdict

-- an arrival is stale if it answers no sending, or if each datagram is stale
abbrev pub is_stale_to : History → Arrival → Bool
is_stale_to history arrival = not (list_any is_current (judged_by history arrival))

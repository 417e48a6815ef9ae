-- The sendings that the events' record awaits, and the state that stores them.
use Rattle.std.specs.Prelude.{◌≡◌, ◌≢◌, ℕ, ◌<◌, not, Bool, true, false, All, AllPairs, List, [], ◌∷◌, map, option_map, Option}
use Rattle.hc_events.specs.Entries.{HistoryEntry, History, Opened, Edited, Wrote, Forgot}
use Rattle.hc_events.specs.Points.{line_of, next_serial}
use Rattle.hc_events.specs.Heads.{Head}
use Rattle.hc_events.specs.Answering.{Sending, is_outdated}
use Rattle.hc_events.specs.Awaited.{awaited}
use Rattle.hc_events.specs.Accepted.{carries_first}
use Rattle.hc_sendings.specs.Waiting.{AllAreInLine, Waiting, all_writes}
use Rattle.hc_sendings.specs.Judging.{Due, due_with}

-- the due datagram of a sending: its head, and whether it is the newest, by the entries since
abbrev pub due_in : List HistoryEntry → Head → Due
due_in since head = record { head = head; last_sent = not (is_outdated head.item since) }

-- the due datagrams of a sending: each is the newest if it is not out of date
abbrev pub dues_of : Sending → List Due
dues_of sending = map (due_in sending.since) sending.heads

-- the due datagrams with a serial, by the record: those of the awaited sending with this serial, if there is one
abbrev pub due_by : History → ℕ → Option (List Due)
due_by history serial = option_map dues_of (awaited history serial)

-- a slave was forgotten since the last register write, and since the last edit
abbrev pub was_forgotten : History → Bool
was_forgotten [] = false
was_forgotten (Opened groups ∷ history) = false
was_forgotten (Edited edit ∷ history) = false
was_forgotten (Wrote blocks ∷ history) = false
was_forgotten (Forgot station ∷ history) = true
was_forgotten (entry ∷ history) = was_forgotten history

-- the stored frames and writes are those that the record awaits: the same datagrams are due with each serial. The frames are of
-- the line. Frames and writes have serials that were given; those of the frames ascend, and no two are the same. The writes
-- that are not stored as further ones ascend too, and carry the first owed blocks
pub record KeepsAwaited (history : History) (waiting : Waiting) : Type 0 where
  pub due : (serial : ℕ) → due_with (line_of history) waiting serial ≡ due_by history serial
  pub ascend : AllPairs (λ a b. a.serial < b.serial) waiting.frames
  pub below : All (λ frame. frame.serial < next_serial history) waiting.frames
  pub in_line : AllAreInLine (line_of history) waiting
  pub in_order : AllPairs (λ a b. a.serial < b.serial) waiting.writes
  pub distinct : AllPairs (λ a b. a.serial ≢ b.serial) (all_writes waiting)
  pub given : All (λ write. write.serial < next_serial history) (all_writes waiting)
  pub apart : All (λ write. All (λ frame. frame.serial ≢ write.serial) waiting.frames) (all_writes waiting)
  pub first : All (λ write. carries_first history write.serial) waiting.writes
  pub forgotten : waiting.forgotten ≡ was_forgotten history

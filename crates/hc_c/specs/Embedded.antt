-- The line of an open handle, as contracts see it: `core`, the core's two records; `sent_from`, the first serial of each task's
-- last sending; `counts`, the counters of each datagram; and `ends`, the owner's ends of the seats. Contracts see nothing of
-- `spare` and `calls`.
use Rattle.std.specs.Prelude.{ℕ, List, ◌∷◌, fold, slice_index_or, slice_set}
use Rattle.hc_events.specs.Entries.{History, HistoryEntry}
use Rattle.hc_events.specs.Points.{next_serial}
use Rattle.hc_events.specs.Sendings.{Frame}
use Rattle.hc_events.specs.Steps.{Step, SendsReady, entries_after, proposal}
use Rattle.hc_core.specs.State.{CoreState}
use Rattle.hc_c.specs.Counts.{Counts, all_counted_sent}
use Rattle.hc_c.specs.declared.embedded.Embedded.{Embedded}

-- the history of a line: the entries that its core accepted
abbrev pub embedded_history : Embedded → History
embedded_history embedded = embedded.core.history

-- the line with another history of its core
abbrev pub embedded_with_history : Embedded → History → Embedded
embedded_with_history embedded history = record embedded { core = record embedded.core { history = history } }

-- a line after a step
abbrev pub embedded_after : Step → Embedded → Embedded
embedded_after step embedded = embedded_with_history embedded (entries_after (embedded_history embedded) step)

-- a line with one more entry
abbrev pub embedded_with_entry : HistoryEntry → Embedded → Embedded
embedded_with_entry entry embedded = embedded_with_history embedded (entry ∷ embedded_history embedded)

-- a core without changes to take: C asks for none
abbrev pub core_without_changes : History → CoreState
core_without_changes history = record { history = history; taken = history }

-- the line with another history of its core and without changes to take
abbrev pub embedded_discarding : Embedded → History → Embedded
embedded_discarding embedded history = record embedded { core = core_without_changes history }

-- the line with these counters
abbrev pub with_counts : Embedded → Counts → Embedded
with_counts embedded counts = record embedded { counts = counts }

-- the line with one more sending counted for each datagram of these frames
abbrev pub counted_with_sent : Embedded → List Frame → Embedded
counted_with_sent embedded frames = with_counts embedded (all_counted_sent embedded.counts frames)

-- the first serial of a task's last sending; 0 before the first
abbrev pub task_sent_from : Embedded → ℕ → ℕ
task_sent_from embedded task = slice_index_or embedded.sent_from task 0

-- the first serials, with this serial for one task's last sending
abbrev pub with_task_sent : ℕ → List ℕ → ℕ → List ℕ
with_task_sent serial firsts task = slice_set firsts task serial

-- the first serials after a sending of these tasks that begins with this serial
abbrev pub all_sent_from : ℕ → List ℕ → List ℕ → List ℕ
all_sent_from serial firsts tasks = fold (with_task_sent serial) firsts tasks

-- a line after a sending of these tasks: each of their datagrams is counted, and their last sending begins with the serial that
-- was next
abbrev pub tasks_sent : List ℕ → Embedded → Embedded
tasks_sent tasks embedded =
    record (counted_with_sent (embedded_after (SendsReady tasks) embedded) (proposal (embedded_history embedded) tasks)) {
      sent_from = all_sent_from (next_serial (embedded_history embedded)) embedded.sent_from tasks;
    }

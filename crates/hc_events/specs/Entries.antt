-- The record of accepted events since a project was opened: a list of entries, the newest first.
use Rattle.std.specs.Prelude.{ℕ, List}
use Rattle.hc_records.specs.declared.records.Group.{Group}
use Rattle.hc_records.specs.declared.edit.Edit.{Edit}
use Rattle.hc_registers.specs.Blocks.{LineBlock}
use Rattle.hc_events.specs.Arrivals.{Arrival}
use Rattle.hc_events.specs.Sendings.{Named}

-- the project's groups; an edit; a task and the bytes that it posted; a frame by its datagrams; the register blocks that one frame writes, in order; a frame that arrived and could be read; the station address of a slave whose registers were forgotten, whose FMMUs are zero, or that is off the wire
pub data HistoryEntry : Type 0 where
  Opened : List Group → HistoryEntry
  Edited : Edit → HistoryEntry
  Posted : ℕ → List ℕ → HistoryEntry
  Sent : List Named → HistoryEntry
  Wrote : List LineBlock → HistoryEntry
  Came : Arrival → HistoryEntry
  Forgot : ℕ → HistoryEntry
  Cleared : ℕ → HistoryEntry
  Unplugged : ℕ → HistoryEntry

-- a list of entries, the newest first: what the core accepted since a project was opened
abbrev pub History : Type 0
History = List HistoryEntry

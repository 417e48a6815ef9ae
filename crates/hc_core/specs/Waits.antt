-- The awaited frames and writes of a core, which are those that the record awaits.
use Rattle.std.specs.Prelude.{All}
use Rattle.hc_events.specs.Entries.{History}
use Rattle.hc_events.specs.Points.{state_of}
use Rattle.hc_sendings.specs.Waiting.{Waiting, all_writes}
use Rattle.hc_sendings.specs.History.{KeepsAwaited}
use Rattle.hc_core.specs.Chosen.{IsAwaitedAt}

-- frames and writes are those that the record awaits, and each block that is awaited is the one of the line at its place
pub record Waits (history : History) (waiting : Waiting) : Type 0 where
  pub awaits : KeepsAwaited history waiting
  pub placed : All (λ write. All (IsAwaitedAt (state_of history)) write.blocks) (all_writes waiting)

use Rattle.std.proofs.Common.{◌≡◌, refl}
use Rattle.std.specs.Prelude.{IsErr, Result, Ok, Err}
use Rattle.hc_frames.specs.declared.reading.faults.FrameFault.{FrameFault}
use Rattle.hc_events.specs.Arrivals.{Arrival, arrival_in}
use Rattle.hc_events.specs.Entries.{History}
use Rattle.hc_events.specs.Steps.{with_arrival}
use Rattle.hc_events.proofs.laws.unreadable_changes_nothing.Goals as goal

unrecorded : (history : History) (read : Result Arrival FrameFault) → IsErr read → with_arrival history read ≡ history
unrecorded history (Err fault) e = refl
unrecorded history (Ok arrival) e = cc

pub returns : goal.returns
returns c history bytes unreadable = unrecorded history (arrival_in bytes) unreadable

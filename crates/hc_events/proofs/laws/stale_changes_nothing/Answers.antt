use Rattle.std.proofs.Common.{◌∷◌, ◌++◌}
use Rattle.hc_events.specs.Entries.{Came}
use Rattle.hc_events.proofs.lemmas.SameAfter.{same-after_it, same-since, same-stale}
use Rattle.hc_events.proofs.laws.stale_changes_nothing.Goals as goal

pub returns : goal.returns
returns c since history arrival steps stale =
    same-after_it (since ++ Came arrival ∷ history) (since ++ history) steps (same-since since (Came arrival ∷ history) history (same-stale history arrival stale))

-- A conductor by its fields, as contracts see it.
use Rattle.std.specs.Prelude.{reverse}
use Rattle.hc_conductor.specs.declared.conductor.Conductor.TheInside.{Inside}
use Rattle.hc_conductor.specs.Conducting.{Conducting, IsConducting}

-- core, publisher, the waiting changes with the oldest first, and the rings of posts
abbrev pub conducting_in : Inside → Conducting
conducting_in c = record { core = c.core; published_state = c.publisher; waiting = reverse c.waiting.items; rings = c.rings.items }

-- the invariant of a conductor
abbrev pub IsSoundConductor : Inside → Type 0
IsSoundConductor c = IsConducting (conducting_in c)

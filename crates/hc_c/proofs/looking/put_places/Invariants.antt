use Rattle.std.proofs.Common.{◌≡◌, ◌++◌, drop, take}
use Rattle.hc_c.specs.Looks.{places_out}
use Rattle.hc_c.proofs.looking.put_places.Given as goal

-- the places so far are those of the first variables
abbrev pub invariant-loop-i : goal.invariant-loop-i
invariant-loop-i l = l.places ≡ places_out l.core.history (take l.i l.variables) ++ drop l.i l.initial.places

-- The value of a segment, once the loan of its machines is over.
use Rattle.std.specs.Prelude.{ℕ, List, ◌++◌, length, take, drop}
use Rattle.std.specs.Borrow.{Lends, MutBor, Fml, Array}
use Rattle.hc_machine.specs.contracts.machine.SlaveMachine as machine
use Rattle.hc_segment.specs.contracts.segment.Segment as segment

-- the machines with what was written over the first ones: as many as before
abbrev pub machines_overwritten : List (List ℕ) → List (List ℕ) → List (List ℕ)
machines_overwritten machines written = take (length machines) (written ++ drop (length written) machines)

-- the segment, with what was left written over its machines
abbrev pub LendsMachines : MutBor (List (List ℕ)) → MutBor (List (List ℕ)) → Fml
LendsMachines machines lent = Lends segment.the_row (Array machine.the_row 0) machines lent (machines_overwritten machines.now)

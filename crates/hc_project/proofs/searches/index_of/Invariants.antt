use Rattle.std.proofs.Common.{◌≡◌, ◌==◌, Some, None, drop}
use Rattle.std.specs.Prelude.{if◌then◌else◌}
use Rattle.hc_project.specs.Places.{first_from}
use Rattle.hc_project.proofs.searches.index_of.Given as goal

-- the numbers passed are others
abbrev pub invariant-loop-index : goal.invariant-loop-index
invariant-loop-index l =
    first_from (λ index other. if l.number == other then Some index else None) 0 l.numbers
    ≡ first_from (λ index other. if l.number == other then Some index else None) l.index (drop l.index l.numbers)

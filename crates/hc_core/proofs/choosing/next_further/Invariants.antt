use Rattle.std.proofs.Common.{◌≡◌, ◌-◌, ◌^◌, ◌≤◌}
use Rattle.hc_core.specs.Chosen.{KeepsBlocks, further_from}
use Rattle.hc_core.proofs.choosing.next_further.Given as goal

abbrev pub invariant-loop-next : goal.invariant-loop-next
invariant-loop-next l =
    (l.place ≤ l.from)
    × ((unchanged : KeepsBlocks l.owed l.plan) → further_from unchanged.known unchanged.state l.awaited l.place ≡ further_from unchanged.known unchanged.state l.awaited l.from)

abbrev pub decreases-loop-next : goal.decreases-loop-next
decreases-loop-next l = 2 ^ 32 - l.from

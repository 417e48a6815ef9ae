use Rattle.std.proofs.Common.{◌≡◌, ◌==◌, drop, find}
use Rattle.hc_project.proofs.repeats.place_of_number.Given as goal

-- the numbers passed are others
abbrev pub invariant-loop-place : goal.invariant-loop-place
invariant-loop-place l = find (λ x. l.number == x.1) l.list ≡ find (λ x. l.number == x.1) (drop l.place-index l.list)

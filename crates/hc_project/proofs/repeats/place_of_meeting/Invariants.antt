use Rattle.std.proofs.Common.{◌≡◌, drop, find}
use Rattle.hc_project.specs.Repeated.{extents_meet}
use Rattle.hc_project.proofs.repeats.place_of_meeting.Given as goal

-- the runs passed don't meet it
abbrev pub invariant-loop-place : goal.invariant-loop-place
invariant-loop-place l = find (λ x. extents_meet x.1 l.extent) l.list ≡ find (λ x. extents_meet x.1 l.extent) (drop l.place-index l.list)

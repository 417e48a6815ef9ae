use Rattle.std.proofs.Common.{◌≡◌, drop}
use Rattle.hc_project.specs.Places.{first_from}
use Rattle.hc_project.specs.Repeated.{extents_meet, related_at}
use Rattle.hc_project.proofs.repeats.first_meeting.Given as goal

-- none of the runs passed is met by an earlier one
abbrev pub invariant-loop-index : goal.invariant-loop-index
invariant-loop-index l =
    first_from (related_at extents_meet l.list) 0 l.list ≡ first_from (related_at extents_meet l.list) l.index (drop l.index l.list)

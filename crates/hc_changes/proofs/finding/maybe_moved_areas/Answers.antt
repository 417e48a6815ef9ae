use Rattle.hc_changes.proofs.finding.maybe_moved_areas.Goals as goal

pub invariant_of-test : goal.invariant_of-test
invariant_of-test c = record { is = c.groups-groups.ensures.known; known = c.requires.before; applied = c.requires.cuts }

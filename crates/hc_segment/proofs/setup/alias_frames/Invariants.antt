use Rattle.std.proofs.Common.{◌≡◌}
use Rattle.hc_segment.specs.Setup.{alias_frames}
use Rattle.hc_segment.proofs.setup.alias_frames.Given as goal

abbrev pub invariant-loop-position : goal.invariant-loop-position
invariant-loop-position l = l.frames.items ≡ alias_frames l.position

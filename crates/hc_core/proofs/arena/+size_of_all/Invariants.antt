use Rattle.std.proofs.Common.{length}
use Rattle.hc_core.proofs.arena.+size_of_all.Given as goal

abbrev pub decreases-size_of_all : goal.decreases-size_of_all
decreases-size_of_all l = length l.frames.now

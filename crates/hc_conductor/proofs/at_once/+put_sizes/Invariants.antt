use Rattle.std.proofs.Common.{length}
use Rattle.hc_conductor.proofs.at_once.+put_sizes.Given as goal

abbrev pub decreases-put_sizes : goal.decreases-put_sizes
decreases-put_sizes l = length l.tasks.now

use Rattle.hc_registers.proofs.lemmas.RanksMoved.{ranked-are-moved}
use Rattle.hc_registers.proofs.rank_laws.ranked_are_moved.Goals as goal

pub returns : goal.returns
returns c = ranked-are-moved

use Rattle.hc_registers.proofs.lemmas.RanksDeclared.{declared-places}
use Rattle.hc_registers.proofs.rank_laws.declared_groups_add_empty_places.Goals as goal

pub returns : goal.returns
returns c = declared-places

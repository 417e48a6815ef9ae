use Rattle.hc_registers.proofs.lemmas.RanksStanding.{members-are_placed}
use Rattle.hc_registers.proofs.rank_laws.members_have_places.Goals as goal

pub returns : goal.returns
returns c = members-are_placed

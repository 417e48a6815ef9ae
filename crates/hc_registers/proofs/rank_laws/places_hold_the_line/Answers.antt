use Rattle.hc_registers.proofs.lemmas.RanksGapless.{places-hold}
use Rattle.hc_registers.proofs.rank_laws.places_hold_the_line.Goals as goal

pub returns : goal.returns
returns c = places-hold

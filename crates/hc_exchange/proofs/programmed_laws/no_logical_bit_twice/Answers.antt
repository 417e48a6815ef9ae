use Rattle.hc_exchange.proofs.lemmas.Shared.{logical-once}
use Rattle.hc_exchange.proofs.programmed_laws.no_logical_bit_twice.Goals as goal

pub returns : goal.returns
returns c = logical-once

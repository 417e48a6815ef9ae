use Rattle.hc_exchange.proofs.lemmas.Shared.{memory-once}
use Rattle.hc_exchange.proofs.programmed_laws.no_memory_bit_twice.Goals as goal

pub returns : goal.returns
returns c = memory-once

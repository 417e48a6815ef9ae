use Rattle.hc_exchange.proofs.lemmas.Programmed.{writing-bytes}
use Rattle.hc_exchange.proofs.programmed_laws.writing_keeps_bytes.Goals as goal

pub returns : goal.returns
returns c = writing-bytes

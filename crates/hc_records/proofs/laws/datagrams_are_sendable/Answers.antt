use Rattle.hc_records.proofs.lemmas.Lengths.{length-sendable}
use Rattle.hc_records.proofs.laws.datagrams_are_sendable.Goals as goal

pub returns : goal.returns
returns c = length-sendable

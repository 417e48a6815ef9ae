use Rattle.hc_records.proofs.lemmas.SpanDatagrams.{span-datagram}
use Rattle.hc_records.proofs.laws.spans_are_datagrams.Goals as goal

pub returns : goal.returns
returns c = span-datagram

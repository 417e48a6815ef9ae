use Rattle.std.proofs.Common.{◌∙◌, ap}
use Rattle.hc_records.specs.Line.{State, line}
use Rattle.hc_places.specs.Table.{Table, datagram_in, table_of}
use Rattle.hc_c.specs.Looks.{datagram_at}
use Rattle.hc_c.proofs.looking.datagram_at.Goals as goal

pub returns : goal.returns
unfolding datagram_at
returns c = c.datagram.ensures.datagram ∙ ap (λ (table : Table). datagram_in table c.args.task c.args.number) (c.places.ensures.table ∙ ap (λ (state : State). table_of (line state)) c.plan.ensures.state)

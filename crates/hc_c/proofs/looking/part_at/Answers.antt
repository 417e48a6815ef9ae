use Rattle.std.proofs.Common.{◌∙◌, ap}
use Rattle.hc_records.specs.Line.{State, line}
use Rattle.hc_places.specs.Table.{Table, part_in, table_of}
use Rattle.hc_c.specs.Looks.{task_part_bytes}
use Rattle.hc_c.proofs.looking.part_at.Goals as goal

pub returns : goal.returns
unfolding task_part_bytes
returns c = c.part.ensures ∙ ap (λ (table : Table). part_in table c.args.task) (c.places.ensures.table ∙ ap (λ (state : State). table_of (line state)) c.plan.ensures.state)

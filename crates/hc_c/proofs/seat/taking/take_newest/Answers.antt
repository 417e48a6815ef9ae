use Rattle.std.proofs.Common.{refl}
use Rattle.hc_c.proofs.Takings.{took}
use Rattle.hc_c.proofs.seat.taking.take_newest.Goals as goal

pub returns-then-look : goal.returns-then-look
returns-then-look c =
    took c.args.task c.args.core.now c.is_accepted-accepted.new.core c.args.end.now _ c.look.new.self c.content.result.now c.is_accepted-accepted.result c.look.ensures.later.0 c.look.ensures.later.1 (c.look.ensures.newer c.if-look.true)
    c.look.ensures.table.0 c.content.ensures.newest c.is_accepted-accepted.ensures.core c.is_accepted-accepted.ensures.answer refl refl refl

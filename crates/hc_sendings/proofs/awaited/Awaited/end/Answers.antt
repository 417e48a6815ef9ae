use Rattle.std.proofs.Common.{◌∙◌, ap, arith}
use Rattle.hc_sendings.specs.Waiting.{ended}
use Rattle.hc_sendings.proofs.Ended.{all-ended, stored-ended}
use Rattle.hc_sendings.proofs.awaited.Awaited.end.Goals as goal

pub returns : goal.returns
returns c =
    all-ended c.self.inside.last_sent c.args.serial c.self.inside.frames.items c.end_frame.new.frames.items c.self.inside.writes c.end.new.self c.self.inside.further c.end-2.new.self c.self.inside.forgotten
    c.end_frame.ensures.frames c.end.ensures c.end-2.ensures
    ∙ ap (ended c.args.serial) c.self.view_is

pub invariant_of-self : goal.invariant_of-self
invariant_of-self c =
    let room = c.self.invariant.1 in
    let same = c.end_frame.ensures.room in
    (stored-ended c.self.inside.last_sent c.args.serial c.self.inside.frames.items c.end_frame.new.frames.items c.end_frame.ensures.frames c.self.invariant.0, omega (arith, room, same))

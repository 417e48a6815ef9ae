use Rattle.std.proofs.Common.{◌≡◌, false, is_none}
use Rattle.hc_frames.specs.Arrived.{fault_in}
use Rattle.hc_segment.proofs.Passing.{unread-passes}
use Rattle.hc_segment.proofs.segment.Segment.process.Goals as goal

pub returns-else-is_readable-clause-frame : goal.returns-else-is_readable-clause-frame
returns-else-is_readable-clause-frame c =
    let faulty : is_none (fault_in c.args.frame.now) ≡ false = cc in
    (unread-passes c.args.self.now c.args.frame.now faulty).0

pub returns-else-is_readable-clause-machines : goal.returns-else-is_readable-clause-machines
returns-else-is_readable-clause-machines c =
    let faulty : is_none (fault_in c.args.frame.now) ≡ false = cc in
    (unread-passes c.args.self.now c.args.frame.now faulty).1

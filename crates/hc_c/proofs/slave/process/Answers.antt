use Rattle.std.proofs.Common.{◌≡◌, false, is_none}
use Rattle.hc_frames.specs.Arrived.{fault_in}
use Rattle.hc_machine.proofs.lemmas.Passed.{frame-stays, memory-stays}
use Rattle.hc_c.proofs.slave.process.Goals as goal

pub returns-else-is_readable-clause-frame : goal.returns-else-is_readable-clause-frame
returns-else-is_readable-clause-frame c =
    let faulty : is_none (fault_in c.args.frame.now) ≡ false = cc in
    frame-stays c.args.memory.now c.args.frame.now faulty

pub returns-else-is_readable-clause-memory : goal.returns-else-is_readable-clause-memory
returns-else-is_readable-clause-memory c =
    let faulty : is_none (fault_in c.args.frame.now) ≡ false = cc in
    memory-stays c.args.memory.now c.args.frame.now faulty

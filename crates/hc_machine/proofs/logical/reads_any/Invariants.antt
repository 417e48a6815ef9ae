use Rattle.std.proofs.Common.{◌≡◌, take, false}
use Rattle.hc_machine.specs.Logical.{reads_any}
use Rattle.hc_machine.proofs.logical.reads_any.Given as goal

abbrev pub invariant-loop-fmmu : goal.invariant-loop-fmmu
invariant-loop-fmmu l = reads_any l.from l.n (take l.fmmu-index l.fmmus) ≡ false

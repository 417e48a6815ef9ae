use Rattle.std.proofs.Common.{◌≡◌, take, false}
use Rattle.std.specs.Prelude.{◌&&◌}
use Rattle.std.specs.List.{list_any}
use Rattle.hc_machine.specs.Logical.{reads_any}
use Rattle.hc_machine.proofs.logical.mixes_any.Given as goal

abbrev pub invariant-loop-fmmu : goal.invariant-loop-fmmu
invariant-loop-fmmu l = list_any (λ f. f.writes && reads_any f.logical f.width l.fmmus) (take l.fmmu-index l.fmmus) ≡ false

use Rattle.std.proofs.Common.{arith}
use Rattle.std.proofs.lemmas.List.Elements.{All-get_or}
use Rattle.hc_bitsum.proofs.Ends.{joined-Empty}
use Rattle.hc_bitsum.proofs.Run.{after_it-by, low-after_it, run-step, run_of}
use Rattle.hc_bitsum.proofs.row.row_sum.Goals as goal
use Rattle.hc_bitsum.proofs.row.row_sum.Goals.{then-bits-gt0, else-bits-gt0}

pub loop-bits-preserved : goal.loop-bits-preserved
loop-bits-preserved c =
    grind (arith, All-get_or, low-after_it, run-step, run_of, after_it-by, joined-Empty)

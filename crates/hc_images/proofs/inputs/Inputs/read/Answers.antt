use Rattle.std.proofs.Common.{arith, zero-add}
use Rattle.std.proofs.lemmas.Grind.{common_steps}
use Rattle.std.proofs.lemmas.List.FromFn.{map-range_with_len_more}
use Rattle.hc_images.specs.Image.{data_of}
use Rattle.hc_images.proofs.inputs.Inputs.read.Goals as goal

pub loop-number-preserved : goal.loop-number-preserved
loop-number-preserved c =
    grind (arith, common_steps, map-range_with_len_more (data_of c.args.self.now c.args.task) 0 c.loop-number.number c.loop-number.number (zero-add c.loop-number.number))

use Rattle.std.proofs.Common.{◌≡◌}
use Rattle.hc_images.specs.Image.{data_of_first}
use Rattle.hc_images.proofs.inputs.Inputs.read.Given as goal

abbrev pub invariant-loop-number : goal.invariant-loop-number
invariant-loop-number l = l.data.items ≡ data_of_first l.self l.task l.number

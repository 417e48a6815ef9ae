use Rattle.std.proofs.Common.{ap, ◌∙◌}
use Rattle.std.specs.Int.{bit_at}
use Rattle.hc_bits.proofs.Lists.{number_of-run, bit_at-run}
use Rattle.hc_bits.proofs.laws.reading_takes_list.Goals as goal

pub returns : goal.returns
returns c = λ bytes at n value within fits. (number_of-run bytes at n value fits, λ is k h. ap (λ x. bit_at x k) is ∙ bit_at-run bytes at n k h)

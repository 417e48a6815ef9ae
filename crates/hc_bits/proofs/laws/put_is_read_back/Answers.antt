use Rattle.std.proofs.Common.{sym}
use Rattle.hc_bits.proofs.Lists.{number_of-run}
use Rattle.hc_bits.proofs.laws.put_is_read_back.Goals as goal

pub returns : goal.returns
returns c = λ old new at n value fits put. sym (number_of-run new at n value fits (λ k h. sym (put.inside k h)))

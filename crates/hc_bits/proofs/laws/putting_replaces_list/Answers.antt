use Rattle.std.specs.Int.{bit_at}
use Rattle.hc_bits.specs.Bits.{low_bits}
use Rattle.hc_bits.proofs.Lists.{bits_of-ReplacesRun, ReplacesRun-from_bits_of, length-low_bits, get_or-low_bits}
use Rattle.hc_bits.proofs.laws.putting_replaces_list.Goals as goal

pub returns : goal.returns
returns c = λ old new at n value len within.
    let ys = low_bits n value in
    let is = get_or-low_bits n value in (
      bits_of-ReplacesRun old new ys at n (bit_at value) len within (length-low_bits n value) is,
      ReplacesRun-from_bits_of old new ys at n (bit_at value) within (length-low_bits n value) is,
    )

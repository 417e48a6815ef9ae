use Rattle.std.proofs.Common.{◌≡◌, ℕ, ◌+◌, ◌<◌, length, get_or, ◌∙◌, arith}
use Rattle.hc_bits.specs.Bits.{bit_of, bits_of, run_of}
use Rattle.hc_bits.proofs.Lists.{bits_of-ReplacesRun, ReplacesRun-from_bits_of, length-bits_of, length-run_of, get_or-run_of, get_or-bits_of}
use Rattle.hc_bits.proofs.laws.copying_replaces_list.Goals as goal

pub returns : goal.returns
returns c = λ from old new at at2 n len source within.
    let ys = run_of (bits_of from) at n in
    let whole : length ys ≡ n = length-run_of (bits_of from) at n (omega (arith, length-bits_of from)) in
    let is : (k : ℕ) → k < n → get_or ys k 0 ≡ bit_of from (at + k) = λ k h. get_or-run_of (bits_of from) at n k h ∙ get_or-bits_of from (at + k) in (
      bits_of-ReplacesRun old new ys at2 n (λ k. bit_of from (at + k)) len within whole is,
      ReplacesRun-from_bits_of old new ys at2 n (λ k. bit_of from (at + k)) within whole is,
    )

use Rattle.std.proofs.Common.{◌≡◌, ◌≤◌, drop}
use Rattle.hc_text.specs.Numbers.{spelt_within}
use Rattle.hc_text.proofs.numbers.digits_number.Given as goal

-- what is left, after the number so far, spells what all spell
abbrev pub invariant-loop-byte : goal.invariant-loop-byte
invariant-loop-byte l = record {
  within : l.number ≤ l.most;
  same : spelt_within l.base l.most l.number (drop l.byte-index l.digits) ≡ spelt_within l.base l.most 0 l.digits;
}

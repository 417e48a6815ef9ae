use Rattle.std.proofs.Common.{◌≡◌, ℕ, get_or, length, None}
use Rattle.hc_core.proofs.ages.Ages.new.Given as goal

abbrev pub invariant-loop : goal.invariant-loop
invariant-loop l = record {
  size : length l.ages.items ≡ l.counter;
  none : (n : ℕ) → get_or l.ages.items n None ≡ None;
}

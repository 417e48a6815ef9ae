use Rattle.std.proofs.Common.{◌≡◌, ℕ, get_or, length, None}
use Rattle.hc_images.proofs.inputs.Inputs.new.Given as goal

abbrev pub invariant-loop : goal.invariant-loop
invariant-loop l = record {
  size : length l.slots.items ≡ l.counter;
  none : (n : ℕ) → get_or l.slots.items n None ≡ None;
}

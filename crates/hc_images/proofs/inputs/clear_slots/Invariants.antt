use Rattle.std.proofs.Common.{◌≡◌, ◌<◌, ◌≤◌, ℕ, get_or, length, None}
use Rattle.hc_images.proofs.inputs.clear_slots.Given as goal

-- those so far have no data, and none got any
abbrev pub invariant-loop-i : goal.invariant-loop-i
invariant-loop-i l = record {
  size : length l.slots ≡ length l.fn.slots;
  cleared : (n : ℕ) → l.from ≤ n → n < l.i → get_or l.slots n None ≡ None;
  others : (n : ℕ) → get_or l.fn.slots n None ≡ None → get_or l.slots n None ≡ None;
  before : (n : ℕ) → n < l.from → get_or l.slots n None ≡ get_or l.fn.slots n None;
  after_it : (n : ℕ) → l.i ≤ n → get_or l.slots n None ≡ get_or l.fn.slots n None;
}

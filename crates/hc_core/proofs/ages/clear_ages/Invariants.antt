use Rattle.std.proofs.Common.{◌≡◌, ◌<◌, ◌≤◌, ℕ, get_or, length, None}
use Rattle.hc_core.proofs.ages.clear_ages.Given as goal

-- those so far have no age, and the others keep theirs
abbrev pub invariant-loop-i : goal.invariant-loop-i
invariant-loop-i l = record {
  size : length l.ages ≡ length l.fn.ages;
  cleared : (n : ℕ) → l.from ≤ n → n < l.i → get_or l.ages n None ≡ None;
  before : (n : ℕ) → n < l.from → get_or l.ages n None ≡ get_or l.fn.ages n None;
  after_it : (n : ℕ) → l.i ≤ n → get_or l.ages n None ≡ get_or l.fn.ages n None;
}

use Rattle.std.proofs.Common.{◌≡◌, ℕ, ◌<◌, ◌≤◌, ◌==◌, ◌||◌, max, bit_or, ap, ◌∙◌, rules}
use Rattle.std.specs.Int.{bit_at}
use Rattle.std.proofs.lemmas.Nat.Bits.{bit_at-lt, bit_at_above, bit_at_or}
use Rattle.hc_owed.specs.TaskSets.{has_task}
use Rattle.hc_owed.proofs.TaskLists.{set-is}
use Rattle.hc_owed.proofs.task_set.TaskSet.with.Goals as goal

either : (a b : ℕ) → a < 2 → b < 2 → (max a b == 1) ≡ ((a == 1) || (b == 1))
either a b low low' = search rules

neither : (a b k : ℕ) → a < 256 → b < 256 → 8 ≤ k → bit_at (bit_or a b) k ≡ 0
neither a b k low low' high = search (rules, bit_at_above a 8 k, bit_at_above b 8 k, bit_at_or)

pub returns : goal.returns
unfolding has_task
returns c = set-is (bit_or c.args.self.bits c.args.other.bits) (λ (t : ℕ). has_task t c.args.self || has_task t c.args.other)
    (λ t low. ap (λ (n : ℕ). n == 1) (bit_at_or c.args.self.bits c.args.other.bits t) ∙ either (bit_at c.args.self.bits t) (bit_at c.args.other.bits t) (bit_at-lt c.args.self.bits t) (bit_at-lt c.args.other.bits t))
    (λ k high. search (rules, neither))

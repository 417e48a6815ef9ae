use Rattle.std.proofs.Common.{◌≡◌, ℕ, zero, suc, ◌+◌, ◌%◌, ◌<◌, ◌≤◌, ◌==◌, bit_xor, refl, ap, ◌∙◌, arith, rules}
use Rattle.std.specs.Int.{bit_at}
use Rattle.std.specs.Prelude.{not}
use Rattle.std.proofs.lemmas.Nat.Bits.{bit_at-lt, bit_at_above, bit_at_xor}
use Rattle.hc_owed.specs.TaskSets.{has_task}
use Rattle.hc_owed.proofs.TaskLists.{set-is}
use Rattle.hc_owed.proofs.task_set.TaskSet.others.Goals as goal

ones : (t : ℕ) → t < 8 → bit_at 255 t ≡ 1
ones zero low = refl
ones (suc zero) low = refl
ones (suc (suc zero)) low = refl
ones (suc (suc (suc zero))) low = refl
ones (suc (suc (suc (suc zero)))) low = refl
ones (suc (suc (suc (suc (suc zero))))) low = refl
ones (suc (suc (suc (suc (suc (suc zero)))))) low = refl
ones (suc (suc (suc (suc (suc (suc (suc zero))))))) low = refl
ones (suc (suc (suc (suc (suc (suc (suc (suc n)))))))) low = absurd (omega (arith, low))

flipped : (a : ℕ) → a < 2 → ((a + 1) % 2 == 1) ≡ not (a == 1)
flipped zero low = refl
flipped (suc zero) low = refl
flipped (suc (suc n)) low = absurd (omega (arith, low))

none-above : (a k : ℕ) → a < 256 → 8 ≤ k → bit_at (bit_xor a 255) k ≡ 0
none-above a k low high = search (rules, bit_at_above a 8 k, bit_at_above 255 8 k, bit_at_xor)

pub returns : goal.returns
unfolding has_task
returns c = set-is (bit_xor c.args.self.bits 255) (λ (t : ℕ). not (has_task t c.args.self))
    (λ t low. ap (λ (n : ℕ). n == 1) (bit_at_xor c.args.self.bits 255 t ∙ ap (λ (n : ℕ). (bit_at c.args.self.bits t + n) % 2) (ones t low)) ∙ flipped (bit_at c.args.self.bits t) (bit_at-lt c.args.self.bits t))
    (λ k high. search (rules, none-above))

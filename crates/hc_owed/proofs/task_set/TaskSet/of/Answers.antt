use Rattle.std.proofs.Common.{◌≡◌, ℕ, zero, suc, ◌*◌, ◌%◌, ◌^◌, ◌<◌, Some, refl, arith, rules}
use Rattle.hc_bits.specs.Bits.{number_of}
use Rattle.hc_owed.specs.declared.task_set.TaskSet.{TaskSet}
use Rattle.hc_owed.specs.TaskSets.{only_task, tasks_where}
use Rattle.hc_owed.proofs.task_set.TaskSet.of.Goals as goal

abbrev set_of : ℕ → TaskSet
set_of n = record { bits = n }

single : (task : ℕ) → task < 8 → set_of (1 * 2 ^ task % 256) ≡ only_task (Some task)
unfolding tasks_where number_of
single zero low = refl
single (suc zero) low = refl
single (suc (suc zero)) low = refl
single (suc (suc (suc zero))) low = refl
single (suc (suc (suc (suc zero)))) low = refl
single (suc (suc (suc (suc (suc zero))))) low = refl
single (suc (suc (suc (suc (suc (suc zero)))))) low = refl
single (suc (suc (suc (suc (suc (suc (suc zero))))))) low = refl
single (suc (suc (suc (suc (suc (suc (suc (suc n)))))))) low = absurd (omega (arith, low))

pub returns-in-Some : goal.returns-in-Some
returns-in-Some c = search (rules, single)

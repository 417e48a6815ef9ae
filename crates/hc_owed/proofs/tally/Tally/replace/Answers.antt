use Rattle.std.proofs.Common.{◌≡◌, ℕ, List, sym, subst, arith}
use Rattle.hc_owed.specs.declared.task_set.TaskSet.{TaskSet}
use Rattle.hc_owed.specs.Areas.{fmmu_concerns, register_concerns, sync_manager_concerns}
use Rattle.hc_owed.specs.TaskSets.{has_task}
use Rattle.hc_owed.specs.Waiting.{CanRecount, Recounts}
use Rattle.hc_owed.proofs.Counting.{one-most}
use Rattle.hc_owed.proofs.tally.Tally.replace.Goals as goal

recounts : (old new : List ℕ) (was now was' now' : TaskSet) → was ≡ was' → now ≡ now' → Recounts old new was now → Recounts old new was' now'
recounts old new was now was' now' same same' is = subst (λ (s : TaskSet). Recounts old new s now') same (subst (λ (s : TaskSet). Recounts old new was s) same' is)

pub recount-requires : goal.recount-requires
recount-requires c =
    subst (CanRecount c.args.self.now.blocks) (sym c.sync_manager_concerns.ensures)
    (λ t low. let here = c.requires.blocks t low in let few = c.requires.few_blocks t low in (omega (arith, here), omega (arith, few)))

pub recount-requires-2 : goal.recount-requires-2
recount-requires-2 c =
    let first = recounts c.args.self.now.blocks c.recount.new.counts c.sync_manager_concerns.result c.sync_manager_concerns-2.result (sync_manager_concerns c.args.was) (sync_manager_concerns c.args.now)
    c.sync_manager_concerns.ensures c.sync_manager_concerns-2.ensures c.recount.ensures in
    subst (CanRecount c.recount.new.counts) (sym c.fmmu_concerns.ensures)
    (λ t low.
    let here = c.requires.blocks t low in
    let few = c.requires.few_blocks t low in
    let moves = first t low in
    let small = one-most (has_task t (sync_manager_concerns c.args.now)) in
    (omega (arith, here, moves), omega (arith, few, moves, small)))

pub recount-requires-3 : goal.recount-requires-3
recount-requires-3 c =
    subst (CanRecount c.args.self.now.registers) (sym c.register_concerns.ensures)
    (λ t low. let here = c.requires.registers t low in let few = c.requires.few_registers t low in (omega (arith, here), omega (arith, few)))

pub returns : goal.returns
returns c =
    let first = recounts c.args.self.now.blocks c.recount.new.counts c.sync_manager_concerns.result c.sync_manager_concerns-2.result (sync_manager_concerns c.args.was) (sync_manager_concerns c.args.now)
    c.sync_manager_concerns.ensures c.sync_manager_concerns-2.ensures c.recount.ensures in
    let second = recounts c.recount.new.counts c.recount-2.new.counts c.fmmu_concerns.result c.fmmu_concerns-2.result (fmmu_concerns c.args.was) (fmmu_concerns c.args.now)
    c.fmmu_concerns.ensures c.fmmu_concerns-2.ensures c.recount-2.ensures in
    let third = recounts c.args.self.now.registers c.recount-3.new.counts c.register_concerns.result c.register_concerns-2.result (register_concerns c.args.was) (register_concerns c.args.now)
    c.register_concerns.ensures c.register_concerns-2.ensures c.recount-3.ensures in
    record {
      blocks = λ t low. let a = first t low in let b = second t low in omega (arith, a, b);
      registers = λ t low. third t low;
    }

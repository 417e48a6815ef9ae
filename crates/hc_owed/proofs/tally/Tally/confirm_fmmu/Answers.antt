use Rattle.std.proofs.Common.{sym, subst, arith}
use Rattle.hc_owed.specs.declared.task_set.TaskSet.{TaskSet}
use Rattle.hc_owed.specs.Waiting.{CanTakeOut, TakesOut}
use Rattle.hc_owed.proofs.Counting.{fmmu-out, none-counts}
use Rattle.hc_owed.proofs.tally.Tally.confirm_fmmu.Goals as goal

pub take_out-requires : goal.take_out-requires
take_out-requires c = subst (CanTakeOut c.args.self.now.blocks) (sym c.fmmu_concerns.ensures) (λ t low. let here = c.requires.blocks t low in omega (arith, here))

pub take_out-requires-2 : goal.take_out-requires-2
take_out-requires-2 c = subst (CanTakeOut c.args.self.now.registers) (sym c.register_concerns.ensures) (λ t low. let here = c.requires.registers t low in omega (arith, here))

pub returns : goal.returns
returns c =
    let blocks = subst (λ (set : TaskSet). TakesOut c.args.self.now.blocks c.take_out.new.counts set) c.fmmu_concerns.ensures c.take_out.ensures in
    let registers = subst (λ (set : TaskSet). TakesOut c.args.self.now.registers c.take_out-2.new.counts set) c.register_concerns.ensures c.take_out-2.ensures in
    record {
      blocks = λ t low. let a = blocks t low in let b = fmmu-out c.args.was t low in omega (arith, a, b);
      registers = λ t low. let a = registers t low in let none = none-counts t low in omega (arith, a, none);
    }

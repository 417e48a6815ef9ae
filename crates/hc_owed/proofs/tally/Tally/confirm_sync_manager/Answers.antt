use Rattle.std.proofs.Common.{sym, subst, arith}
use Rattle.hc_owed.specs.declared.task_set.TaskSet.{TaskSet}
use Rattle.hc_owed.specs.Waiting.{CanTakeOut, TakesOut}
use Rattle.hc_owed.proofs.Counting.{sync_manager-out}
use Rattle.hc_owed.proofs.tally.Tally.confirm_sync_manager.Goals as goal

pub take_out-requires : goal.take_out-requires
take_out-requires c = subst (CanTakeOut c.args.self.now.blocks) (sym c.sync_manager_concerns.ensures) (λ t low. let here = c.requires.blocks t low in omega (arith, here))

pub returns : goal.returns
returns c =
    let taken = subst (λ (set : TaskSet). TakesOut c.args.self.now.blocks c.take_out.new.counts set) c.sync_manager_concerns.ensures c.take_out.ensures in
    record {
      blocks = λ t low. let a = taken t low in let b = sync_manager-out c.args.was t low in omega (arith, a, b);
      registers = λ t low. omega arith;
    }

use Rattle.std.proofs.Common.{rules}
use Rattle.hc_core.proofs.ReadsAmong.{stale-leaves}
use Rattle.hc_core.proofs.keeping.Core.step.Goals as goal

pub returns-in-Edit-clause-stale : goal.returns-in-Edit-clause-stale
returns-in-Edit-clause-stale c = search (rules, stale-leaves)

pub returns-in-SendWrite-clause-stale : goal.returns-in-SendWrite-clause-stale
returns-in-SendWrite-clause-stale c = search (rules, stale-leaves)

pub returns-in-SendWrites-clause-stale : goal.returns-in-SendWrites-clause-stale
returns-in-SendWrites-clause-stale c = search (rules, stale-leaves)

pub returns-in-Arrive-clause-stale : goal.returns-in-Arrive-clause-stale
returns-in-Arrive-clause-stale c = search (rules, stale-leaves)

pub returns-in-Read-clause-stale : goal.returns-in-Read-clause-stale
returns-in-Read-clause-stale c = search (rules, stale-leaves)

pub returns-in-SendTasks-clause-stale : goal.returns-in-SendTasks-clause-stale
returns-in-SendTasks-clause-stale c = search (rules, stale-leaves)

pub returns-in-Post-clause-stale : goal.returns-in-Post-clause-stale
returns-in-Post-clause-stale c = search (rules, stale-leaves)

pub returns-in-PostSteady-clause-stale : goal.returns-in-PostSteady-clause-stale
returns-in-PostSteady-clause-stale c = search (rules, stale-leaves)

pub returns-in-Forget-clause-stale : goal.returns-in-Forget-clause-stale
returns-in-Forget-clause-stale c = search (rules, stale-leaves)

pub returns-in-SendReady-clause-stale : goal.returns-in-SendReady-clause-stale
returns-in-SendReady-clause-stale c = search (rules, stale-leaves)

pub returns-in-Cleared-clause-stale : goal.returns-in-Cleared-clause-stale
returns-in-Cleared-clause-stale c = search (rules, stale-leaves)

pub returns-in-Unplugged-clause-stale : goal.returns-in-Unplugged-clause-stale
returns-in-Unplugged-clause-stale c = search (rules, stale-leaves)

pub returns-in-SendFurther-clause-stale : goal.returns-in-SendFurther-clause-stale
returns-in-SendFurther-clause-stale c = search (rules, stale-leaves)

use Rattle.std.proofs.Common.{Some, ap₂, sym, ◌∙◌}
use Rattle.hc_events.specs.declared.faults.CoreFault.TheVariants.{Waits}
use Rattle.hc_core.proofs.ReadyFaults.{none-unready, waiting-refused, waiting-task}
use Rattle.hc_core.proofs.keeping.Core.refuse_unready.Goals as goal

pub returns-in_default-clause-passed : goal.returns-in_default-clause-passed
returns-in_default-clause-passed c = none-unready c.args.self.now.history c.args.tasks.now (sym c.first_unready.ensures ∙ c.in_default.is)

pub waiting_for-blocks-requires : goal.waiting_for-blocks-requires
waiting_for-blocks-requires c =
    waiting-task c.args.self.now.history c.args.tasks.now c.in-Some.task (sym c.names_no_task.ensures ∙ c.if-names_no_task.false) (sym c.first_unready.ensures ∙ c.in-Some.is)

pub returns-clause-refused : goal.returns-clause-refused
returns-clause-refused c =
    waiting-refused c.args.self.now.history c.args.tasks.now c.in-Some.task (sym c.names_no_task.ensures ∙ c.if-names_no_task.false) (sym c.first_unready.ensures ∙ c.in-Some.is)
    ∙ ap₂ (λ blocks outside. Some (Waits c.in-Some.task blocks outside)) (sym c.waiting_for-blocks.ensures.blocks) (sym c.waiting_for-blocks.ensures.outside)

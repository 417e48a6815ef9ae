use Rattle.std.proofs.Common.{subst}
use Rattle.hc_events.specs.Calls.{MayAnswer}
use Rattle.hc_events.specs.Steps.{Edits}
use Rattle.hc_conductor.specs.Conducting as conducting
use Rattle.hc_conductor.specs.Mastering.{Mastering, master_history}
use Rattle.hc_conductor.proofs.one_thread.master.Master.edit.Goals as goal

pub returns-clause-answer : goal.returns-clause-answer
returns-clause-answer c =
    subst (λ (m : Mastering). MayAnswer (master_history m) (Edits c.args.edit.now) c.edit.result (conducting.core_history c.edit.new.self)) c.self.view_is c.edit.ensures.answer

use Rattle.std.proofs.Common.{subst}
use Rattle.hc_events.specs.Calls.{MayAnswer}
use Rattle.hc_events.specs.Steps.{Edits}
use Rattle.hc_conductor.specs.Mastering.{master_history}
use Rattle.hc_program.specs.Standings.{SessionState}
use Rattle.hc_program.proofs.session.Session.edit.Goals as goal

pub returns-clause-answer : goal.returns-clause-answer
returns-clause-answer c =
    subst (λ (s : SessionState). MayAnswer s.history (Edits c.args.edit.now) c.edit.result (master_history c.edit.new.self)) c.self.view_is c.edit.ensures.answer

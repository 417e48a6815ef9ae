use Rattle.std.proofs.Common.{ap, subst}
use Rattle.std.specs.Prelude.{IfOk}
use Rattle.std.proofs.lemmas.Result.{IfOk-weaker}
use Rattle.hc_events.specs.Entries.{History}
use Rattle.hc_conductor.specs.Mastering.{master_shown}
use Rattle.hc_conductor.specs.Viewing.{IsViewAfter, IsViewOf}
use Rattle.hc_conductor.proofs.lemmas.AnswerGiven.{view-after_it}
use Rattle.hc_program.specs.Standings.{SessionState}
use Rattle.hc_program.proofs.Shown.{shown_history}
use Rattle.hc_program.proofs.session.Session.view.Goals as goal

pub returns-clause-viewed : goal.returns-clause-viewed
returns-clause-viewed c =
    let answer_given = master_shown c.self.inside.master in
    let seen = c.self.inside.seen.value.history in
    let shows = shown_history seen answer_given c.shows_what_is_read.ensures c.self.invariant in
    subst (λ (history : History). IfOk c.view.result (IsViewAfter history c.args.task c.args.number)) (ap (λ (s : SessionState). s.seen) c.self.view_is)
    (IfOk-weaker c.view.result (IsViewOf answer_given c.args.task c.args.number) (IsViewAfter seen c.args.task c.args.number) (λ viewed is. view-after_it seen answer_given c.args.task c.args.number viewed shows is) c.view.ensures.viewed)

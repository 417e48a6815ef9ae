use Rattle.std.proofs.Common.{◌≡◌, ap, sym, subst}
use Rattle.std.specs.Prelude.{Err}
use Rattle.hc_records.specs.Lists.{lowest}
use Rattle.hc_events.specs.declared.answer.Answer.{Answer}
use Rattle.hc_events.specs.declared.answer.Answer.TheVariants as answer
use Rattle.hc_events.specs.declared.faults.CoreFault.{CoreFault}
use Rattle.hc_events.specs.Calls.{MayAnswer}
use Rattle.hc_events.specs.Steps.{SendsReady, entries_after}
use Rattle.hc_core.proofs.Serves.{if-some, ready-served, history-after, history-same, taken-same}
use Rattle.hc_core.specs.Early.{ShowsEarly, early_ready_faults}
use Rattle.hc_core.specs.Serving.{answer_of}
use Rattle.hc_core.proofs.keeping.Core.serve_ready.Goals as goal

pub returns-clause-answer : goal.returns-clause-answer
returns-clause-answer c =
    let old = c.args.self.now in
    let new = c.send_ready.new.self in
    let is = c.send_ready.ensures in
    subst (λ (answer_given : Answer). MayAnswer old.history (SendsReady c.args.tasks.now) answer_given new.history) (sym c.answer_of.ensures)
    (ready-served old.history new.history c.args.tasks.now c.send_ready.result is.answer is.refused (history-after c.send_ready.result old new (entries_after old.history (SendsReady c.args.tasks.now)) is.entries) (history-same c.send_ready.result old new is.unchanged))

pub returns-clause-taken : goal.returns-clause-taken
returns-clause-taken c =
    taken-same c.send_ready.result c.args.self.now c.send_ready.new.self (entries_after c.args.self.now.history (SendsReady c.args.tasks.now)) c.send_ready.ensures.entries c.send_ready.ensures.unchanged

pub returns-clause-early : goal.returns-clause-early
returns-clause-early c =
    let history = c.args.self.now.history in
    let tasks = c.args.tasks.now in
    subst (ShowsEarly history (SendsReady tasks)) (sym c.answer_of.ensures)
    (if-some (λ (fault : CoreFault). c.send_ready.result ≡ Err fault) (λ (fault : CoreFault). answer_of c.send_ready.result ≡ answer.Refused fault)
    (lowest (early_ready_faults history tasks)) (λ fault is. ap answer_of is) c.send_ready.ensures.early)

use Rattle.std.proofs.Common.{◌≡◌, ap, length, sym, subst}
use Rattle.std.specs.Prelude.{Err}
use Rattle.hc_records.specs.Lists.{lowest}
use Rattle.hc_events.specs.declared.answer.Answer.{Answer}
use Rattle.hc_events.specs.declared.answer.Answer.TheVariants as answer
use Rattle.hc_events.specs.declared.faults.CoreFault.{CoreFault}
use Rattle.hc_events.specs.Calls.{MayAnswer}
use Rattle.hc_events.specs.Owed.{owed_blocks}
use Rattle.hc_events.specs.Steps.{SendsTasks, entries_after}
use Rattle.hc_sendings.specs.Refusals.{early_faults}
use Rattle.hc_core.proofs.Serves.{if-some, tasks-served, history-after, history-same, taken-same}
use Rattle.hc_core.specs.Early.{ShowsEarly}
use Rattle.hc_core.specs.Serving.{answer_of}
use Rattle.hc_core.proofs.keeping.Core.serve_tasks.Goals as goal

pub returns-clause-answer : goal.returns-clause-answer
returns-clause-answer c =
    let old = c.args.self.now in
    let new = c.send.new.self in
    let is = c.send.ensures in
    subst (λ (answer_given : Answer). MayAnswer old.history (SendsTasks c.args.tasks.now) answer_given new.history) (sym c.answer_of.ensures)
    (tasks-served old.history new.history c.args.tasks.now c.send.result is.answer is.refused (history-after c.send.result old new (entries_after old.history (SendsTasks c.args.tasks.now)) is.entries) (history-same c.send.result old new is.unchanged))

pub returns-clause-taken : goal.returns-clause-taken
returns-clause-taken c =
    taken-same c.send.result c.args.self.now c.send.new.self (entries_after c.args.self.now.history (SendsTasks c.args.tasks.now)) c.send.ensures.entries c.send.ensures.unchanged

pub returns-clause-early : goal.returns-clause-early
returns-clause-early c =
    let history = c.args.self.now.history in
    let tasks = c.args.tasks.now in
    subst (ShowsEarly history (SendsTasks tasks)) (sym c.answer_of.ensures)
    (if-some (λ (fault : CoreFault). c.send.result ≡ Err fault) (λ (fault : CoreFault). answer_of c.send.result ≡ answer.Refused fault)
    (lowest (early_faults (length (owed_blocks history)) tasks)) (λ fault is. ap answer_of is) c.send.ensures.early)

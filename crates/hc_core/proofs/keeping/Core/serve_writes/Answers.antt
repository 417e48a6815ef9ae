use Rattle.std.proofs.Common.{◌≡◌, ap, sym, subst}
use Rattle.std.specs.Prelude.{Err}
use Rattle.hc_records.specs.Lists.{lowest}
use Rattle.hc_events.specs.declared.answer.Answer.{Answer}
use Rattle.hc_events.specs.declared.answer.Answer.TheVariants as answer
use Rattle.hc_events.specs.declared.faults.CoreFault.{CoreFault}
use Rattle.hc_events.specs.Calls.{MayAnswer}
use Rattle.hc_events.specs.Owed.{owed_blocks}
use Rattle.hc_events.specs.Steps.{SendsWrites, entries_after, write_faults}
use Rattle.hc_core.proofs.Serves.{if-some, writes-served, history-after, history-same, taken-same}
use Rattle.hc_core.specs.Early.{ShowsEarly}
use Rattle.hc_core.specs.Serving.{answer_of}
use Rattle.hc_core.proofs.keeping.Core.serve_writes.Goals as goal

pub returns-clause-answer : goal.returns-clause-answer
returns-clause-answer c =
    let old = c.args.self.now in
    let new = c.write_all.new.self in
    let is = c.write_all.ensures in
    subst (λ (answer_given : Answer). MayAnswer old.history SendsWrites answer_given new.history) (sym c.answer_of.ensures)
    (writes-served old.history new.history c.write_all.result is.answer is.refused (history-after c.write_all.result old new (entries_after old.history SendsWrites) is.entries) (history-same c.write_all.result old new is.unchanged))

pub returns-clause-taken : goal.returns-clause-taken
returns-clause-taken c =
    taken-same c.write_all.result c.args.self.now c.write_all.new.self (entries_after c.args.self.now.history SendsWrites) c.write_all.ensures.entries c.write_all.ensures.unchanged

pub returns-clause-early : goal.returns-clause-early
returns-clause-early c =
    let history = c.args.self.now.history in
    subst (ShowsEarly history SendsWrites) (sym c.answer_of.ensures)
    (if-some (λ (fault : CoreFault). c.write_all.result ≡ Err fault) (λ (fault : CoreFault). answer_of c.write_all.result ≡ answer.Refused fault)
    (lowest (write_faults history (owed_blocks history))) (λ fault is. ap answer_of is) c.write_all.ensures.early)

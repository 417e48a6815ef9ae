use Rattle.std.proofs.Common.{◌≡◌, ap, sym, subst}
use Rattle.std.specs.Prelude.{Err}
use Rattle.hc_records.specs.Lists.{lowest}
use Rattle.hc_events.specs.declared.answer.Answer.{Answer}
use Rattle.hc_events.specs.declared.answer.Answer.TheVariants as answer
use Rattle.hc_events.specs.declared.faults.CoreFault.{CoreFault}
use Rattle.hc_events.specs.Calls.{MayAnswer}
use Rattle.hc_events.specs.Owed.{owed_blocks}
use Rattle.hc_events.specs.Steps.{SendsWrite, entries_after, write_faults}
use Rattle.hc_core.proofs.Serves.{if-some, write-served, history-after, history-same, taken-same}
use Rattle.hc_core.specs.Early.{ShowsEarly}
use Rattle.hc_core.specs.Serving.{answer_of}
use Rattle.hc_core.proofs.keeping.Core.serve_write.Goals as goal

pub returns-clause-answer : goal.returns-clause-answer
returns-clause-answer c =
    let old = c.args.self.now in
    let new = c.write.new.self in
    let is = c.write.ensures in
    subst (λ (answer_given : Answer). MayAnswer old.history SendsWrite answer_given new.history) (sym c.answer_of.ensures)
    (write-served old.history new.history c.write.result is.answer is.refused (history-after c.write.result old new (entries_after old.history SendsWrite) is.entries) (history-same c.write.result old new is.unchanged))

pub returns-clause-taken : goal.returns-clause-taken
returns-clause-taken c =
    taken-same c.write.result c.args.self.now c.write.new.self (entries_after c.args.self.now.history SendsWrite) c.write.ensures.entries c.write.ensures.unchanged

pub returns-clause-early : goal.returns-clause-early
returns-clause-early c =
    let history = c.args.self.now.history in
    subst (ShowsEarly history SendsWrite) (sym c.answer_of.ensures)
    (if-some (λ (fault : CoreFault). c.write.result ≡ Err fault) (λ (fault : CoreFault). answer_of c.write.result ≡ answer.Refused fault)
    (lowest (write_faults history (owed_blocks history))) (λ fault is. ap answer_of is) c.write.ensures.early)

use Rattle.std.proofs.Common.{◌≡◌, ap, sym, subst}
use Rattle.std.specs.Prelude.{Err}
use Rattle.hc_records.specs.Lists.{lowest}
use Rattle.hc_events.specs.declared.answer.Answer.{Answer}
use Rattle.hc_events.specs.declared.answer.Answer.TheVariants as answer
use Rattle.hc_events.specs.declared.faults.CoreFault.{CoreFault}
use Rattle.hc_events.specs.Calls.{MayAnswer}
use Rattle.hc_events.specs.Steps.{SendsFurther, entries_after, further_faults}
use Rattle.hc_core.proofs.Serves.{if-some, further-served, history-after, history-same, taken-same}
use Rattle.hc_core.specs.Early.{ShowsEarly}
use Rattle.hc_core.specs.Serving.{answer_of}
use Rattle.hc_core.proofs.keeping.Core.serve_further.Goals as goal

pub returns-clause-answer : goal.returns-clause-answer
returns-clause-answer c =
    let old = c.args.self.now in
    let new = c.write_further.new.self in
    let is = c.write_further.ensures in
    subst (λ (answer_given : Answer). MayAnswer old.history SendsFurther answer_given new.history) (sym c.answer_of.ensures)
    (further-served old.history new.history c.write_further.result is.answer is.refused (history-after c.write_further.result old new (entries_after old.history SendsFurther) is.entries) (history-same c.write_further.result old new is.unchanged))

pub returns-clause-taken : goal.returns-clause-taken
returns-clause-taken c =
    taken-same c.write_further.result c.args.self.now c.write_further.new.self (entries_after c.args.self.now.history SendsFurther) c.write_further.ensures.entries c.write_further.ensures.unchanged

pub returns-clause-early : goal.returns-clause-early
returns-clause-early c =
    let history = c.args.self.now.history in
    subst (ShowsEarly history SendsFurther) (sym c.answer_of.ensures)
    (if-some (λ (fault : CoreFault). c.write_further.result ≡ Err fault) (λ (fault : CoreFault). answer_of c.write_further.result ≡ answer.Refused fault)
    (lowest (further_faults history)) (λ fault is. ap answer_of is) c.write_further.ensures.early)

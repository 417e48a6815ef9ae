use Rattle.std.proofs.Common.{◌≡◌, ap, sym, subst}
use Rattle.std.specs.Prelude.{Ok}
use Rattle.hc_records.specs.Lists.{lowest}
use Rattle.hc_events.specs.declared.answer.Answer.{Answer}
use Rattle.hc_events.specs.declared.answer.Answer.TheVariants as answer
use Rattle.hc_events.specs.declared.faults.CoreFault.{CoreFault}
use Rattle.hc_events.specs.Calls.{MayAnswer}
use Rattle.hc_events.specs.Steps.{Reads, read_faults}
use Rattle.hc_core.proofs.Serves.{if-some, read-served}
use Rattle.hc_core.specs.Early.{ShowsEarly}
use Rattle.hc_core.specs.Serving.{answer_or_memory}
use Rattle.hc_core.proofs.keeping.Core.serve_read.Goals as goal

pub returns-clause-answer : goal.returns-clause-answer
returns-clause-answer c =
    let history = c.args.self.now.history in
    subst (λ (answer_given : Answer). MayAnswer history (Reads c.args.task) answer_given history) (sym c.answer_or_memory.ensures)
    (read-served history c.args.task c.read.result c.read.ensures.answer)

pub returns-clause-early : goal.returns-clause-early
returns-clause-early c =
    let history = c.args.self.now.history in
    let task = c.args.task in
    subst (ShowsEarly history (Reads task)) (sym c.answer_or_memory.ensures)
    (if-some (λ (fault : CoreFault). c.read.result ≡ Ok (answer.Refused fault)) (λ (fault : CoreFault). answer_or_memory c.read.result ≡ answer.Refused fault)
    (lowest (read_faults task)) (λ fault is. ap answer_or_memory is) c.read.ensures.early)

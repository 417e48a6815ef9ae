use Rattle.std.proofs.Common.{◌≡◌, ◌<◌}
use Rattle.std.proofs.lemmas.Result.{IfOk-weaker}
use Rattle.hc_records.specs.declared.limits.TheConstants.{TASKS}
use Rattle.hc_events.specs.Steps.{Reads, answer_to}
use Rattle.hc_core.specs.LastData.{ShowsLastData}
use Rattle.hc_core.proofs.ReadsAmong.{read-shows}
use Rattle.hc_core.proofs.keeping.Core.read.Goals as goal

pub returns-clause-answer : goal.returns-clause-answer
returns-clause-answer c = c.image.ensures.answer

pub returns-clause-shows : goal.returns-clause-shows
returns-clause-shows c =
    let history = c.args.self.now.history in
    let task = c.args.task in
    IfOk-weaker c.image.result (λ answer_given. answer_given ≡ answer_to history (Reads task)) (λ answer_given. task < TASKS → ShowsLastData history task answer_given) (read-shows history task) c.image.ensures.answer

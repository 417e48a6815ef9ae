use Rattle.std.proofs.Common.{map}
use Rattle.std.proofs.lemmas.Result.{IfOk-weaker}
use Rattle.hc_events.specs.Steps.{step_of}
use Rattle.hc_core.specs.Lines.{IsLineAfter}
use Rattle.hc_core.specs.LastData.{GoesWithoutThem, ReadsShowLastData}
use Rattle.hc_core.specs.Serving.{MayAnswerAll}
use Rattle.hc_core.proofs.Lines.{line-after}
use Rattle.hc_core.proofs.LastData.{reads-last}
use Rattle.hc_core.proofs.GoesWithout.{goes-without}
use Rattle.hc_core.proofs.ReadsAmong.{shows-among, without-stale}
use Rattle.hc_core.proofs.keeping.Core.run.Goals as goal

pub returns-clause-line : goal.returns-clause-line
returns-clause-line c =
    let history = c.args.self.now.history in
    let next = c.serve_all.new.self.history in
    let steps = map step_of c.args.events.now in
    IfOk-weaker c.serve_all.result (λ answers. MayAnswerAll history steps answers.items next) (λ answers. IsLineAfter history steps answers.items next)
    (λ answers. line-after history next steps answers.items) c.serve_all.ensures.answers

pub returns-clause-shown : goal.returns-clause-shown
returns-clause-shown c =
    let history = c.args.self.now.history in
    let next = c.serve_all.new.self.history in
    let steps = map step_of c.args.events.now in
    IfOk-weaker c.serve_all.result (λ answers. MayAnswerAll history steps answers.items next) (λ answers. ReadsShowLastData history steps answers.items)
    (λ answers. shows-among history next steps answers.items) c.serve_all.ensures.answers

pub returns-clause-reads : goal.returns-clause-reads
returns-clause-reads c = reads-last c.serve_all.new.self.history

pub returns-clause-stale : goal.returns-clause-stale
returns-clause-stale c = without-stale c.serve_all.new.self.history

pub returns-clause-without : goal.returns-clause-without
returns-clause-without c =
    let history = c.args.self.now.history in
    let next = c.serve_all.new.self.history in
    let steps = map step_of c.args.events.now in
    IfOk-weaker c.serve_all.result (λ answers. MayAnswerAll history steps answers.items next) (λ answers. GoesWithoutThem history steps answers.items next)
    (λ answers. goes-without history next steps answers.items) c.serve_all.ensures.answers

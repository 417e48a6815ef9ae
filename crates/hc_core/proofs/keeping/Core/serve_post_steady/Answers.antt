use Rattle.std.proofs.Common.{◌∷◌, sym, subst}
use Rattle.hc_records.specs.Lists.{lowest}
use Rattle.hc_events.specs.declared.answer.Answer.{Answer}
use Rattle.hc_events.specs.Calls.{MayAnswer}
use Rattle.hc_events.specs.Entries.{Posted}
use Rattle.hc_events.specs.Steps.{PostsSteady, post_steady_faults}
use Rattle.hc_core.proofs.Serves.{history-after, history-same, post-early, steady_post-served, taken-same}
use Rattle.hc_core.specs.Early.{ShowsEarly}
use Rattle.hc_core.proofs.keeping.Core.serve_post_steady.Goals as goal

pub returns-clause-answer : goal.returns-clause-answer
returns-clause-answer c =
    let old = c.args.self.now in
    let new = c.post_steady.new.self in
    let is = c.post_steady.ensures in
    let bytes = c.args.bytes.now in
    subst (λ (answer_given : Answer). MayAnswer old.history (PostsSteady c.args.task c.args.epoch bytes) answer_given new.history) (sym c.answer_of_post.ensures)
    (steady_post-served old.history new.history c.args.task c.args.epoch bytes c.post_steady.result is.accepted is.refused (history-after c.post_steady.result old new (Posted c.args.task bytes ∷ old.history) is.entries) (history-same c.post_steady.result old new is.unchanged))

pub returns-clause-taken : goal.returns-clause-taken
returns-clause-taken c =
    taken-same c.post_steady.result c.args.self.now c.post_steady.new.self (Posted c.args.task c.args.bytes.now ∷ c.args.self.now.history) c.post_steady.ensures.entries c.post_steady.ensures.unchanged

pub returns-clause-early : goal.returns-clause-early
returns-clause-early c =
    let history = c.args.self.now.history in
    let bytes = c.args.bytes.now in
    subst (ShowsEarly history (PostsSteady c.args.task c.args.epoch bytes)) (sym c.answer_of_post.ensures)
    (post-early (lowest (post_steady_faults history c.args.task c.args.epoch bytes)) c.post_steady.result c.post_steady.ensures.accepted c.post_steady.ensures.refused)

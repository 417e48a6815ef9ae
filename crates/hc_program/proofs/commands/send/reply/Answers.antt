use Rattle.std.proofs.Common.{◌≡◌, ℕ, List, ◌++◌, ◌∙◌, None, ap, string_bytes, subst, sym}
use Rattle.hc_records.specs.Lists.{lowest}
use Rattle.hc_events.specs.Entries.{History}
use Rattle.hc_events.specs.Steps.{SendsTasks, proposal, task_faults}
use Rattle.hc_program.specs.Answers.{event_text}
use Rattle.hc_program.specs.Frames.{proposed_text}
use Rattle.hc_program.proofs.Proposed.{proposed_answered}
use Rattle.hc_program.proofs.commands.send.reply.Goals as goal

pub returns-clause-text : goal.returns-clause-text
returns-clause-text c =
    let history = c.args.session.now.history in
    let old = string_bytes c.args.out.now in
    let tasks = c.as_slice.result.now in
    let frames = c.deref.result.now in
    let of = λ (tasks : List ℕ). event_text history (SendsTasks tasks) in
    let whole = c.deref.ensures.value ∙ c.in-Ok.ensures.frames ∙ ap (λ (p : History). proposal p tasks) c.core.ensures in
    let accepted = subst (λ (p : History). lowest (task_faults p tasks) ≡ None) c.core.ensures c.in-Ok.ensures.accepted in
    c.in_ok-push_frames.ensures
    ∙ ap (λ (p : History). old ++ proposed_text p frames) c.core-2.ensures
    ∙ ap (λ text. old ++ text) (sym (proposed_answered history tasks frames whole accepted))
    ∙ ap (λ text. old ++ text) (ap of c.as_slice.ensures.tasks)

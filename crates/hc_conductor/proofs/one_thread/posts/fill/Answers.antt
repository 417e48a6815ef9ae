use Rattle.std.proofs.Common.{◌≡◌, ◌≢◌, ℕ, length, sym, ap, subst, ◌∙◌, Some}
use Rattle.std.specs.Prelude.{IfOk}
use Rattle.std.proofs.lemmas.Result.{IfOk-weaker}
use Rattle.hc_places.specs.Table.{part_in}
use Rattle.hc_publish.specs.ChangesSince.{ChangesSince, epoch_shown, table_shown}
use Rattle.hc_publish.specs.Stories.{Origin}
use Rattle.hc_conductor.specs.Seats.{seat_epoch, outputs_size, seat_task}
use Rattle.hc_conductor.specs.Views as views
use Rattle.hc_conductor.specs.declared.one_thread.refusals.PostRefusal.TheVariants as why
use Rattle.hc_conductor.specs.Posting.{PostIsFilled, first_refused, known_to}
use Rattle.hc_conductor.proofs.lemmas.AnswerGiven.{err-weaker, answer_given-same}
use Rattle.hc_conductor.proofs.one_thread.posts.fill.Goals as goal

pub returns-in-Ok-clause-filled : goal.returns-in-Ok-clause-filled
returns-in-Ok-clause-filled c =
    let seat = c.args.seat in
    let settings = c.args.asked.2.now in
    let answer_given = known_to seat in
    let same : views.answered_to c.in-Ok.view ≡ answer_given = answer_given-same (views.answered_to c.in-Ok.view) answer_given (ap (λ (o : Origin). o.groups) c.in-Ok.ensures.origin) (c.in-Ok.ensures.exact ∙ sym c.requires.known) in
    subst (λ (t : ChangesSince). IfOk c.filled-bytes.result (λ bytes. PostIsFilled (table_shown t) (seat_task seat) settings bytes.items)) same
    (subst (λ (k : ℕ). IfOk c.filled-bytes.result (λ bytes. PostIsFilled (table_shown (views.answered_to c.in-Ok.view)) k settings bytes.items)) (sym c.requires.task.0) c.filled-bytes.ensures.filled)

pub returns-in-Ok-clause-viewed : goal.returns-in-Ok-clause-viewed
returns-in-Ok-clause-viewed c =
    let seat = c.args.seat in
    let answer_given = known_to seat in
    let same : views.answered_to c.in-Ok.view ≡ answer_given = answer_given-same (views.answered_to c.in-Ok.view) answer_given (ap (λ (o : Origin). o.groups) c.in-Ok.ensures.origin) (c.in-Ok.ensures.exact ∙ sym c.requires.known) in
    let table = table_shown (views.answered_to c.in-Ok.view) in
    let left = c.leave.result in
    let size = c.leave.ensures.size ∙ ap (λ (k : ℕ). (part_in table k).0) (c.in-Ok.ensures.task ∙ c.requires.task.0) in
    IfOk-weaker c.filled-bytes.result (λ bytes. PostIsFilled table c.args.asked.1 c.args.asked.2.now bytes.items) (λ bytes. (seat_epoch left ≡ epoch_shown answer_given) × (outputs_size left ≡ length bytes.items))
    (λ bytes is. (c.leave.ensures.epoch ∙ ap epoch_shown same, size ∙ sym is.size)) c.filled-bytes.ensures.filled

pub returns-in-Ok-clause-refused : goal.returns-in-Ok-clause-refused
returns-in-Ok-clause-refused c =
    let seat = c.args.seat in
    let settings = c.args.asked.2.now in
    let answer_given = known_to seat in
    let same : views.answered_to c.in-Ok.view ≡ answer_given = answer_given-same (views.answered_to c.in-Ok.view) answer_given (ap (λ (o : Origin). o.groups) c.in-Ok.ensures.origin) (c.in-Ok.ensures.exact ∙ sym c.requires.known) in
    let judged = ap (λ (t : ChangesSince). first_refused (table_shown t) (seat_task seat) settings) (sym same) ∙ ap (λ (k : ℕ). first_refused (table_shown (views.answered_to c.in-Ok.view)) k settings) c.requires.task.0 in
    err-weaker c.filled-bytes.result (λ refusal. refusal ≢ why.Memory → first_refused (table_shown (views.answered_to c.in-Ok.view)) c.args.asked.1 settings ≡ Some refusal)
    (λ refusal. refusal ≢ why.NoEntry → refusal ≢ why.Memory → first_refused (table_shown answer_given) (seat_task seat) settings ≡ Some refusal) (λ refusal is entry memory. judged ∙ is memory) c.filled-bytes.ensures.refused

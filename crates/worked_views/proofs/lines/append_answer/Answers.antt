use Rattle.std.proofs.Common.{◌++◌, ap, arith, length, refl, ◌∙◌}
use Rattle.std.proofs.lemmas.Result.{on_ok_weaker}
use Rattle.hc_publish.specs.PublishedState.{origin_of, pending, published}
use Rattle.worked_views.proofs.Answered.{first_answer_is_legal}
use Rattle.worked_views.proofs.Leading.{all_appended, leads_next, legal_on}
use Rattle.worked_views.proofs.lines.append_answer.Goals as goal

pub append-requires : goal.append-requires
append-requires c =
    let p = c.args.publisher.now in
    let plan = c.args.plan.now in
    let filled = c.in_ok-extend_from_slice.ensures.items ∙ ap (λ z. z ++ c.args.bytes.now) c.clear.ensures.items in
    let long = ap length (c.of.ensures ∙ filled) ∙ (c.if-bytes-from.false ∙ c.from.ensures) in
    let one = first_answer_is_legal plan c.args.task _ _ _ _ (omega (arith, c.if-task-ge-TASKS.false)) c.places.ensures.table c.in-Some.ensures.datagram c.of-good.ensures long in
    legal_on (origin_of p).groups (published p ++ pending p) _ plan c.requires.legal c.requires.leads one

pub returns-clause-leads : goal.returns-clause-leads
returns-clause-leads c =
    let p = c.args.publisher.now in
    let q = c.append.new.publisher in
    let plan = c.args.plan.now in
    let filled = c.in_ok-extend_from_slice.ensures.items ∙ ap (λ z. z ++ c.args.bytes.now) c.clear.ensures.items in
    let long = ap length (c.of.ensures ∙ filled) ∙ (c.if-bytes-from.false ∙ c.from.ensures) in
    let one = first_answer_is_legal plan c.args.task _ _ _ _ (omega (arith, c.if-task-ge-TASKS.false)) c.places.ensures.table c.in-Some.ensures.datagram c.of-good.ensures long in
    on_ok_weaker c.append.result (λ grown. leads_next p q _ plan plan c.requires c.append.ensures.same (all_appended p q _ c.append.ensures.published grown) one refl) c.append.ensures.pending

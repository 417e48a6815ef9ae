use Rattle.std.proofs.Common.{◌++◌}
use Rattle.std.proofs.lemmas.Result.{on_ok_weaker}
use Rattle.hc_publish.specs.PublishedState.{origin_of, pending, published}
use Rattle.worked_views.proofs.Leading.{all_appended, leads_next, legal_on, swap_is_legal, swap_leads}
use Rattle.worked_views.proofs.lines.append_edit.Goals as goal

pub append-requires : goal.append-requires
append-requires c =
    let p = c.args.publisher.now in
    let report = c.in-Ok.ensures.report in
    let one = swap_is_legal c.args.plan.now c.apply.new.self c.in-Ok.report.swap c.args.edit.now c.in-Ok.ensures.accepted report.named report.leads in
    legal_on (origin_of p).groups (published p ++ pending p) _ c.args.plan.now c.requires.legal c.requires.leads one

pub returns-in-Ok-clause-leads : goal.returns-in-Ok-clause-leads
returns-in-Ok-clause-leads c =
    let p = c.args.publisher.now in
    let q = c.append.new.publisher in
    let report = c.in-Ok.ensures.report in
    let one = swap_is_legal c.args.plan.now c.apply.new.self c.in-Ok.report.swap c.args.edit.now c.in-Ok.ensures.accepted report.named report.leads in
    let next = swap_leads c.args.plan.now c.apply.new.self c.in-Ok.report.swap c.args.edit.now c.in-Ok.ensures.accepted report.named in
    on_ok_weaker c.append.result (λ grown. leads_next p q _ c.args.plan.now c.apply.new.self c.requires c.append.ensures.same (all_appended p q _ c.append.ensures.published grown) one next) c.append.ensures.pending

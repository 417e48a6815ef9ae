use Rattle.std.proofs.Common.{◌≡◌, ℕ, sym, ap, ◌∙◌}
use Rattle.hc_publish.specs.ChangesSince.{ChangesSince, epoch_shown}
use Rattle.hc_publish.specs.Stories.{Origin}
use Rattle.hc_conductor.specs.Seats.{seat_known, task_seat_origin}
use Rattle.hc_conductor.specs.Views as views
use Rattle.hc_conductor.specs.Viewing.{value_answered}
use Rattle.hc_conductor.proofs.lemmas.AnswerGiven.{answer_given-same}
use Rattle.hc_conductor.proofs.one_thread.viewing.look.Goals as goal

pub returns-in-Ok-clause-viewed : goal.returns-in-Ok-clause-viewed
returns-in-Ok-clause-viewed c =
    let seat = c.args.seat in
    let answer_given : ChangesSince = record { groups = (task_seat_origin seat).groups; changes = seat_known seat } in
    let same : views.answered_to c.in-Ok.view ≡ answer_given = answer_given-same (views.answered_to c.in-Ok.view) answer_given (ap (λ (o : Origin). o.groups) c.in-Ok.ensures.origin) (c.in-Ok.ensures.exact ∙ sym c.requires.known) in
    record {
      epoch = c.epoch.ensures ∙ ap epoch_shown same;
      value =
          c.value_in.ensures
          ∙ (ap (λ (t : ChangesSince). value_answered t (views.view_task c.in-Ok.view) c.args.asked.1) same
          ∙ ap (λ (k : ℕ). value_answered answer_given k c.args.asked.1) c.in-Ok.ensures.task);
    }

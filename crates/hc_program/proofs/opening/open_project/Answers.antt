use Rattle.std.proofs.Common.{◌∙◌, Ok, ap, subst, sym}
use Rattle.hc_core.specs.State.{CoreState}
use Rattle.hc_events.specs.Entries.{History}
use Rattle.hc_publish.specs.ChangesSince.{ChangesSince, just_answered}
use Rattle.hc_conductor.specs.Openings.{IsOpenable}
use Rattle.hc_conductor.specs.Mastering.{master_history}
use Rattle.hc_program.specs.Sessions.{IsShown}
use Rattle.hc_program.proofs.Openings.{over_limit_named, over_limit_none, opening_shown, uncrowded_at_opening}
use Rattle.hc_program.proofs.opening.open_project.Goals as goal

pub returns-in-Ok-clause-opened : goal.returns-in-Ok-clause-opened
returns-in-Ok-clause-opened g c = over_limit_none c.args.project c.in-Ok.ensures.openable.uncrowded ∙ ap (λ (core : CoreState). Ok core.history) (sym c.in-Ok.ensures.core)

pub returns-in-Ok-clause-fresh : goal.returns-in-Ok-clause-fresh
returns-in-Ok-clause-fresh g c =
    let project = c.args.project in
    let history = ap (λ (core : CoreState). core.history) c.in-Ok.ensures.core in
    record {
      shown = subst (λ (answer_given : ChangesSince). IsShown (master_history c.in-Ok.master) answer_given) (sym c.in-Ok.ensures.shown) (subst (λ (p : History). IsShown p (just_answered project)) (sym history) (opening_shown project));
      none = c.in-Ok.ensures.waiting;
    }

pub returns-in-Err-TooManyDatagrams-clause-refused : goal.returns-in-Err-TooManyDatagrams-clause-refused
returns-in-Err-TooManyDatagrams-clause-refused g c _ =
    let answer_given = rw c.in-Err-TooManyDatagrams.field-0-is at c.in-Err-TooManyDatagrams.ensures.refused in
    over_limit_named c.args.project c.in-Err-TooManyDatagrams.task answer_given

pub returns-in-Err-NoSeat-clause-reason : goal.returns-in-Err-NoSeat-clause-reason
returns-in-Err-NoSeat-clause-reason g c =
    let openable : IsOpenable c.args.project = rw c.in-Err-NoSeat.field-0-is at c.in-Err-NoSeat.ensures.refused in
    uncrowded_at_opening c.args.project openable.uncrowded

-- What tasks are shown: what the record says that was published last.
use Rattle.std.proofs.Common.{◌≡◌, refl, sym, subst}
use Rattle.hc_events.specs.Entries.{History}
use Rattle.hc_events.specs.Points.{opened_with}
use Rattle.hc_publish.specs.Laws.{ShowsHistory, ShowsWhatIsRead}
use Rattle.hc_publish.specs.ChangesSince.{ChangesSince}
use Rattle.hc_conductor.proofs.lemmas.AnswerGiven.{answer_given-same}
use Rattle.hc_program.specs.Sessions.{IsShown}

-- so tasks view what the record has
pub shown_history : (seen : History) (answer_given : ChangesSince) → ShowsWhatIsRead → IsShown seen answer_given → ShowsHistory seen answer_given
shown_history seen answer_given law is =
    let same : ChangesSince = record { groups = opened_with seen; changes = answer_given.changes } in
    subst (ShowsHistory seen) (answer_given-same same answer_given (sym is.groups) refl) (law seen answer_given.changes is.reachable is.legal is.updates)

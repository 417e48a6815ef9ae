-- What a task posts is given by the line that was published last.
use Rattle.std.proofs.Common.{◌≡◌, ap, ◌∙◌}
use Rattle.std.specs.Prelude.{List, OnOk, Result, Ok, Err}
use Rattle.hc_records.specs.declared.records.Group.{Group}
use Rattle.hc_records.specs.Line.{line, opened}
use Rattle.hc_places.specs.Table.{table_of}
use Rattle.hc_events.specs.Changes.{table_after}
use Rattle.hc_events.specs.Entries.{History}
use Rattle.hc_events.specs.UpdatesLaws.{ChangesShowAll}
use Rattle.hc_events.specs.Points.{epoch_of, line_of}
use Rattle.hc_publish.specs.ChangesSince.{ChangesSince, epoch_shown, table_shown}
use Rattle.hc_program.specs.Sessions.{IsShown}

-- the table that is shown, and the epoch
pub shown_line : (seen : History) (answer_given : ChangesSince) → ChangesShowAll → IsShown seen answer_given → (table_shown answer_given ≡ table_of (line_of seen)) × (epoch_shown answer_given ≡ epoch_of seen)
shown_line seen answer_given law is =
    let says = law seen answer_given.changes is.reachable is.legal is.updates in
    (ap (λ (groups : List Group). table_after (table_of (line (opened groups))) answer_given.changes) is.groups ∙ says.table, says.epoch)

pub on_ok : {A E : Type 0} (r : Result A E) (P Q : Type 0) → (P → Q) → OnOk r P → OnOk r Q
on_ok (Ok x) P Q then is = then is
on_ok (Err e) P Q then is = tt

use Rattle.hc_records.specs.Edits.{edit_faults}
use Rattle.hc_records.specs.Lists.{lowest}
use Rattle.hc_events.specs.Points.{state_of}
use Rattle.hc_events.proofs.lemmas.Accepted.{no_refusal}
use Rattle.hc_events.proofs.lemmas.ReadyEdits.{ready-waits, untouched-ready}
use Rattle.hc_events.proofs.laws.ready.untouched_stays_ready.Goals as goal

pub returns : goal.returns
returns c history edit task reachable project uncrowded after accepted blocks ready =
    untouched-ready history edit task (record {
      at = record { all = reachable.accepted; project = project; uncrowded = uncrowded };
      accepted = no_refusal (lowest (edit_faults (state_of history) edit)) accepted;
      after = after;
      blocks = blocks;
      none = ready-waits history task ready;
    })

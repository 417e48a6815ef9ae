use Rattle.hc_records.specs.Edits.{edit_faults}
use Rattle.hc_records.specs.Lists.{lowest}
use Rattle.hc_events.specs.Points.{state_of}
use Rattle.hc_events.proofs.lemmas.Accepted.{no_refusal}
use Rattle.hc_events.proofs.lemmas.Undisturbed.{is-undisturbed}
use Rattle.hc_events.proofs.laws.steady.unchanged_tasks_are_undisturbed.Goals as goal

pub returns : goal.returns
returns c history edit task reachable low project uncrowded after accepted none =
    is-undisturbed history edit task (record {
      all = reachable.accepted;
      low = low;
      project = project;
      uncrowded = uncrowded;
      after = after;
      accepted = no_refusal (lowest (edit_faults (state_of history) edit)) accepted;
      none = none;
    })

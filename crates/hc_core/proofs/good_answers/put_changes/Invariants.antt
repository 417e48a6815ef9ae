use Rattle.std.proofs.Common.{◌≡◌, ◌++◌, drop, map}
use Rattle.std.specs.Prelude.{All}
use Rattle.hc_events.specs.Images.{FitsImage}
use Rattle.hc_core.specs.GoodAnswers.{change_of, good_answers_in, parts_without_places}
use Rattle.hc_core.proofs.good_answers.put_changes.Given as goal

-- the changes so far and the remaining ones are all changes; and what is left fits
abbrev pub invariant-loop-outcome : goal.invariant-loop-outcome
invariant-loop-outcome l = record {
  same : l.changes.items ++ map change_of (good_answers_in (drop l.outcome-index l.outcomes) (parts_without_places l.parts)) ≡ map change_of (good_answers_in l.outcomes l.arrival.parts);
  fit : All FitsImage (good_answers_in (drop l.outcome-index l.outcomes) (parts_without_places l.parts));
}

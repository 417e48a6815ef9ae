use Rattle.std.proofs.Common.{◌≡◌, ℕ, ◌<◌, drop}
use Rattle.std.specs.Prelude.{All, fold}
use Rattle.hc_records.specs.declared.limits.TheConstants.{MOST_DATAGRAMS}
use Rattle.hc_events.specs.Images.{FitsImage, renewed}
use Rattle.hc_images.specs.Image.{data_of}
use Rattle.hc_core.specs.GoodAnswers.{good_answers_in, parts_without_places}
use Rattle.hc_core.proofs.SteadyReads.{age_from}
use Rattle.hc_core.specs.Ages.{age_of, aged}
use Rattle.hc_core.proofs.good_answers.put_good_answers.Given as goal

-- what is left leads from the image and the ages so far to those of all; and it fits
abbrev pub invariant-loop-outcome : goal.invariant-loop-outcome
invariant-loop-outcome l = record {
  same : (task d : ℕ) → d < MOST_DATAGRAMS
      → fold (renewed task d) (data_of l.inputs task d) (good_answers_in (drop l.outcome-index l.outcomes) (parts_without_places l.parts)) ≡ fold (renewed task d) (data_of l.fn.inputs task d) (good_answers_in l.outcomes l.arrival.parts);
  dated_so : (task d : ℕ) → d < MOST_DATAGRAMS
      → fold (aged (age_from l.serial l.epoch) task d) (age_of l.ages task d) (good_answers_in (drop l.outcome-index l.outcomes) (parts_without_places l.parts)) ≡ fold (aged (age_from l.serial l.epoch) task d) (age_of l.fn.ages task d) (good_answers_in l.outcomes l.arrival.parts);
  fit : All FitsImage (good_answers_in (drop l.outcome-index l.outcomes) (parts_without_places l.parts));
}

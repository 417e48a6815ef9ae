use Rattle.std.proofs.Common.{◌∙◌, ◌+◌, ap, sym, subst, drop, get_or}
use Rattle.std.specs.Prelude.{All, fold}
use Rattle.std.proofs.lemmas.List.Sums.{fold-append}
use Rattle.hc_records.proofs.lemmas.Lists.{All-append_left, All-append_right}
use Rattle.hc_events.specs.declared.answer.Outcome.TheVariants.{Inputs}
use Rattle.hc_events.specs.Images.{FitsImage, renewed}
use Rattle.hc_images.specs.Image.{data_of}
use Rattle.hc_core.specs.GoodAnswers.{good_of, good_answers_in, parts_without_places}
use Rattle.hc_core.specs.Ages.{age_of, aged}
use Rattle.hc_core.proofs.SteadyReads.{age_from}
use Rattle.hc_core.proofs.GoodAnswersSteps.{good_answers-over, good_answers-short, good_answers-step, parts-back}
use Rattle.hc_core.proofs.good_answers.put_good_answers.Goals as goal

pub loop-outcome-init : goal.loop-outcome-init
loop-outcome-init c =
    let back = ap parts_without_places c.parts-parts.ensures ∙ parts-back 16 c.args.arrival.now.parts in
    let same = ap (good_answers_in c.args.outcomes.now) back in
    record {
      same = λ task d below. ap (fold (renewed task d) (data_of c.args.inputs.now task d)) same;
      dated_so = λ task d below. ap (fold (aged (age_from c.serial-serial.result c.args.epoch) task d) (age_of c.args.ages.now task d)) same;
      fit = subst (All FitsImage) (sym same) c.requires;
    }

-- if no part or no outcome is left, nothing more is put

pub returns-in_default-clause-slots : goal.returns-in_default-clause-slots
returns-in_default-clause-slots c = λ task d below.
    sym (ap (fold (renewed task d) (data_of c.loop-outcome.inputs task d)) (good_answers-short (drop c.loop-outcome.outcome-index c.args.outcomes.now) c.loop-outcome.parts c.in_default.ensures.steps.0))
    ∙ c.loop-outcome.invariant.same task d below

pub returns-in_default-clause-ages : goal.returns-in_default-clause-ages
returns-in_default-clause-ages c = λ task d below.
    sym (ap (fold (aged (age_from c.serial-serial.result c.args.epoch) task d) (age_of c.loop-outcome.ages task d)) (good_answers-short (drop c.loop-outcome.outcome-index c.args.outcomes.now) c.loop-outcome.parts c.in_default.ensures.steps.0))
    ∙ c.loop-outcome.invariant.dated_so task d below
    ∙ ap (λ serial. fold (aged (age_from serial c.args.epoch) task d) (age_of c.args.ages.now task d) (good_answers_in c.args.outcomes.now c.args.arrival.now.parts)) c.serial-serial.ensures.value

pub returns-clause-slots : goal.returns-clause-slots
returns-clause-slots c = λ task d below.
    sym (ap (fold (renewed task d) (data_of c.loop-outcome.inputs task d)) (good_answers-over c.args.outcomes.now c.loop-outcome.outcome-index c.loop-outcome.parts c.loop-outcome-test.false))
    ∙ c.loop-outcome.invariant.same task d below

pub returns-clause-ages : goal.returns-clause-ages
returns-clause-ages c = λ task d below.
    sym (ap (fold (aged (age_from c.serial-serial.result c.args.epoch) task d) (age_of c.loop-outcome.ages task d)) (good_answers-over c.args.outcomes.now c.loop-outcome.outcome-index c.loop-outcome.parts c.loop-outcome-test.false))
    ∙ c.loop-outcome.invariant.dated_so task d below
    ∙ ap (λ serial. fold (aged (age_from serial c.args.epoch) task d) (age_of c.args.ages.now task d) (good_answers_in c.args.outcomes.now c.args.arrival.now.parts)) c.serial-serial.ensures.value

pub put_good-requires : goal.put_good-requires
put_good-requires c =
    let i = c.loop-outcome.outcome-index in
    let first = good_of (get_or c.args.outcomes.now i (Inputs 0 0)) c.in-Some.part.carried in
    let rest = good_answers_in (drop (i + 1) c.args.outcomes.now) (parts_without_places c.next.new.self) in
    let split = good_answers-step c.args.outcomes.now i (Inputs 0 0) c.loop-outcome.parts c.next.new.self c.in-Some.part c.loop-outcome-test.true c.in-Some.ensures.steps in
    All-append_left FitsImage first rest (subst (All FitsImage) split c.loop-outcome.invariant.fit)

pub loop-outcome-preserved : goal.loop-outcome-preserved
loop-outcome-preserved c =
    let i = c.loop-outcome.outcome-index in
    let first = good_of (get_or c.args.outcomes.now i (Inputs 0 0)) c.in-Some.part.carried in
    let rest = good_answers_in (drop (i + 1) c.args.outcomes.now) (parts_without_places c.next.new.self) in
    let split = good_answers-step c.args.outcomes.now i (Inputs 0 0) c.loop-outcome.parts c.next.new.self c.in-Some.part c.loop-outcome-test.true c.in-Some.ensures.steps in
    record {
      same = λ task d below.
          ap (λ start. fold (renewed task d) start rest) (c.put_good.ensures.slots task d below)
          ∙ sym (fold-append (renewed task d) (data_of c.loop-outcome.inputs task d) first rest)
          ∙ sym (ap (fold (renewed task d) (data_of c.loop-outcome.inputs task d)) split)
          ∙ c.loop-outcome.invariant.same task d below;
      dated_so = λ task d below.
          ap (λ start. fold (aged (age_from c.serial-serial.result c.args.epoch) task d) start rest) (c.put_good.ensures.ages task d below)
          ∙ sym (fold-append (aged (age_from c.serial-serial.result c.args.epoch) task d) (age_of c.loop-outcome.ages task d) first rest)
          ∙ sym (ap (fold (aged (age_from c.serial-serial.result c.args.epoch) task d) (age_of c.loop-outcome.ages task d)) split)
          ∙ c.loop-outcome.invariant.dated_so task d below;
      fit = All-append_right FitsImage first rest (subst (All FitsImage) split c.loop-outcome.invariant.fit);
    }

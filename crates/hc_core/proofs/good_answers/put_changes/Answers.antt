use Rattle.std.proofs.Common.{◌≡◌, ◌∙◌, ◌+◌, ◌++◌, ap, append_assoc, sym, subst, drop, get_or, map, Option}
use Rattle.std.specs.Prelude.{All, option_to_list}
use Rattle.std.proofs.lemmas.List.{append-nil, map-append}
use Rattle.hc_records.proofs.lemmas.Lists.{All-append_left, All-append_right}
use Rattle.hc_events.specs.declared.answer.Outcome.TheVariants.{Inputs}
use Rattle.hc_events.specs.Images.{FitsImage}
use Rattle.hc_core.specs.GoodAnswers.{change_of, good_of, good_answers_in, parts_without_places}
use Rattle.hc_core.proofs.GoodAnswersSteps.{good_answers-over, good_answers-short, good_answers-step, parts-back}
use Rattle.hc_events.specs.declared.change.Change.{Change}
use Rattle.hc_core.proofs.good_answers.put_changes.Goals.{in-Some-2+in_ok-push, in_default-2}
use Rattle.hc_core.proofs.good_answers.put_changes.Goals as goal

pub returns-in_default : goal.returns-in_default
returns-in_default c =
    sym (append-nil c.loop-outcome.changes.items)
    ∙ sym (ap (λ good_answers. c.loop-outcome.changes.items ++ map change_of good_answers) (good_answers-short (drop c.loop-outcome.outcome-index c.args.outcomes.now) c.loop-outcome.parts c.in_default.ensures.steps.0))
    ∙ c.loop-outcome.invariant.same

pub returns : goal.returns
returns c =
    sym (append-nil c.loop-outcome.changes.items)
    ∙ sym (ap (λ good_answers. c.loop-outcome.changes.items ++ map change_of good_answers) (good_answers-over c.args.outcomes.now c.loop-outcome.outcome-index c.loop-outcome.parts c.loop-outcome-test.false))
    ∙ c.loop-outcome.invariant.same

pub loop-outcome-init : goal.loop-outcome-init
loop-outcome-init c =
    let back = ap parts_without_places c.parts-parts.ensures ∙ parts-back 16 c.args.arrival.now.parts in
    let same = ap (good_answers_in c.args.outcomes.now) back in
    record {
      same = ap (λ items. items ++ map change_of (good_answers_in c.args.outcomes.now (parts_without_places c.parts-parts.result))) c.requires.empty ∙ ap (map change_of) same;
      fit = subst (All FitsImage) (sym same) c.requires.fit;
    }

pub change_of-requires : goal.change_of-requires
change_of-requires c =
    let i = c.loop-outcome.outcome-index in
    let first = good_of (get_or c.args.outcomes.now i (Inputs 0 0)) c.in-Some.part.carried in
    let rest = good_answers_in (drop (i + 1) c.args.outcomes.now) (parts_without_places c.next.new.self) in
    let split = good_answers-step c.args.outcomes.now i (Inputs 0 0) c.loop-outcome.parts c.next.new.self c.in-Some.part c.loop-outcome-test.true c.in-Some.ensures.steps in
    All-append_left FitsImage first rest (subst (All FitsImage) split c.loop-outcome.invariant.fit)

pub loop-outcome-preserved : goal.loop-outcome-preserved
loop-outcome-preserved c =
    let i = c.loop-outcome.outcome-index in
    let first = good_of (get_or c.args.outcomes.now i (Inputs 0 0)) c.in-Some.part.carried in
    let rest = good_answers_in (drop (i + 1) c.args.outcomes.now) (parts_without_places c.next.new.self) in
    let split = good_answers-step c.args.outcomes.now i (Inputs 0 0) c.loop-outcome.parts c.next.new.self c.in-Some.part c.loop-outcome-test.true c.in-Some.ensures.steps in
    let before = c.loop-outcome.changes.items in
    let grown : c.match-branch-2.changes.items ≡ before ++ option_to_list c.in_ok-change.field-0 =
    elim c.match-branch-2.branch [
      | in-Some-2+in_ok-push w ↦
          ap (λ vec. vec.items) w.changes-is ∙ w.in_ok-push.ensures.items ∙ ap (λ (answer_given : Option Change). before ++ option_to_list answer_given) (sym w.in-Some-2.is)
      | in_default-2 w ↦
          ap (λ vec. vec.items) w.changes-is ∙ sym (append-nil before) ∙ ap (λ (answer_given : Option Change). before ++ option_to_list answer_given) (sym w.in_default-2.is)
    ] in
    record {
      same = ap (λ items. items ++ map change_of rest) (grown ∙ ap (λ answer_given. before ++ answer_given) c.in_ok-change.ensures)
          ∙ append_assoc before (map change_of first) (map change_of rest)
          ∙ ap (λ answer_given. before ++ answer_given) (sym (map-append change_of first rest) ∙ ap (map change_of) (sym split))
          ∙ c.loop-outcome.invariant.same;
      fit = All-append_right FitsImage first rest (subst (All FitsImage) split c.loop-outcome.invariant.fit);
    }

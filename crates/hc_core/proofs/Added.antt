-- The number of changes that an arrival adds is the number of its good answers.
use Rattle.std.proofs.Common.{◌≡◌, ℕ, ◌+◌, cond, List, [], ◌∷◌, length, map, refl, sym, ap, ◌∙◌, arith, length-append}
use Rattle.std.specs.Prelude.{count_by}
use Rattle.std.proofs.lemmas.List.{length-map}
use Rattle.std.proofs.lemmas.List.Sums.{sum_by-cons}
use Rattle.std.specs.List.{flat_map}
use Rattle.hc_events.specs.declared.answer.Answer.TheVariants as answer
use Rattle.hc_events.specs.declared.answer.Outcome.{Outcome}
use Rattle.hc_events.specs.Answering.{Judged, Verdict, Good, Wrong, Stale, judged_by}
use Rattle.hc_events.specs.Arrivals.{Arrival, Part}
use Rattle.hc_events.specs.Changes.{Answered, updates_of}
use Rattle.hc_events.specs.Entries.{History, Came}
use Rattle.hc_events.specs.Heads.{Datagram, Block, Head, Item}
use Rattle.hc_events.specs.Images.{new_answer, new_answer_by, new_answer_item}
use Rattle.hc_events.specs.Steps.{inputs_of, outcome_for, outcome_of, judged_answer, wrong_of}
use Rattle.hc_core.specs.GoodAnswers.{is_inputs}
use Rattle.hc_core.proofs.AnswerGiven.{are-inputs}

-- a judged datagram counts as one if it is a good answer, and otherwise not
item_counted : (item : Item) (bytes : List ℕ) → length (new_answer_item item bytes) ≡ cond (is_inputs (inputs_of item)) 1 0
item_counted (Datagram task d) bytes = refl
item_counted (Block station number) bytes = refl

wrong_counted : (item : Item) (expected got : ℕ) → ◌≡◌ {A = ℕ} 0 (cond (is_inputs (wrong_of item expected got)) 1 0)
wrong_counted (Datagram task d) expected got = refl
wrong_counted (Block station number) expected got = refl

one_counted : (head : Head) (part : Part) (verdict : Verdict) → length (new_answer (record { head = head; part = part; verdict = verdict })) ≡ cond (is_inputs (outcome_of head part verdict)) 1 0
one_counted head part Good = item_counted head.item part.bytes
one_counted head part Wrong = wrong_counted head.item head.expected part.counter
one_counted head part Stale = refl

all_counted : (judged : List Judged) → length (flat_map new_answer judged) ≡ count_by is_inputs (map outcome_for judged)
all_counted [] = refl
all_counted (item ∷ judged) =
    length-append (new_answer item) (flat_map new_answer judged)
    ∙ ap (λ (n : ℕ). n + length (flat_map new_answer judged)) (one_counted item.head item.part item.verdict)
    ∙ ap (λ (n : ℕ). cond (is_inputs (outcome_for item)) 1 0 + n) (all_counted judged)
    ∙ sym (sum_by-cons (λ outcome. cond (is_inputs outcome) 1 0) (outcome_for item) (map outcome_for judged))

-- an arrival adds so many as it has good answers
updates_added : (history : History) (arrival : Arrival) → length (updates_of (Came arrival ∷ history)) ≡ length (updates_of history) + length (new_answer_by history arrival)
updates_added history arrival = omega (arith, length-append (updates_of history) (map Answered (new_answer_by history arrival)), length-map (new_answer_by history arrival) Answered)

pub inputs-added : (history : History) (arrival : Arrival) (outcomes : List Outcome) → judged_answer (judged_by history arrival) ≡ answer.Answered outcomes
    → length (updates_of (Came arrival ∷ history)) ≡ length (updates_of history) + count_by is_inputs outcomes
inputs-added history arrival outcomes answer_given =
    updates_added history arrival
    ∙ ap (λ (n : ℕ). length (updates_of history) + n) (all_counted (judged_by history arrival) ∙ ap (λ (all : List Outcome). count_by is_inputs all) (sym (are-inputs (judged_by history arrival) outcomes answer_given).answer_given))

pub none-added : (history : History) (arrival : Arrival) → new_answer_by history arrival ≡ [] → length (updates_of (Came arrival ∷ history)) ≡ length (updates_of history) + 0
none-added history arrival none = updates_added history arrival ∙ ap (λ good_answers. length (updates_of history) + length good_answers) none

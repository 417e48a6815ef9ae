-- The changes that nobody took, after good answers.
use Rattle.std.proofs.Common.{◌≡◌, ◌-◌, List, [], ◌∷◌, ◌++◌, map, refl, ap, append_assoc, arith, length, length-append, rules}
use Rattle.std.specs.Prelude.{All}
use Rattle.std.proofs.lemmas.List.{length-map, map-append}
use Rattle.std.proofs.lemmas.List.Elements.{All-head, All-tail}
use Rattle.hc_records.specs.Line.{State, line}
use Rattle.hc_records.specs.Edits.{state_after}
use Rattle.hc_events.specs.declared.change.Change.{Change}
use Rattle.hc_events.specs.declared.change.Change.TheVariants as change
use Rattle.hc_events.specs.Arrivals.{Arrival}
use Rattle.hc_events.specs.Entries.{History, Came}
use Rattle.hc_events.specs.Exact.{SwapsAreExactFrom}
use Rattle.hc_events.specs.Points.{line_of}
use Rattle.hc_events.specs.Accepted.{IsInLine}
use Rattle.hc_events.specs.Images.{NewAnswer, new_answer_by}
use Rattle.hc_events.specs.Changes.{Answered, AreLegalFrom, Update, updates_of, update_in}
use Rattle.hc_events.specs.UpdatesLaws.{state_after_changes}
use Rattle.hc_events.proofs.lemmas.Slots.{FitsNewAnswer}
use Rattle.hc_events.proofs.lemmas.Views.{legal-joined}
use Rattle.hc_core.specs.Agreement.{Agree, CoreParts}
use Rattle.hc_core.specs.Update.{ShowUpdates}
use Rattle.hc_core.specs.GoodAnswers.{change_of}

good_answers_answered : (good_answers : List NewAnswer) → map update_in (map change_of good_answers) ≡ map Answered good_answers
good_answers_answered [] = refl
good_answers_answered (good ∷ good_answers) = ap (λ rest. Answered good ∷ rest) (good_answers_answered good_answers)

good_answers_legal : (state : State) (good_answers : List NewAnswer) → All (FitsNewAnswer IsInLine (line state)) good_answers → AreLegalFrom state (map change_of good_answers)
good_answers_legal state [] all = tt
good_answers_legal state (good ∷ good_answers) all =
    search (rules, All-head, All-tail, good_answers_legal state good_answers (All-tail (FitsNewAnswer IsInLine (line state)) good good_answers all))

good_answers_exact : (state : State) (good_answers : List NewAnswer) → SwapsAreExactFrom state (map change_of good_answers)
good_answers_exact state [] = tt
good_answers_exact state (good ∷ good_answers) = good_answers_exact state good_answers

pub exact-joined : (state : State) (first second : List Change) → SwapsAreExactFrom state first → SwapsAreExactFrom (state_after_changes state first) second → SwapsAreExactFrom state (first ++ second)
exact-joined state [] second one other = other
exact-joined state (change.Swapped swap ∷ first) second one other = (one.0, exact-joined (state_after state swap.edit) first second one.1 other)
exact-joined state (change.Good good ∷ first) second one other = exact-joined state first second one other

good_answers_after : (state : State) (changes : List Change) (good_answers : List NewAnswer) → state_after_changes state (changes ++ map change_of good_answers) ≡ state_after_changes state changes
good_answers_after state [] [] = refl
good_answers_after state [] (good ∷ good_answers) = good_answers_after state [] good_answers
good_answers_after state (change.Swapped swap ∷ changes) good_answers = good_answers_after (state_after state swap.edit) changes good_answers
good_answers_after state (change.Good good ∷ changes) good_answers = good_answers_after state changes good_answers

pub updates-came : (taken history : History) (arrival : Arrival) (changes : List Change) (good_answers : List NewAnswer) → new_answer_by history arrival ≡ good_answers → All (FitsNewAnswer IsInLine (line_of history)) (new_answer_by history arrival) → ShowUpdates taken history changes
    → ShowUpdates taken (Came arrival ∷ history) (changes ++ map change_of good_answers)
updates-came taken history arrival changes good_answers same fit shows =
    search (rules, append_assoc, good_answers_answered, map-append, legal-joined, good_answers_legal, exact-joined, good_answers_exact, good_answers_after)

pub updates-none : (taken history : History) (arrival : Arrival) (changes : List Change) → new_answer_by history arrival ≡ [] → ShowUpdates taken history changes → ShowUpdates taken (Came arrival ∷ history) changes
updates-none taken history arrival changes none shows = search rules

-- after their taking there are none

pub agree-taken : (unchanged : CoreParts) (history taken : History) → Agree unchanged history taken → Agree (record unchanged { changes = [] }) history history
agree-taken unchanged history taken agree = search rules

-- they are as many as there is current since then

pub count-untaken : (taken history : History) (changes : List Change) → ShowUpdates taken history changes → length changes ≡ length (updates_of history) - length (updates_of taken)
count-untaken taken history changes shows =
    omega (arith, ap (λ (updates : List Update). length updates) shows.updates, length-append (updates_of taken) (map update_in changes), length-map changes update_in)

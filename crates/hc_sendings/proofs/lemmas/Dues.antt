-- The due datagrams of the stored state give the same answer to an arrival as those of the record.
use Rattle.std.proofs.Common.{◌≡◌, ◌==◌, Bool, true, false, cond, not, List, [], ◌∷◌, map, refl, sym, ap, ◌∙◌, Option, Some, None}
use Rattle.std.specs.Prelude.{option_map}
use Rattle.std.specs.Option.{option_map_or}
use Rattle.std.specs.List.{zip}
use Rattle.hc_events.specs.Arrivals.{Arrival, Part}
use Rattle.hc_events.specs.Entries.{HistoryEntry, History}
use Rattle.hc_events.specs.Points.{line_of}
use Rattle.hc_events.specs.Heads.{Head}
use Rattle.hc_events.specs.Answering.{Judged, Sending, Verdict, Good, Wrong, Stale, has_heads, is_outdated, judge, judged_by}
use Rattle.hc_events.specs.Awaited.{awaited}
use Rattle.hc_events.specs.Steps.{judged_answer}
use Rattle.hc_events.proofs.lemmas.Awaited.{updates, updates_from, awaited-updates}
use Rattle.hc_events.proofs.lemmas.SameAfter.{answer_given-of_updates}
use Rattle.hc_sendings.specs.Waiting.{Waiting}
use Rattle.hc_sendings.specs.Judging.{judge_due, judged_due, judged_in}
use Rattle.hc_sendings.specs.History.{KeepsAwaited, due_in, dues_of}

-- what is due has the heads of its sending
pub heads-back : (since : List HistoryEntry) (heads : List Head) → map (λ one. one.head) (map (due_in since) heads) ≡ heads
heads-back since [] = refl
heads-back since (head ∷ heads) = ap (λ rest. head ∷ rest) (heads-back since heads)

verdict_back : (again : Bool) (good : Bool) → cond (not again) (cond good Good Wrong) Stale ≡ cond again Stale (cond good Good Wrong)
verdict_back true good = refl
verdict_back false good = refl

judge_back : (since : List HistoryEntry) (head : Head) (part : Part) → judge_due (due_in since head, part) ≡ judge since (head, part)
judge_back since head part =
    ap (λ (verdict : Verdict). let one : Judged = record { head = head; part = part; verdict = verdict } in one)
    (verdict_back (is_outdated head.item since) (part.counter == head.expected))

judged_back : (since : List HistoryEntry) (heads : List Head) (parts : List Part) → map judge_due (zip (map (due_in since) heads) parts) ≡ map (judge since) (zip heads parts)
judged_back since [] parts = refl
judged_back since (head ∷ heads) [] = refl
judged_back since (head ∷ heads) (part ∷ parts) =
    ap (λ one. one ∷ map judge_due (zip (map (due_in since) heads) parts)) (judge_back since head part)
    ∙ ap (λ rest. judge since (head, part) ∷ rest) (judged_back since heads parts)

due_judged : (arrival : Arrival) (sending : Sending) → judged_due arrival (dues_of sending) ≡ updates_from (Some sending) arrival
due_judged arrival sending =
    ap (λ heads. cond (has_heads heads arrival.parts) (map judge_due (zip (dues_of sending) arrival.parts)) []) (heads-back sending.since sending.heads)
    ∙ ap (λ all. cond (has_heads sending.heads arrival.parts) all []) (judged_back sending.since sending.heads arrival.parts)

found_judged : (arrival : Arrival) (found : Option Sending) → option_map_or (judged_due arrival) (option_map dues_of found) [] ≡ updates_from found arrival
found_judged arrival None = refl
found_judged arrival (Some sending) = due_judged arrival sending

-- the judgement of an arrival by the stored state is that by the record, if it is current
updates-join : (history : History) (waiting : Waiting) (arrival : Arrival) → KeepsAwaited history waiting → judged_in (line_of history) waiting arrival ≡ updates (judged_by history arrival)
updates-join history waiting arrival waits =
    ap (λ found. option_map_or (judged_due arrival) found []) (waits.due arrival.serial)
    ∙ found_judged arrival (awaited history arrival.serial)
    ∙ sym (awaited-updates history arrival)

-- so it is given by that
pub answer_given-join : (history : History) (waiting : Waiting) (arrival : Arrival) → KeepsAwaited history waiting → judged_answer (judged_in (line_of history) waiting arrival) ≡ judged_answer (judged_by history arrival)
answer_given-join history waiting arrival waits = ap judged_answer (updates-join history waiting arrival waits) ∙ sym (answer_given-of_updates (judged_by history arrival))

-- Frames that arrive one after another.
use Rattle.std.proofs.Common.{◌≡◌, ◌<◌, ◌+◌, ℕ, List, [], ◌∷◌, ◌++◌, drop, get_or, length, map, take, refl, sym, ap, ◌∙◌, append_assoc, add-one}
use Rattle.std.proofs.Math.Seq.{take-suc}
use Rattle.std.proofs.lemmas.List.{drop_more, map-append}
use Rattle.hc_events.specs.Entries.{History}
use Rattle.hc_events.specs.Steps.{Arrives, entries_after}
use Rattle.hc_program.specs.Answers.{event_text}
use Rattle.hc_program.specs.Cycles.{arrivals_text, arrived, cycle_arrived}
use Rattle.hc_program.specs.Standings.{SessionState, stepped, session_with_history}

front_more : {X : Type 0} (xs : List X) (i : ℕ) (d : X) → i < length xs → take (i + 1) xs ≡ take i xs ++ get_or xs i d ∷ []
front_more xs i d within = rw add-one (take-suc xs i d within)

-- a list that grows by what is made of the next thing
pub mapped_more : {X Y : Type 0} (f : X → Y) (xs : List X) (i : ℕ) (d : X) (old new : List Y) (y : Y) → i < length xs
    → old ≡ map f (take i xs) → new ≡ old ++ y ∷ [] → y ≡ f (get_or xs i d) → new ≡ map f (take (i + 1) xs)
mapped_more f xs i d old new y within before step is =
    step
    ∙ ap (λ front. front ++ y ∷ []) before
    ∙ ap (λ last. map f (take i xs) ++ last ∷ []) is
    ∙ sym (map-append f (take i xs) (get_or xs i d ∷ []))
    ∙ ap (map f) (sym (front_more xs i d within))

arrived_one_more : (history : History) (frames : List (List ℕ)) (frame : List ℕ) → arrived history (frames ++ frame ∷ []) ≡ entries_after (arrived history frames) (Arrives frame)
arrived_one_more history [] frame = refl
arrived_one_more history (first ∷ frames) frame = arrived_one_more (entries_after history (Arrives first)) frames frame

-- the next frame was answered

pub next_answered : (frames : List (List ℕ)) (i : ℕ) (d : List ℕ) (history next : History) (old new whole : List ℕ) → i < length frames → new ≡ old ++ event_text history (Arrives (get_or frames i d))
    → next ≡ entries_after history (Arrives (get_or frames i d)) → old ++ arrivals_text history (drop i frames) ≡ whole → new ++ arrivals_text next (drop (i + 1) frames) ≡ whole
next_answered frames i d history next old new whole within grown went before =
    let frame = get_or frames i d in
    let rest = drop (i + 1) frames in
    ap (λ (text : List ℕ). text ++ arrivals_text next rest) grown
    ∙ ap (λ (p : History). (old ++ event_text history (Arrives frame)) ++ arrivals_text p rest) went
    ∙ append_assoc old (event_text history (Arrives frame)) (arrivals_text (entries_after history (Arrives frame)) rest)
    ∙ ap (λ (left : List (List ℕ)). old ++ arrivals_text history left) (sym (drop_more frames i d within))
    ∙ before

-- and taken in

pub next_left : (frames : List (List ℕ)) (i : ℕ) (d : List ℕ) (s next whole : SessionState) → i < length frames → next ≡ stepped s (Arrives (get_or frames i d))
    → cycle_arrived s (drop i frames) ≡ whole → cycle_arrived next (drop (i + 1) frames) ≡ whole
next_left frames i d s next whole within went before =
    ap (λ (t : SessionState). cycle_arrived t (drop (i + 1) frames)) went ∙ ap (cycle_arrived s) (sym (drop_more frames i d within)) ∙ before

pub next_reached : (frames : List (List ℕ)) (i : ℕ) (d : List ℕ) (first s next : SessionState) → i < length frames → next ≡ stepped s (Arrives (get_or frames i d))
    → s ≡ cycle_arrived first (take i frames) → next ≡ cycle_arrived first (take (i + 1) frames)
next_reached frames i d first s next within went before =
    went
    ∙ ap (λ (t : SessionState). stepped t (Arrives (get_or frames i d))) before
    ∙ ap (session_with_history first) (sym (arrived_one_more first.history (take i frames) (get_or frames i d)))
    ∙ ap (cycle_arrived first) (sym (front_more frames i d within))

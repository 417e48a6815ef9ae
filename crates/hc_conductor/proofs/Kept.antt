-- The project that was opened stays the same after any event.
use Rattle.std.proofs.Common.{◌≡◌, ⊎_elim, ℕ, Bool, true, false, cond, List, [], ◌∷◌, refl, ◌∙◌, ap}
use Rattle.std.specs.Prelude.{OnErr, OnOk, Result, Ok, Err}
use Rattle.hc_records.specs.declared.records.Group.{Group}
use Rattle.hc_events.specs.declared.answer.Answer.{Answer}
use Rattle.hc_events.specs.Entries.{History, Opened, Edited, Posted, Sent, Wrote, Came, Forgot, Cleared, Unplugged}
use Rattle.hc_events.specs.Owed.{is_in_line}
use Rattle.hc_events.specs.Ready.{with_cleared}
use Rattle.hc_events.specs.Points.{opened_with}
use Rattle.hc_events.specs.Sendings.{Frame}
use Rattle.hc_events.specs.Steps.{Step, entries_after, entries_after_all, with_sent}
use Rattle.hc_events.specs.Calls.{IsAnswered, IsOutOfMemory, MayAnswer}
use Rattle.hc_core.specs.State.{CoreState}
use Rattle.hc_events.proofs.lemmas.Accepted.{StaysTrue, unchanged-after, unchanged-after_all}

abbrev OpenedWith : List Group → History → Type 0
OpenedWith groups history = opened_with history ≡ groups

opened_more : (groups : List Group) → StaysTrue (OpenedWith groups)
opened_more groups history (Opened others) accepted before = absurd accepted
opened_more groups history (Edited edit) accepted before = before
opened_more groups history (Posted task bytes) accepted before = before
opened_more groups history (Sent frame) accepted before = before
opened_more groups history (Wrote block) accepted before = before
opened_more groups history (Came arrival) accepted before = before
opened_more groups history (Forgot station) accepted before = before
opened_more groups history (Cleared station) accepted before = before
opened_more groups history (Unplugged station) accepted before = before

pub opened-after : (history : History) (step : Step) → opened_with (entries_after history step) ≡ opened_with history
opened-after history step = unchanged-after (OpenedWith (opened_with history)) (opened_more (opened_with history)) history step refl

pub opened-answered : (history next : History) (step : Step) (answer_given : Answer) → MayAnswer history step answer_given next → opened_with next ≡ opened_with history
opened-answered history next step answer_given may =
    ⊎_elim (λ (is : IsAnswered history step answer_given next). ap opened_with is.entries ∙ opened-after history step) (λ (is : IsOutOfMemory history step answer_given next). ap opened_with is.entries) may

-- a call that the core serves as an event, or refuses
pub opened-served : {X E : Type 0} (result : Result X E) (old new : CoreState) (step : Step) → OnOk result (new ≡ record old { history = entries_after old.history step }) → OnErr result (new ≡ old)
    → (opened_with new.history ≡ opened_with old.history) × (new.taken ≡ old.taken)
opened-served (Ok answer_given) old new step entries same = (ap (λ s. opened_with s.history) entries ∙ opened-after old.history step, ap (λ s. s.taken) entries)
opened-served (Err fault) old new step entries same = (ap (λ s. opened_with s.history) same, ap (λ s. s.taken) same)

pub history-served : {X E : Type 0} (result : Result X E) (old new : CoreState) (step : Step) (history : History) → old.history ≡ history → OnOk result (new ≡ record old { history = entries_after old.history step })
    → OnOk result (new.history ≡ entries_after history step)
history-served (Ok answer_given) old new step history is entries = ap (λ s. s.history) entries ∙ ap (λ p. entries_after p step) is
history-served (Err fault) old new step history is entries = tt

cleared_by : (inside : Bool) (history : History) (station : ℕ) → opened_with (cond inside (Cleared station ∷ Forgot station ∷ history) (Cleared station ∷ history)) ≡ opened_with history
cleared_by true history station = refl
cleared_by false history station = refl

pub opened-cleared : (history : History) (station : ℕ) → opened_with (with_cleared history station) ≡ opened_with history
opened-cleared history station = cleared_by (is_in_line history station) history station

-- clearing a slave, or refusing to
pub cleared-served : {X E : Type 0} (result : Result X E) (old new : CoreState) (station : ℕ) → OnOk result (new ≡ record old { history = with_cleared old.history station }) → OnErr result (new ≡ old)
    → (opened_with new.history ≡ opened_with old.history) × (new.taken ≡ old.taken)
cleared-served (Ok done) old new station entries same = (ap (λ s. opened_with s.history) entries ∙ opened-cleared old.history station, ap (λ s. s.taken) entries)
cleared-served (Err fault) old new station entries same = (ap (λ s. opened_with s.history) same, ap (λ s. s.taken) same)

pub opened-sent : (history : History) (frames : List Frame) → opened_with (with_sent history frames) ≡ opened_with history
opened-sent history [] = refl
opened-sent history (frame ∷ frames) = opened-sent (Sent frame.datagrams ∷ history) frames

pub opened-after_all : (history : History) (steps : List Step) → opened_with (entries_after_all history steps) ≡ opened_with history
opened-after_all history steps = unchanged-after_all (OpenedWith (opened_with history)) (opened_more (opened_with history)) history steps refl

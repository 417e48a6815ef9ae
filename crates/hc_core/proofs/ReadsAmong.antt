-- The data that tasks read among events, and the history after a stale arrival.
use Rattle.std.proofs.Common.{◌≡◌, ◌⊎◌, inl, inr, ℕ, zero, suc, ◌<◌, Bool, true, false, List, [], ◌∷◌, refl, sym, ◌∙◌, subst, Option, rules}
use Rattle.std.specs.Prelude.{Result, Ok, Err}
use Rattle.std.proofs.lemmas.Option.{none-some, same_Some}
use Rattle.hc_records.specs.declared.limits.TheConstants.{TASKS}
use Rattle.hc_records.specs.Lists.{lowest}
use Rattle.hc_registers.specs.Blocks.{LineBlock}
use Rattle.hc_frames.specs.declared.reading.faults.FrameFault.{FrameFault}
use Rattle.hc_events.specs.declared.answer.Answer.{Answer}
use Rattle.hc_events.specs.declared.answer.Answer.TheVariants as answer
use Rattle.hc_events.specs.declared.faults.CoreFault.{CoreFault}
use Rattle.hc_events.specs.declared.faults.CoreFault.TheVariants.{Memory}
use Rattle.hc_events.specs.Arrivals.{Arrival, arrival_in}
use Rattle.hc_events.specs.Calls.{MayAnswer}
use Rattle.hc_events.specs.Entries.{History, Came}
use Rattle.hc_events.specs.Stale.{SameAfter, without_stale}
use Rattle.hc_events.specs.Steps.{Step, Edits, Posts, PostsSteady, SendsTasks, SendsWrite, Arrives, Reads, Forgets, answer_to, entries_after, image_of, read_faults, arrival_answer, sent_write_answer, unless, with_arrival, SendsWrites, SendsFurther, writes_answer, SendsReady, Clears, Unplugs}
use Rattle.hc_events.proofs.lemmas.SameAfter.{same-after_it, same-stale, same-without}
use Rattle.hc_core.specs.LastData.{IsAsWithoutStale, ReadsShowLastData, ShowsLastData, StaleLeavesNothing}
use Rattle.hc_core.specs.Serving.{MayAnswerAll}
use Rattle.hc_core.proofs.LastData.{reads-last}
use Rattle.hc_core.proofs.AnswerGiven.{answer_given-stale}

-- a read among events

shows_one : (history next : History) (task : ℕ) (answer_given : Answer) → task < TASKS → MayAnswer history (Reads task) answer_given next → ShowsLastData history task answer_given ⊎ (answer_given ≡ answer.Refused Memory)
shows_one history next task answer_given low may = search (rules, reads-last)

pub shows-among : (history next : History) (steps : List Step) (answers : List Answer) → MayAnswerAll history steps answers next → ReadsShowLastData history steps answers
shows-among history next [] answers all n task answer_given low at got = absurd (none-some (Reads task) at)
shows-among history next (step ∷ steps) [] all n task answer_given low at got = absurd all
shows-among history next (step ∷ steps) (first ∷ answers) all zero task answer_given low at got = search (rules, same_Some, same_Some, shows_one)
shows-among history next (step ∷ steps) (first ∷ answers) all (suc n) task answer_given low at got =
    search (rules, shows-among all.0 next steps answers all.2 n task answer_given low at got)

-- a stale arrival

abbrev shows_stale : Answer → Bool
shows_stale answer.Stale = true
shows_stale _ = false

unless_stale : (refused : Option CoreFault) (answer_given : Answer) → shows_stale answer_given ≡ false → unless refused answer_given ≡ answer.Stale → ⊥
unless_stale refused answer_given plain e = search rules

no_write_stale : (serial : ℕ) (blocks : List LineBlock) → shows_stale (sent_write_answer serial blocks) ≡ false
no_write_stale serial blocks = search rules

no_writes_stale : (serial : ℕ) (blocks : List LineBlock) → shows_stale (writes_answer serial blocks) ≡ false
no_writes_stale serial [] = refl
no_writes_stale serial (block ∷ []) = refl
no_writes_stale serial (block ∷ next ∷ blocks) = refl

stale_arrival : (history next : History) (read : Result Arrival FrameFault) → arrival_answer history read ≡ answer.Stale → next ≡ with_arrival history read → (later : List Step) → SameAfter next history later
stale_arrival history next (Err fault) answer_given entries later = search rules
stale_arrival history next (Ok arrival) answer_given entries later =
    subst (λ (grown : History). SameAfter grown history later) (sym entries)
    (same-after_it (Came arrival ∷ history) history later (same-stale history arrival (answer_given-stale history arrival answer_given)))

stale_step : (history next : History) (step : Step) → answer_to history step ≡ answer.Stale → next ≡ entries_after history step → (later : List Step) → SameAfter next history later
stale_step history next (Edits edit) answer_given entries later = search (rules, unless_stale)
stale_step history next (Posts task epoch bytes) answer_given entries later = search (rules, unless_stale)
stale_step history next (PostsSteady task epoch bytes) answer_given entries later = search (rules, unless_stale)
stale_step history next (SendsTasks tasks) answer_given entries later = search (rules, unless_stale)
stale_step history next SendsWrite answer_given entries later = search (rules, unless_stale, no_write_stale)
stale_step history next SendsWrites answer_given entries later = search (rules, unless_stale, no_writes_stale)
stale_step history next (Arrives bytes) answer_given entries later = stale_arrival history next (arrival_in bytes) answer_given entries later
stale_step history next (Forgets station) answer_given entries later = search (rules, unless_stale)
stale_step history next (SendsReady tasks) answer_given entries later = search (rules, unless_stale)
stale_step history next (Clears station) answer_given entries later = search (rules, unless_stale)
stale_step history next (Unplugs station) answer_given entries later = search (rules, unless_stale)
stale_step history next SendsFurther answer_given entries later = search (rules, unless_stale, no_writes_stale)
stale_step history next (Reads task) answer_given entries later = absurd (unless_stale (lowest (read_faults task)) (image_of history task) refl answer_given)

pub stale-leaves : (history next : History) (step : Step) (answer_given : Answer) → MayAnswer history step answer_given next → StaleLeavesNothing history answer_given next
stale-leaves history next step answer_given (inl answered) stale later = stale_step history next step (sym answered.answer ∙ stale) answered.entries later
stale-leaves history next step answer_given (inr wanting) stale later = search rules

pub without-stale : (history : History) → IsAsWithoutStale history
without-stale history later = same-after_it history (without_stale history) later (same-without history)

-- the result of a read call shows the last data

pub read-shows : (history : History) (task : ℕ) (answer_given : Answer) → answer_given ≡ answer_to history (Reads task) → task < TASKS → ShowsLastData history task answer_given
read-shows history task answer_given is low = subst (ShowsLastData history task) (sym is) (reads-last history task low)

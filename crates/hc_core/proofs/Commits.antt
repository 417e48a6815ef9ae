-- The precondition of a commit holds of the present proposal, and the core agrees with the record after it.
use Rattle.std.proofs.Common.{◌≡◌, ℕ, ◌+◌, ◌<◌, ◌≤◌, ◌⊎◌, inl, inr, false, not, nat_lt, List, [], ◌∷◌, length, map, sym, ◌∙◌, subst, arith, None, rules}
use Rattle.std.specs.Prelude.{All, AllPairs}
use Rattle.std.specs.List.{range_with_len}
use Rattle.std.proofs.lemmas.Bool.{ltb-false}
use Rattle.std.proofs.lemmas.List.Elements.{All-nil, All-cons, All-weaker}
use Rattle.std.proofs.lemmas.List.Kept.{AllPairs-cons}
use Rattle.hc_records.specs.Edits.{over_limit_task}
use Rattle.hc_records.specs.Line.{groups_of}
use Rattle.hc_records.specs.Lists.{lowest}
use Rattle.hc_records.specs.Project.{lowest_fault}
use Rattle.hc_records.proofs.lemmas.Addresses.{uncrowded-few}
use Rattle.hc_records.proofs.lemmas.Lists.{AllPairs-nil}
use Rattle.hc_frames.specs.declared.limits.TheConstants.{SETUP_SERIAL}
use Rattle.hc_events.specs.Accepted.{IsInLine}
use Rattle.hc_events.specs.Entries.{History}
use Rattle.hc_events.specs.Points.{line_of, next_serial, state_of}
use Rattle.hc_events.specs.Sendings.{Frame, Named}
use Rattle.hc_events.specs.declared.faults.CoreFault.TheVariants.{SerialsSpent}
use Rattle.hc_events.specs.Steps.{has_serials, proposal, ready_faults, task_faults, with_sent}
use Rattle.hc_events.proofs.lemmas.Accepted.{passed, proposal-is_placed}
use Rattle.hc_events.proofs.lemmas.Frames.{proposals-numbered}
use Rattle.hc_events.proofs.lemmas.Answers.{twice}
use Rattle.hc_events.proofs.lemmas.Live.{at_least}
use Rattle.hc_sendings.proofs.lemmas.Listed.{standing-task}
use Rattle.hc_sendings.specs.Waiting.{AwaitedFrame, ComeAfter, IsTaskDatagram, all_sent}
use Rattle.hc_core.proofs.Sendings.{agree-sent}
use Rattle.hc_core.proofs.SentAll.{first-number}
use Rattle.hc_core.specs.Agreement.{Agree, CoreParts}
use Rattle.hc_core.specs.Early.{early_ready_faults}
use Rattle.hc_core.specs.Proposed.{IsProposal}
use Rattle.hc_core.proofs.Lowest.{lowest-after_it, lowest-none}

-- a datagram of the line has a number that tasks can have

named : (history : History) → lowest_fault (groups_of (state_of history).groups) ≡ None → over_limit_task (line_of history) ≡ None → (one : Named) → IsInLine (line_of history) one → IsTaskDatagram one
named history project uncrowded one is_placed = search (rules, standing-task, uncrowded-few)

pub proposal-named : (unchanged : CoreParts) (history taken : History) (frames : List Frame) → IsProposal history frames → Agree unchanged history taken → All (λ frame. All IsTaskDatagram frame.datagrams) frames
proposal-named unchanged history taken frames is agree =
    subst (All (λ frame. All IsTaskDatagram frame.datagrams)) (sym is.whole)
    (All-weaker (λ (frame : Frame). All (IsInLine (line_of history)) frame.datagrams) (λ (frame : Frame). All IsTaskDatagram frame.datagrams)
    (λ frame are_placed. All-weaker (IsInLine (line_of history)) IsTaskDatagram (named history agree.project agree.uncrowded) frame.datagrams are_placed)
    (proposal history is.tasks) (proposal-is_placed history is.tasks))

-- serials of frames one after another

abbrev pub numbers_of : List Frame → List ℕ
numbers_of frames = map (λ frame. frame.serial) frames

from_number : (frames : List Frame) (serial low : ℕ) → numbers_of frames ≡ range_with_len serial (length frames) → low ≤ serial → All (λ frame. low ≤ frame.serial) frames
from_number [] serial low numbers below = All-nil (λ (frame : Frame). low ≤ frame.serial)
from_number (frame ∷ frames) serial low numbers below =
    let first = first-number frame (numbers_of frames) serial (range_with_len (serial + 1) (length frames)) numbers in
    let next : low ≤ serial + 1 = omega (arith, below) in
    All-cons (λ (one : Frame). low ≤ one.serial) frame frames (omega (arith, below)) (from_number frames (serial + 1) low first.1 next)

above_number : (a n b : ℕ) → a ≡ n → n + 1 ≤ b → a < b
above_number a n b is low = omega (arith, is, low)

not_above : (a n b : ℕ) → a < n → n ≤ b → a < b
not_above a n b less low = omega (arith, less, low)

next_low : (n : ℕ) → n + 1 ≤ n + 1
next_low n = omega arith

numbers_ascend : (frames : List Frame) (serial : ℕ) → numbers_of frames ≡ range_with_len serial (length frames) → AllPairs (λ a b. a.serial < b.serial) frames
numbers_ascend [] serial numbers = AllPairs-nil (λ (a b : Frame). a.serial < b.serial)
numbers_ascend (frame ∷ frames) serial numbers =
    let first = first-number frame (numbers_of frames) serial (range_with_len (serial + 1) (length frames)) numbers in
    search (rules, first-number, AllPairs-cons, All-weaker, above_number, from_number, next_low, numbers_ascend frames (serial + 1) first.1)

pub proposal-after_it : (unchanged : CoreParts) (history taken : History) (frames : List Frame) → IsProposal history frames → Agree unchanged history taken → ComeAfter unchanged.awaited frames
proposal-after_it unchanged history taken frames is agree =
    let tasks = is.tasks in
    subst (ComeAfter unchanged.awaited) (sym is.whole) (record {
      ascend = numbers_ascend (proposal history tasks) (next_serial history) (proposals-numbered history tasks);
      after_it = All-weaker (λ (frame : AwaitedFrame). frame.serial < next_serial history) (λ (frame : AwaitedFrame). All (λ (next : Frame). frame.serial < next.serial) (proposal history tasks))
          (λ frame less. All-weaker (λ (next : Frame). next_serial history ≤ next.serial) (λ (next : Frame). frame.serial < next.serial)
          (λ next low. not_above frame.serial (next_serial history) next.serial less low) (proposal history tasks)
          (from_number (proposal history tasks) (next_serial history) (next_serial history) (proposals-numbered history tasks) (at_least (next_serial history))))
          unchanged.awaited.frames agree.waits.awaits.below;
    })

-- the serials suffice

abbrev pub IsAllowed : History → List ℕ → Type 0
IsAllowed history tasks = next_serial history + length (proposal history tasks) ≤ SETUP_SERIAL

pub allowed : (history : History) (tasks : List ℕ) → lowest (task_faults history tasks) ≡ None → IsAllowed history tasks
allowed history tasks none = search (rules, passed, ltb-false, twice)

-- ready tasks without a fault have none of the early faults
pub early-apart : (history : History) (tasks : List ℕ) → lowest (ready_faults history tasks) ≡ None → lowest (early_ready_faults history tasks) ≡ None
early-apart history tasks none = lowest-none (early_ready_faults history tasks) ((not (has_serials history (length (proposal history tasks))), SerialsSpent) ∷ []) none

serials_left_over : (n : ℕ) → (not (not (nat_lt SETUP_SERIAL n))) ≡ false → n ≤ SETUP_SERIAL
serials_left_over n e = search (rules, ltb-false, twice)

pub ready-allowed : (history : History) (tasks : List ℕ) → lowest (ready_faults history tasks) ≡ None → IsAllowed history tasks
ready-allowed history tasks none =
    let spent = not (has_serials history (length (proposal history tasks))) in
    let after : lowest ((spent, SerialsSpent) ∷ []) ≡ None = sym (lowest-after_it (early_ready_faults history tasks) ((spent, SerialsSpent) ∷ []) (early-apart history tasks none)) ∙ none in
    serials_left_over (next_serial history + length (proposal history tasks)) (passed spent SerialsSpent [] after).0

pub proposed-allowed : (history : History) (tasks : List ℕ) → (lowest (task_faults history tasks) ≡ None) ⊎ (lowest (ready_faults history tasks) ≡ None) → IsAllowed history tasks
proposed-allowed history tasks (inl none) = allowed history tasks none
proposed-allowed history tasks (inr none) = ready-allowed history tasks none

pub agree-committed : (unchanged : CoreParts) (history taken : History) (frames : List Frame) → IsProposal history frames → Agree unchanged history taken
    → Agree (record unchanged { awaited = all_sent unchanged.awaited frames; serial = unchanged.serial + length frames }) (with_sent history frames) taken
agree-committed unchanged history taken frames is agree =
    let left : unchanged.serial + length (proposal history is.tasks) ≤ SETUP_SERIAL =
    subst (λ (n : ℕ). n + length (proposal history is.tasks) ≤ SETUP_SERIAL) (sym agree.serial) (proposed-allowed history is.tasks is.accepted) in
    subst (λ (all : List Frame). Agree (record unchanged { awaited = all_sent unchanged.awaited all; serial = unchanged.serial + length all }) (with_sent history all) taken) (sym is.whole)
    (agree-sent unchanged history taken is.tasks is.accepted left agree)

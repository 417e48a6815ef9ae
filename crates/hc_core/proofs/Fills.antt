-- The frames that can be filled meet the precondition of `fill`.
use Rattle.std.proofs.Common.{◌≡◌, ℕ, ◌+◌, ◌<◌, ◌≤◌, inl, inr, not, List, [], ◌∷◌, length, map, refl, sym, ap, ◌∙◌, subst, arith, Option, None, rules}
use Rattle.std.specs.Prelude.{All, IfSome, OnOk, Result, sum_by}
use Rattle.std.specs.List.{flat_map, list_any, range_with_len}
use Rattle.std.proofs.lemmas.List.Elements.{All-cons, All-head, All-nil, All-tail, All-weaker}
use Rattle.std.proofs.lemmas.List.Sums.{sum_by-cons}
use Rattle.hc_records.specs.declared.limits.TheConstants.{TASKS}
use Rattle.hc_records.specs.Edits.{over_limit_task}
use Rattle.hc_records.specs.Line.{State, groups_of, line}
use Rattle.hc_records.specs.Lists.{lowest}
use Rattle.hc_records.specs.Project.{lowest_fault}
use Rattle.hc_frames.specs.declared.limits.TheConstants.{SETUP_SERIAL}
use Rattle.hc_events.specs.Accepted.{IsInLine}
use Rattle.hc_events.specs.Calls.{AreSentTogether, preview}
use Rattle.hc_events.specs.Entries.{History}
use Rattle.hc_events.specs.Owed.{owed_blocks}
use Rattle.hc_events.specs.Points.{line_of, next_serial, state_of}
use Rattle.hc_events.specs.Sendings.{Frame, Named, line_data_length, sendings_of, task_datagrams}
use Rattle.hc_events.specs.declared.faults.CoreFault.TheVariants.{NoSuchTask, SerialsSpent}
use Rattle.hc_events.specs.Steps.{has_serials, is_no_task, proposal, ready_faults, wait_fault}
use Rattle.hc_events.proofs.lemmas.Accepted.{passed, proposal-is_placed}
use Rattle.hc_events.proofs.lemmas.Frames.{frames-counted, proposals-numbered}
use Rattle.hc_events.proofs.lemmas.SentBits.{sent-data}
use Rattle.hc_images.specs.Packed.{Packed, sent_bytes}
use Rattle.hc_sendings.specs.Refusals.{sending_faults}
use Rattle.hc_sendings.specs.Texts.{carried_bytes}
use Rattle.hc_sendings.proofs.lemmas.Listed.{standing-task}
use Rattle.hc_core.proofs.Commits.{IsAllowed, numbers_of, proposed-allowed}
use Rattle.hc_core.proofs.Lowest.{lowest-after_it}
use Rattle.hc_core.proofs.SentAll.{first-number}
use Rattle.hc_core.proofs.Values.{data-sent}
use Rattle.hc_core.specs.Early.{early_ready_faults}
use Rattle.hc_core.specs.Filled.{CanBeFilled}
use Rattle.hc_core.specs.Laws.{PiecesAreTheEvent}
use Rattle.hc_core.specs.Proposed.{IsProposal}
use Rattle.hc_core.specs.Values.{HoldsValues}

pub known-tasks : (history : History) (names : List Named) → lowest_fault (groups_of (state_of history).groups) ≡ None → All (IsInLine (line_of history)) names → All (λ named. named.0 < TASKS) names
known-tasks history names project is_placed = search (rules, All-weaker, standing-task)

-- the bytes of what is carried

pub carried-counted : (history : History) (packed : Packed) (names : List Named) → lowest_fault (groups_of (state_of history).groups) ≡ None → over_limit_task (line_of history) ≡ None
    → All (IsInLine (line_of history)) names → HoldsValues history packed → carried_bytes (sent_bytes packed) names ≡ sum_by (λ named. 12 + line_data_length (line_of history) named) names
carried-counted history packed [] project uncrowded is_placed holds = refl
carried-counted history packed (named ∷ names) project uncrowded is_placed holds =
    let first = All-head (IsInLine (line_of history)) named names is_placed in
    let rest = carried-counted history packed names project uncrowded (All-tail (IsInLine (line_of history)) named names is_placed) holds in
    let task = standing-task (state_of history) named.0 named.1 project first in
    let size : length (sent_bytes packed named.0 named.1) ≡ line_data_length (line_of history) named = ap length (data-sent history packed named.0 named.1 project uncrowded task first holds) ∙ (sent-data history named.0 named.1).size in
    let carried = sum_by-cons (λ (one : Named). 12 + length (sent_bytes packed one.0 one.1)) named names in
    let counted = sum_by-cons (λ (one : Named). 12 + line_data_length (line_of history) one) named names in
    carried ∙ ap (λ n. 12 + n + carried_bytes (sent_bytes packed) names) size ∙ ap (λ n. 12 + line_data_length (line_of history) named + n) rest ∙ sym counted

-- frames of the present proposal

below_number : (frames : List Frame) (serial most : ℕ) → numbers_of frames ≡ range_with_len serial (length frames) → serial + length frames ≤ most → All (λ frame. frame.serial < most) frames
below_number [] serial most numbers left = All-nil (λ (frame : Frame). frame.serial < most)
below_number (frame ∷ frames) serial most numbers left =
    let first = first-number frame (numbers_of frames) serial (range_with_len (serial + 1) (length frames)) numbers in
    All-cons (λ (one : Frame). one.serial < most) frame frames (omega (arith, left)) (below_number frames (serial + 1) most first.1 (omega (arith, left)))

proposal-filled : (history : History) (tasks : List ℕ) → IsAllowed history tasks → All (CanBeFilled history) (proposal history tasks)
proposal-filled history tasks left =
    let frames = proposal history tasks in
    let is_placed = proposal-is_placed history tasks in
    let counted = frames-counted (line_of history) (next_serial history) (flat_map (task_datagrams (line_of history)) tasks) in
    let serials = below_number frames (next_serial history) SETUP_SERIAL (proposals-numbered history tasks) left in
    λ i d within. record { in_line = is_placed i d within; counted = counted i d within; serial = serials i d within }

pub few-frames : (serial count most : ℕ) → serial + count ≤ most → count ≤ most
few-frames serial count most left = omega (arith, left)

proposal-few : (history : History) (tasks : List ℕ) → IsAllowed history tasks → length (proposal history tasks) ≤ SETUP_SERIAL
proposal-few history tasks left = few-frames (next_serial history) (length (proposal history tasks)) SETUP_SERIAL left

pub proposed-as : (history : History) (state : State) (serial owed : ℕ) (tasks : List ℕ) → state ≡ state_of history → serial ≡ next_serial history → owed ≡ length (owed_blocks history) → AreSentTogether tasks
    → (frames : List Frame) → frames ≡ sendings_of (line state) serial tasks → lowest (sending_faults (line state) serial owed tasks) ≡ None → IsProposal history frames
proposed-as history state serial owed tasks same number count together frames is none = record {
  tasks = tasks;
  together = together;
  accepted = inl (sym (ap (λ (one : State). lowest (sending_faults (line one) serial owed tasks)) same
      ∙ ap (λ (n : ℕ). lowest (sending_faults (line_of history) n owed tasks)) number
      ∙ ap (λ (n : ℕ). lowest (sending_faults (line_of history) (next_serial history) n tasks)) count) ∙ none);
  whole = is ∙ ap (λ (one : State). sendings_of (line one) serial tasks) same ∙ ap (λ (n : ℕ). sendings_of (line_of history) n tasks) number;
}

-- ready tasks: what is judged before any frame is planned finds nothing, so that the serials alone are left to judge

pub ready-faults : (history : History) (state : State) (serial : ℕ) (tasks : List ℕ) → state ≡ state_of history → serial ≡ next_serial history → lowest (early_ready_faults history tasks) ≡ None
    → lowest (sending_faults (line state) serial 0 tasks) ≡ lowest (ready_faults history tasks)
ready-faults history state serial tasks same number none =
    let spent = not (has_serials history (length (proposal history tasks))) in
    let low = (passed (list_any is_no_task tasks) NoSuchTask (map (wait_fault history) tasks) none).0 in
    ap (λ (one : State). lowest (sending_faults (line one) serial 0 tasks)) same
    ∙ ap (λ (n : ℕ). lowest (sending_faults (line_of history) n 0 tasks)) number
    ∙ ap (λ b. lowest ((b, NoSuchTask) ∷ (spent, SerialsSpent) ∷ [])) low
    ∙ sym (lowest-after_it (early_ready_faults history tasks) ((spent, SerialsSpent) ∷ []) none)

pub ready-as : (history : History) (state : State) (serial : ℕ) (tasks : List ℕ) → state ≡ state_of history → serial ≡ next_serial history → AreSentTogether tasks → lowest (early_ready_faults history tasks) ≡ None
    → (frames : List Frame) → frames ≡ sendings_of (line state) serial tasks → lowest (sending_faults (line state) serial 0 tasks) ≡ None → IsProposal history frames
ready-as history state serial tasks same number together early frames is none = record {
  tasks = tasks;
  together = together;
  accepted = inr (sym (ready-faults history state serial tasks same number early) ∙ none);
  whole = is ∙ ap (λ (one : State). sendings_of (line one) serial tasks) same ∙ ap (λ (n : ℕ). sendings_of (line_of history) n tasks) number;
}

pub on-proposed : {X E : Type 0} (P Q R : Type 0) (result : Result X E) → (P → Q → R) → OnOk result P → OnOk result Q → OnOk result R
on-proposed P Q R result next is on = search rules

-- a preview

pub preview-filled : (history : History) (task d : ℕ) (found : Option Frame) → found ≡ preview history task d → IfSome found (CanBeFilled history)
preview-filled history task d found e = search rules

-- proposed, filled and committed they are the event

pub pieces : PiecesAreTheEvent
pieces history frames is = record {
  filled = subst (All (CanBeFilled history)) (sym is.whole) (proposal-filled history is.tasks (proposed-allowed history is.tasks is.accepted));
  few = subst (λ (all : List Frame). length all ≤ SETUP_SERIAL) (sym is.whole) (proposal-few history is.tasks (proposed-allowed history is.tasks is.accepted));
  answer = λ none. search rules;
  entries = λ none. search rules;
  ready_answer = λ none. search rules;
  ready_entries = λ none. search rules;
}

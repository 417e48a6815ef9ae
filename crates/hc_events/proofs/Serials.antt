-- Serials ascend, and stay below the setup serial.
use Rattle.std.proofs.Common.{◌≡◌, ℕ, suc, ◌+◌, ◌<◌, ◌≤◌, ◌==◌, nat_lt, Bool, true, false, cond, not, List, [], ◌∷◌, length, refl, sym, subst, arith, Option, Some, None}
use Rattle.std.specs.Prelude.{is_some, option_map, Result, Ok, Err}
use Rattle.std.specs.List.{list_any}
use Rattle.std.proofs.lemmas.Bool.{not-false}
use Rattle.std.proofs.lemmas.Bool.Decides.{nat_tests}
use Rattle.hc_records.specs.declared.records.Group.{Group}
use Rattle.hc_records.specs.Lists.{lowest}
use Rattle.hc_registers.specs.Blocks.{LineBlock}
use Rattle.hc_frames.specs.declared.limits.TheConstants.{SETUP_SERIAL}
use Rattle.hc_frames.specs.declared.reading.faults.FrameFault.{FrameFault}
use Rattle.hc_events.specs.declared.faults.CoreFault.{CoreFault}
use Rattle.hc_events.specs.declared.faults.CoreFault.TheVariants.{NoSuchTask, NothingOwed, SerialsSpent, UnderWay, Unprogrammed}
use Rattle.hc_events.specs.Arrivals.{Arrival, arrival_in}
use Rattle.hc_events.specs.Entries.{HistoryEntry, History, Opened, Edited, Posted, Sent, Wrote, Came, Forgot, Cleared, Unplugged}
use Rattle.hc_events.specs.Points.{line_of, next_serial}
use Rattle.hc_events.specs.Sendings.{Frame}
use Rattle.hc_events.specs.Heads.{data_heads, write_heads}
use Rattle.hc_events.specs.Answering.{Sending, sending_of_heads, followed_by, sending_of}
use Rattle.hc_events.specs.Owed.{is_in_line, owed_blocks}
use Rattle.hc_events.specs.UnderWay.{further_blocks}
use Rattle.hc_events.specs.Ready.{with_cleared}
use Rattle.hc_events.specs.Steps.{Step, Edits, Posts, PostsSteady, SendsTasks, SendsWrite, Arrives, Reads, Forgets, SendsReady, Clears, Unplugs, clear_faults, forget_faults, ready_faults, unplug_faults, unless_fault, edit_refused, has_serials, is_no_task, post_faults, post_steady_faults, proposal, task_faults, with_sent, write_faults, with_write, with_arrival, entries_after, entries_after_all, SendsFurther, SendsWrites, further_faults, with_writes}
use Rattle.hc_events.specs.Accepted.{just_opened, history_of}
use Rattle.hc_events.proofs.lemmas.Accepted.{passed, ready-passed}
use Rattle.hc_events.proofs.lemmas.Once.{serial-below}
use Rattle.hc_events.specs.WriteFrames.{frame_blocks}

-- of two sendings the newer has the greater serial

abbrev pub Ascends : ℕ → ℕ → Option Sending → Option Sending → Type 0
Ascends low high first second = (older newer : Sending) → first ≡ Some older → second ≡ Some newer → low < high → length newer.since < length older.since

both_more : (a b : ℕ) → a < b → suc a < suc b
both_more a b less = omega arith

ascends_on : (entry : HistoryEntry) (low high : ℕ) (first second : Option Sending) → Ascends low high first second → Ascends low high (option_map (followed_by entry) first) (option_map (followed_by entry) second)
ascends_on entry low high None second ascends = λ older newer e f less. cc
ascends_on entry low high (Some a) None ascends = λ older newer e f less. cc
ascends_on entry low high (Some a) (Some b) ascends = λ older newer e f less.
    let same : followed_by entry a ≡ older = cc in
    let same' : followed_by entry b ≡ newer = cc in
    let before : length b.since < length a.since = ascends a b refl refl less in
    subst (λ x. length newer.since < length x.since) same (subst (λ y. length y.since < length (followed_by entry a).since) same' (both_more (length b.since) (length a.since) before))

some_more : (n : ℕ) → 0 < suc n
some_more n = omega arith

newest : (entry : HistoryEntry) (now : Sending) (low high : ℕ) (first : Option Sending) → now.since ≡ [] → Ascends low high (option_map (followed_by entry) first) (Some now)
newest entry now low high None none = λ older newer e f less. cc
newest entry now low high (Some a) none = λ older newer e f less.
    let same : followed_by entry a ≡ older = cc in
    let same' : now ≡ newer = cc in
    subst (λ x. length newer.since < length x.since) same
    (subst (λ y. length y.since < length (followed_by entry a).since) same' (subst (λ entries. length entries < length (followed_by entry a).since) (sym none) (some_more (length a.since))))

is_some_of : (found : Option Sending) (sending : Sending) → found ≡ Some sending → is_some found ≡ true
is_some_of None sending e = cc
is_some_of (Some other) sending e = refl

mapped : (entry : HistoryEntry) (found : Option Sending) (sending : Sending) → option_map (followed_by entry) found ≡ Some sending → is_some found ≡ true
mapped entry None sending e = cc
mapped entry (Some other) sending e = refl

-- of a sending just made and others
ascends_sent : (history : History) (entry : HistoryEntry) (now : Sending) (low high : ℕ) (is_low is_high : Bool) → (next_serial history == low) ≡ is_low → (next_serial history == high) ≡ is_high → now.since ≡ []
    → Ascends low high (sending_of history low) (sending_of history high)
    → Ascends low high (cond is_low (Some now) (option_map (followed_by entry) (sending_of history low))) (cond is_high (Some now) (option_map (followed_by entry) (sending_of history high)))
ascends_sent history entry now low high true true l h none ascends = λ older newer e f less.
    let never : low < low = grind (arith, nat_tests) in absurd (omega arith)
ascends_sent history entry now low high true false l h none ascends = λ older newer e f less.
    let below : high < next_serial history = serial-below history high (mapped entry (sending_of history high) newer f) in
    let same : next_serial history ≡ low = grind (arith, nat_tests) in
    absurd (omega arith)
ascends_sent history entry now low high false true l h none ascends = newest entry now low high (sending_of history low) none
ascends_sent history entry now low high false false l h none ascends = ascends_on entry low high (sending_of history low) (sending_of history high) ascends

pub serials-ascend : (history : History) (low high : ℕ) → Ascends low high (sending_of history low) (sending_of history high)
serials-ascend [] low high = λ older newer e f less. cc
serials-ascend (Opened groups ∷ history) low high = λ older newer e f less. cc
serials-ascend (Edited edit ∷ history) low high = ascends_on (Edited edit) low high (sending_of history low) (sending_of history high) (serials-ascend history low high)
serials-ascend (Posted task bytes ∷ history) low high = ascends_on (Posted task bytes) low high (sending_of history low) (sending_of history high) (serials-ascend history low high)
serials-ascend (Forgot station ∷ history) low high = ascends_on (Forgot station) low high (sending_of history low) (sending_of history high) (serials-ascend history low high)
serials-ascend (Cleared station ∷ history) low high = ascends_on (Cleared station) low high (sending_of history low) (sending_of history high) (serials-ascend history low high)
serials-ascend (Unplugged station ∷ history) low high = ascends_on (Unplugged station) low high (sending_of history low) (sending_of history high) (serials-ascend history low high)
serials-ascend (Came arrival ∷ history) low high = ascends_on (Came arrival) low high (sending_of history low) (sending_of history high) (serials-ascend history low high)
serials-ascend (Sent frame ∷ history) low high =
    ascends_sent history (Sent frame) (sending_of_heads (data_heads (line_of history) frame)) low high (next_serial history == low) (next_serial history == high) refl refl refl (serials-ascend history low high)
serials-ascend (Wrote blocks ∷ history) low high =
    ascends_sent history (Wrote blocks) (sending_of_heads (write_heads blocks)) low high (next_serial history == low) (next_serial history == high) refl refl refl (serials-ascend history low high)

-- no event leads past the setup serial

abbrev pub Left : History → Type 0
Left history = next_serial history ≤ SETUP_SERIAL

left_if : (refused : Option CoreFault) (history next : History) → (refused ≡ None → Left next) → Left history → Left (unless_fault refused history next)
left_if None history next then' before = then' refl
left_if (Some fault) history next then' before = before

enough : (serial sendings : ℕ) → not (nat_lt SETUP_SERIAL (serial + sendings)) ≡ true → serial + sendings ≤ SETUP_SERIAL
enough serial sendings e = grind (arith, nat_tests)

moved_by : (a b n : ℕ) → (a + 1) + n ≡ b → a + suc n ≡ b
moved_by a b n e = omega arith

none_more : (n : ℕ) → n + 0 ≡ n
none_more n = omega arith

sent_numbers : (history : History) (frames : List Frame) → next_serial history + length frames ≡ next_serial (with_sent history frames)
sent_numbers history [] = none_more (next_serial history)
sent_numbers history (frame ∷ frames) = moved_by (next_serial history) (next_serial (with_sent history (frame ∷ frames))) (length frames) (sent_numbers (Sent frame.datagrams ∷ history) frames)

left_sent : (history : History) (tasks : List ℕ) → lowest (task_faults history tasks) ≡ None → Left (with_sent history (proposal history tasks))
left_sent history tasks e =
    let serials = (not (has_serials history (length (proposal history tasks))), SerialsSpent) ∷ [] in
    let owed : Bool × CoreFault = (nat_lt 0 (length (owed_blocks history)), Unprogrammed (length (owed_blocks history))) in
    let first = passed (list_any is_no_task tasks) NoSuchTask (owed ∷ serials) e in
    let second = passed owed.0 owed.1 serials first.1 in
    let third = passed (not (has_serials history (length (proposal history tasks)))) SerialsSpent [] second.1 in
    subst (λ n. n ≤ SETUP_SERIAL) (sent_numbers history (proposal history tasks)) (enough (next_serial history) (length (proposal history tasks)) (not-false _ third.0))

left_ready : (history : History) (tasks : List ℕ) → lowest (ready_faults history tasks) ≡ None → Left (with_sent history (proposal history tasks))
left_ready history tasks e =
    let last = passed (not (has_serials history (length (proposal history tasks)))) SerialsSpent [] (ready-passed history tasks e).1 in
    subst (λ n. n ≤ SETUP_SERIAL) (sent_numbers history (proposal history tasks)) (enough (next_serial history) (length (proposal history tasks)) (not-false _ last.0))

left_either : (b : Bool) (x y : History) → Left x → Left y → Left (cond b x y)
left_either true x y a b = a
left_either false x y a b = b

left_write : (history : History) (blocks : List LineBlock) → lowest (write_faults history blocks) ≡ None → Left history → Left (with_write history blocks)
left_write history [] e before = before
left_write history (block ∷ blocks) e before =
    let first = passed (length (block ∷ blocks) == 0) NothingOwed ((not (has_serials history 1), SerialsSpent) ∷ []) e in
    let second = passed (not (has_serials history 1)) SerialsSpent [] first.1 in
    enough (next_serial history) 1 (not-false _ second.0)

left_writes : (history : History) (blocks more : List LineBlock) → lowest (write_faults history blocks) ≡ None → Left history → Left (with_writes history more)
left_writes history blocks [] e before = before
left_writes history blocks (block ∷ more) e before =
    let first = passed (length blocks == 0) NothingOwed ((not (has_serials history 1), SerialsSpent) ∷ []) e in
    let second = passed (not (has_serials history 1)) SerialsSpent [] first.1 in
    enough (next_serial history) 1 (not-false _ second.0)

left_further : (history : History) (more : List LineBlock) → lowest (further_faults history) ≡ None → Left history → Left (with_writes history more)
left_further history [] e before = before
left_further history (block ∷ more) e before =
    let serials : List (Bool × CoreFault) = (not (has_serials history 1), SerialsSpent) ∷ [] in
    let first = passed (length (owed_blocks history) == 0) NothingOwed ((length (further_blocks history) == 0, UnderWay) ∷ serials) e in
    let second = passed (length (further_blocks history) == 0) UnderWay serials first.1 in
    let third = passed (not (has_serials history 1)) SerialsSpent [] second.1 in
    enough (next_serial history) 1 (not-false _ third.0)

left_arrival : (history : History) (read : Result Arrival FrameFault) → Left history → Left (with_arrival history read)
left_arrival history (Err fault) before = before
left_arrival history (Ok arrival) before = before

left_after : (history : History) (step : Step) → Left history → Left (entries_after history step)
left_after history (Edits edit) before = left_if (edit_refused history edit) history (Edited edit ∷ history) (λ e. before) before
left_after history (Posts task epoch bytes) before = left_if (lowest (post_faults history task epoch bytes)) history (Posted task bytes ∷ history) (λ e. before) before
left_after history (PostsSteady task epoch bytes) before =
    left_if (lowest (post_steady_faults history task epoch bytes)) history (Posted task bytes ∷ history) (λ e. before) before
left_after history (SendsTasks tasks) before = left_if (lowest (task_faults history tasks)) history (with_sent history (proposal history tasks)) (λ e. left_sent history tasks e) before
left_after history SendsWrite before =
    left_if (lowest (write_faults history (owed_blocks history))) history (with_write history (owed_blocks history)) (λ e. left_write history (owed_blocks history) e before) before
left_after history SendsWrites before =
    left_if (lowest (write_faults history (owed_blocks history))) history (with_writes history (frame_blocks (owed_blocks history)))
    (λ e. left_writes history (owed_blocks history) (frame_blocks (owed_blocks history)) e before) before
left_after history (Arrives bytes) before = left_arrival history (arrival_in bytes) before
left_after history (Reads task) before = before
left_after history (Forgets station) before = left_if (lowest (forget_faults history station)) history (Forgot station ∷ history) (λ e. before) before
left_after history (SendsReady tasks) before = left_if (lowest (ready_faults history tasks)) history (with_sent history (proposal history tasks)) (λ e. left_ready history tasks e) before
left_after history (Clears station) before =
    left_if (lowest (clear_faults history station)) history (with_cleared history station) (λ e. left_either (is_in_line history station) (Cleared station ∷ Forgot station ∷ history) (Cleared station ∷ history) before before) before
left_after history (Unplugs station) before = left_if (lowest (unplug_faults history station)) history (Unplugged station ∷ history) (λ e. before) before
left_after history SendsFurther before =
    left_if (lowest (further_faults history)) history (with_writes history (frame_blocks (further_blocks history)))
    (λ e. left_further history (frame_blocks (further_blocks history)) e before) before

left_after_all : (history : History) (steps : List Step) → Left history → Left (entries_after_all history steps)
left_after_all history [] before = before
left_after_all history (step ∷ steps) before = left_after_all (entries_after history step) steps (left_after history step before)

zero_left : 0 ≤ SETUP_SERIAL
zero_left = omega arith

pub serials-left : (groups : List Group) (steps : List Step) → Left (history_of groups steps)
serials-left groups steps = left_after_all (just_opened groups) steps zero_left

pub serials-stay_below : (history : History) (serial : ℕ) (sending : Sending) → Left history → sending_of history serial ≡ Some sending → serial < SETUP_SERIAL
serials-stay_below history serial sending left e =
    let below : serial < next_serial history = serial-below history serial (is_some_of (sending_of history serial) sending e) in
    omega arith

-- A property that each accepted entry keeps is kept by each event.
use Rattle.std.proofs.Common.{◌≡◌, ℕ, zero, suc, ◌+◌, ◌<◌, ◌≤◌, ◌==◌, nat_lt, Bool, true, false, cond, not, List, [], ◌∷◌, ◌++◌, length, map, take, refl, sym, ap, ◌∙◌, subst, arith, Option, Some, None, ltb-true, inl, inr}
use Rattle.std.specs.Prelude.{◌⊎◌, All, Contains, is_none, is_some, option_map, Result, Ok, Err}
use Rattle.std.specs.List.{flat_map, list_any, range_with_len}
use Rattle.std.proofs.lemmas.Bool.Decides.{nat_tests}
use Rattle.std.proofs.lemmas.List.Elements.{All-nil, All-cons, All-head, All-tail, All-append, All-contains_itself}
use Rattle.std.proofs.lemmas.Bool.{not-false, eqb-true}
use Rattle.hc_records.specs.declared.limits.TheConstants.{TASKS}
use Rattle.hc_records.specs.declared.faults.EditFault.{EditFault}
use Rattle.hc_records.specs.declared.records.Group.{Group}
use Rattle.hc_records.specs.Lists.{lowest}
use Rattle.hc_records.specs.Line.{Member}
use Rattle.hc_records.specs.Image.{datagram_count, output_length, task_places}
use Rattle.hc_records.specs.Edits.{edit_faults, is_declared_station, slave_at}
use Rattle.hc_registers.specs.Blocks.{LineBlock}
use Rattle.hc_frames.specs.declared.reading.faults.FrameFault.{FrameFault}
use Rattle.hc_events.specs.declared.faults.CoreFault.{CoreFault}
use Rattle.hc_events.specs.declared.faults.CoreFault.TheVariants.{Absent, AlreadyPresent, NoSuchTask, PostLength, SerialsSpent, StalePost, UnknownStation, Unprogrammed}
use Rattle.hc_events.specs.Faults.{edit_refusal}
use Rattle.hc_events.specs.Arrivals.{Arrival, arrival_in}
use Rattle.hc_events.specs.Entries.{HistoryEntry, History, Opened, Edited, Posted, Sent, Wrote, Came, Forgot, Cleared, Unplugged}
use Rattle.hc_events.specs.Points.{epoch_of, line_of, next_serial, state_of}
use Rattle.hc_events.specs.Sendings.{Frame, Named, frame_of_one, framed, framed_after, has_room, frame_joined, line_data_length, task_datagrams}
use Rattle.hc_events.specs.Owed.{is_in_line, last_write, owed_blocks}
use Rattle.hc_events.specs.UnderWay.{further_blocks}
use Rattle.hc_events.specs.Ready.{is_ready, with_cleared}
use Rattle.hc_events.specs.WriteFrames.{frame_blocks}
use Rattle.hc_events.specs.Steps.{Step, Edits, Posts, PostsSteady, SendsTasks, SendsWrite, SendsWrites, Arrives, Reads, Forgets, SendsReady, Clears, Unplugs, SendsFurther, unless_fault, edit_refused, clear_faults, forget_faults, further_faults, ready_faults, unplug_faults, wait_fault, is_no_task, is_stale_epoch, post_faults, post_steady_faults, proposal, has_serials, task_faults, with_sent, write_faults, with_write, with_writes, with_arrival, entries_after, entries_after_all}
use Rattle.hc_events.specs.Accepted.{AreAccepted, IsAccepted, IsFirstWrite, IsPost, IsInLine, IsUnplugging, frames_of, just_opened}
use Rattle.hc_events.proofs.lemmas.Awaited.{same_is}

-- the datagrams of a proposal are the line's

is_placed_in : (line : List Member) (task first count : ℕ) → first + count ≤ datagram_count (task_places task line) → All (IsInLine line) (map (λ d. (task, d)) (range_with_len first count))
is_placed_in line task first zero within = All-nil (IsInLine line)
is_placed_in line task first (suc count) within =
    All-cons (IsInLine line) (task, first) (map (λ d. (task, d)) (range_with_len (first + 1) count)) (omega arith) (is_placed_in line task (first + 1) count (omega arith))

zero_below : (count : ℕ) → 0 + count ≤ count
zero_below count = omega arith

all_are_placed : (line : List Member) (tasks : List ℕ) → All (IsInLine line) (flat_map (task_datagrams line) tasks)
all_are_placed line [] = All-nil (IsInLine line)
all_are_placed line (task ∷ tasks) =
    All-append (IsInLine line) (task_datagrams line task) (flat_map (task_datagrams line) tasks)
    (is_placed_in line task 0 (datagram_count (task_places task line)) (zero_below (datagram_count (task_places task line)))) (all_are_placed line tasks)

-- what holds of each datagram of tasks holds of each datagram of their frames

abbrev Each : (Named → Type 0) → Frame → Type 0
Each P sending = All P sending.datagrams

frames_either : (P : Named → Type 0) (room : Bool) (sending : Frame) (rest other : List Frame) → All (Each P) rest → Each P sending → All (Each P) other → All (Each P) (cond room rest (sending ∷ other))
frames_either P true sending rest other a b c = a
frames_either P false sending rest other a b c = All-cons (Each P) sending other b c

frames_after : (P : Named → Type 0) (line : List Member) (sending : Frame) (datagrams : List Named) → Each P sending → All P datagrams → All (Each P) (framed_after line sending datagrams)
frames_after P line sending [] each all = All-cons (Each P) sending [] each (All-nil (Each P))
frames_after P line sending (datagram ∷ datagrams) each all =
    let first = All-head P datagram datagrams all in
    let others = All-tail P datagram datagrams all in
    let single : All P (datagram ∷ []) = All-cons P datagram [] first (All-nil P) in
    frames_either P (has_room sending.bytes (line_data_length line datagram)) sending
    (framed_after line (frame_joined sending datagram (line_data_length line datagram)) datagrams)
    (framed_after line (frame_of_one (sending.serial + 1) datagram (line_data_length line datagram)) datagrams)
    (frames_after P line (frame_joined sending datagram (line_data_length line datagram)) datagrams (All-append P sending.datagrams (datagram ∷ []) each single) others)
    each
    (frames_after P line (frame_of_one (sending.serial + 1) datagram (line_data_length line datagram)) datagrams single others)

frames_each : (P : Named → Type 0) (line : List Member) (serial : ℕ) (datagrams : List Named) → All P datagrams → All (Each P) (framed line serial datagrams)
frames_each P line serial [] all = All-nil (Each P)
frames_each P line serial (datagram ∷ datagrams) all =
    frames_after P line (frame_of_one serial datagram (line_data_length line datagram)) datagrams
    (All-cons P datagram [] (All-head P datagram datagrams all) (All-nil P))
    (All-tail P datagram datagrams all)

pub proposal-each : (P : Named → Type 0) (history : History) (tasks : List ℕ) → All P (flat_map (task_datagrams (line_of history)) tasks) → All (λ sending. All P sending.datagrams) (proposal history tasks)
proposal-each P history tasks all = frames_each P (line_of history) (next_serial history) (flat_map (task_datagrams (line_of history)) tasks) all

abbrev ArePlaced : List Member → Frame → Type 0
ArePlaced line sending = All (IsInLine line) sending.datagrams

pub proposal-is_placed : (history : History) (tasks : List ℕ) → All (λ sending. All (IsInLine (line_of history)) sending.datagrams) (proposal history tasks)
proposal-is_placed history tasks = proposal-each (IsInLine (line_of history)) history tasks (all_are_placed (line_of history) tasks)

-- the datagrams of ready tasks are of a ready task

abbrev pub IsOfReadyTask : History → Named → Type 0
IsOfReadyTask history named = is_ready history named.0 ≡ true

all_of_task : (P : Named → Type 0) (task : ℕ) (numbers : List ℕ) → ((d : ℕ) → P (task, d)) → All P (map (λ d. (task, d)) numbers)
all_of_task P task [] each = All-nil P
all_of_task P task (d ∷ numbers) each = All-cons P (task, d) (map (λ d. (task, d)) numbers) (each d) (all_of_task P task numbers each)

all_ready : (history : History) (tasks : List ℕ) → All (λ task. is_ready history task ≡ true) tasks → All (IsOfReadyTask history) (flat_map (task_datagrams (line_of history)) tasks)
all_ready history [] all = All-nil (IsOfReadyTask history)
all_ready history (task ∷ tasks) all =
    let ready = All-head (λ task. is_ready history task ≡ true) task tasks all in
    All-append (IsOfReadyTask history) (task_datagrams (line_of history) task) (flat_map (task_datagrams (line_of history)) tasks)
    (all_of_task (IsOfReadyTask history) task (range_with_len 0 (datagram_count (task_places task (line_of history)))) (λ d. ready))
    (all_ready history tasks (All-tail (λ task. is_ready history task ≡ true) task tasks all))

pub proposal-ready : (history : History) (tasks : List ℕ) → All (λ task. is_ready history task ≡ true) tasks → All (λ sending. All (IsOfReadyTask history) sending.datagrams) (proposal history tasks)
proposal-ready history tasks all = proposal-each (IsOfReadyTask history) history tasks (all_ready history tasks all)

-- what isn't refused meets no condition of a fault

pub passed : {F : Type 0} (judged : Bool) (fault : F) (rest : List (Bool × F)) → lowest ((judged, fault) ∷ rest) ≡ None → (judged ≡ false) × (lowest rest ≡ None)
passed true fault rest e = cc
passed false fault rest e = (refl, e)

pub none_owed : (blocks : List LineBlock) → nat_lt 0 (length blocks) ≡ false → blocks ≡ []
none_owed [] e = refl
none_owed (block ∷ blocks) e = let some : nat_lt 0 (suc (length blocks)) ≡ true = grind (arith, nat_tests) in let never : true ≡ false = sym some ∙ e in cc

pub no_refusal : (fault : Option EditFault) → option_map edit_refusal fault ≡ None → fault ≡ None
no_refusal None e = refl
no_refusal (Some fault) e = cc

accepted_post : (history : History) (task epoch : ℕ) (bytes : List ℕ) → lowest (post_faults history task epoch bytes) ≡ None → IsPost (line_of history) task bytes
accepted_post history task epoch bytes e =
    let lengths = (not (length bytes == output_length (task_places task (line_of history))), PostLength) ∷ [] in
    let first = passed (is_no_task task) NoSuchTask ((not (epoch == epoch_of history), StalePost) ∷ lengths) e in
    let second = passed (not (epoch == epoch_of history)) StalePost lengths first.1 in
    let third = passed (not (length bytes == output_length (task_places task (line_of history)))) PostLength [] second.1 in
    record { in_range = ltb-true task TASKS (not-false _ first.0); fits = eqb-true _ _ (not-false _ third.0) }

accepted_steady_post : (history : History) (task epoch : ℕ) (bytes : List ℕ) → lowest (post_steady_faults history task epoch bytes) ≡ None → IsPost (line_of history) task bytes
accepted_steady_post history task epoch bytes e =
    let lengths = (not (length bytes == output_length (task_places task (line_of history))), PostLength) ∷ [] in
    let first = passed (is_no_task task) NoSuchTask ((is_stale_epoch history task epoch, StalePost) ∷ lengths) e in
    let second = passed (is_stale_epoch history task epoch) StalePost lengths first.1 in
    let third = passed (not (length bytes == output_length (task_places task (line_of history)))) PostLength [] second.1 in
    record { in_range = ltb-true task TASKS (not-false _ first.0); fits = eqb-true _ _ (not-false _ third.0) }

some_of : (found : Option Member) → is_none found ≡ false → is_some found ≡ true
some_of None e = cc
some_of (Some member) e = refl

accepted_forget : (history : History) (station : ℕ) → lowest (forget_faults history station) ≡ None → is_in_line history station ≡ true
accepted_forget history station e =
    let absent = (is_none (slave_at (state_of history) station), Absent) ∷ [] in
    let first = passed (not (is_declared_station (state_of history) station)) UnknownStation absent e in
    let second = passed (is_none (slave_at (state_of history) station)) Absent [] first.1 in
    some_of (slave_at (state_of history) station) second.0

pub nothing_owed : (history : History) (tasks : List ℕ) → lowest (task_faults history tasks) ≡ None → owed_blocks history ≡ []
nothing_owed history tasks e =
    let serials = (not (has_serials history (length (proposal history tasks))), SerialsSpent) ∷ [] in
    let owed : Bool × CoreFault = (nat_lt 0 (length (owed_blocks history)), Unprogrammed (length (owed_blocks history))) in
    let first = passed (list_any is_no_task tasks) NoSuchTask (owed ∷ serials) e in
    none_owed (owed_blocks history) (passed owed.0 owed.1 serials first.1).0

pub none_waits : (history : History) (tasks : List ℕ) (rest : List (Bool × CoreFault)) → lowest (map (wait_fault history) tasks ++ rest) ≡ None → All (λ task. is_ready history task ≡ true) tasks × (lowest rest ≡ None)
none_waits history [] rest e = (All-nil (λ task. is_ready history task ≡ true), e)
none_waits history (task ∷ tasks) rest e =
    let first = passed (wait_fault history task).0 (wait_fault history task).1 (map (wait_fault history) tasks ++ rest) e in
    let others = none_waits history tasks rest first.1 in
    (All-cons (λ task. is_ready history task ≡ true) task tasks (not-false (is_ready history task) first.0) others.0, others.1)

pub ready-passed : (history : History) (tasks : List ℕ) → lowest (ready_faults history tasks) ≡ None → All (λ task. is_ready history task ≡ true) tasks × (lowest ((not (has_serials history (length (proposal history tasks))), SerialsSpent) ∷ []) ≡ None)
ready-passed history tasks e =
    let serials : List (Bool × CoreFault) = (not (has_serials history (length (proposal history tasks))), SerialsSpent) ∷ [] in
    let first = passed (list_any is_no_task tasks) NoSuchTask (map (wait_fault history) tasks ++ serials) e in
    none_waits history tasks serials first.1

accepted_clear : (history : History) (station : ℕ) → lowest (clear_faults history station) ≡ None → is_declared_station (state_of history) station ≡ true
accepted_clear history station e = not-false (is_declared_station (state_of history) station) (passed (not (is_declared_station (state_of history) station)) UnknownStation [] e).0

accepted_unplug : (history : History) (station : ℕ) → lowest (unplug_faults history station) ≡ None → IsUnplugging history station
accepted_unplug history station e =
    let present : List (Bool × CoreFault) = (is_in_line history station, AlreadyPresent) ∷ [] in
    let first = passed (not (is_declared_station (state_of history) station)) UnknownStation present e in
    let second = passed (is_in_line history station) AlreadyPresent [] first.1 in
    record { declared = not-false (is_declared_station (state_of history) station) first.0; outside = second.0 }

-- a property that each accepted entry keeps

abbrev pub StaysTrue : (History → Type 0) → Type 0
StaysTrue P = (history : History) (entry : HistoryEntry) → IsAccepted history entry → P history → P (entry ∷ history)

keeps_if : (P : History → Type 0) (refused : Option CoreFault) (history next : History) → (refused ≡ None → P next) → P history → P (unless_fault refused history next)
keeps_if P None history next then' before = then' refl
keeps_if P (Some fault) history next then' before = before

abbrev AreOf : List Member → ℕ → List ℕ → List Frame → Type 0
AreOf line serial tasks sendings = All (Contains (frames_of line serial tasks)) (map (λ sending. sending.datagrams) sendings)

-- nothing is owed, or the datagrams are of ready tasks
abbrev CanGo : History → Frame → Type 0
CanGo history sending = (owed_blocks history ≡ []) ⊎ All (IsOfReadyTask history) sending.datagrams

all_can_go : (history : History) (sendings : List Frame) → owed_blocks history ≡ [] → All (CanGo history) sendings
all_can_go history [] none = All-nil (CanGo history)
all_can_go history (sending ∷ sendings) none = All-cons (CanGo history) sending sendings (inl none) (all_can_go history sendings none)

ready_can_go : (history : History) (sendings : List Frame) → All (λ sending. All (IsOfReadyTask history) sending.datagrams) sendings → All (CanGo history) sendings
ready_can_go history [] all = All-nil (CanGo history)
ready_can_go history (sending ∷ sendings) all =
    All-cons (CanGo history) sending sendings (inr (All-head (λ sending. All (IsOfReadyTask history) sending.datagrams) sending sendings all))
    (ready_can_go history sendings (All-tail (λ sending. All (IsOfReadyTask history) sending.datagrams) sending sendings all))

keeps_sent : (P : History → Type 0) → StaysTrue P → (line : List Member) (serial : ℕ) (tasks : List ℕ) (sendings : List Frame) (history : History) → line_of history ≡ line → All (CanGo history) sendings → All (ArePlaced line) sendings → AreOf line serial tasks sendings → P history → P (with_sent history sendings)
keeps_sent P stays line serial tasks [] history same can are_placed are before = before
keeps_sent P stays line serial tasks (sending ∷ sendings) history same can are_placed are before =
    let frames = map (λ other. other.datagrams) sendings in
    keeps_sent P stays line serial tasks sendings (Sent sending.datagrams ∷ history) same (All-tail (CanGo history) sending sendings can) (All-tail (ArePlaced line) sending sendings are_placed)
    (All-tail (Contains (frames_of line serial tasks)) sending.datagrams frames are)
    (stays history (Sent sending.datagrams)
    (record {
      programmed = All-head (CanGo history) sending sendings can;
      in_line = subst (λ members. All (IsInLine members) sending.datagrams) (sym same) (All-head (ArePlaced line) sending sendings are_placed);
      tasks = tasks;
      serial = serial;
      one = subst (λ members. Contains (frames_of members serial tasks) sending.datagrams) (sym same) (All-head (Contains (frames_of line serial tasks)) sending.datagrams frames are);
    })
    before)

one_some : (block : LineBlock) (blocks : List LineBlock) → 0 < length (block ∷ blocks)
one_some block blocks = omega arith

keeps_write : (P : History → Type 0) → StaysTrue P → (history : History) (blocks : List LineBlock) → owed_blocks history ≡ blocks → P history → P (with_write history blocks)
keeps_write P stays history [] same before = before
keeps_write P stays history (block ∷ blocks) same before = stays history (Wrote (block ∷ [])) (record { some = one_some block []; first = inl (inl (sym (ap (take 1) same))) }) before

abbrev IsOneOf : History → List LineBlock → Type 0
IsOneOf history blocks = IsFirstWrite (owed_blocks history) blocks ⊎ (blocks ≡ frame_blocks (further_blocks history))

keeps_writes : (P : History → Type 0) → StaysTrue P → (history : History) (blocks : List LineBlock) → IsOneOf history blocks → P history → P (with_writes history blocks)
keeps_writes P stays history [] same before = before
keeps_writes P stays history (block ∷ blocks) same before = stays history (Wrote (block ∷ blocks)) (record { some = one_some block blocks; first = same }) before

keeps_either : (P : History → Type 0) (b : Bool) (x y : History) → (b ≡ true → P x) → (b ≡ false → P y) → P (cond b x y)
keeps_either P true x y then' else' = then' refl
keeps_either P false x y then' else' = else' refl

never_both : (b : Bool) → b ≡ true → b ≡ false → ⊥
never_both true t e = cc
never_both false t e = cc

none_counts : (history : History) (station number : ℕ) → last_write (Forgot station ∷ history) station number ≡ None
none_counts history station number = ap (λ b. cond b None (last_write history station number)) (same_is station)

pub keeps-cleared : (P : History → Type 0) → StaysTrue P → (history : History) (station : ℕ) → is_declared_station (state_of history) station ≡ true → P history → P (with_cleared history station)
keeps-cleared P stays history station declared before =
    keeps_either P (is_in_line history station) (Cleared station ∷ Forgot station ∷ history) (Cleared station ∷ history)
    (λ t. stays (Forgot station ∷ history) (Cleared station) (record { declared = declared; forgotten = λ here number. none_counts history station number }) (stays history (Forgot station) t before))
    (λ t. stays history (Cleared station) (record { declared = declared; forgotten = λ here. absurd (never_both (is_in_line history station) here t) }) before)

keeps_arrival : (P : History → Type 0) → StaysTrue P → (history : History) (read : Result Arrival FrameFault) → P history → P (with_arrival history read)
keeps_arrival P stays history (Err fault) before = before
keeps_arrival P stays history (Ok arrival) before = stays history (Came arrival) tt before

pub unchanged-after : (P : History → Type 0) → StaysTrue P → (history : History) (step : Step) → P history → P (entries_after history step)
unchanged-after P stays history (Edits edit) before =
    keeps_if P (edit_refused history edit) history (Edited edit ∷ history) (λ e. stays history (Edited edit) (no_refusal (lowest (edit_faults (state_of history) edit)) e) before) before
unchanged-after P stays history (Posts task epoch bytes) before =
    keeps_if P (lowest (post_faults history task epoch bytes)) history (Posted task bytes ∷ history) (λ e. stays history (Posted task bytes) (accepted_post history task epoch bytes e) before) before
unchanged-after P stays history (PostsSteady task epoch bytes) before =
    keeps_if P (lowest (post_steady_faults history task epoch bytes)) history (Posted task bytes ∷ history) (λ e. stays history (Posted task bytes) (accepted_steady_post history task epoch bytes e) before) before
unchanged-after P stays history (SendsTasks tasks) before =
    keeps_if P (lowest (task_faults history tasks)) history (with_sent history (proposal history tasks))
    (λ e. keeps_sent P stays (line_of history) (next_serial history) tasks (proposal history tasks) history refl (all_can_go history (proposal history tasks) (nothing_owed history tasks e)) (proposal-is_placed history tasks) (All-contains_itself (frames_of (line_of history) (next_serial history) tasks)) before) before
unchanged-after P stays history SendsWrite before =
    keeps_if P (lowest (write_faults history (owed_blocks history))) history (with_write history (owed_blocks history)) (λ e. keeps_write P stays history (owed_blocks history) refl before) before
unchanged-after P stays history SendsWrites before =
    keeps_if P (lowest (write_faults history (owed_blocks history))) history (with_writes history (frame_blocks (owed_blocks history))) (λ e. keeps_writes P stays history (frame_blocks (owed_blocks history)) (inl (inr refl)) before) before
unchanged-after P stays history (Arrives bytes) before = keeps_arrival P stays history (arrival_in bytes) before
unchanged-after P stays history (Reads task) before = before
unchanged-after P stays history (Forgets station) before =
    keeps_if P (lowest (forget_faults history station)) history (Forgot station ∷ history) (λ e. stays history (Forgot station) (accepted_forget history station e) before) before
unchanged-after P stays history (SendsReady tasks) before =
    keeps_if P (lowest (ready_faults history tasks)) history (with_sent history (proposal history tasks))
    (λ e. keeps_sent P stays (line_of history) (next_serial history) tasks (proposal history tasks) history refl (ready_can_go history (proposal history tasks) (proposal-ready history tasks (ready-passed history tasks e).0))
    (proposal-is_placed history tasks) (All-contains_itself (frames_of (line_of history) (next_serial history) tasks)) before) before
unchanged-after P stays history (Clears station) before =
    keeps_if P (lowest (clear_faults history station)) history (with_cleared history station) (λ e. keeps-cleared P stays history station (accepted_clear history station e) before) before
unchanged-after P stays history (Unplugs station) before =
    keeps_if P (lowest (unplug_faults history station)) history (Unplugged station ∷ history) (λ e. stays history (Unplugged station) (accepted_unplug history station e) before) before
unchanged-after P stays history SendsFurther before =
    keeps_if P (lowest (further_faults history)) history (with_writes history (frame_blocks (further_blocks history))) (λ e. keeps_writes P stays history (frame_blocks (further_blocks history)) (inr refl) before) before

pub unchanged-after_all : (P : History → Type 0) → StaysTrue P → (history : History) (steps : List Step) → P history → P (entries_after_all history steps)
unchanged-after_all P stays history [] before = before
unchanged-after_all P stays history (step ∷ steps) before = unchanged-after_all P stays (entries_after history step) steps (unchanged-after P stays history step before)

-- an entry that is accepted leads to a record of accepted entries

pub accepted-more : StaysTrue AreAccepted
accepted-more history (Opened groups) accepted before = absurd accepted
accepted-more history (Edited edit) accepted before = (accepted, before)
accepted-more history (Posted task bytes) accepted before = (accepted, before)
accepted-more history (Forgot station) accepted before = (accepted, before)
accepted-more history (Cleared station) accepted before = (accepted, before)
accepted-more history (Unplugged station) accepted before = (accepted, before)
accepted-more history (Sent frame) accepted before = (accepted, before)
accepted-more history (Wrote blocks) accepted before = (accepted, before)
accepted-more history (Came arrival) accepted before = (accepted, before)

-- what each accepted entry keeps holds of each record of accepted entries

pub held-of_accepted : (P : History → Type 0) → StaysTrue P → ((groups : List Group) → P (just_opened groups)) → (history : History) → AreAccepted history → P history
held-of_accepted P stays just [] all = absurd all
held-of_accepted P stays just (Opened groups ∷ history) all = subst (λ before. P (Opened groups ∷ before)) (sym all) (just groups)
held-of_accepted P stays just (Edited edit ∷ history) all = stays history (Edited edit) all.0 (held-of_accepted P stays just history all.1)
held-of_accepted P stays just (Posted task bytes ∷ history) all = stays history (Posted task bytes) all.0 (held-of_accepted P stays just history all.1)
held-of_accepted P stays just (Forgot station ∷ history) all = stays history (Forgot station) all.0 (held-of_accepted P stays just history all.1)
held-of_accepted P stays just (Cleared station ∷ history) all = stays history (Cleared station) all.0 (held-of_accepted P stays just history all.1)
held-of_accepted P stays just (Unplugged station ∷ history) all = stays history (Unplugged station) all.0 (held-of_accepted P stays just history all.1)
held-of_accepted P stays just (Sent frame ∷ history) all = stays history (Sent frame) all.0 (held-of_accepted P stays just history all.1)
held-of_accepted P stays just (Wrote blocks ∷ history) all = stays history (Wrote blocks) all.0 (held-of_accepted P stays just history all.1)
held-of_accepted P stays just (Came arrival ∷ history) all = stays history (Came arrival) all.0 (held-of_accepted P stays just history all.1)

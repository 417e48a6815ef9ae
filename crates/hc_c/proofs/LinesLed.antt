-- What lines that events led to say of the first serials of their tasks' last sendings.
use Rattle.std.proofs.Common.{◌≡◌, ℕ, zero, suc, ◌+◌, ◌<◌, ◌≤◌, ◌==◌, ◌∙◌, Bool, true, false, cond, ◌&&◌, ◌||◌, ◌⊎◌, inl, inr, List, [], ◌∷◌, length, map, refl, sym, ap, ap₂, subst, arith, Option, Some, None, Result, Ok, Err}
use Rattle.std.specs.Prelude.{fold, is_none, option_map, slice_index_or, slice_set}
use Rattle.std.specs.Option.{option_map_or}
use Rattle.std.specs.List.{list_any, range_with_len}
use Rattle.std.proofs.lemmas.Bool.{and_from, cases_order, eq-eqb, eqb-false, eqb-true, or_left, or_parts, or_right}
use Rattle.std.proofs.lemmas.Grind.{get_or-set_at}
use Rattle.std.proofs.lemmas.List.{get_or-set_other, length-set}
use Rattle.std.proofs.lemmas.List.Folds.{list_any-append}
use Rattle.std.proofs.lemmas.List.FromFn.{length-map-range_with_len}
use Rattle.std.proofs.lemmas.Option.{same_Some}
use Rattle.hc_records.specs.declared.limits.TheConstants.{TASKS}
use Rattle.hc_records.specs.declared.records.Group.{Group}
use Rattle.hc_records.specs.Image.{datagram_count, task_places}
use Rattle.hc_records.specs.Line.{Member}
use Rattle.hc_records.specs.Lists.{lowest}
use Rattle.hc_records.proofs.lemmas.Choices.{by_bool, itself, member-by}
use Rattle.hc_records.proofs.lemmas.Declaring.{any-flat}
use Rattle.hc_registers.specs.Blocks.{LineBlock}
use Rattle.hc_frames.specs.declared.reading.faults.FrameFault.{FrameFault}
use Rattle.hc_places.specs.Table.{TaskTable, datagram_of, task_table}
use Rattle.hc_events.specs.declared.faults.CoreFault.{CoreFault}
use Rattle.hc_events.specs.Answering.{sends}
use Rattle.hc_events.specs.Arrivals.{Arrival, arrival_in}
use Rattle.hc_events.specs.Entries.{HistoryEntry, History, Opened, Edited, Posted, Sent, Wrote, Came, Forgot, Cleared, Unplugged}
use Rattle.hc_events.specs.Heads.{Datagram, item_of, same_item}
use Rattle.hc_events.specs.Owed.{is_in_line, owed_blocks}
use Rattle.hc_events.specs.Points.{line_of, next_serial, state_of}
use Rattle.hc_events.specs.SendingLaws.{is_frame, is_opening}
use Rattle.hc_events.specs.Sendings.{Frame, Named, task_datagrams}
use Rattle.hc_events.specs.Steady.{SteadyData, edit_changes, steady_data, steady_serial}
use Rattle.hc_events.specs.Steps.{Step, Edits, Posts, PostsSteady, SendsTasks, SendsWrite, SendsWrites, Arrives, Reads, Forgets, SendsReady, Clears, Unplugs, SendsFurther, clear_faults, edit_refused, entries_after, forget_faults, further_faults, post_faults, post_steady_faults, proposal, ready_faults, task_faults, unless_fault, unplug_faults, with_arrival, with_sent, with_write, with_writes, write_faults}
use Rattle.hc_events.specs.UnderWay.{further_blocks}
use Rattle.hc_events.specs.WriteFrames.{frame_blocks}
use Rattle.hc_events.proofs.lemmas.Frames.{in_row, proposals-carry}
use Rattle.hc_events.proofs.lemmas.Unchanged.{unchanged-parts}
use Rattle.hc_c.specs.Embedded.{all_sent_from, embedded_history, task_sent_from, with_task_sent}
use Rattle.hc_c.specs.LastSendings.{CallsLead, HasLastData, LineIsLed, StateSays, StatesTellLastData, SeatsSeeTheState, firsts_after, firsts_led, history_led, last_frame_serial}
use Rattle.hc_c.specs.Reads.{datagrams_of, serials_read}
use Rattle.hc_c.specs.SeatImages.{serial_shown, serials_shown}
use Rattle.hc_c.specs.States.{count_since, is_since, task_state}
use Rattle.hc_c.specs.declared.embedded.Embedded.{Embedded}
use Rattle.hc_c.proofs.LastSendings.{answered-last, came-serial, data-below, edited-serial, frame_serial_now, good-last, lost-none, now-last}
use Rattle.hc_c.proofs.Offset.{task-there}
use Rattle.hc_c.proofs.TaskStates.{all-from, all-within, complete-from, complete-is, incomplete-from, no-data-from, no-data-is, none-from, none-within, serial-within, within-serial}

-- what is said of a task whose last sending begins with a serial

-- data of this serial are of the last sending just where they are of the last frame
record IsDated (first serial : ℕ) (last : Option ℕ) : Type 0 where
  since : first ≤ serial → last ≡ Some serial
  from : last ≡ Some serial → first ≤ serial

abbrev counted : History → ℕ → ℕ
counted history task = datagram_count (task_places task (line_of history))

record Fits (history : History) (task first : ℕ) : Type 0 where
  now : (d serial : ℕ) → d < counted history task → frame_serial_now history task d ≡ Some serial → first ≤ serial
  read : (d serial : ℕ) → d < counted history task → steady_serial history task d ≡ Some serial → IsDated first serial (last_frame_serial history task d)

-- entries other than frames of tasks leave it

same-count : (old new : List Member) (task : ℕ) → task_table old task ≡ task_table new task → datagram_count (task_places task new) ≡ datagram_count (task_places task old)
same-count old new task same =
    sym (length-map-range_with_len (datagram_of new task) 0 (datagram_count (task_places task new)))
    ∙ ap (λ (table : TaskTable). length table.datagrams) (sym same)
    ∙ length-map-range_with_len (datagram_of old task) 0 (datagram_count (task_places task old))

fits-entry : (history : History) (task first : ℕ) (entry : HistoryEntry) → is_frame entry ≡ false → is_opening entry ≡ false → Fits history task first → Fits (entry ∷ history) task first
fits-entry history task first (Opened groups) frame opening fits = cc
fits-entry history task first (Sent names) frame opening fits = cc
fits-entry history task first (Edited edit) frame opening fits = record {
  now = λ d serial low e. cc;
  read = λ d serial low e.
      let left = edited-serial (edit_changes history edit task) (steady_data history task d) serial e in
      let table = (unchanged-parts (state_of history) (state_of (Edited edit ∷ history)) task left.0).table in
      let count = same-count (line_of history) (line_of (Edited edit ∷ history)) task table in
      fits.read d serial (omega (arith, low, count)) left.1;
}
fits-entry history task first (Came arrival) frame opening fits = record {
  now = fits.now;
  read = λ d serial low e. elim (came-serial history arrival task d) [
    | inl (good, is) ↦
        let same = same_Some arrival.serial serial (sym is ∙ e) in
        let now = good-last history arrival task d good ∙ ap Some same in
        record { since = λ few. now-last history task d serial now; from = λ last. fits.now d serial low now }
    | inr same ↦ let dated = fits.read d serial low (sym same ∙ e) in record { since = dated.since; from = dated.from }
  ];
}
fits-entry history task first entry frame opening fits = record { now = fits.now; read = fits.read }

-- frames of tasks

abbrev is_of : ℕ → ℕ → Named → Bool
is_of task d named = same_item (Datagram task d) (item_of named)

sent-other : (frames : List Frame) (history : History) (task d : ℕ) → list_any (is_of task d) (in_row frames) ≡ false
    → (last_frame_serial (with_sent history frames) task d ≡ last_frame_serial history task d) × (frame_serial_now (with_sent history frames) task d ≡ frame_serial_now history task d)
sent-other [] history task d none = (refl, refl)
sent-other (frame ∷ frames) history task d none =
    let parts = or_parts (list_any (is_of task d) frame.datagrams) (list_any (is_of task d) (in_row frames)) (sym (list_any-append (is_of task d) frame.datagrams (in_row frames)) ∙ none) in
    let rest = sent-other frames (Sent frame.datagrams ∷ history) task d parts.1 in (
      rest.0 ∙ ap (λ b. cond b (Some (next_serial history)) (last_frame_serial history task d)) parts.0,
      rest.1 ∙ ap (λ b. cond b (Some (next_serial history)) (frame_serial_now history task d)) parts.0,
    )

-- a frame of the present epoch with this serial or a later one carried the datagram
record IsSentFrom (history : History) (first task d : ℕ) : Type 0 where
  serial : ℕ
  now : frame_serial_now history task d ≡ Some serial
  from : first ≤ serial

sent-more : (history : History) (names : List Named) (first task d : ℕ) → first ≤ next_serial history → IsSentFrom history first task d → IsSentFrom (Sent names ∷ history) first task d
sent-more history names first task d few older =
    by_bool (sends (Datagram task d) (Sent names))
    (λ t. record { serial = next_serial history; now = ap (λ b. cond b (Some (next_serial history)) (frame_serial_now history task d)) t; from = few })
    (λ t. record { serial = older.serial; now = ap (λ b. cond b (Some (next_serial history)) (frame_serial_now history task d)) t ∙ older.now; from = older.from })

sent-still : (frames : List Frame) (history : History) (first task d : ℕ) → first ≤ next_serial history → IsSentFrom history first task d → IsSentFrom (with_sent history frames) first task d
sent-still [] history first task d few older = older
sent-still (frame ∷ frames) history first task d few older =
    sent-still frames (Sent frame.datagrams ∷ history) first task d (omega (arith, few)) (sent-more history frame.datagrams first task d few older)

sent-own : (frames : List Frame) (history : History) (first task d : ℕ) → first ≤ next_serial history → list_any (is_of task d) (in_row frames) ≡ true → IsSentFrom (with_sent history frames) first task d
sent-own [] history first task d few carried = cc
sent-own (frame ∷ frames) history first task d few carried =
    let either = sym (list_any-append (is_of task d) frame.datagrams (in_row frames)) ∙ carried in
    by_bool (list_any (is_of task d) frame.datagrams)
    (λ t. sent-still frames (Sent frame.datagrams ∷ history) first task d (omega (arith, few))
    (record { serial = next_serial history; now = ap (λ b. cond b (Some (next_serial history)) (frame_serial_now history task d)) t; from = few }))
    (λ t. sent-own frames (Sent frame.datagrams ∷ history) first task d (omega (arith, few))
    (member-by (list_any (is_of task d) frame.datagrams) (list_any (is_of task d) (in_row frames)) either t))

data-stays : (frames : List Frame) (history : History) (task d : ℕ) → steady_serial (with_sent history frames) task d ≡ steady_serial history task d
data-stays [] history task d = refl
data-stays (frame ∷ frames) history task d = data-stays frames (Sent frame.datagrams ∷ history) task d

count-stays : (frames : List Frame) (history : History) (task : ℕ) → counted (with_sent history frames) task ≡ counted history task
count-stays [] history task = refl
count-stays (frame ∷ frames) history task = count-stays frames (Sent frame.datagrams ∷ history) task

-- which datagrams they carry

of-other : (task d x : ℕ) (numbers : List ℕ) → (task == x) ≡ false → list_any (is_of task d) (map (λ (n : ℕ). (x, n)) numbers) ≡ false
of-other task d x [] other = refl
of-other task d x (n ∷ numbers) other = ap (λ b. (b && (d == n)) || list_any (is_of task d) (map (λ (m : ℕ). (x, m)) numbers)) other ∙ of-other task d x numbers other

of-own : (task d a n : ℕ) → a ≤ d → d < a + n → list_any (is_of task d) (map (λ (m : ℕ). (task, m)) (range_with_len a n)) ≡ true
of-own task d a zero low high = absurd (omega (arith, low, high))
of-own task d a (suc n) low high =
    let rest = list_any (is_of task d) (map (λ (m : ℕ). (task, m)) (range_with_len (a + 1) n)) in
    elim (cases_order a d) [
      | inl same ↦ or_left ((task == task) && (d == a)) rest (and_from (task == task) (d == a) (itself task) (eq-eqb d a (sym same)))
      | inr (inl lower) ↦ or_right ((task == task) && (d == a)) rest (of-own task d (a + 1) n (omega (arith, lower)) (omega (arith, high)))
      | inr (inr higher) ↦ absurd (omega (arith, low, higher))
    ]

of-others : (line : List Member) (task d : ℕ) (tasks : List ℕ) → list_any (λ x. task == x) tasks ≡ false → list_any (λ x. list_any (is_of task d) (task_datagrams line x)) tasks ≡ false
of-others line task d [] none = refl
of-others line task d (x ∷ tasks) none =
    let parts = or_parts (task == x) (list_any (λ y. task == y) tasks) none in
    ap (λ b. b || list_any (λ y. list_any (is_of task d) (task_datagrams line y)) tasks) (of-other task d x (range_with_len 0 (datagram_count (task_places x line))) parts.0)
    ∙ of-others line task d tasks parts.1

of-tasks : (line : List Member) (task d : ℕ) (tasks : List ℕ) → d < datagram_count (task_places task line) → list_any (λ x. task == x) tasks ≡ true
    → list_any (λ x. list_any (is_of task d) (task_datagrams line x)) tasks ≡ true
of-tasks line task d [] low there = cc
of-tasks line task d (x ∷ tasks) low there =
    let first = list_any (is_of task d) (task_datagrams line x) in
    let rest = list_any (λ y. list_any (is_of task d) (task_datagrams line y)) tasks in
    by_bool (task == x)
    (λ t. or_left first rest
    (sym (ap (λ (y : ℕ). list_any (is_of task d) (task_datagrams line y)) (eqb-true task x t)) ∙ of-own task d 0 (datagram_count (task_places task line)) (omega arith) (omega (arith, low))))
    (λ t. or_right first rest (of-tasks line task d tasks low (member-by (task == x) (list_any (λ y. task == y) tasks) there t)))

not-carried : (history : History) (tasks : List ℕ) (task d : ℕ) → list_any (λ x. task == x) tasks ≡ false → list_any (is_of task d) (in_row (proposal history tasks)) ≡ false
not-carried history tasks task d none =
    ap (list_any (is_of task d)) (proposals-carry history tasks) ∙ any-flat (is_of task d) (task_datagrams (line_of history)) tasks ∙ of-others (line_of history) task d tasks none

carried : (history : History) (tasks : List ℕ) (task d : ℕ) → d < counted history task → list_any (λ x. task == x) tasks ≡ true → list_any (is_of task d) (in_row (proposal history tasks)) ≡ true
carried history tasks task d low there =
    ap (list_any (is_of task d)) (proposals-carry history tasks) ∙ any-flat (is_of task d) (task_datagrams (line_of history)) tasks ∙ of-tasks (line_of history) task d tasks low there

-- a task that is sent
fits-sent : (history : History) (task : ℕ) (tasks : List ℕ) → list_any (λ x. task == x) tasks ≡ true → Fits (with_sent history (proposal history tasks)) task (next_serial history)
fits-sent history task tasks there =
    let frames = proposal history tasks in
    let count = count-stays frames history task in
    let own = λ (d : ℕ) (low : d < counted history task). sent-own frames history (next_serial history) task d (omega arith) (carried history tasks task d low there) in
    record {
      now = λ d serial low e.
          let sent = own d (omega (arith, low, count)) in
          let same = same_Some sent.serial serial (sym sent.now ∙ e) in
          let from = sent.from in
          omega (arith, from, same);
      read = λ d serial low e.
          let sent = own d (omega (arith, low, count)) in
          let below = data-below history task d serial (sym (data-stays frames history task d) ∙ e) in
          let last = now-last (with_sent history frames) task d sent.serial sent.now in
          let from = sent.from in
          record {
            since = λ few. absurd (omega (arith, few, below));
            from = λ is. let same = same_Some sent.serial serial (sym last ∙ is) in absurd (omega (arith, same, from, below));
          };
    }

-- and one that is not
fits-beside : (history : History) (task first : ℕ) (tasks : List ℕ) → list_any (λ x. task == x) tasks ≡ false → Fits history task first → Fits (with_sent history (proposal history tasks)) task first
fits-beside history task first tasks none fits =
    let frames = proposal history tasks in
    let count = count-stays frames history task in
    record {
      now = λ d serial low e. fits.now d serial (omega (arith, low, count)) (sym (sent-other frames history task d (not-carried history tasks task d none)).1 ∙ e);
      read = λ d serial low e.
          let same = (sent-other frames history task d (not-carried history tasks task d none)).0 in
          let dated = fits.read d serial (omega (arith, low, count)) (sym (data-stays frames history task d) ∙ e) in
          record { since = λ few. same ∙ dated.since few; from = λ is. dated.from (sym same ∙ is) };
    }

-- the first serials

firsts-beside : (serial task : ℕ) (tasks firsts : List ℕ) → list_any (λ x. task == x) tasks ≡ false → slice_index_or (fold (with_task_sent serial) firsts tasks) task 0 ≡ slice_index_or firsts task 0
firsts-beside serial task [] firsts none = refl
firsts-beside serial task (x ∷ tasks) firsts none =
    let parts = or_parts (task == x) (list_any (λ y. task == y) tasks) none in
    firsts-beside serial task tasks (slice_set firsts x serial) parts.1 ∙ get_or-set_other firsts x task serial 0 (eqb-false task x parts.0)

firsts-sent : (serial task : ℕ) (tasks firsts : List ℕ) → task < length firsts → (list_any (λ x. task == x) tasks ≡ true) ⊎ (slice_index_or firsts task 0 ≡ serial)
    → slice_index_or (fold (with_task_sent serial) firsts tasks) task 0 ≡ serial
firsts-sent serial task [] firsts low (inl there) = cc
firsts-sent serial task [] firsts low (inr same) = same
firsts-sent serial task (x ∷ tasks) firsts low either =
    let long = length-set firsts x serial in
    firsts-sent serial task tasks (slice_set firsts x serial) (omega (arith, low, long))
    (by_bool (task == x)
    (λ t. let same = eqb-true task x t in inr (get_or-set_at firsts x task serial 0 same (omega (arith, low, same))))
    (λ t. elim either [
      | inl there ↦ inl (member-by (task == x) (list_any (λ y. task == y) tasks) there t)
      | inr same ↦ inr (get_or-set_other firsts x task serial 0 (eqb-false task x t) ∙ same)
    ]))

firsts-long : (serial : ℕ) (tasks firsts : List ℕ) → length (fold (with_task_sent serial) firsts tasks) ≡ length firsts
firsts-long serial [] firsts = refl
firsts-long serial (x ∷ tasks) firsts = firsts-long serial tasks (slice_set firsts x serial) ∙ length-set firsts x serial

-- events

fits-step-sent : (fault : Option CoreFault) (history : History) (firsts tasks : List ℕ) (task : ℕ) → task < length firsts → Fits history task (slice_index_or firsts task 0)
    → Fits (unless_fault fault history (with_sent history (proposal history tasks))) task (slice_index_or (cond (is_none fault) (all_sent_from (next_serial history) firsts tasks) firsts) task 0)
fits-step-sent (Some fault) history firsts tasks task low fits = fits
fits-step-sent None history firsts tasks task low fits =
    by_bool (list_any (λ x. task == x) tasks)
    (λ t. subst (Fits (with_sent history (proposal history tasks)) task) (sym (firsts-sent (next_serial history) task tasks firsts low (inl t))) (fits-sent history task tasks t))
    (λ t. subst (Fits (with_sent history (proposal history tasks)) task) (sym (firsts-beside (next_serial history) task tasks firsts t))
    (fits-beside history task (slice_index_or firsts task 0) tasks t fits))

fits-unless : (fault : Option CoreFault) (history next : History) (task first : ℕ) → Fits history task first → Fits next task first → Fits (unless_fault fault history next) task first
fits-unless None history next task first before after = after
fits-unless (Some fault) history next task first before after = before

fits-written : (history : History) (blocks : List LineBlock) (task first : ℕ) → Fits history task first → Fits (with_write history blocks) task first
fits-written history [] task first fits = fits
fits-written history (block ∷ blocks) task first fits = fits-entry history task first (Wrote (block ∷ [])) refl refl fits

fits-all-written : (history : History) (blocks : List LineBlock) (task first : ℕ) → Fits history task first → Fits (with_writes history blocks) task first
fits-all-written history [] task first fits = fits
fits-all-written history (block ∷ blocks) task first fits = fits-entry history task first (Wrote (block ∷ blocks)) refl refl fits

fits-arrived : (history : History) (read : Result Arrival FrameFault) (task first : ℕ) → Fits history task first → Fits (with_arrival history read) task first
fits-arrived history (Err fault) task first fits = fits
fits-arrived history (Ok arrival) task first fits = fits-entry history task first (Came arrival) refl refl fits

fits-cleared : (inside : Bool) (history : History) (station task first : ℕ) → Fits history task first → Fits (cond inside (Cleared station ∷ Forgot station ∷ history) (Cleared station ∷ history)) task first
fits-cleared true history station task first fits =
    fits-entry (Forgot station ∷ history) task first (Cleared station) refl refl (fits-entry history task first (Forgot station) refl refl fits)
fits-cleared false history station task first fits = fits-entry history task first (Cleared station) refl refl fits

fits-step : (history : History) (firsts : List ℕ) (step : Step) (task : ℕ) → task < length firsts → Fits history task (slice_index_or firsts task 0)
    → Fits (entries_after history step) task (slice_index_or (firsts_after history firsts step) task 0)
fits-step history firsts (Edits edit) task low fits =
    fits-unless (edit_refused history edit) history (Edited edit ∷ history) task (slice_index_or firsts task 0) fits (fits-entry history task (slice_index_or firsts task 0) (Edited edit) refl refl fits)
fits-step history firsts (Posts other epoch bytes) task low fits =
    fits-unless (lowest (post_faults history other epoch bytes)) history (Posted other bytes ∷ history) task (slice_index_or firsts task 0) fits
    (fits-entry history task (slice_index_or firsts task 0) (Posted other bytes) refl refl fits)
fits-step history firsts (PostsSteady other epoch bytes) task low fits =
    fits-unless (lowest (post_steady_faults history other epoch bytes)) history (Posted other bytes ∷ history) task (slice_index_or firsts task 0) fits
    (fits-entry history task (slice_index_or firsts task 0) (Posted other bytes) refl refl fits)
fits-step history firsts (SendsTasks tasks) task low fits = fits-step-sent (lowest (task_faults history tasks)) history firsts tasks task low fits
fits-step history firsts SendsWrite task low fits =
    fits-unless (lowest (write_faults history (owed_blocks history))) history (with_write history (owed_blocks history)) task (slice_index_or firsts task 0) fits
    (fits-written history (owed_blocks history) task (slice_index_or firsts task 0) fits)
fits-step history firsts SendsWrites task low fits =
    fits-unless (lowest (write_faults history (owed_blocks history))) history (with_writes history (frame_blocks (owed_blocks history))) task (slice_index_or firsts task 0) fits
    (fits-all-written history (frame_blocks (owed_blocks history)) task (slice_index_or firsts task 0) fits)
fits-step history firsts SendsFurther task low fits =
    fits-unless (lowest (further_faults history)) history (with_writes history (frame_blocks (further_blocks history))) task (slice_index_or firsts task 0) fits
    (fits-all-written history (frame_blocks (further_blocks history)) task (slice_index_or firsts task 0) fits)
fits-step history firsts (Arrives bytes) task low fits = fits-arrived history (arrival_in bytes) task (slice_index_or firsts task 0) fits
fits-step history firsts (Reads other) task low fits = fits
fits-step history firsts (Forgets station) task low fits =
    fits-unless (lowest (forget_faults history station)) history (Forgot station ∷ history) task (slice_index_or firsts task 0) fits
    (fits-entry history task (slice_index_or firsts task 0) (Forgot station) refl refl fits)
fits-step history firsts (SendsReady tasks) task low fits = fits-step-sent (lowest (ready_faults history tasks)) history firsts tasks task low fits
fits-step history firsts (Clears station) task low fits =
    fits-unless (lowest (clear_faults history station)) history (cond (is_in_line history station) (Cleared station ∷ Forgot station ∷ history) (Cleared station ∷ history)) task (slice_index_or firsts task 0) fits
    (fits-cleared (is_in_line history station) history station task (slice_index_or firsts task 0) fits)
fits-step history firsts (Unplugs station) task low fits =
    fits-unless (lowest (unplug_faults history station)) history (Unplugged station ∷ history) task (slice_index_or firsts task 0) fits
    (fits-entry history task (slice_index_or firsts task 0) (Unplugged station) refl refl fits)

long-sent : (done : Bool) (serial : ℕ) (firsts tasks : List ℕ) → length (cond done (all_sent_from serial firsts tasks) firsts) ≡ length firsts
long-sent true serial firsts tasks = firsts-long serial tasks firsts
long-sent false serial firsts tasks = refl

long-step : (history : History) (firsts : List ℕ) (step : Step) → length (firsts_after history firsts step) ≡ length firsts
long-step history firsts (SendsReady tasks) = long-sent (is_none (lowest (ready_faults history tasks))) (next_serial history) firsts tasks
long-step history firsts (SendsTasks tasks) = long-sent (is_none (lowest (task_faults history tasks))) (next_serial history) firsts tasks
long-step history firsts step = refl

long-led : (groups : List Group) (steps : List Step) → length (firsts_led groups steps) ≡ TASKS
long-led groups [] = refl
long-led groups (step ∷ earlier) = long-step (history_led groups earlier) (firsts_led groups earlier) step ∙ long-led groups earlier

fits-led : (groups : List Group) (steps : List Step) (task : ℕ) → task < TASKS → Fits (history_led groups steps) task (slice_index_or (firsts_led groups steps) task 0)
fits-led groups [] task low = record { now = λ d serial few e. cc; read = λ d serial few e. cc }
fits-led groups (step ∷ earlier) task low =
    let long = long-led groups earlier in
    fits-step (history_led groups earlier) (firsts_led groups earlier) step task (omega (arith, low, long)) (fits-led groups earlier task low)

fits-line : (line : Embedded) (task : ℕ) → LineIsLed line → task < TASKS → Fits (embedded_history line) task (task_sent_from line task)
fits-line line task led low =
    subst (λ (h : History). Fits h task (task_sent_from line task)) (sym led.history)
    (subst (λ (firsts : List ℕ). Fits (history_led led.groups led.steps) task (slice_index_or firsts task 0)) (sym led.firsts) (fits-led led.groups led.steps task low))

-- what the state says

has-last : (history : History) (task first d : ℕ) → Fits history task first → d < counted history task → is_since first (steady_serial history task d) ≡ true → HasLastData history task d
has-last history task first d fits low is =
    let found = serial-within first (steady_serial history task d) is in
    record { serial = found.0; read = found.1; sent = (fits.read d found.0 low found.1).since found.2 }

last-within : (history : History) (task first d : ℕ) → Fits history task first → d < counted history task → HasLastData history task d → is_since first (steady_serial history task d) ≡ true
last-within history task first d fits low has =
    within-serial first has.serial (steady_serial history task d) has.read ((fits.read d has.serial low has.read).from has.sent)

not-within : (history : History) (task first d : ℕ) → Fits history task first → d < counted history task → (HasLastData history task d → ⊥) → is_since first (steady_serial history task d) ≡ false
not-within history task first d fits low none =
    by_bool (is_since first (steady_serial history task d)) (λ t. absurd (none (has-last history task first d fits low t))) (λ t. t)

rows : (history : History) (task : ℕ) → task < TASKS → length (datagrams_of history task) ≡ counted history task
rows history task low =
    ap (λ (o : Option TaskTable). length (option_map_or (λ (found : TaskTable). found.datagrams) o [])) (task-there (line_of history) task low)
    ∙ length-map-range_with_len (datagram_of (line_of history) task) 0 (counted history task)

state-of : (line : Embedded) (task : ℕ) → task < TASKS → Fits (embedded_history line) task (task_sent_from line task) → StateSays line task
state-of line task low fits =
    let history = embedded_history line in
    let first = task_sent_from line task in
    let f = steady_serial history task in
    let n = length (datagrams_of history task) in
    let since = count_since first (serials_read history task 0 n) in
    let all = length (serials_read history task 0 n) in
    let count = rows history task low in
    let long : all ≡ n = length-map-range_with_len f 0 n in
    let inside = λ (d : ℕ) (few : d < n). has-last history task first d fits (omega (arith, few, count)) in
    let outside = λ (d : ℕ) (few : d < n). last-within history task first d fits (omega (arith, few, count)) in
    let complete = λ (each : (d : ℕ) → d < n → HasLastData history task d).
    complete-from since all (all-from first f 0 n (λ d from few. outside d (omega (arith, few)) (each d (omega (arith, few)))) ∙ sym long) in
    record {
      complete = (
        λ e d few. inside d few (all-within first f 0 n d (complete-is since all e ∙ long) (omega arith) (omega (arith, few))),
        complete,
      );
      no_data = (
        λ e.
            let both = no-data-is since all e in
            let some = both.0 in (
              omega (arith, some, long),
              λ d few has.
                  let never : true ≡ false = sym (outside d few has) ∙ none-within first f 0 n d both.1 (omega arith) (omega (arith, few)) in cc,
            ),
        λ none.
            let some = none.0 in
            no-data-from since all (omega (arith, some, long))
            (none-from first f 0 n (λ d from few. not-within history task first d fits (omega (arith, few, count)) (none.1 d (omega (arith, few))))),
      );
      incomplete = λ whole bare. incomplete-from since all whole bare;
      empty = λ none. complete (λ d few. absurd (omega (arith, few, none)));
      answered = λ each. complete (λ d few. answered-last history task d (each d few));
      lost = λ d few was e.
          lost-none history task d was (inside d few (all-within first f 0 n d (complete-is since all e ∙ long) (omega arith) (omega (arith, few))));
    }

pub states-tell : StatesTellLastData
states-tell line task led low = state-of line task low (fits-line line task led low)

-- calls lead lines on

pub calls-lead : CallsLead
calls-lead = record {
  opened = λ lookers groups. record { groups = groups; steps = []; history = refl; firsts = refl };
  sent = λ line tasks led none. record {
    groups = led.groups;
    steps = SendsReady tasks ∷ led.steps;
    history = ap (λ (h : History). entries_after h (SendsReady tasks)) led.history;
    firsts =
        sym (ap (λ (fault : Option CoreFault). cond (is_none fault) (all_sent_from (next_serial (embedded_history line)) line.sent_from tasks) line.sent_from) none)
        ∙ ap₂ (λ (h : History) (firsts : List ℕ). firsts_after h firsts (SendsReady tasks)) led.history led.firsts;
  };
  others = λ line next step led same firsts. record {
    groups = led.groups;
    steps = step ∷ led.steps;
    history = same ∙ ap (λ (h : History). entries_after h step) led.history;
    firsts = firsts ∙ ap₂ (λ (h : History) (old : List ℕ). firsts_after h old step) led.history led.firsts;
  };
}

-- an image that a seat is shown has the serials of a read

one-serial : (found : Option SteadyData) → serial_shown (option_map (λ (one : SteadyData). one.bytes) found) (option_map (λ (one : SteadyData). one.serial) found) ≡ option_map (λ (one : SteadyData). one.serial) found
one-serial None = refl
one-serial (Some found) = refl

serials-alike : (history : History) (task a n : ℕ) → serials_shown history task a n ≡ serials_read history task a n
serials-alike history task a zero = refl
serials-alike history task a (suc n) = ap₂ (λ (serial : Option ℕ) (rest : List (Option ℕ)). serial ∷ rest) (one-serial (steady_data history task a)) (serials-alike history task (a + 1) n)

pub seats-see : SeatsSeeTheState
seats-see line task head =
    ap (task_state (task_sent_from line task)) (serials-alike (embedded_history line) task 0 (length (datagrams_of (embedded_history line) task)))

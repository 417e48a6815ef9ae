-- Records that are the same without their stale arrivals: no event distinguishes them, and no event parts
-- them.
use Rattle.std.proofs.Common.{◌≡◌, ℕ, ◌+◌, ◌-◌, ◌*◌, ◌==◌, ◌&&◌, ◌||◌, nat_lt, Bool, true, false, cond, not, List, [], ◌∷◌, ◌++◌, length, filter, map, refl, sym, ap, ◌∙◌, Option, Some, None}
use Rattle.std.specs.Prelude.{find, is_none, is_some, option_map, Result, Ok, Err}
use Rattle.std.specs.Option.{option_map_or}
use Rattle.std.specs.List.{list_any, range_with_len}
use Rattle.std.specs.Str.{bytes_eq}
use Rattle.std.proofs.lemmas.Bool.{or_parts}
use Rattle.hc_bits.specs.Bits.{number_of}
use Rattle.hc_records.specs.Line.{Member, line}
use Rattle.hc_records.specs.Lists.{lowest}
use Rattle.hc_records.specs.Image.{VariablePlace, datagram_count, datagram_length, logical_address, output_length, task_places}
use Rattle.hc_records.specs.Edits.{edit_faults, is_declared_station, slave_at, state_after}
use Rattle.hc_records.proofs.lemmas.Choices.{by_bool}
use Rattle.hc_registers.specs.Blocks.{LineBlock, line_blocks}
use Rattle.hc_frames.specs.FrameText.{frame_text, lrw}
use Rattle.hc_frames.specs.declared.reading.faults.FrameFault.{FrameFault}
use Rattle.hc_events.specs.declared.answer.Answer.TheVariants as answer
use Rattle.hc_events.specs.declared.faults.CoreFault.{CoreFault}
use Rattle.hc_events.specs.declared.faults.CoreFault.TheVariants.{Absent, AlreadyPresent, NoSuchTask, NothingOwed, PostLength, SerialsSpent, StalePost, UnderWay, UnknownStation, Unprogrammed, Waits}
use Rattle.hc_events.specs.Faults.{edit_refusal}
use Rattle.hc_events.specs.Arrivals.{Arrival, arrival_in}
use Rattle.hc_events.specs.Entries.{HistoryEntry, History, Opened, Edited, Posted, Sent, Wrote, Came, Forgot, Cleared, Unplugged}
use Rattle.hc_events.specs.Points.{epoch_of, line_of, next_serial, state_of}
use Rattle.hc_events.specs.Sendings.{Frame, sendings_of}
use Rattle.hc_events.specs.Answering.{Judged, Verdict, Good, Wrong, Stale, is_current, is_stale, is_stale_to, judged_by}
use Rattle.hc_events.specs.Images.{slot_of, slots_of}
use Rattle.hc_events.specs.Outputs.{byte_of, bytes_of_bits, has_bit, outputs_in, sent_bit, sent_data, value_bit}
use Rattle.hc_events.specs.Owed.{is_in_line, is_owed, known_bytes, owed_blocks}
use Rattle.hc_events.specs.UnderWay.{further_blocks, is_under_way}
use Rattle.hc_events.specs.Ages.{data_serial}
use Rattle.hc_events.specs.Steady.{steady_data, task_epoch}
use Rattle.hc_events.specs.Holding.{is_unplugged, may_hold}
use Rattle.hc_events.specs.Ready.{concerns, concerns_outside, is_ready, may_name, names_among, registers_outside, serves_task, waited_for, waited_for_outside, with_cleared}
use Rattle.hc_events.specs.Steps.{Step, Edits, Posts, PostsSteady, SendsTasks, SendsWrite, Arrives, Reads, Forgets, SendsReady, Clears, Unplugs, wait_fault, ready_faults, clear_faults, unplug_faults, unless, unless_fault, forget_faults, edit_refused, edit_answer, is_no_task, is_stale_epoch, post_faults, post_steady_faults, has_serials, serials_left, proposal, task_faults, sent_datagram, sent_text, with_sent, write_faults, sent_write_answer, with_write, write_answer, judged_answer, arrival_answer, with_arrival, read_faults, answer_to, entries_after, answers_to, entries_after_all, SendsFurther, SendsWrites, further_faults, writes_answer, with_writes, judged_blocks_answer}
use Rattle.hc_events.specs.Heads.{is_block}
use Rattle.hc_events.specs.Changes.{updates_of}
use Rattle.hc_events.specs.Stale.{SameAfter, SaysTheSame, without_stale}
use Rattle.hc_events.proofs.lemmas.Awaited.{updates}
use Rattle.hc_events.proofs.lemmas.WithoutStale.{without-date, without-steady, without-task_epoch, without-held, without-under_way, without-unplugged, without-epoch, without-known, without-updates, without-serial, without-slot, without-stale, without-state, without-answer_given, without-value}
use Rattle.hc_events.specs.WriteFrames.{frame_blocks}

abbrev pub SameWithout : History → History → Type 0
SameWithout a b = without_stale a ≡ without_stale b

pub same-says : (a b : History) → SameWithout a b → SaysTheSame a b
same-says a b same = record {
  state = sym (without-state a) ∙ ap state_of same ∙ without-state b;
  epoch = sym (without-epoch a) ∙ ap epoch_of same ∙ without-epoch b;
  serial = sym (without-serial a) ∙ ap next_serial same ∙ without-serial b;
  slots = λ task d. sym (without-slot a task d) ∙ ap (λ history. slot_of history task d) same ∙ without-slot b task d;
  values = λ variable k. sym (without-value a variable k) ∙ ap (λ history. value_bit history variable k) same ∙ without-value b variable k;
  known = λ station number. sym (without-known a station number) ∙ ap (λ history. known_bytes history station number) same ∙ without-known b station number;
  dates = λ task d. sym (without-date a task d) ∙ ap (λ history. data_serial history task d) same ∙ without-date b task d;
  under_way = λ station number. sym (without-under_way a station number) ∙ ap (λ history. is_under_way history station number) same ∙ without-under_way b station number;
  held = λ station number. sym (without-held a station number) ∙ ap (λ history. may_hold history station number) same ∙ without-held b station number;
  unplugged = λ station. sym (without-unplugged a station) ∙ ap (λ history. is_unplugged history station) same ∙ without-unplugged b station;
  epochs = λ task. sym (without-task_epoch a task) ∙ ap (λ history. task_epoch history task) same ∙ without-task_epoch b task;
  steady = λ task d. sym (without-steady a task d) ∙ ap (λ history. steady_data history task d) same ∙ without-steady b task d;
  updates = sym (without-answer_given a) ∙ ap updates_of same ∙ without-answer_given b;
}

-- one more entry keeps them the same

without_came : (history : History) (arrival : Arrival) → without_stale (Came arrival ∷ history) ≡ cond (is_stale_to (without_stale history) arrival) (without_stale history) (Came arrival ∷ without_stale history)
without_came history arrival = ap (λ b. cond b (without_stale history) (Came arrival ∷ without_stale history)) (sym (without-stale history arrival))

same-grows : (entry : HistoryEntry) (a b : History) → SameWithout a b → SameWithout (entry ∷ a) (entry ∷ b)
same-grows (Opened groups) a b same = ap (λ history. Opened groups ∷ history) same
same-grows (Edited edit) a b same = ap (λ history. Edited edit ∷ history) same
same-grows (Posted task bytes) a b same = ap (λ history. Posted task bytes ∷ history) same
same-grows (Forgot station) a b same = ap (λ history. Forgot station ∷ history) same
same-grows (Cleared station) a b same = ap (λ history. Cleared station ∷ history) same
same-grows (Unplugged station) a b same = ap (λ history. Unplugged station ∷ history) same
same-grows (Sent frame) a b same = ap (λ history. Sent frame ∷ history) same
same-grows (Wrote blocks) a b same = ap (λ history. Wrote blocks ∷ history) same
same-grows (Came arrival) a b same =
    without_came a arrival ∙ ap (λ history. cond (is_stale_to history arrival) history (Came arrival ∷ history)) same ∙ sym (without_came b arrival)

pub same-since : (since a b : History) → SameWithout a b → SameWithout (since ++ a) (since ++ b)
same-since [] a b same = same
same-since (entry ∷ since) a b same = same-grows entry (since ++ a) (since ++ b) (same-since since a b same)

-- a stale arrival

pub same-stale : (history : History) (arrival : Arrival) → is_stale_to history arrival ≡ true → SameWithout (Came arrival ∷ history) history
same-stale history arrival e = ap (λ b. cond b (without_stale history) (Came arrival ∷ without_stale history)) e

unchanged_either : (b : Bool) (arrival : Arrival) (history : History) → is_stale_to history arrival ≡ b → SameWithout history (without_stale history) → without_stale (cond b (without_stale history) (Came arrival ∷ without_stale history)) ≡ cond b (without_stale history) (Came arrival ∷ without_stale history)
unchanged_either true arrival history e same = sym same
unchanged_either false arrival history e same =
    ap (λ b. cond b (without_stale (without_stale history)) (Came arrival ∷ without_stale (without_stale history))) (without-stale history arrival ∙ e)
    ∙ ap (λ unchanged. Came arrival ∷ unchanged) (sym same)

-- a record has no stale arrivals once they went
pub same-without : (history : History) → SameWithout history (without_stale history)
same-without [] = refl
same-without (Opened groups ∷ history) = ap (λ unchanged. Opened groups ∷ unchanged) (same-without history)
same-without (Edited edit ∷ history) = ap (λ unchanged. Edited edit ∷ unchanged) (same-without history)
same-without (Posted task bytes ∷ history) = ap (λ unchanged. Posted task bytes ∷ unchanged) (same-without history)
same-without (Forgot station ∷ history) = ap (λ unchanged. Forgot station ∷ unchanged) (same-without history)
same-without (Cleared station ∷ history) = ap (λ unchanged. Cleared station ∷ unchanged) (same-without history)
same-without (Unplugged station ∷ history) = ap (λ unchanged. Unplugged station ∷ unchanged) (same-without history)
same-without (Sent frame ∷ history) = ap (λ unchanged. Sent frame ∷ unchanged) (same-without history)
same-without (Wrote blocks ∷ history) = ap (λ unchanged. Wrote blocks ∷ unchanged) (same-without history)
same-without (Came arrival ∷ history) = sym (unchanged_either (is_stale_to history arrival) arrival history refl (same-without history))

-- what a record says decides the answers

map_alike : {X Y : Type 0} (f g : X → Y) → ((x : X) → f x ≡ g x) → (xs : List X) → map f xs ≡ map g xs
map_alike f g k [] = refl
map_alike f g k (x ∷ xs) = ap (λ y. y ∷ map f xs) (k x) ∙ ap (λ ys. g x ∷ ys) (map_alike f g k xs)

filter_alike : {X : Type 0} (p q : X → Bool) → ((x : X) → p x ≡ q x) → (xs : List X) → filter p xs ≡ filter q xs
filter_alike p q k [] = refl
filter_alike p q k (x ∷ xs) = ap (λ b. cond b (x ∷ filter p xs) (filter p xs)) (k x) ∙ ap (λ ys. cond (q x) (x ∷ ys) ys) (filter_alike p q k xs)

same-line : (a b : History) → SaysTheSame a b → line_of a ≡ line_of b
same-line a b says = ap line says.state

pub same-owed : (a b : History) → SaysTheSame a b → owed_blocks a ≡ owed_blocks b
same-owed a b says =
    filter_alike (is_owed a) (is_owed b) (λ block. ap (λ known. not (option_map_or (bytes_eq block.block.bytes) known false)) (says.known block.station block.number)) (line_blocks (line_of a))
    ∙ ap (λ members. filter (is_owed b) (line_blocks members)) (same-line a b says)

same-further : (a b : History) → SaysTheSame a b → further_blocks a ≡ further_blocks b
same-further a b says =
    filter_alike (λ block. not (is_under_way a block.station block.number)) (λ block. not (is_under_way b block.station block.number)) (λ block. ap not (says.under_way block.station block.number)) (owed_blocks a)
    ∙ ap (filter (λ block. not (is_under_way b block.station block.number))) (same-owed a b says)

same-proposal : (a b : History) (tasks : List ℕ) → SaysTheSame a b → proposal a tasks ≡ proposal b tasks
same-proposal a b tasks says =
    ap (λ members. sendings_of members (next_serial a) tasks) (same-line a b says) ∙ ap (λ n. sendings_of (line_of b) n tasks) says.serial

found_alike : (a b : History) (k : ℕ) → SaysTheSame a b → (found : Option (ℕ × VariablePlace)) → option_map_or (λ pair. value_bit a pair.0 (k - pair.1.bit)) found 0 ≡ option_map_or (λ pair. value_bit b pair.0 (k - pair.1.bit)) found 0
found_alike a b k says None = refl
found_alike a b k says (Some pair) = says.values pair.0 (k - pair.1.bit)

pub bytes-alike : (bit other : ℕ → ℕ) → ((k : ℕ) → bit k ≡ other k) → (size : ℕ) → bytes_of_bits bit size ≡ bytes_of_bits other size
bytes-alike bit other alike size =
    map_alike (byte_of bit) (byte_of other) (λ n. ap number_of (map_alike (λ k. bit (8 * n + k)) (λ k. other (8 * n + k)) (λ k. alike (8 * n + k)) (range_with_len 0 8))) (range_with_len 0 size)

same-data : (a b : History) (task d : ℕ) → SaysTheSame a b → sent_data a task d ≡ sent_data b task d
same-data a b task d says =
    bytes-alike (sent_bit a (outputs_in (line_of a) task d)) (sent_bit b (outputs_in (line_of a) task d)) (λ k. found_alike a b k says (find (has_bit k) (outputs_in (line_of a) task d))) (datagram_length (task_places task (line_of a)) d)
    ∙ ap (λ members. bytes_of_bits (sent_bit b (outputs_in members task d)) (datagram_length (task_places task members) d)) (same-line a b says)

same-text : (a b : History) (sending : Frame) → SaysTheSame a b → sent_text a sending ≡ sent_text b sending
same-text a b sending says =
    ap (frame_text sending.serial) (map_alike (sent_datagram a) (sent_datagram b) (λ named. ap (lrw (logical_address named.0 named.1)) (same-data a b named.0 named.1 says)) sending.datagrams)

same_task_faults : (a b : History) (tasks : List ℕ) → SaysTheSame a b → lowest (task_faults a tasks) ≡ lowest (task_faults b tasks)
same_task_faults a b tasks says =
    ap (λ blocks. lowest ((list_any is_no_task tasks, NoSuchTask) ∷ (nat_lt 0 (length blocks), Unprogrammed (length blocks)) ∷ (not (has_serials a (length (proposal a tasks))), SerialsSpent) ∷ [])) (same-owed a b says)
    ∙ ap (λ frames. lowest ((list_any is_no_task tasks, NoSuchTask) ∷ (nat_lt 0 (length (owed_blocks b)), Unprogrammed (length (owed_blocks b))) ∷ (not (has_serials a (length frames)), SerialsSpent) ∷ [])) (same-proposal a b tasks says)
    ∙ ap (λ n. lowest ((list_any is_no_task tasks, NoSuchTask) ∷ (nat_lt 0 (length (owed_blocks b)), Unprogrammed (length (owed_blocks b))) ∷ (not (serials_left n (length (proposal b tasks))), SerialsSpent) ∷ [])) says.serial

same_write_faults : (a b : History) → SaysTheSame a b → lowest (write_faults a (owed_blocks a)) ≡ lowest (write_faults b (owed_blocks b))
same_write_faults a b says =
    ap (λ blocks. lowest (write_faults a blocks)) (same-owed a b says)
    ∙ ap (λ n. lowest ((length (owed_blocks b) == 0, NothingOwed) ∷ (not (serials_left n 1), SerialsSpent) ∷ [])) says.serial

same_further_faults : (a b : History) → SaysTheSame a b → lowest (further_faults a) ≡ lowest (further_faults b)
same_further_faults a b says =
    ap (λ blocks. lowest ((length blocks == 0, NothingOwed) ∷ (length (further_blocks a) == 0, UnderWay) ∷ (not (has_serials a 1), SerialsSpent) ∷ [])) (same-owed a b says)
    ∙ ap (λ blocks. lowest ((length (owed_blocks b) == 0, NothingOwed) ∷ (length blocks == 0, UnderWay) ∷ (not (has_serials a 1), SerialsSpent) ∷ [])) (same-further a b says)
    ∙ ap (λ n. lowest ((length (owed_blocks b) == 0, NothingOwed) ∷ (length (further_blocks b) == 0, UnderWay) ∷ (not (serials_left n 1), SerialsSpent) ∷ [])) says.serial

same_post_faults : (a b : History) (task epoch : ℕ) (bytes : List ℕ) → SaysTheSame a b → lowest (post_faults a task epoch bytes) ≡ lowest (post_faults b task epoch bytes)
same_post_faults a b task epoch bytes says =
    ap (λ n. lowest ((is_no_task task, NoSuchTask) ∷ (not (epoch == n), StalePost) ∷ (not (length bytes == output_length (task_places task (line_of a))), PostLength) ∷ [])) says.epoch
    ∙ ap (λ members. lowest ((is_no_task task, NoSuchTask) ∷ (not (epoch == epoch_of b), StalePost) ∷ (not (length bytes == output_length (task_places task members)), PostLength) ∷ [])) (same-line a b says)

abbrev steady_faults_of : ℕ → List ℕ → Bool → List Member → List (Bool × CoreFault)
steady_faults_of task bytes stale members =
    (is_no_task task, NoSuchTask) ∷ (stale, StalePost) ∷ (not (length bytes == output_length (task_places task members)), PostLength) ∷ []

same_stale_epoch : (a b : History) (task epoch : ℕ) → SaysTheSame a b → is_stale_epoch a task epoch ≡ is_stale_epoch b task epoch
same_stale_epoch a b task epoch says =
    ap (λ n. nat_lt epoch n || nat_lt (epoch_of a) epoch) (says.epochs task) ∙ ap (λ n. nat_lt epoch (task_epoch b task) || nat_lt n epoch) says.epoch

same_steady_post_faults : (a b : History) (task epoch : ℕ) (bytes : List ℕ) → SaysTheSame a b → lowest (post_steady_faults a task epoch bytes) ≡ lowest (post_steady_faults b task epoch bytes)
same_steady_post_faults a b task epoch bytes says =
    ap (λ stale. lowest (steady_faults_of task bytes stale (line_of a))) (same_stale_epoch a b task epoch says)
    ∙ ap (λ members. lowest (steady_faults_of task bytes (is_stale_epoch b task epoch) members)) (same-line a b says)

same_forget_faults : (a b : History) (station : ℕ) → SaysTheSame a b → lowest (forget_faults a station) ≡ lowest (forget_faults b station)
same_forget_faults a b station says =
    ap (λ state. lowest ((not (is_declared_station state station), UnknownStation) ∷ (is_none (slave_at state station), Absent) ∷ [])) says.state

-- and which tasks are ready

same_concerns : (a b : History) (task : ℕ) (block : LineBlock) → SaysTheSame a b → concerns a task block ≡ concerns b task block
same_concerns a b task block says =
    ap (λ state. serves_task state task block || may_name task block.number (may_hold a block.station block.number)) says.state
    ∙ ap (λ held. serves_task (state_of b) task block || may_name task block.number held) (says.held block.station block.number)

same_waited : (a b : History) (task : ℕ) → SaysTheSame a b → waited_for a task ≡ waited_for b task
same_waited a b task says =
    filter_alike (concerns a task) (concerns b task) (λ block. same_concerns a b task block says) (owed_blocks a)
    ∙ ap (filter (concerns b task)) (same-owed a b says)

same_outside : (a b : History) (task : ℕ) → SaysTheSame a b → waited_for_outside a task ≡ waited_for_outside b task
same_outside a b task says =
    filter_alike (concerns_outside a task) (concerns_outside b task)
    (λ register. ap (λ gone. not gone && names_among task (may_hold a register.0 register.1)) (says.unplugged register.0)
    ∙ ap (λ held. not (is_unplugged b register.0) && names_among task held) (says.held register.0 register.1)) (registers_outside (state_of a))
    ∙ ap (λ state. filter (concerns_outside b task) (registers_outside state)) says.state

abbrev waits_with : ℕ → List LineBlock → List (ℕ × ℕ) → Bool × CoreFault
waits_with task blocks registers = (not ((length blocks == 0) && (length registers == 0)), Waits task (length blocks) (length registers))

same_wait : (a b : History) → SaysTheSame a b → (task : ℕ) → wait_fault a task ≡ wait_fault b task
same_wait a b says task =
    ap (λ blocks. waits_with task blocks (waited_for_outside a task)) (same_waited a b task says)
    ∙ ap (λ registers. waits_with task (waited_for b task) registers) (same_outside a b task says)

pub same-ready : (a b : History) (task : ℕ) → SaysTheSame a b → is_ready a task ≡ is_ready b task
same-ready a b task says =
    ap (λ blocks. (length blocks == 0) && (length (waited_for_outside a task) == 0)) (same_waited a b task says)
    ∙ ap (λ registers. (length (waited_for b task) == 0) && (length registers == 0)) (same_outside a b task says)

same_ready_faults : (a b : History) (tasks : List ℕ) → SaysTheSame a b → lowest (ready_faults a tasks) ≡ lowest (ready_faults b tasks)
same_ready_faults a b tasks says =
    ap (λ waits. lowest ((list_any is_no_task tasks, NoSuchTask) ∷ waits ++ (not (has_serials a (length (proposal a tasks))), SerialsSpent) ∷ [])) (map_alike (wait_fault a) (wait_fault b) (same_wait a b says) tasks)
    ∙ ap (λ frames. lowest ((list_any is_no_task tasks, NoSuchTask) ∷ map (wait_fault b) tasks ++ (not (has_serials a (length frames)), SerialsSpent) ∷ [])) (same-proposal a b tasks says)
    ∙ ap (λ n. lowest ((list_any is_no_task tasks, NoSuchTask) ∷ map (wait_fault b) tasks ++ (not (serials_left n (length (proposal b tasks))), SerialsSpent) ∷ [])) says.serial

same_clear_faults : (a b : History) (station : ℕ) → SaysTheSame a b → lowest (clear_faults a station) ≡ lowest (clear_faults b station)
same_clear_faults a b station says = ap (λ state. lowest ((not (is_declared_station state station), UnknownStation) ∷ [])) says.state

same_unplug_faults : (a b : History) (station : ℕ) → SaysTheSame a b → lowest (unplug_faults a station) ≡ lowest (unplug_faults b station)
same_unplug_faults a b station says =
    ap (λ state. lowest ((not (is_declared_station state station), UnknownStation) ∷ (is_some (slave_at state station), AlreadyPresent) ∷ [])) says.state

-- arrivals

block_answered : (verdict : Verdict) → not (is_stale verdict) ≡ false → write_answer verdict ≡ answer.Stale
block_answered Good e = cc
block_answered Wrong e = cc
block_answered Stale e = refl

blocks_answered : (datagrams : List Judged) → list_any is_current datagrams ≡ false → judged_blocks_answer datagrams ≡ answer.Stale
blocks_answered [] e = refl
blocks_answered (datagram ∷ []) e = block_answered datagram.verdict (or_parts (is_current datagram) false e).0
blocks_answered (datagram ∷ next ∷ datagrams) e = rw e refl

stale_answered : (datagrams : List Judged) → list_any is_current datagrams ≡ false → judged_answer datagrams ≡ answer.Stale
stale_answered [] e = refl
stale_answered (datagram ∷ datagrams) e =
    by_bool (is_block datagram.head.item)
    (λ t. rw t (blocks_answered (datagram ∷ datagrams) e))
    (λ t. rw (t, e) refl)

-- an arrival is reported as its updates are
pub answer_given-of_updates : (datagrams : List Judged) → judged_answer datagrams ≡ judged_answer (updates datagrams)
answer_given-of_updates datagrams =
    by_bool (list_any is_current datagrams)
    (λ t. sym (ap (λ b. judged_answer (cond b datagrams [])) t))
    (λ t. stale_answered datagrams t ∙ sym (ap (λ b. judged_answer (cond b datagrams [])) t))

same_updates : (a b : History) (arrival : Arrival) → SameWithout a b → updates (judged_by a arrival) ≡ updates (judged_by b arrival)
same_updates a b arrival same = sym (without-updates a arrival) ∙ ap (λ history. updates (judged_by history arrival)) same ∙ without-updates b arrival

same_answered : (a b : History) (read : Result Arrival FrameFault) → SameWithout a b → arrival_answer a read ≡ arrival_answer b read
same_answered a b (Err fault) same = refl
same_answered a b (Ok arrival) same =
    answer_given-of_updates (judged_by a arrival) ∙ ap judged_answer (same_updates a b arrival same) ∙ sym (answer_given-of_updates (judged_by b arrival))

-- events

pub same-answer : (a b : History) (step : Step) → SameWithout a b → answer_to a step ≡ answer_to b step
same-answer a b (Edits edit) same =
    ap (λ state. unless (option_map edit_refusal (lowest (edit_faults state edit))) (edit_answer state (state_after state edit))) (same-says a b same).state
same-answer a b (Posts task epoch bytes) same = ap (λ refused. unless refused answer.Posted) (same_post_faults a b task epoch bytes (same-says a b same))
same-answer a b (PostsSteady task epoch bytes) same = ap (λ refused. unless refused answer.Posted) (same_steady_post_faults a b task epoch bytes (same-says a b same))
same-answer a b (SendsTasks tasks) same =
    let says = same-says a b same in
    ap (λ refused. unless refused (answer.Sent (map (sent_text a) (proposal a tasks)))) (same_task_faults a b tasks says)
    ∙ ap (λ frames. unless (lowest (task_faults b tasks)) (answer.Sent (map (sent_text a) frames))) (same-proposal a b tasks says)
    ∙ ap (λ texts. unless (lowest (task_faults b tasks)) (answer.Sent texts)) (map_alike (sent_text a) (sent_text b) (λ sending. same-text a b sending says) (proposal b tasks))
same-answer a b SendsWrite same =
    let says = same-says a b same in
    ap (λ refused. unless refused (sent_write_answer (next_serial a) (owed_blocks a))) (same_write_faults a b says)
    ∙ ap (λ n. unless (lowest (write_faults b (owed_blocks b))) (sent_write_answer n (owed_blocks a))) says.serial
    ∙ ap (λ blocks. unless (lowest (write_faults b (owed_blocks b))) (sent_write_answer (next_serial b) blocks)) (same-owed a b says)
same-answer a b SendsWrites same =
    let says = same-says a b same in
    ap (λ refused. unless refused (writes_answer (next_serial a) (frame_blocks (owed_blocks a)))) (same_write_faults a b says)
    ∙ ap (λ n. unless (lowest (write_faults b (owed_blocks b))) (writes_answer n (frame_blocks (owed_blocks a)))) says.serial
    ∙ ap (λ blocks. unless (lowest (write_faults b (owed_blocks b))) (writes_answer (next_serial b) (frame_blocks blocks))) (same-owed a b says)
same-answer a b (Arrives bytes) same = same_answered a b (arrival_in bytes) same
same-answer a b (Reads task) same =
    let says = same-says a b same in
    ap (λ n. unless (lowest (read_faults task)) (answer.Image n (slots_of a task))) says.epoch
    ∙ ap (λ members. unless (lowest (read_faults task)) (answer.Image (epoch_of b) (map (slot_of a task) (range_with_len 0 (datagram_count (task_places task members)))))) (same-line a b says)
    ∙ ap (λ slots. unless (lowest (read_faults task)) (answer.Image (epoch_of b) slots)) (map_alike (slot_of a task) (slot_of b task) (says.slots task) (range_with_len 0 (datagram_count (task_places task (line_of b)))))
same-answer a b (Forgets station) same = ap (λ refused. unless refused answer.Forgotten) (same_forget_faults a b station (same-says a b same))
same-answer a b (SendsReady tasks) same =
    let says = same-says a b same in
    ap (λ refused. unless refused (answer.Sent (map (sent_text a) (proposal a tasks)))) (same_ready_faults a b tasks says)
    ∙ ap (λ frames. unless (lowest (ready_faults b tasks)) (answer.Sent (map (sent_text a) frames))) (same-proposal a b tasks says)
    ∙ ap (λ texts. unless (lowest (ready_faults b tasks)) (answer.Sent texts)) (map_alike (sent_text a) (sent_text b) (λ sending. same-text a b sending says) (proposal b tasks))
same-answer a b (Clears station) same = ap (λ refused. unless refused answer.Cleared) (same_clear_faults a b station (same-says a b same))
same-answer a b (Unplugs station) same = ap (λ refused. unless refused answer.Unplugged) (same_unplug_faults a b station (same-says a b same))
same-answer a b SendsFurther same =
    let says = same-says a b same in
    ap (λ refused. unless refused (writes_answer (next_serial a) (frame_blocks (further_blocks a)))) (same_further_faults a b says)
    ∙ ap (λ n. unless (lowest (further_faults b)) (writes_answer n (frame_blocks (further_blocks a)))) says.serial
    ∙ ap (λ blocks. unless (lowest (further_faults b)) (writes_answer (next_serial b) (frame_blocks blocks))) (same-further a b says)

same_unchanged : (refused : Option CoreFault) (a b c d : History) → SameWithout a b → SameWithout c d → SameWithout (unless_fault refused a c) (unless_fault refused b d)
same_unchanged None a b c d same next = next
same_unchanged (Some fault) a b c d same next = same

same_sent : (sendings : List Frame) (a b : History) → SameWithout a b → SameWithout (with_sent a sendings) (with_sent b sendings)
same_sent [] a b same = same
same_sent (sending ∷ sendings) a b same = same_sent sendings (Sent sending.datagrams ∷ a) (Sent sending.datagrams ∷ b) (same-grows (Sent sending.datagrams) a b same)

same_write : (blocks : List LineBlock) (a b : History) → SameWithout a b → SameWithout (with_write a blocks) (with_write b blocks)
same_write [] a b same = same
same_write (block ∷ blocks) a b same = same-grows (Wrote (block ∷ [])) a b same

same_writes : (blocks : List LineBlock) (a b : History) → SameWithout a b → SameWithout (with_writes a blocks) (with_writes b blocks)
same_writes [] a b same = same
same_writes (block ∷ blocks) a b same = same-grows (Wrote (block ∷ blocks)) a b same

same_arrival : (read : Result Arrival FrameFault) (a b : History) → SameWithout a b → SameWithout (with_arrival a read) (with_arrival b read)
same_arrival (Err fault) a b same = same
same_arrival (Ok arrival) a b same = same-grows (Came arrival) a b same

same_either : (x : Bool) (a b c d : History) → SameWithout a b → SameWithout c d → SameWithout (cond x a c) (cond x b d)
same_either true a b c d first second = first
same_either false a b c d first second = second

same_cleared : (a b : History) (station : ℕ) → SameWithout a b → SameWithout (with_cleared a station) (with_cleared b station)
same_cleared a b station same =
    ap (λ state. without_stale (cond (is_some (slave_at state station)) (Cleared station ∷ Forgot station ∷ a) (Cleared station ∷ a))) (same-says a b same).state
    ∙ same_either (is_in_line b station) (Cleared station ∷ Forgot station ∷ a) (Cleared station ∷ Forgot station ∷ b) (Cleared station ∷ a) (Cleared station ∷ b)
    (same-grows (Cleared station) (Forgot station ∷ a) (Forgot station ∷ b) (same-grows (Forgot station) a b same)) (same-grows (Cleared station) a b same)

pub same-after : (a b : History) (step : Step) → SameWithout a b → SameWithout (entries_after a step) (entries_after b step)
same-after a b (Edits edit) same =
    ap (λ state. without_stale (unless_fault (option_map edit_refusal (lowest (edit_faults state edit))) a (Edited edit ∷ a))) (same-says a b same).state
    ∙ same_unchanged (edit_refused b edit) a b (Edited edit ∷ a) (Edited edit ∷ b) same (same-grows (Edited edit) a b same)
same-after a b (Posts task epoch bytes) same =
    ap (λ refused. without_stale (unless_fault refused a (Posted task bytes ∷ a))) (same_post_faults a b task epoch bytes (same-says a b same))
    ∙ same_unchanged (lowest (post_faults b task epoch bytes)) a b (Posted task bytes ∷ a) (Posted task bytes ∷ b) same (same-grows (Posted task bytes) a b same)
same-after a b (PostsSteady task epoch bytes) same =
    ap (λ refused. without_stale (unless_fault refused a (Posted task bytes ∷ a))) (same_steady_post_faults a b task epoch bytes (same-says a b same))
    ∙ same_unchanged (lowest (post_steady_faults b task epoch bytes)) a b (Posted task bytes ∷ a) (Posted task bytes ∷ b) same (same-grows (Posted task bytes) a b same)
same-after a b (SendsTasks tasks) same =
    let says = same-says a b same in
    ap (λ refused. without_stale (unless_fault refused a (with_sent a (proposal a tasks)))) (same_task_faults a b tasks says)
    ∙ ap (λ frames. without_stale (unless_fault (lowest (task_faults b tasks)) a (with_sent a frames))) (same-proposal a b tasks says)
    ∙ same_unchanged (lowest (task_faults b tasks)) a b (with_sent a (proposal b tasks)) (with_sent b (proposal b tasks)) same (same_sent (proposal b tasks) a b same)
same-after a b SendsWrite same =
    let says = same-says a b same in
    ap (λ refused. without_stale (unless_fault refused a (with_write a (owed_blocks a)))) (same_write_faults a b says)
    ∙ ap (λ blocks. without_stale (unless_fault (lowest (write_faults b (owed_blocks b))) a (with_write a blocks))) (same-owed a b says)
    ∙ same_unchanged (lowest (write_faults b (owed_blocks b))) a b (with_write a (owed_blocks b)) (with_write b (owed_blocks b)) same (same_write (owed_blocks b) a b same)
same-after a b SendsWrites same =
    let says = same-says a b same in
    ap (λ refused. without_stale (unless_fault refused a (with_writes a (frame_blocks (owed_blocks a))))) (same_write_faults a b says)
    ∙ ap (λ blocks. without_stale (unless_fault (lowest (write_faults b (owed_blocks b))) a (with_writes a (frame_blocks blocks)))) (same-owed a b says)
    ∙ same_unchanged (lowest (write_faults b (owed_blocks b))) a b (with_writes a (frame_blocks (owed_blocks b))) (with_writes b (frame_blocks (owed_blocks b))) same
    (same_writes (frame_blocks (owed_blocks b)) a b same)
same-after a b (Arrives bytes) same = same_arrival (arrival_in bytes) a b same
same-after a b (Reads task) same = same
same-after a b (Forgets station) same =
    ap (λ refused. without_stale (unless_fault refused a (Forgot station ∷ a))) (same_forget_faults a b station (same-says a b same))
    ∙ same_unchanged (lowest (forget_faults b station)) a b (Forgot station ∷ a) (Forgot station ∷ b) same (same-grows (Forgot station) a b same)
same-after a b (SendsReady tasks) same =
    let says = same-says a b same in
    ap (λ refused. without_stale (unless_fault refused a (with_sent a (proposal a tasks)))) (same_ready_faults a b tasks says)
    ∙ ap (λ frames. without_stale (unless_fault (lowest (ready_faults b tasks)) a (with_sent a frames))) (same-proposal a b tasks says)
    ∙ same_unchanged (lowest (ready_faults b tasks)) a b (with_sent a (proposal b tasks)) (with_sent b (proposal b tasks)) same (same_sent (proposal b tasks) a b same)
same-after a b (Clears station) same =
    ap (λ refused. without_stale (unless_fault refused a (with_cleared a station))) (same_clear_faults a b station (same-says a b same))
    ∙ same_unchanged (lowest (clear_faults b station)) a b (with_cleared a station) (with_cleared b station) same (same_cleared a b station same)
same-after a b (Unplugs station) same =
    ap (λ refused. without_stale (unless_fault refused a (Unplugged station ∷ a))) (same_unplug_faults a b station (same-says a b same))
    ∙ same_unchanged (lowest (unplug_faults b station)) a b (Unplugged station ∷ a) (Unplugged station ∷ b) same (same-grows (Unplugged station) a b same)
same-after a b SendsFurther same =
    let says = same-says a b same in
    ap (λ refused. without_stale (unless_fault refused a (with_writes a (frame_blocks (further_blocks a))))) (same_further_faults a b says)
    ∙ ap (λ blocks. without_stale (unless_fault (lowest (further_faults b)) a (with_writes a (frame_blocks blocks)))) (same-further a b says)
    ∙ same_unchanged (lowest (further_faults b)) a b (with_writes a (frame_blocks (further_blocks b))) (with_writes b (frame_blocks (further_blocks b))) same
    (same_writes (frame_blocks (further_blocks b)) a b same)

-- lists of events

same_answers : (a b : History) (steps : List Step) → SameWithout a b → answers_to a steps ≡ answers_to b steps
same_answers a b [] same = refl
same_answers a b (step ∷ steps) same =
    ap (λ answer_given. answer_given ∷ answers_to (entries_after a step) steps) (same-answer a b step same)
    ∙ ap (λ answer_given. answer_to b step ∷ answer_given) (same_answers (entries_after a step) (entries_after b step) steps (same-after a b step same))

same_all : (a b : History) (steps : List Step) → SameWithout a b → SameWithout (entries_after_all a steps) (entries_after_all b steps)
same_all a b [] same = same
same_all a b (step ∷ steps) same = same_all (entries_after a step) (entries_after b step) steps (same-after a b step same)

pub same-after_it : (a b : History) (steps : List Step) → SameWithout a b → SameAfter a b steps
same-after_it a b steps same = record {
  answers = same_answers a b steps same;
  says = same-says (entries_after_all a steps) (entries_after_all b steps) (same_all a b steps same);
}

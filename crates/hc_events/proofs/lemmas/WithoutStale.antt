-- A record says the same without its stale arrivals.
use Rattle.std.proofs.Common.{◌≡◌, ℕ, ◌+◌, ◌==◌, Bool, true, false, cond, not, ◌&&◌, ◌||◌, List, [], ◌∷◌, ◌++◌, map, refl, sym, ap, ◌∙◌, Option, Some, None}
use Rattle.std.specs.Prelude.{fold, is_some, option_and_then, option_map}
use Rattle.std.specs.List.{flat_map, list_any}
use Rattle.std.proofs.lemmas.List.{append-nil}
use Rattle.std.proofs.lemmas.Bool.{and_right, not-true, or_parts}
use Rattle.hc_records.specs.Image.{variable_place}
use Rattle.hc_records.specs.Edits.{state_after, slave_at}
use Rattle.hc_events.specs.Arrivals.{Arrival}
use Rattle.hc_events.specs.Entries.{History, Opened, Edited, Posted, Sent, Wrote, Came, Forgot, Cleared, Unplugged}
use Rattle.hc_events.specs.Points.{epoch_of, line_of, next_serial, state_of}
use Rattle.hc_records.specs.Line.{line}
use Rattle.hc_records.proofs.lemmas.Choices.{by_bool}
use Rattle.hc_events.specs.Heads.{Block, same_item, Item}
use Rattle.hc_events.specs.Answering.{Judged, Verdict, Good, Wrong, Stale, is_good, is_stale, is_current, has_good, judged_by, is_stale_to}
use Rattle.hc_events.specs.Awaited.{awaited}
use Rattle.hc_events.specs.Images.{new_answer, new_answer_by, renewed, slot_of}
use Rattle.hc_events.specs.Outputs.{posted_bit, value_bit}
use Rattle.hc_events.specs.UnderWay.{is_under_way, is_write_awaited}
use Rattle.hc_events.specs.Owed.{if_confirmed, is_in_line, known_bytes, last_write, was_confirmed, block_among, confirms, write_of}
use Rattle.hc_events.specs.Changes.{Answered, Swapped, updates_of}
use Rattle.hc_events.specs.Stale.{without_stale}
use Rattle.hc_records.specs.declared.edit.Edit.{Edit}
use Rattle.hc_events.specs.Ages.{data_serial, dated}
use Rattle.hc_events.specs.Steady.{changes_task, edit_changes, steadied, steady_data, task_epoch}
use Rattle.hc_events.specs.Holding.{cleared_register, comes, held_after_answer, held_after_coming, held_after_write, is_unplugged, may_hold}
use Rattle.hc_events.proofs.lemmas.Awaited.{updates, updates_from, awaited-any, awaited-grows, awaited-updates, awaited-stale}
use Rattle.std.specs.Option.{option_map_or, option_or}

-- definitions that skip arrivals

came_skips : {X : Type 0} (k : History → X) (b : Bool) (arrival : Arrival) (history : History) → k (Came arrival ∷ history) ≡ k history → k (cond b history (Came arrival ∷ history)) ≡ k history
came_skips k true arrival history e = refl
came_skips k false arrival history e = e

pub without-state : (history : History) → state_of (without_stale history) ≡ state_of history
without-state [] = refl
without-state (Opened groups ∷ history) = refl
without-state (Edited edit ∷ history) = ap (λ state. state_after state edit) (without-state history)
without-state (Posted task bytes ∷ history) = without-state history
without-state (Forgot station ∷ history) = without-state history
without-state (Cleared station ∷ history) = without-state history
without-state (Unplugged station ∷ history) = without-state history
without-state (Sent frame ∷ history) = without-state history
without-state (Wrote blocks ∷ history) = without-state history
without-state (Came arrival ∷ history) = came_skips state_of (is_stale_to history arrival) arrival (without_stale history) refl ∙ without-state history

without-line : (history : History) → line_of (without_stale history) ≡ line_of history
without-line history = ap line (without-state history)

pub without-epoch : (history : History) → epoch_of (without_stale history) ≡ epoch_of history
without-epoch [] = refl
without-epoch (Opened groups ∷ history) = refl
without-epoch (Edited edit ∷ history) = ap (λ n. n + 1) (without-epoch history)
without-epoch (Posted task bytes ∷ history) = without-epoch history
without-epoch (Forgot station ∷ history) = without-epoch history
without-epoch (Cleared station ∷ history) = without-epoch history
without-epoch (Unplugged station ∷ history) = without-epoch history
without-epoch (Sent frame ∷ history) = without-epoch history
without-epoch (Wrote blocks ∷ history) = without-epoch history
without-epoch (Came arrival ∷ history) = came_skips epoch_of (is_stale_to history arrival) arrival (without_stale history) refl ∙ without-epoch history

pub without-serial : (history : History) → next_serial (without_stale history) ≡ next_serial history
without-serial [] = refl
without-serial (Opened groups ∷ history) = refl
without-serial (Edited edit ∷ history) = without-serial history
without-serial (Posted task bytes ∷ history) = without-serial history
without-serial (Forgot station ∷ history) = without-serial history
without-serial (Cleared station ∷ history) = without-serial history
without-serial (Unplugged station ∷ history) = without-serial history
without-serial (Sent frame ∷ history) = ap (λ n. n + 1) (without-serial history)
without-serial (Wrote blocks ∷ history) = ap (λ n. n + 1) (without-serial history)
without-serial (Came arrival ∷ history) = came_skips next_serial (is_stale_to history arrival) arrival (without_stale history) refl ∙ without-serial history

pub without-value : (history : History) (variable k : ℕ) → value_bit (without_stale history) variable k ≡ value_bit history variable k
without-value [] variable k = refl
without-value (Opened groups ∷ history) variable k = refl
without-value (Edited edit ∷ history) variable k =
    ap (λ line. cond (is_some (variable_place variable line)) (value_bit (without_stale history) variable k) 0) (without-line history)
    ∙ ap (λ bit. cond (is_some (variable_place variable (line_of history))) bit 0) (without-value history variable k)
without-value (Posted task bytes ∷ history) variable k =
    ap (λ line. posted_bit line task bytes k (variable_place variable line) (value_bit (without_stale history) variable k)) (without-line history)
    ∙ ap (λ bit. posted_bit (line_of history) task bytes k (variable_place variable (line_of history)) bit) (without-value history variable k)
without-value (Forgot station ∷ history) variable k = without-value history variable k
without-value (Cleared station ∷ history) variable k = without-value history variable k
without-value (Unplugged station ∷ history) variable k = without-value history variable k
without-value (Sent frame ∷ history) variable k = without-value history variable k
without-value (Wrote blocks ∷ history) variable k = without-value history variable k
without-value (Came arrival ∷ history) variable k =
    came_skips (λ record'. value_bit record' variable k) (is_stale_to history arrival) arrival (without_stale history) refl ∙ without-value history variable k

without-write : (history : History) (station number : ℕ) → last_write (without_stale history) station number ≡ last_write history station number
without-write [] station number = refl
without-write (Opened groups ∷ history) station number = refl
without-write (Edited edit ∷ history) station number =
    ap (λ state. cond (is_some (slave_at state station)) (last_write (without_stale history) station number) None) (without-state history)
    ∙ ap (λ found. cond (is_in_line history station) found None) (without-write history station number)
without-write (Posted task bytes ∷ history) station number = without-write history station number
without-write (Sent frame ∷ history) station number = without-write history station number
without-write (Wrote blocks ∷ history) station number =
    ap (λ n. option_or (option_map (write_of n) (block_among station number blocks)) (last_write (without_stale history) station number)) (without-serial history)
    ∙ ap (option_or (option_map (write_of (next_serial history)) (block_among station number blocks))) (without-write history station number)
without-write (Forgot other ∷ history) station number = ap (λ found. cond (station == other) None found) (without-write history station number)
without-write (Cleared other ∷ history) station number = without-write history station number
without-write (Unplugged other ∷ history) station number = without-write history station number
without-write (Came arrival ∷ history) station number =
    came_skips (λ record'. last_write record' station number) (is_stale_to history arrival) arrival (without_stale history) refl ∙ without-write history station number

-- definitions that ask what an arrival answers

abbrev no_updates : History → Arrival → Type 0
no_updates history arrival = list_any is_current (judged_by history arrival) ≡ false

-- what holds of a record without a stale arrival and of one with an arrival holds without the stale ones
came_either : {X : Type 0} (k : History → X) (history slim : History) (arrival : Arrival) (b : Bool) → is_stale_to history arrival ≡ b → (no_updates history arrival → k slim ≡ k (Came arrival ∷ history)) → k (Came arrival ∷ slim) ≡ k (Came arrival ∷ history) → k (cond b slim (Came arrival ∷ slim)) ≡ k (Came arrival ∷ history)
came_either k history slim arrival true e stale other = stale (not-true (list_any is_current (judged_by history arrival)) e)
came_either k history slim arrival false e stale other = other

without-awaited : (history : History) (serial : ℕ) → awaited (without_stale history) serial ≡ awaited history serial
without-awaited [] serial = refl
without-awaited (Opened groups ∷ history) serial = refl
without-awaited (Edited edit ∷ history) serial = awaited-grows (without_stale history) history serial (Edited edit) (without-serial history) (without-line history) (without-awaited history serial)
without-awaited (Posted task bytes ∷ history) serial = awaited-grows (without_stale history) history serial (Posted task bytes) (without-serial history) (without-line history) (without-awaited history serial)
without-awaited (Forgot station ∷ history) serial = awaited-grows (without_stale history) history serial (Forgot station) (without-serial history) (without-line history) (without-awaited history serial)
without-awaited (Cleared station ∷ history) serial = awaited-grows (without_stale history) history serial (Cleared station) (without-serial history) (without-line history) (without-awaited history serial)
without-awaited (Unplugged station ∷ history) serial = awaited-grows (without_stale history) history serial (Unplugged station) (without-serial history) (without-line history) (without-awaited history serial)
without-awaited (Sent frame ∷ history) serial = awaited-grows (without_stale history) history serial (Sent frame) (without-serial history) (without-line history) (without-awaited history serial)
without-awaited (Wrote blocks ∷ history) serial = awaited-grows (without_stale history) history serial (Wrote blocks) (without-serial history) (without-line history) (without-awaited history serial)
without-awaited (Came arrival ∷ history) serial =
    came_either (λ record'. awaited record' serial) history (without_stale history) arrival (is_stale_to history arrival) refl
    (λ none. without-awaited history serial ∙ sym (awaited-stale history arrival serial none))
    (awaited-grows (without_stale history) history serial (Came arrival) (without-serial history) (without-line history) (without-awaited history serial))

-- what an arrival is, where it is current
pub without-updates : (history : History) (arrival : Arrival) → updates (judged_by (without_stale history) arrival) ≡ updates (judged_by history arrival)
without-updates history arrival =
    awaited-updates (without_stale history) arrival
    ∙ ap (λ found. updates_from found arrival) (without-awaited history arrival.serial)
    ∙ sym (awaited-updates history arrival)

pub without-stale : (history : History) (arrival : Arrival) → is_stale_to (without_stale history) arrival ≡ is_stale_to history arrival
without-stale history arrival =
    ap not (awaited-any (without_stale history) arrival
    ∙ ap (λ found. list_any is_current (updates_from found arrival)) (without-awaited history arrival.serial)
    ∙ sym (awaited-any history arrival))

-- what is good is current

good_updates : (verdict : Verdict) → not (is_stale verdict) ≡ false → is_good verdict ≡ false
good_updates Good e = cc
good_updates Wrong e = cc
good_updates Stale e = refl

not_new_answer : (datagram : Judged) → has_good datagram ≡ false → new_answer datagram ≡ []
not_new_answer datagram e = rw e refl

good_answers_none : (datagrams : List Judged) → list_any is_current datagrams ≡ false → flat_map new_answer datagrams ≡ []
good_answers_none [] e = refl
good_answers_none (datagram ∷ datagrams) e =
    let parts = or_parts (is_current datagram) (list_any is_current datagrams) e in
    ap (λ good_answers. good_answers ++ flat_map new_answer datagrams) (not_new_answer datagram (good_updates datagram.verdict parts.0)) ∙ good_answers_none datagrams parts.1

any_none : (item : Item) (datagrams : List Judged) → list_any is_current datagrams ≡ false → list_any (confirms item) datagrams ≡ false
any_none item [] e = refl
any_none item (datagram ∷ datagrams) e =
    let parts = or_parts (is_current datagram) (list_any is_current datagrams) e in
    let bad : confirms item datagram ≡ false = and_right (same_item item datagram.head.item) (has_good datagram) (good_updates datagram.verdict parts.0) in
    ap (λ b. b || list_any (confirms item) datagrams) bad ∙ any_none item datagrams parts.1

pub good_answers-of_updates : (datagrams : List Judged) → flat_map new_answer datagrams ≡ flat_map new_answer (updates datagrams)
good_answers-of_updates datagrams =
    by_bool (list_any is_current datagrams)
    (λ t. rw t refl)
    (λ t. good_answers_none datagrams t ∙ sym (ap (λ b. flat_map new_answer (cond b datagrams [])) t))

any-of_updates : (item : Item) (datagrams : List Judged) → list_any (confirms item) datagrams ≡ list_any (confirms item) (updates datagrams)
any-of_updates item datagrams =
    by_bool (list_any is_current datagrams)
    (λ t. rw t refl)
    (λ t. any_none item datagrams t ∙ sym (ap (λ b. list_any (confirms item) (cond b datagrams [])) t))

-- so the good answers of an arrival
without-new_answer : (history : History) (arrival : Arrival) → new_answer_by (without_stale history) arrival ≡ new_answer_by history arrival
without-new_answer history arrival =
    good_answers-of_updates (judged_by (without_stale history) arrival) ∙ ap (flat_map new_answer) (without-updates history arrival) ∙ sym (good_answers-of_updates (judged_by history arrival))

without-good : (history : History) (arrival : Arrival) (item : Item) → list_any (confirms item) (judged_by (without_stale history) arrival) ≡ list_any (confirms item) (judged_by history arrival)
without-good history arrival item =
    any-of_updates item (judged_by (without_stale history) arrival)
    ∙ ap (list_any (confirms item)) (without-updates history arrival)
    ∙ sym (any-of_updates item (judged_by history arrival))

pub without-slot : (history : History) (task d : ℕ) → slot_of (without_stale history) task d ≡ slot_of history task d
without-slot [] task d = refl
without-slot (Opened groups ∷ history) task d = refl
without-slot (Edited edit ∷ history) task d = refl
without-slot (Posted t bytes ∷ history) task d = without-slot history task d
without-slot (Forgot station ∷ history) task d = without-slot history task d
without-slot (Cleared station ∷ history) task d = without-slot history task d
without-slot (Unplugged station ∷ history) task d = without-slot history task d
without-slot (Sent frame ∷ history) task d = without-slot history task d
without-slot (Wrote blocks ∷ history) task d = without-slot history task d
without-slot (Came arrival ∷ history) task d =
    came_either (λ record'. slot_of record' task d) history (without_stale history) arrival (is_stale_to history arrival) refl
    (λ none. without-slot history task d ∙ sym (ap (λ good_answers. fold (renewed task d) (slot_of history task d) good_answers) (good_answers_none (judged_by history arrival) none)))
    (ap (λ slot. fold (renewed task d) slot (new_answer_by (without_stale history) arrival)) (without-slot history task d)
    ∙ ap (λ good_answers. fold (renewed task d) (slot_of history task d) good_answers) (without-new_answer history arrival))

pub without-date : (history : History) (task d : ℕ) → data_serial (without_stale history) task d ≡ data_serial history task d
without-date [] task d = refl
without-date (Opened groups ∷ history) task d = refl
without-date (Edited edit ∷ history) task d = refl
without-date (Posted t bytes ∷ history) task d = without-date history task d
without-date (Forgot station ∷ history) task d = without-date history task d
without-date (Cleared station ∷ history) task d = without-date history task d
without-date (Unplugged station ∷ history) task d = without-date history task d
without-date (Sent frame ∷ history) task d = without-date history task d
without-date (Wrote blocks ∷ history) task d = without-date history task d
without-date (Came arrival ∷ history) task d =
    came_either (λ record'. data_serial record' task d) history (without_stale history) arrival (is_stale_to history arrival) refl
    (λ none. without-date history task d ∙ sym (ap (λ good_answers. fold (dated arrival.serial task d) (data_serial history task d) good_answers) (good_answers_none (judged_by history arrival) none)))
    (ap (λ date. fold (dated arrival.serial task d) date (new_answer_by (without_stale history) arrival)) (without-date history task d)
    ∙ ap (λ good_answers. fold (dated arrival.serial task d) (data_serial history task d) good_answers) (without-new_answer history arrival))

pub without-answer_given : (history : History) → updates_of (without_stale history) ≡ updates_of history
without-answer_given [] = refl
without-answer_given (Opened groups ∷ history) = refl
without-answer_given (Edited edit ∷ history) = ap (λ answer_given. answer_given ++ Swapped edit ∷ []) (without-answer_given history)
without-answer_given (Posted task bytes ∷ history) = without-answer_given history
without-answer_given (Forgot station ∷ history) = without-answer_given history
without-answer_given (Cleared station ∷ history) = without-answer_given history
without-answer_given (Unplugged station ∷ history) = without-answer_given history
without-answer_given (Sent frame ∷ history) = without-answer_given history
without-answer_given (Wrote blocks ∷ history) = without-answer_given history
without-answer_given (Came arrival ∷ history) =
    came_either updates_of history (without_stale history) arrival (is_stale_to history arrival) refl
    (λ none. without-answer_given history ∙ sym (ap (λ good_answers. updates_of history ++ map Answered good_answers) (good_answers_none (judged_by history arrival) none) ∙ append-nil (updates_of history)))
    (ap (λ answer_given. answer_given ++ map Answered (new_answer_by (without_stale history) arrival)) (without-answer_given history)
    ∙ ap (λ good_answers. updates_of history ++ map Answered good_answers) (without-new_answer history arrival))

without-confirmed : (history : History) (serial : ℕ) (item : Item) → was_confirmed (without_stale history) serial item ≡ was_confirmed history serial item
without-confirmed [] serial item = refl
without-confirmed (Opened groups ∷ history) serial item = refl
without-confirmed (Edited edit ∷ history) serial item = without-confirmed history serial item
without-confirmed (Posted task bytes ∷ history) serial item = without-confirmed history serial item
without-confirmed (Forgot station ∷ history) serial item = without-confirmed history serial item
without-confirmed (Cleared station ∷ history) serial item = without-confirmed history serial item
without-confirmed (Unplugged station ∷ history) serial item = without-confirmed history serial item
without-confirmed (Sent frame ∷ history) serial item = without-confirmed history serial item
without-confirmed (Wrote blocks ∷ history) serial item = without-confirmed history serial item
without-confirmed (Came arrival ∷ history) serial item =
    came_either (λ record'. was_confirmed record' serial item) history (without_stale history) arrival (is_stale_to history arrival) refl
    (λ none. without-confirmed history serial item ∙ sym (ap (λ b. b || was_confirmed history serial item) (and_right (arrival.serial == serial) _ (any_none item (judged_by history arrival) none))))
    (ap (λ b. ((arrival.serial == serial) && b) || was_confirmed (without_stale history) serial item) (without-good history arrival item)
    ∙ ap (λ b. ((arrival.serial == serial) && list_any (confirms item) (judged_by history arrival)) || b) (without-confirmed history serial item))

-- what follows from them

known_either : (history : History) (item : Item) (write : Option (ℕ × List ℕ)) → option_and_then (if_confirmed (without_stale history) item) write ≡ option_and_then (if_confirmed history item) write
known_either history item None = refl
known_either history item (Some write) = ap (λ b. cond b (Some write.1) None) (without-confirmed history write.0 item)

-- the blocks that are under way

under_either : (history : History) (found : Option (ℕ × List ℕ)) → option_map_or (is_write_awaited (without_stale history)) found false ≡ option_map_or (is_write_awaited history) found false
under_either history None = refl
under_either history (Some write) = ap is_some (without-awaited history write.0)

pub without-under_way : (history : History) (station number : ℕ) → is_under_way (without_stale history) station number ≡ is_under_way history station number
without-under_way history station number =
    ap (λ found. option_map_or (is_write_awaited (without_stale history)) found false) (without-write history station number) ∙ under_either history (last_write history station number)

pub without-known : (history : History) (station number : ℕ) → known_bytes (without_stale history) station number ≡ known_bytes history station number
without-known history station number =
    ap (option_and_then (if_confirmed (without_stale history) (Block station number))) (without-write history station number) ∙ known_either history (Block station number) (last_write history station number)

pub without-task_epoch : (history : History) (task : ℕ) → task_epoch (without_stale history) task ≡ task_epoch history task
without-task_epoch [] task = refl
without-task_epoch (Opened groups ∷ history) task = refl
without-task_epoch (Edited edit ∷ history) task =
    ap (λ state. cond (changes_task state (state_after state edit) task) (epoch_of (without_stale history) + 1) (task_epoch (without_stale history) task)) (without-state history)
    ∙ ap (λ n. cond (edit_changes history edit task) (n + 1) (task_epoch (without_stale history) task)) (without-epoch history)
    ∙ ap (λ n. cond (edit_changes history edit task) (epoch_of history + 1) n) (without-task_epoch history task)
without-task_epoch (Posted t bytes ∷ history) task = without-task_epoch history task
without-task_epoch (Forgot station ∷ history) task = without-task_epoch history task
without-task_epoch (Cleared station ∷ history) task = without-task_epoch history task
without-task_epoch (Unplugged station ∷ history) task = without-task_epoch history task
without-task_epoch (Sent frame ∷ history) task = without-task_epoch history task
without-task_epoch (Wrote blocks ∷ history) task = without-task_epoch history task
without-task_epoch (Came arrival ∷ history) task =
    came_skips (λ record'. task_epoch record' task) (is_stale_to history arrival) arrival (without_stale history) refl ∙ without-task_epoch history task

pub without-steady : (history : History) (task d : ℕ) → steady_data (without_stale history) task d ≡ steady_data history task d
without-steady [] task d = refl
without-steady (Opened groups ∷ history) task d = refl
without-steady (Edited edit ∷ history) task d =
    ap (λ state. cond (changes_task state (state_after state edit) task) None (steady_data (without_stale history) task d)) (without-state history)
    ∙ ap (cond (edit_changes history edit task) None) (without-steady history task d)
without-steady (Posted t bytes ∷ history) task d = without-steady history task d
without-steady (Forgot station ∷ history) task d = without-steady history task d
without-steady (Cleared station ∷ history) task d = without-steady history task d
without-steady (Unplugged station ∷ history) task d = without-steady history task d
without-steady (Sent frame ∷ history) task d = without-steady history task d
without-steady (Wrote blocks ∷ history) task d = without-steady history task d
without-steady (Came arrival ∷ history) task d =
    came_either (λ record'. steady_data record' task d) history (without_stale history) arrival (is_stale_to history arrival) refl
    (λ none. without-steady history task d
    ∙ sym (ap (λ good_answers. fold (steadied arrival.serial (epoch_of history) task d) (steady_data history task d) good_answers) (good_answers_none (judged_by history arrival) none)))
    (ap (λ n. fold (steadied arrival.serial n task d) (steady_data (without_stale history) task d) (new_answer_by (without_stale history) arrival)) (without-epoch history)
    ∙ ap (λ found. fold (steadied arrival.serial (epoch_of history) task d) found (new_answer_by (without_stale history) arrival)) (without-steady history task d)
    ∙ ap (λ good_answers. fold (steadied arrival.serial (epoch_of history) task d) (steady_data history task d) good_answers) (without-new_answer history arrival))

comes_without : (history : History) (edit : Edit) (station : ℕ) → comes (without_stale history) edit station ≡ comes history edit station
comes_without history edit station = ap (λ state. not (is_some (slave_at state station)) && is_some (slave_at (state_after state edit) station)) (without-state history)

pub without-held : (history : History) (station number : ℕ) → may_hold (without_stale history) station number ≡ may_hold history station number
without-held [] station number = refl
without-held (Opened groups ∷ history) station number = refl
without-held (Edited edit ∷ history) station number =
    ap (λ b. held_after_coming b (may_hold (without_stale history) station number)) (comes_without history edit station)
    ∙ ap (held_after_coming (comes history edit station)) (without-held history station number)
without-held (Posted task bytes ∷ history) station number = without-held history station number
without-held (Forgot other ∷ history) station number = without-held history station number
without-held (Cleared other ∷ history) station number = ap (λ held. cond (station == other) cleared_register held) (without-held history station number)
without-held (Unplugged other ∷ history) station number = without-held history station number
without-held (Sent frame ∷ history) station number = without-held history station number
without-held (Wrote blocks ∷ history) station number = ap (held_after_write (block_among station number blocks)) (without-held history station number)
without-held (Came arrival ∷ history) station number =
    came_either (λ record'. may_hold record' station number) history (without_stale history) arrival (is_stale_to history arrival) refl
    (λ none. without-held history station number
    ∙ sym (ap (λ b. held_after_answer b (last_write history station number) (may_hold history station number)) (any_none (Block station number) (judged_by history arrival) none)))
    (ap (λ b. held_after_answer b (last_write (without_stale history) station number) (may_hold (without_stale history) station number)) (without-good history arrival (Block station number))
    ∙ ap (λ write. held_after_answer (list_any (confirms (Block station number)) (judged_by history arrival)) write (may_hold (without_stale history) station number)) (without-write history station number)
    ∙ ap (held_after_answer (list_any (confirms (Block station number)) (judged_by history arrival)) (last_write history station number)) (without-held history station number))

pub without-unplugged : (history : History) (station : ℕ) → is_unplugged (without_stale history) station ≡ is_unplugged history station
without-unplugged [] station = refl
without-unplugged (Opened groups ∷ history) station = refl
without-unplugged (Edited edit ∷ history) station =
    ap (λ b. b && not (is_in_line (Edited edit ∷ without_stale history) station)) (without-unplugged history station)
    ∙ ap (λ state. is_unplugged history station && not (is_some (slave_at (state_after state edit) station))) (without-state history)
without-unplugged (Posted task bytes ∷ history) station = without-unplugged history station
without-unplugged (Forgot other ∷ history) station = without-unplugged history station
without-unplugged (Cleared other ∷ history) station = without-unplugged history station
without-unplugged (Unplugged other ∷ history) station = ap (λ b. (station == other) || b) (without-unplugged history station)
without-unplugged (Sent frame ∷ history) station = without-unplugged history station
without-unplugged (Wrote blocks ∷ history) station = without-unplugged history station
without-unplugged (Came arrival ∷ history) station =
    came_skips (λ record'. is_unplugged record' station) (is_stale_to history arrival) arrival (without_stale history) refl ∙ without-unplugged history station

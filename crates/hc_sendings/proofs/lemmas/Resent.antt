-- A frame that is sent ends the datagrams that it carries again, in the stored state as in the record.
use Rattle.std.proofs.Common.{◌≡◌, ℕ, ◌==◌, ◌<◌, Bool, true, false, cond, not, ◌&&◌, ◌||◌, List, [], ◌∷◌, ◌++◌, filter, map, refl, sym, ap, ◌∙◌, arith, Option, Some, None}
use Rattle.std.specs.Prelude.{All, AllPairs, find, option_and_then, option_map}
use Rattle.std.specs.Option.{option_or}
use Rattle.std.specs.List.{list_any}
use Rattle.std.proofs.lemmas.Bool.{ne_eqb, not-true}
use Rattle.std.proofs.lemmas.Bool.Decides.{nat_tests}
use Rattle.std.proofs.lemmas.List.Elements.{All-head, All-tail, filter-append}
use Rattle.std.proofs.lemmas.Grind.{common_steps}
use Rattle.hc_records.specs.Line.{Member}
use Rattle.hc_records.proofs.lemmas.Lists.{AllPairs-head, AllPairs-tail}
use Rattle.hc_records.proofs.lemmas.Choices.{by_bool}
use Rattle.hc_events.specs.Entries.{HistoryEntry, History, Sent}
use Rattle.hc_events.specs.Points.{line_of, next_serial}
use Rattle.hc_events.specs.Sendings.{Frame, Named}
use Rattle.hc_events.specs.Heads.{Block, Datagram, Head, Item, data_heads}
use Rattle.hc_events.specs.Answering.{Sending, followed_by, is_dropped, is_outdated, sending_of_heads, sending_of, sends}
use Rattle.hc_events.specs.Awaited.{still_awaited, all_outdated, awaited}
use Rattle.hc_events.proofs.lemmas.Awaited.{awaited_other, awaited-new_answer, unless_again}
use Rattle.hc_sendings.specs.Waiting as waiting
use Rattle.hc_sendings.specs.Waiting.{AwaitedFrame, AwaitedWrite, AwaitedDatagram, Waiting, as_sent, is_still_awaited, sent, sent_again, with_again}
use Rattle.hc_sendings.specs.Judging.{Due, due_of, due_with, found_frame, found_write, frame_due, write_due}
use Rattle.hc_sendings.proofs.lemmas.Rewritten.{IsStoredWrite, stored-write, sent-dues, some-last_sent, written-below}
use Rattle.hc_sendings.specs.History.{KeepsAwaited, due_by, due_in, dues_of}

-- the due datagrams of a sending after a frame with these datagrams; none if all were sent again

abbrev again : List Named → Due → Due
again frame due = record { head = due.head; last_sent = due.last_sent && not (sends due.head.item (Sent frame)) }

abbrev is_last_sent : Due → Bool
is_last_sent due = due.last_sent

abbrev left_by : List Named → List Due → Option (List Due)
left_by frame dues = cond (list_any is_last_sent (map (again frame) dues)) (Some (map (again frame) dues)) None

-- by the record

not_or : (a b : Bool) → (not b && not a) ≡ not (a || b)
not_or a b = grind (arith, common_steps)

or_turned : (a x l : Bool) → (x || (a || l)) ≡ (a || (x || l))
or_turned a x l = grind (arith, common_steps)

-- a datagram is out of date after a frame where the frame sends it again, or it was before
outdated_sent : (item : Item) (frame : List Named) (since : List HistoryEntry) → (sends item (Sent frame) || is_outdated item since) ≡ is_outdated item (Sent frame ∷ since)
outdated_sent (Datagram task d) frame since = refl
outdated_sent (Block station number) frame since = or_turned (is_dropped (Block station number) since) (sends (Block station number) (Sent frame)) (list_any (sends (Block station number)) since)

dues_again : (frame : List Named) (since : List HistoryEntry) (heads : List Head) → map (again frame) (map (due_in since) heads) ≡ map (due_in (Sent frame ∷ since)) heads
dues_again frame since [] = refl
dues_again frame since (head ∷ heads) =
    ap (λ last_sent. let due : Due = record { head = head; last_sent = last_sent } in due ∷ map (again frame) (map (due_in since) heads))
    (not_or (sends head.item (Sent frame)) (is_outdated head.item since) ∙ ap not (outdated_sent head.item frame since))
    ∙ ap (λ rest. due_in (Sent frame ∷ since) head ∷ rest) (dues_again frame since heads)

dues_unless : (over : Bool) (sending : Sending) → option_map dues_of (cond over None (Some sending)) ≡ cond (not over) (Some (dues_of sending)) None
dues_unless true sending = refl
dues_unless false sending = refl

one_left : (frame : List Named) (sending : Sending) → option_map dues_of (unless_again (Sent frame) sending) ≡ left_by frame (dues_of sending)
one_left frame sending =
    dues_unless (all_outdated (Sent frame ∷ sending.since) sending.heads) (followed_by (Sent frame) sending)
    ∙ ap (λ some. cond some (Some (map (due_in (Sent frame ∷ sending.since)) sending.heads)) None) (sym (some-last_sent (Sent frame ∷ sending.since) sending.heads))
    ∙ ap (λ dues. cond (list_any is_last_sent dues) (Some dues) None) (sym (dues_again frame sending.since sending.heads))

found_left : (frame : List Named) (found : Option Sending) → option_map dues_of (option_and_then (unless_again (Sent frame)) found) ≡ option_and_then (left_by frame) (option_map dues_of found)
found_left frame None = refl
found_left frame (Some sending) = one_left frame sending

due_sent : (history : History) (first : Named) (others : List Named) (serial : ℕ) → due_by (Sent (first ∷ others) ∷ history) serial
    ≡ cond (next_serial history == serial) (Some (dues_of (sending_of_heads (data_heads (line_of history) (first ∷ others))))) (option_and_then (left_by (first ∷ others)) (due_by history serial))
due_sent history first others serial =
    by_bool (next_serial history == serial)
    (λ t. ap (λ b. option_map dues_of (option_and_then (still_awaited serial) (cond b (Some (sending_of_heads (data_heads (line_of history) (first ∷ others)))) (option_map (followed_by (Sent (first ∷ others))) (sending_of history serial))))) t
    ∙ sym (ap (λ b. cond b (Some (dues_of (sending_of_heads (data_heads (line_of history) (first ∷ others))))) (option_and_then (left_by (first ∷ others)) (due_by history serial))) t))
    (λ t. ap (λ b. option_map dues_of (option_and_then (still_awaited serial) (cond b (Some (sending_of_heads (data_heads (line_of history) (first ∷ others)))) (option_map (followed_by (Sent (first ∷ others))) (sending_of history serial))))) t
    ∙ ap (option_map dues_of) (awaited_other serial (Sent (first ∷ others)) (λ heads. refl) refl (sending_of history serial))
    ∙ found_left (first ∷ others) (awaited history serial)
    ∙ sym (ap (λ b. cond b (Some (dues_of (sending_of_heads (data_heads (line_of history) (first ∷ others))))) (option_and_then (left_by (first ∷ others)) (due_by history serial))) t))

-- by the stored state

dues_with : (line : List Member) (frame : List Named) (carried : List AwaitedDatagram) → map (due_of line) (map (sent_again frame) carried) ≡ map (again frame) (map (due_of line) carried)
dues_with line frame [] = refl
dues_with line frame (one ∷ carried) = ap (λ rest. again frame (due_of line one) ∷ rest) (dues_with line frame carried)

awaited_due : (line : List Member) (carried : List AwaitedDatagram) → list_any (λ one. one.last_sent) carried ≡ list_any is_last_sent (map (due_of line) carried)
awaited_due line [] = refl
awaited_due line (one ∷ carried) = ap (λ b. one.last_sent || b) (awaited_due line carried)

due_if : (line : List Member) (keep : Bool) (frame : AwaitedFrame) → option_map (frame_due line) (cond keep (Some frame) None) ≡ cond keep (Some (frame_due line frame)) None
due_if line true frame = refl
due_if line false frame = refl

unchanged_left : (line : List Member) (frame : List Named) (stored : AwaitedFrame)
    → option_map (frame_due line) (cond (is_still_awaited (with_again frame stored)) (Some (with_again frame stored)) None) ≡ left_by frame (frame_due line stored)
unchanged_left line frame stored =
    due_if line (is_still_awaited (with_again frame stored)) (with_again frame stored)
    ∙ ap (λ some. cond some (Some (frame_due line (with_again frame stored))) None) (awaited_due line (map (sent_again frame) stored.datagrams))
    ∙ ap (λ dues. cond (list_any is_last_sent dues) (Some dues) None) (dues_with line frame stored.datagrams)

due_either : (line : List Member) (keep : Bool) (a b : Option AwaitedFrame) → option_map (frame_due line) (cond keep a b) ≡ cond keep (option_map (frame_due line) a) (option_map (frame_due line) b)
due_either line true a b = refl
due_either line false a b = refl

-- a serial is found among frames with others, and a last one

abbrev has_number : ℕ → AwaitedFrame → Bool
has_number serial frame = frame.serial == serial

find_first : (serial : ℕ) (keep : Bool) (frame : AwaitedFrame) (rest more : List AwaitedFrame) → find (has_number serial) (cond keep (frame ∷ rest) rest ++ more)
    ≡ cond keep (cond (has_number serial frame) (Some frame) (find (has_number serial) (rest ++ more))) (find (has_number serial) (rest ++ more))
find_first serial true frame rest more = refl
find_first serial false frame rest more = refl

not_above : (own other serial : ℕ) → (own == serial) ≡ true → own < other → (other == serial) ≡ false
not_above own other serial e less = grind (arith, nat_tests)

none_above : (own serial : ℕ) (frames : List AwaitedFrame) → (own == serial) ≡ true → All (λ frame. own < frame.serial) frames → find (has_number serial) frames ≡ None
none_above own serial [] e all = refl
none_above own serial (frame ∷ frames) e all =
    ap (λ b. cond b (Some frame) (find (has_number serial) frames)) (not_above own frame.serial serial e (All-head (λ (f : AwaitedFrame). own < f.serial) frame frames all))
    ∙ none_above own serial frames e (All-tail (λ (f : AwaitedFrame). own < f.serial) frame frames all)

either_same : {X : Type 0} (b : Bool) (x : X) → cond b x x ≡ x
either_same true x = refl
either_same false x = refl

abbrev pub Ascend : List AwaitedFrame → Type 0
Ascend frames = AllPairs (λ a b. a.serial < b.serial) frames

abbrev pub Below : ℕ → List AwaitedFrame → Type 0
Below serial frames = All (λ frame. frame.serial < serial) frames

found_sent : (line : List Member) (last : Frame) (serial : ℕ) (frames : List AwaitedFrame) → Ascend frames → Below last.serial frames
    → option_map (frame_due line) (find (has_number serial) (filter is_still_awaited (map (with_again last.datagrams) frames) ++ as_sent last ∷ []))
    ≡ cond (last.serial == serial) (Some (frame_due line (as_sent last))) (option_and_then (left_by last.datagrams) (option_map (frame_due line) (find (has_number serial) frames)))
found_sent line last serial [] ascend below = due_if line (last.serial == serial) (as_sent last)
found_sent line last serial (frame ∷ frames) ascend below =
    let stored = filter is_still_awaited (map (with_again last.datagrams) frames) in
    let more = as_sent last ∷ [] in
    let keep = is_still_awaited (with_again last.datagrams frame) in
    let rest = found_sent line last serial frames (AllPairs-tail (λ (a b : AwaitedFrame). a.serial < b.serial) frame frames ascend) (All-tail (λ (f : AwaitedFrame). f.serial < last.serial) frame frames below) in
    ap (option_map (frame_due line)) (find_first serial keep (with_again last.datagrams frame) stored more)
    ∙ by_bool (frame.serial == serial)
    (λ t. let none : find (has_number serial) frames ≡ None = none_above frame.serial serial frames t (AllPairs-head (λ (a b : AwaitedFrame). a.serial < b.serial) frame frames ascend) in
    let other : (last.serial == serial) ≡ false = not_above frame.serial last.serial serial t (All-head (λ (f : AwaitedFrame). f.serial < last.serial) frame frames below) in
    let gone : option_map (frame_due line) (find (has_number serial) (stored ++ more)) ≡ None =
    rest ∙ ap (λ b. cond b (Some (frame_due line (as_sent last))) (option_and_then (left_by last.datagrams) (option_map (frame_due line) (find (has_number serial) frames)))) other
    ∙ ap (λ found. option_and_then (left_by last.datagrams) (option_map (frame_due line) found)) none in
    ap (λ b. option_map (frame_due line) (cond keep (cond b (Some (with_again last.datagrams frame)) (find (has_number serial) (stored ++ more))) (find (has_number serial) (stored ++ more)))) t
    ∙ due_either line keep (Some (with_again last.datagrams frame)) (find (has_number serial) (stored ++ more))
    ∙ ap (λ found. cond keep (Some (frame_due line (with_again last.datagrams frame))) found) gone
    ∙ sym (due_if line keep (with_again last.datagrams frame))
    ∙ unchanged_left line last.datagrams frame
    ∙ sym (ap (λ b. cond b (Some (frame_due line (as_sent last))) (left_by last.datagrams (frame_due line frame))) other)
    ∙ sym (ap (λ b. cond (last.serial == serial) (Some (frame_due line (as_sent last))) (option_and_then (left_by last.datagrams) (option_map (frame_due line) (cond b (Some frame) (find (has_number serial) frames))))) t))
    (λ t. ap (λ b. option_map (frame_due line) (cond keep (cond b (Some (with_again last.datagrams frame)) (find (has_number serial) (stored ++ more))) (find (has_number serial) (stored ++ more)))) t
    ∙ ap (option_map (frame_due line)) (either_same keep (find (has_number serial) (stored ++ more)))
    ∙ rest
    ∙ sym (ap (λ b. cond (last.serial == serial) (Some (frame_due line (as_sent last))) (option_and_then (left_by last.datagrams) (option_map (frame_due line) (cond b (Some frame) (find (has_number serial) frames))))) t))

no_write : (line : List Member) (stored : Waiting) (serial : ℕ) → found_write serial stored ≡ None → due_with line stored serial ≡ option_map (frame_due line) (found_frame serial stored)
no_write line stored serial none =
    ap (λ write. option_or (option_map write_due write) (option_map (frame_due line) (found_frame serial stored))) none

pub sent-frames : (last : Frame) (frames : List AwaitedFrame) → is_still_awaited (as_sent last) ≡ true
    → filter is_still_awaited (map (with_again last.datagrams) frames ++ as_sent last ∷ []) ≡ filter is_still_awaited (map (with_again last.datagrams) frames) ++ as_sent last ∷ []
sent-frames last frames still_awaited =
    filter-append is_still_awaited (map (with_again last.datagrams) frames) (as_sent last ∷ [])
    ∙ ap (λ b. filter is_still_awaited (map (with_again last.datagrams) frames) ++ cond b (as_sent last ∷ []) []) still_awaited

due_unchanged : (line : List Member) (last : Frame) (stored : Waiting) (serial : ℕ) → is_still_awaited (as_sent last) ≡ true → found_write serial stored ≡ None → Ascend stored.frames → Below last.serial stored.frames
    → due_with line (sent stored last) serial
    ≡ cond (last.serial == serial) (Some (frame_due line (as_sent last))) (option_and_then (left_by last.datagrams) (due_with line stored serial))
due_unchanged line last stored serial still_awaited none ascend below =
    no_write line (sent stored last) serial none
    ∙ ap (λ frames. option_map (frame_due line) (find (has_number serial) frames)) (sent-frames last stored.frames still_awaited)
    ∙ found_sent line last serial stored.frames ascend below
    ∙ ap (λ found. cond (last.serial == serial) (Some (frame_due line (as_sent last))) (option_and_then (left_by last.datagrams) found)) (sym (no_write line stored serial none))

-- so both are the same after the frame

due_new : (line : List Member) (frame : List Named) → map (due_of line) (map waiting.just_sent frame) ≡ map (due_in []) (data_heads line frame)
due_new line [] = refl
due_new line (named ∷ frame) = ap (λ rest. due_of line (waiting.just_sent named) ∷ rest) (due_new line frame)

pub due-both : (history : History) (last : Frame) (first : Named) (others : List Named) (stored : Waiting) (serial : ℕ) → last.serial ≡ next_serial history → last.datagrams ≡ first ∷ others
    → found_write serial stored ≡ None → Ascend stored.frames → Below last.serial stored.frames → due_with (line_of history) stored serial ≡ due_by history serial
    → due_with (line_of history) (sent stored last) serial ≡ due_by (Sent last.datagrams ∷ history) serial
due-both history last first others stored serial number some none ascend below same =
    due_unchanged (line_of history) last stored serial (ap (λ (datagrams : List Named). list_any (λ (one : AwaitedDatagram). one.last_sent) (map waiting.just_sent datagrams)) some) none ascend below
    ∙ ap (λ found. cond (last.serial == serial) (Some (frame_due (line_of history) (as_sent last))) (option_and_then (left_by last.datagrams) found)) same
    ∙ ap (λ n. cond (n == serial) (Some (frame_due (line_of history) (as_sent last))) (option_and_then (left_by last.datagrams) (due_by history serial))) number
    ∙ ap (λ dues. cond (next_serial history == serial) (Some dues) (option_and_then (left_by last.datagrams) (due_by history serial))) (due_new (line_of history) last.datagrams)
    ∙ ap (λ frame. cond (next_serial history == serial) (Some (map (due_in []) (data_heads (line_of history) frame))) (option_and_then (left_by frame) (due_by history serial))) some
    ∙ sym (due_sent history first others serial)
    ∙ sym (ap (λ frame. due_by (Sent frame ∷ history) serial) some)

-- a write that is awaited says the same after it

still : (history : History) (serial : ℕ) (frame : List Named) (write : AwaitedWrite) (one : IsStoredWrite history serial write) → all_outdated (Sent frame ∷ one.sending.since) one.sending.heads ≡ false
still history serial frame write one =
    let since = one.sending.since in
    let heads = one.sending.heads in
    not-true (all_outdated (Sent frame ∷ since) heads)
    (sym (some-last_sent (Sent frame ∷ since) heads)
    ∙ ap (list_any is_last_sent) (sym (sent-dues frame since write.blocks heads one.dues) ∙ one.dues)
    ∙ some-last_sent since heads
    ∙ ap not (awaited-new_answer history serial one.sending one.there))

pub due-written : (history : History) (last : Frame) (stored : Waiting) (serial : ℕ) (write : AwaitedWrite) → KeepsAwaited history stored → found_write serial stored ≡ Some write → (next_serial history == serial) ≡ false
    → due_with (line_of history) (sent stored last) serial ≡ due_by (Sent last.datagrams ∷ history) serial
due-written history last stored serial write waits e other =
    let entry : HistoryEntry = Sent last.datagrams in
    let one = stored-write history stored serial write waits e in
    ap (λ found. option_or (option_map write_due found) (option_map (frame_due (line_of history)) (found_frame serial (sent stored last)))) e
    ∙ ap (λ (dues : List Due). Some dues) (sent-dues last.datagrams one.sending.since write.blocks one.sending.heads one.dues)
    ∙ sym (ap (λ b. option_map dues_of (cond b None (Some (followed_by entry one.sending)))) (still history serial last.datagrams write one))
    ∙ sym (ap (λ found. option_map dues_of (option_and_then (unless_again entry) found)) one.there)
    ∙ sym (ap (option_map dues_of) (awaited_other serial entry (λ heads. refl) refl (sending_of history serial)))
    ∙ sym (ap (λ b. option_map dues_of (option_and_then (still_awaited serial) (cond b (Some (sending_of_heads (data_heads (line_of history) last.datagrams))) (option_map (followed_by entry) (sending_of history serial))))) other)

pub due-sent : (history : History) (last : Frame) (first : Named) (others : List Named) (stored : Waiting) (serial : ℕ) (found : Option AwaitedWrite) → last.serial ≡ next_serial history → last.datagrams ≡ first ∷ others
    → KeepsAwaited history stored → Below last.serial stored.frames → found_write serial stored ≡ found
    → due_with (line_of history) (sent stored last) serial ≡ due_by (Sent last.datagrams ∷ history) serial
due-sent history last first others stored serial None number some waits below e = due-both history last first others stored serial number some e waits.ascend below (waits.due serial)
due-sent history last first others stored serial (Some write) number some waits below e =
    due-written history last stored serial write waits e (let given = written-below history stored serial write waits e in ne_eqb (next_serial history) serial (λ same. omega (arith, given, same)))

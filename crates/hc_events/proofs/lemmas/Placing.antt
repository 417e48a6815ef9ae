-- The place of the sending with a serial in a record.
use Rattle.std.proofs.Common.{◌≡◌, ℕ, ◌+◌, ◌<◌, ◌==◌, Bool, true, false, cond, ◌||◌, List, [], ◌∷◌, ◌++◌, refl, sym, ap, ◌∙◌, subst, arith, Option, Some, None}
use Rattle.std.specs.Prelude.{option_map}
use Rattle.std.specs.List.{list_any}
use Rattle.std.proofs.lemmas.Bool.{eqb-true}
use Rattle.hc_records.proofs.lemmas.Choices.{is_other}
use Rattle.hc_events.specs.Entries.{HistoryEntry, History, Opened, Edited, Posted, Sent, Wrote, Came, Forgot, Cleared, Unplugged}
use Rattle.hc_events.specs.Points.{line_of, next_serial}
use Rattle.hc_events.specs.Heads.{data_heads, write_heads}
use Rattle.hc_events.specs.Answering.{Sending, sending_of_heads, followed_by, sending_of}
use Rattle.hc_events.specs.SendingLaws.{IsSendingAt, heads_of, is_opening, is_sending}
use Rattle.hc_events.proofs.lemmas.Awaited.{same_is}
use Rattle.hc_events.proofs.lemmas.Once.{below_more}

-- from what is found to where it is

abbrev IsPlaced : History → ℕ → Option Sending → Type 0
IsPlaced history serial found = (sending : Sending) → found ≡ Some sending → IsSendingAt history serial sending

moved_on : (entry : HistoryEntry) → is_opening entry ≡ false → (history : History) (serial : ℕ) (found : Option Sending) → IsPlaced history serial found → IsPlaced (entry ∷ history) serial (option_map (followed_by entry) found)
moved_on entry plain history serial None is_placed = λ sending e. cc
moved_on entry plain history serial (Some older) is_placed = λ sending e.
    let same : followed_by entry older ≡ sending = cc in
    let at = is_placed older refl in
    subst (IsSendingAt (entry ∷ history) serial) same (record {
      before = at.before;
      entry = at.entry;
      split = ap (λ entries. entry ∷ entries) at.split;
      sends = at.sends;
      serial_is = at.serial_is;
      heads = at.heads;
      running = ap (λ b. b || list_any is_opening older.since) plain ∙ at.running;
    })

made_now : (history : History) (entry : HistoryEntry) → is_sending entry ≡ true → (serial : ℕ) → next_serial history ≡ serial → IsPlaced (entry ∷ history) serial (Some (sending_of_heads (heads_of history entry)))
made_now history entry sends serial number = λ sending e.
    let same : sending_of_heads (heads_of history entry) ≡ sending = cc in
    subst (IsSendingAt (entry ∷ history) serial) same (record { before = history; entry = entry; split = refl; sends = sends; serial_is = number; heads = refl; running = refl })

is_placed_either : (history : History) (serial : ℕ) (c : Bool) (first rest : Option Sending) → (c ≡ true → IsPlaced history serial first) → IsPlaced history serial rest → IsPlaced history serial (cond c first rest)
is_placed_either history serial true first rest now older = now refl
is_placed_either history serial false first rest now older = older

pub is_placed-at : (history : History) (serial : ℕ) (sending : Sending) → sending_of history serial ≡ Some sending → IsSendingAt history serial sending
is_placed-at [] serial = λ sending e. cc
is_placed-at (Opened groups ∷ history) serial = λ sending e. cc
is_placed-at (Edited edit ∷ history) serial = moved_on (Edited edit) refl history serial (sending_of history serial) (is_placed-at history serial)
is_placed-at (Posted task bytes ∷ history) serial = moved_on (Posted task bytes) refl history serial (sending_of history serial) (is_placed-at history serial)
is_placed-at (Forgot station ∷ history) serial = moved_on (Forgot station) refl history serial (sending_of history serial) (is_placed-at history serial)
is_placed-at (Cleared station ∷ history) serial = moved_on (Cleared station) refl history serial (sending_of history serial) (is_placed-at history serial)
is_placed-at (Unplugged station ∷ history) serial = moved_on (Unplugged station) refl history serial (sending_of history serial) (is_placed-at history serial)
is_placed-at (Came arrival ∷ history) serial = moved_on (Came arrival) refl history serial (sending_of history serial) (is_placed-at history serial)
is_placed-at (Sent frame ∷ history) serial =
    is_placed_either (Sent frame ∷ history) serial (next_serial history == serial) (Some (sending_of_heads (data_heads (line_of history) frame))) (option_map (followed_by (Sent frame)) (sending_of history serial))
    (λ t. made_now history (Sent frame) refl serial (eqb-true (next_serial history) serial t))
    (moved_on (Sent frame) refl history serial (sending_of history serial) (is_placed-at history serial))
is_placed-at (Wrote blocks ∷ history) serial =
    is_placed_either (Wrote blocks ∷ history) serial (next_serial history == serial) (Some (sending_of_heads (write_heads blocks))) (option_map (followed_by (Wrote blocks)) (sending_of history serial))
    (λ t. made_now history (Wrote blocks) refl serial (eqb-true (next_serial history) serial t))
    (moved_on (Wrote blocks) refl history serial (sending_of history serial) (is_placed-at history serial))

-- and back

one_more : (n : ℕ) → n < n + 1
one_more n = omega arith

sent_counts : (before : History) (entry : HistoryEntry) → is_sending entry ≡ true → next_serial before < next_serial (entry ∷ before)
sent_counts before (Opened groups) sends = cc
sent_counts before (Edited edit) sends = cc
sent_counts before (Posted task bytes) sends = cc
sent_counts before (Forgot station) sends = cc
sent_counts before (Cleared station) sends = cc
sent_counts before (Unplugged station) sends = cc
sent_counts before (Came arrival) sends = cc
sent_counts before (Sent frame) sends = one_more (next_serial before)
sent_counts before (Wrote blocks) sends = one_more (next_serial before)

-- after a sending the next serial is above its own
serial-above : (since : List HistoryEntry) (before : History) (entry : HistoryEntry) → is_sending entry ≡ true → list_any is_opening since ≡ false → next_serial before < next_serial (since ++ entry ∷ before)
serial-above [] before entry sends running = sent_counts before entry sends
serial-above (Opened groups ∷ since) before entry sends running = cc
serial-above (Edited edit ∷ since) before entry sends running = serial-above since before entry sends running
serial-above (Posted task bytes ∷ since) before entry sends running = serial-above since before entry sends running
serial-above (Forgot station ∷ since) before entry sends running = serial-above since before entry sends running
serial-above (Cleared station ∷ since) before entry sends running = serial-above since before entry sends running
serial-above (Unplugged station ∷ since) before entry sends running = serial-above since before entry sends running
serial-above (Came arrival ∷ since) before entry sends running = serial-above since before entry sends running
serial-above (Sent frame ∷ since) before entry sends running = below_more _ _ (serial-above since before entry sends running)
serial-above (Wrote blocks ∷ since) before entry sends running = below_more _ _ (serial-above since before entry sends running)

found_now : (before : History) (entry : HistoryEntry) → is_sending entry ≡ true → sending_of (entry ∷ before) (next_serial before) ≡ Some (sending_of_heads (heads_of before entry))
found_now before (Opened groups) sends = cc
found_now before (Edited edit) sends = cc
found_now before (Posted task bytes) sends = cc
found_now before (Forgot station) sends = cc
found_now before (Cleared station) sends = cc
found_now before (Unplugged station) sends = cc
found_now before (Came arrival) sends = cc
found_now before (Sent frame) sends = rw (same_is (next_serial before)) refl
found_now before (Wrote blocks) sends = rw (same_is (next_serial before)) refl

-- the sending at a point of a record, with the entries since
abbrev pub sent_at : List HistoryEntry → History → HistoryEntry → Sending
sent_at since before entry = record { heads = heads_of before entry; since = since }

pub passed_by : (serial next : ℕ) (now : Option Sending) (entry : HistoryEntry) (found : Option Sending) (older : Sending) → serial < next → found ≡ Some older → cond (next == serial) now (option_map (followed_by entry) found) ≡ Some (followed_by entry older)
passed_by serial next now entry found older less e = rw (is_other serial next less) (ap (option_map (followed_by entry)) e)

pub found-under : (since : List HistoryEntry) (before : History) (entry : HistoryEntry) → is_sending entry ≡ true → list_any is_opening since ≡ false → sending_of (since ++ entry ∷ before) (next_serial before) ≡ Some (sent_at since before entry)
found-under [] before entry sends running = found_now before entry sends
found-under (Opened groups ∷ since) before entry sends running = cc
found-under (Edited edit ∷ since) before entry sends running = ap (option_map (followed_by (Edited edit))) (found-under since before entry sends running)
found-under (Posted task bytes ∷ since) before entry sends running = ap (option_map (followed_by (Posted task bytes))) (found-under since before entry sends running)
found-under (Forgot station ∷ since) before entry sends running = ap (option_map (followed_by (Forgot station))) (found-under since before entry sends running)
found-under (Cleared station ∷ since) before entry sends running = ap (option_map (followed_by (Cleared station))) (found-under since before entry sends running)
found-under (Unplugged station ∷ since) before entry sends running = ap (option_map (followed_by (Unplugged station))) (found-under since before entry sends running)
found-under (Came arrival ∷ since) before entry sends running = ap (option_map (followed_by (Came arrival))) (found-under since before entry sends running)
found-under (Sent frame ∷ since) before entry sends running =
    passed_by (next_serial before) (next_serial (since ++ entry ∷ before)) _ (Sent frame) (sending_of (since ++ entry ∷ before) (next_serial before)) (sent_at since before entry)
    (serial-above since before entry sends running) (found-under since before entry sends running)
found-under (Wrote blocks ∷ since) before entry sends running =
    passed_by (next_serial before) (next_serial (since ++ entry ∷ before)) _ (Wrote blocks) (sending_of (since ++ entry ∷ before) (next_serial before)) (sent_at since before entry)
    (serial-above since before entry sends running) (found-under since before entry sends running)

pub standing-found : (history : History) (serial : ℕ) (sending : Sending) → IsSendingAt history serial sending → sending_of history serial ≡ Some sending
standing-found history serial sending at =
    ap (λ entries. sending_of entries serial) at.split
    ∙ ap (sending_of (sending.since ++ at.entry ∷ at.before)) (sym at.serial_is)
    ∙ found-under sending.since at.before at.entry at.sends at.running
    ∙ ap (λ heads. Some (record { heads = heads; since = sending.since })) (sym at.heads)

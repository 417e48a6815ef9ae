-- An arrival answers a sending as its first answer, of the present line, and what is awaited is what is answered.
use Rattle.std.proofs.Common.{◌≡◌, ℕ, ◌==◌, Bool, true, false, cond, not, ◌&&◌, ◌||◌, List, [], ◌∷◌, ◌++◌, filter, refl, sym, ap, ◌∙◌, subst, Option, Some, None}
use Rattle.std.specs.Prelude.{All, Contains, option_and_then}
use Rattle.std.specs.Option.{option_map_or}
use Rattle.std.specs.List.{list_any, zip}
use Rattle.std.proofs.lemmas.Bool.{and_parts, eq-eqb, eqb-true, not-true, or_parts}
use Rattle.std.proofs.lemmas.List.Elements.{All-nil, All-cons, All-head, All-tail, All-contains_itself}
use Rattle.std.proofs.lemmas.Option.{same_Some}
use Rattle.hc_records.specs.Line.{Member}
use Rattle.hc_registers.specs.Blocks.{LineBlock, line_blocks}
use Rattle.hc_records.proofs.lemmas.Lists.{All-passing}
use Rattle.hc_records.proofs.lemmas.Choices.{by_bool}
use Rattle.hc_events.specs.Arrivals.{Arrival}
use Rattle.hc_events.specs.Entries.{HistoryEntry, History, Opened, Edited, Posted, Sent, Wrote, Came, Forgot, Cleared, Unplugged}
use Rattle.hc_events.specs.Points.{line_of}
use Rattle.hc_events.specs.Sendings.{Named}
use Rattle.hc_events.specs.Heads.{Head, data_head, data_heads, write_head, write_heads}
use Rattle.hc_events.specs.Answering.{Sending, answered_by, ends, fits_sending, has_heads, is_answer, is_current, is_stale_to, judged, only_if, sending_of}
use Rattle.hc_events.specs.Awaited.{still_awaited, all_outdated, is_ended, is_no_arrival}
use Rattle.hc_events.specs.Owed.{is_owed, owed_blocks}
use Rattle.hc_events.specs.Accepted.{AreAccepted, IsAccepted, IsWrite, IsInLine}
use Rattle.hc_events.specs.SendingLaws.{heads_of, is_opening, is_sending}
use Rattle.hc_events.specs.AnswerLaws.{AnswersTheAwaited, IsAnsweredAs, IsAwaited, IsFirstAnswer, IsHeadOf, LeavesAwaited}
use Rattle.hc_events.proofs.lemmas.Awaited.{judged-filter, updates-is, same_is}
use Rattle.hc_events.proofs.lemmas.Fronts.{written-all}
use Rattle.hc_events.proofs.lemmas.Once.{only-if_some}
use Rattle.hc_events.proofs.lemmas.Placing.{standing-found, is_placed-at}

-- entries that leave a sending open are those that don't end it

left_by_arrival : (serial : ℕ) (heads : List Head) (other : Arrival) → fits_sending serial heads other ≡ false → LeavesAwaited serial heads (Came other)
left_by_arrival serial heads other none = λ same.
    sym (ap (λ b. b && has_heads heads other.parts) (eq-eqb serial other.serial (sym same))) ∙ none

pub still_open : (serial : ℕ) (heads : List Head) (since : List HistoryEntry) → list_any is_opening since ≡ false → list_any (ends serial heads) since ≡ false → All (LeavesAwaited serial heads) since
still_open serial heads [] running none = All-nil (LeavesAwaited serial heads)
still_open serial heads (Opened groups ∷ since) running none = cc
still_open serial heads (Edited edit ∷ since) running none = cc
still_open serial heads (Posted task bytes ∷ since) running none = All-cons (LeavesAwaited serial heads) (Posted task bytes) since tt (still_open serial heads since running none)
still_open serial heads (Forgot station ∷ since) running none = All-cons (LeavesAwaited serial heads) (Forgot station) since tt (still_open serial heads since running none)
still_open serial heads (Cleared station ∷ since) running none = All-cons (LeavesAwaited serial heads) (Cleared station) since tt (still_open serial heads since running none)
still_open serial heads (Unplugged station ∷ since) running none = All-cons (LeavesAwaited serial heads) (Unplugged station) since tt (still_open serial heads since running none)
still_open serial heads (Sent frame ∷ since) running none = All-cons (LeavesAwaited serial heads) (Sent frame) since tt (still_open serial heads since running none)
still_open serial heads (Wrote blocks ∷ since) running none = All-cons (LeavesAwaited serial heads) (Wrote blocks) since tt (still_open serial heads since running none)
still_open serial heads (Came other ∷ since) running none =
    let parts = or_parts (fits_sending serial heads other) (list_any (ends serial heads) since) none in
    All-cons (LeavesAwaited serial heads) (Came other) since (left_by_arrival serial heads other parts.0) (still_open serial heads since running parts.1)

unfit : (serial : ℕ) (heads : List Head) (other : Arrival) → LeavesAwaited serial heads (Came other) → fits_sending serial heads other ≡ false
unfit serial heads other leaves =
    by_bool (serial == other.serial)
    (λ t. let none : has_heads heads other.parts ≡ false = leaves (sym (eqb-true serial other.serial t)) in rw (t, none) refl)
    (λ t. rw t refl)

pub none-ends : (serial : ℕ) (heads : List Head) (since : List HistoryEntry) → All (LeavesAwaited serial heads) since → list_any (ends serial heads) since ≡ false
none-ends serial heads [] all = refl
none-ends serial heads (Opened groups ∷ since) all = absurd (All-head (LeavesAwaited serial heads) (Opened groups) since all)
none-ends serial heads (Edited edit ∷ since) all = absurd (All-head (LeavesAwaited serial heads) (Edited edit) since all)
none-ends serial heads (Posted task bytes ∷ since) all = none-ends serial heads since (All-tail (LeavesAwaited serial heads) (Posted task bytes) since all)
none-ends serial heads (Forgot station ∷ since) all = none-ends serial heads since (All-tail (LeavesAwaited serial heads) (Forgot station) since all)
none-ends serial heads (Cleared station ∷ since) all = none-ends serial heads since (All-tail (LeavesAwaited serial heads) (Cleared station) since all)
none-ends serial heads (Unplugged station ∷ since) all = none-ends serial heads since (All-tail (LeavesAwaited serial heads) (Unplugged station) since all)
none-ends serial heads (Sent frame ∷ since) all = none-ends serial heads since (All-tail (LeavesAwaited serial heads) (Sent frame) since all)
none-ends serial heads (Wrote blocks ∷ since) all = none-ends serial heads since (All-tail (LeavesAwaited serial heads) (Wrote blocks) since all)
none-ends serial heads (Came other ∷ since) all =
    ap (λ b. b || list_any (ends serial heads) since) (unfit serial heads other (All-head (LeavesAwaited serial heads) (Came other) since all))
    ∙ none-ends serial heads since (All-tail (LeavesAwaited serial heads) (Came other) since all)

pub none-opened : (serial : ℕ) (heads : List Head) (since : List HistoryEntry) → All (LeavesAwaited serial heads) since → list_any is_opening since ≡ false
none-opened serial heads [] all = refl
none-opened serial heads (Opened groups ∷ since) all = absurd (All-head (LeavesAwaited serial heads) (Opened groups) since all)
none-opened serial heads (Edited edit ∷ since) all = none-opened serial heads since (All-tail (LeavesAwaited serial heads) (Edited edit) since all)
none-opened serial heads (Posted task bytes ∷ since) all = none-opened serial heads since (All-tail (LeavesAwaited serial heads) (Posted task bytes) since all)
none-opened serial heads (Forgot station ∷ since) all = none-opened serial heads since (All-tail (LeavesAwaited serial heads) (Forgot station) since all)
none-opened serial heads (Cleared station ∷ since) all = none-opened serial heads since (All-tail (LeavesAwaited serial heads) (Cleared station) since all)
none-opened serial heads (Unplugged station ∷ since) all = none-opened serial heads since (All-tail (LeavesAwaited serial heads) (Unplugged station) since all)
none-opened serial heads (Sent frame ∷ since) all = none-opened serial heads since (All-tail (LeavesAwaited serial heads) (Sent frame) since all)
none-opened serial heads (Wrote blocks ∷ since) all = none-opened serial heads since (All-tail (LeavesAwaited serial heads) (Wrote blocks) since all)
none-opened serial heads (Came other ∷ since) all = none-opened serial heads since (All-tail (LeavesAwaited serial heads) (Came other) since all)

-- a first answer is the answer

pub chosen : (test : Sending → Bool) (found : Option Sending) (sending : Sending) → found ≡ Some sending → test sending ≡ true → option_and_then (only_if test) found ≡ Some sending
chosen test found sending there passes = ap (option_and_then (only_if test)) there ∙ ap (λ b. cond b (Some sending) None) passes

pub answer-is : (arrival : Arrival) (sending : Sending) → has_heads sending.heads arrival.parts ≡ true → list_any (ends arrival.serial sending.heads) sending.since ≡ false → is_answer arrival sending ≡ true
answer-is arrival sending fit none = rw (same_is arrival.serial, fit, none) refl

first_answer : (history : History) (arrival : Arrival) (sending : Sending) → answered_by history arrival ≡ Some sending → IsFirstAnswer history arrival sending
first_answer history arrival sending e =
    let found = only-if_some (sending_of history arrival.serial) (is_answer arrival) sending e in
    let both = and_parts (fits_sending arrival.serial sending.heads arrival) _ found.1 in
    let at = is_placed-at history arrival.serial sending found.0 in
    record {
      sent = at;
      fits = (and_parts (arrival.serial == arrival.serial) _ both.0).1;
      left_open = still_open arrival.serial sending.heads sending.since at.running (not-true _ both.1);
    }

answer_first : (history : History) (arrival : Arrival) (sending : Sending) → IsFirstAnswer history arrival sending → answered_by history arrival ≡ Some sending
answer_first history arrival sending first =
    chosen (is_answer arrival) (sending_of history arrival.serial) sending (standing-found history arrival.serial sending first.sent)
    (answer-is arrival sending first.fits (none-ends arrival.serial sending.heads sending.since first.left_open))

pub answers-first : (history : History) (arrival : Arrival) (sending : Sending) → (answered_by history arrival ≡ Some sending → IsFirstAnswer history arrival sending) × (IsFirstAnswer history arrival sending → answered_by history arrival ≡ Some sending)
answers-first history arrival sending = (first_answer history arrival sending, answer_first history arrival sending)

-- an answered sending is of the present line

pub same_line : (serial : ℕ) (heads : List Head) (since : List HistoryEntry) (history : History) → All (LeavesAwaited serial heads) since → line_of (since ++ history) ≡ line_of history
same_line serial heads [] history all = refl
same_line serial heads (Opened groups ∷ since) history all = absurd (All-head (LeavesAwaited serial heads) (Opened groups) since all)
same_line serial heads (Edited edit ∷ since) history all = absurd (All-head (LeavesAwaited serial heads) (Edited edit) since all)
same_line serial heads (Posted task bytes ∷ since) history all = same_line serial heads since history (All-tail (LeavesAwaited serial heads) (Posted task bytes) since all)
same_line serial heads (Forgot station ∷ since) history all = same_line serial heads since history (All-tail (LeavesAwaited serial heads) (Forgot station) since all)
same_line serial heads (Cleared station ∷ since) history all = same_line serial heads since history (All-tail (LeavesAwaited serial heads) (Cleared station) since all)
same_line serial heads (Unplugged station ∷ since) history all = same_line serial heads since history (All-tail (LeavesAwaited serial heads) (Unplugged station) since all)
same_line serial heads (Sent frame ∷ since) history all = same_line serial heads since history (All-tail (LeavesAwaited serial heads) (Sent frame) since all)
same_line serial heads (Wrote blocks ∷ since) history all = same_line serial heads since history (All-tail (LeavesAwaited serial heads) (Wrote blocks) since all)
same_line serial heads (Came other ∷ since) history all = same_line serial heads since history (All-tail (LeavesAwaited serial heads) (Came other) since all)

same_sent : (before : History) (entry : HistoryEntry) → is_sending entry ≡ true → line_of (entry ∷ before) ≡ line_of before
same_sent before (Opened groups) sends = cc
same_sent before (Edited edit) sends = cc
same_sent before (Posted task bytes) sends = cc
same_sent before (Forgot station) sends = cc
same_sent before (Cleared station) sends = cc
same_sent before (Unplugged station) sends = cc
same_sent before (Came arrival) sends = cc
same_sent before (Sent frame) sends = refl
same_sent before (Wrote blocks) sends = refl

-- what lies after entries was accepted too
pub accepted-at : (since : List HistoryEntry) (before : History) (entry : HistoryEntry) → list_any is_opening since ≡ false → is_sending entry ≡ true → AreAccepted (since ++ entry ∷ before) → IsAccepted before entry
accepted-at [] before (Opened groups) running sends all = cc
accepted-at [] before (Edited edit) running sends all = cc
accepted-at [] before (Posted task bytes) running sends all = cc
accepted-at [] before (Forgot station) running sends all = cc
accepted-at [] before (Cleared station) running sends all = cc
accepted-at [] before (Unplugged station) running sends all = cc
accepted-at [] before (Came arrival) running sends all = cc
accepted-at [] before (Sent frame) running sends all = all.0
accepted-at [] before (Wrote blocks) running sends all = all.0
accepted-at (Opened groups ∷ since) before entry running sends all = cc
accepted-at (Edited edit ∷ since) before entry running sends all = accepted-at since before entry running sends all.1
accepted-at (Posted task bytes ∷ since) before entry running sends all = accepted-at since before entry running sends all.1
accepted-at (Forgot station ∷ since) before entry running sends all = accepted-at since before entry running sends all.1
accepted-at (Cleared station ∷ since) before entry running sends all = accepted-at since before entry running sends all.1
accepted-at (Unplugged station ∷ since) before entry running sends all = accepted-at since before entry running sends all.1
accepted-at (Sent frame ∷ since) before entry running sends all = accepted-at since before entry running sends all.1
accepted-at (Wrote blocks ∷ since) before entry running sends all = accepted-at since before entry running sends all.1
accepted-at (Came arrival ∷ since) before entry running sends all = accepted-at since before entry running sends all.1

frame_of_line : (line : List Member) (frame : List Named) → All (IsInLine line) frame → All (IsHeadOf line) (data_heads line frame)
frame_of_line line [] all = All-nil (IsHeadOf line)
frame_of_line line (named ∷ frame) all =
    All-cons (IsHeadOf line) (data_head line named) (data_heads line frame) (All-head (IsInLine line) named frame all, refl)
    (frame_of_line line frame (All-tail (IsInLine line) named frame all))

of_filter : (test : LineBlock → Bool) (blocks : List LineBlock) → All (Contains blocks) (filter test blocks)
of_filter test blocks = All-passing (Contains blocks) test blocks (λ k d within passes. All-contains_itself blocks k d within)

-- the owed blocks are of the line
pub owed-inside : (history : History) → All (Contains (line_blocks (line_of history))) (owed_blocks history)
owed-inside history = of_filter (is_owed history) (line_blocks (line_of history))

-- and so is the first of them
pub owed-in_line : (history : History) (block : LineBlock) (rest : List LineBlock) → owed_blocks history ≡ block ∷ rest → Contains (line_blocks (line_of history)) block
owed-in_line history block rest first =
    All-head (Contains (line_blocks (line_of history))) block rest
    (subst (All (Contains (line_blocks (line_of history)))) first (owed-inside history))

writes_of_line : (line : List Member) (blocks : List LineBlock) → All (Contains (line_blocks line)) blocks → All (IsHeadOf line) (write_heads blocks)
writes_of_line line [] all = All-nil (IsHeadOf line)
writes_of_line line (block ∷ blocks) all =
    All-cons (IsHeadOf line) (write_head block) (write_heads blocks) (block, All-head (Contains (line_blocks line)) block blocks all, refl)
    (writes_of_line line blocks (All-tail (Contains (line_blocks line)) block blocks all))

-- and what a frame writes
pub written-inside : (history : History) (blocks : List LineBlock) → IsWrite history blocks → All (Contains (line_blocks (line_of history))) blocks
written-inside history blocks write = written-all (Contains (line_blocks (line_of history))) history blocks write (owed-inside history)

heads_of_line : (before : History) (entry : HistoryEntry) → is_sending entry ≡ true → IsAccepted before entry → All (IsHeadOf (line_of before)) (heads_of before entry)
heads_of_line before (Opened groups) sends accepted = cc
heads_of_line before (Edited edit) sends accepted = cc
heads_of_line before (Posted task bytes) sends accepted = cc
heads_of_line before (Forgot station) sends accepted = cc
heads_of_line before (Cleared station) sends accepted = cc
heads_of_line before (Unplugged station) sends accepted = cc
heads_of_line before (Came arrival) sends accepted = cc
heads_of_line before (Sent frame) sends accepted = frame_of_line (line_of before) frame accepted.in_line
heads_of_line before (Wrote blocks) sends accepted =
    writes_of_line (line_of before) blocks (written-inside before blocks accepted)

of-line : (history : History) (arrival : Arrival) (sending : Sending) → AreAccepted history → IsFirstAnswer history arrival sending → All (IsHeadOf (line_of history)) sending.heads
of-line history arrival sending all first =
    let at = first.sent in
    let accepted = accepted-at sending.since at.before at.entry at.running at.sends (subst AreAccepted at.split all) in
    let line : line_of history ≡ line_of at.before =
    ap line_of at.split ∙ same_line arrival.serial sending.heads sending.since (at.entry ∷ at.before) first.left_open ∙ same_sent at.before at.entry at.sends in
    subst (λ heads. All (IsHeadOf (line_of history)) heads) (sym at.heads)
    (subst (λ members. All (IsHeadOf members) (heads_of at.before at.entry)) (sym line) (heads_of_line at.before at.entry at.sends accepted))

pub answered-of_line : (history : History) (arrival : Arrival) (sending : Sending) → AreAccepted history → answered_by history arrival ≡ Some sending → All (IsHeadOf (line_of history)) sending.heads
answered-of_line history arrival sending all e = of-line history arrival sending all (first_answer history arrival sending e)

-- what is awaited is what is answered

-- an awaited sending, as it was made
pub record IsStillAwaited (serial : ℕ) (found : Option Sending) (sending : Sending) : Type 0 where
  pub made : Sending
  pub there : found ≡ Some made
  pub goes_on : is_ended serial made ≡ false
  pub updates : all_outdated made.since made.heads ≡ false
  pub same : record { heads = made.heads; since = filter is_no_arrival made.since } ≡ sending

pub still_awaited-is : (serial : ℕ) (found : Option Sending) (sending : Sending) → option_and_then (still_awaited serial) found ≡ Some sending → IsStillAwaited serial found sending
still_awaited-is serial None sending e = cc
still_awaited-is serial (Some made) sending e =
    by_bool (is_ended serial made)
    (λ t. let never : None ≡ Some sending = rw t at e in cc)
    (λ t. by_bool (all_outdated made.since made.heads)
    (λ u. let never : None ≡ Some sending = rw (t, u) at e in cc)
    (λ u. let now : Some (record { heads = made.heads; since = filter is_no_arrival made.since }) ≡ Some sending = rw (t, u) at e in
    record { made = made; there = refl; goes_on = t; updates = u; same = same_Some _ sending now }))

answered_as : (history : History) (arrival : Arrival) (made sending : Sending) → sending_of history arrival.serial ≡ Some made → is_ended arrival.serial made ≡ false → has_heads made.heads arrival.parts ≡ true
    → record { heads = made.heads; since = filter is_no_arrival made.since } ≡ sending → IsAnsweredAs history arrival sending
answered_as history arrival made sending there goes_on fit same =
    let found : answered_by history arrival ≡ Some made = chosen (is_answer arrival) (sending_of history arrival.serial) made there (answer-is arrival made fit goes_on) in
    record {
      answered = made;
      found = found;
      heads = ap (λ s. s.heads) same;
      judged = ap (λ answer. option_map_or (judged arrival) answer []) found
          ∙ sym (judged-filter made.since (zip made.heads arrival.parts)) ∙ ap (judged arrival) same;
    }

answers_awaited : (history : History) (arrival : Arrival) (a : IsAwaited history arrival) → IsAnsweredAs history arrival a.sending
answers_awaited history arrival a =
    let live = still_awaited-is arrival.serial (sending_of history arrival.serial) a.sending a.there in
    answered_as history arrival live.made a.sending live.there live.goes_on (ap (λ s. has_heads s.heads arrival.parts) live.same ∙ a.fits) live.same

is_new_answer : (history : History) (arrival : Arrival) → IsAwaited history arrival → is_stale_to history arrival ≡ false
is_new_answer history arrival a =
    let live = still_awaited-is arrival.serial (sending_of history arrival.serial) a.sending a.there in
    let fit : has_heads live.made.heads arrival.parts ≡ true = ap (λ s. has_heads s.heads arrival.parts) live.same ∙ a.fits in
    let found : answered_by history arrival ≡ Some live.made = chosen (is_answer arrival) (sending_of history arrival.serial) live.made live.there (answer-is arrival live.made fit live.goes_on) in
    ap (λ answer. not (list_any is_current (option_map_or (judged arrival) answer []))) found
    ∙ ap not (updates-is live.made.since live.made.heads arrival.parts fit ∙ ap not live.updates)

pub twice : (b : Bool) → not (not b) ≡ false → b ≡ false
twice true e = cc
twice false e = refl

-- an arrival that is current for what it answers is awaited
new_answer_one : (history : History) (arrival : Arrival) (found : Option Sending) → sending_of history arrival.serial ≡ found → not (list_any is_current (option_map_or (judged arrival) (option_and_then (only_if (is_answer arrival)) found) [])) ≡ false → IsAwaited history arrival
new_answer_one history arrival None there e = cc
new_answer_one history arrival (Some made) there e =
    by_bool (is_answer arrival made)
    (λ t. let both = and_parts (fits_sending arrival.serial made.heads arrival) _ t in
    let fit = (and_parts (arrival.serial == arrival.serial) _ both.0).1 in
    let goes_on : is_ended arrival.serial made ≡ false = not-true _ both.1 in
    let answer_given : not (list_any is_current (judged arrival made)) ≡ false = rw t at e in
    let updates : all_outdated made.since made.heads ≡ false = twice (all_outdated made.since made.heads) (sym (ap not (updates-is made.since made.heads arrival.parts fit)) ∙ answer_given) in
    record {
      sending = record { heads = made.heads; since = filter is_no_arrival made.since };
      there = ap (option_and_then (still_awaited arrival.serial)) there ∙ rw (goes_on, updates) refl;
      fits = fit;
    })
    (λ t. let never : true ≡ false = rw t at e in cc)

pub awaited-answered : (history : History) (arrival : Arrival) → AnswersTheAwaited history arrival
awaited-answered history arrival = record {
  updates = (new_answer_one history arrival (sending_of history arrival.serial) refl, is_new_answer history arrival);
  answers = answers_awaited history arrival;
}

-- The sending that is awaited with a serial decides the answer to each arrival with this serial; and what one more entry makes of what is awaited.
use Rattle.std.proofs.Common.{◌≡◌, ℕ, Bool, true, false, cond, not, ◌&&◌, ◌||◌, ◌==◌, List, [], ◌∷◌, filter, refl, sym, ap, ◌∙◌, subst, arith, if◌then◌else◌, Option, Some, None}
use Rattle.std.specs.Prelude.{map, option_map, option_and_then}
use Rattle.std.specs.Option.{option_map_or}
use Rattle.std.specs.List.{list_any, zip}
use Rattle.std.proofs.lemmas.Bool.Decides.{nat_tests}
use Rattle.std.proofs.lemmas.Bool.{and_from, and_parts, or_left, or_parts, or_right, eqb-true}
use Rattle.std.proofs.lemmas.Option.{none-some, same_Some}
use Rattle.hc_records.specs.declared.edit.Edit.{Edit}
use Rattle.hc_records.proofs.lemmas.Choices.{by_bool}
use Rattle.hc_events.specs.Arrivals.{Arrival, Part}
use Rattle.hc_events.specs.Entries.{HistoryEntry, History, Opened, Edited, Posted, Sent, Wrote, Came, Forgot, Cleared, Unplugged}
use Rattle.hc_events.specs.Points.{line_of, next_serial}
use Rattle.hc_events.specs.Heads.{Head, Item, Datagram, Block, data_heads, is_block, write_heads}
use Rattle.hc_events.specs.Answering.{Sending, Judged, Good, Wrong, Stale, sending_of_heads, followed_by, sending_of, has_heads, fits_sending, ends, is_answer, only_if, sends, is_forgetting, forgets, starts_over, is_dropped, is_outdated, is_stale, judge, judged, judged_by, is_current}
use Rattle.hc_events.specs.Awaited.{is_ended, all_outdated, is_no_arrival, still_awaited, awaited}

pub not_both : (a b : Bool) → (not a || not b) ≡ not (a && b)
not_both true b = refl
not_both false b = refl

pub same_is : (n : ℕ) → (n == n) ≡ true
same_is n = grind (arith, nat_tests)

-- judgements where one is current, else none
abbrev pub updates : List Judged → List Judged
updates datagrams = if list_any is_current datagrams then datagrams else []

-- what an arrival is for what is awaited with its serial
abbrev pub updates_from : Option Sending → Arrival → List Judged
updates_from None arrival = []
updates_from (Some sending) arrival = if has_heads sending.heads arrival.parts then judged arrival sending else []

-- entries without the arrivals among them

pub any-filter : (test : HistoryEntry → Bool) → ((arrival : Arrival) → test (Came arrival) ≡ false) → (since : List HistoryEntry) → list_any test (filter is_no_arrival since) ≡ list_any test since
any-filter test none [] = refl
any-filter test none (Came arrival ∷ since) = any-filter test none since ∙ sym (ap (λ b. b || list_any test since) (none arrival))
any-filter test none (other ∷ since) = ap (λ b. test other || b) (any-filter test none since)

starts_filter : (since : List HistoryEntry) → starts_over (filter is_no_arrival since) ≡ starts_over since
starts_filter [] = refl
starts_filter (Wrote blocks ∷ since) =
    ap (λ b. b || starts_over (filter is_no_arrival since)) (any-filter is_forgetting (λ arrival. refl) since)
    ∙ ap (λ b. list_any is_forgetting since || b) (starts_filter since)
starts_filter (Came arrival ∷ since) = starts_filter since
starts_filter (other ∷ since) = starts_filter since

pub outdated_filter : (item : Item) (since : List HistoryEntry) → is_outdated item (filter is_no_arrival since) ≡ is_outdated item since
outdated_filter (Datagram task d) since = any-filter (sends (Datagram task d)) (λ arrival. refl) since
outdated_filter (Block station number) since =
    ap (λ b. (b || starts_over (filter is_no_arrival since)) || list_any (sends (Block station number)) (filter is_no_arrival since)) (any-filter (forgets station) (λ arrival. refl) since)
    ∙ ap (λ b. (list_any (forgets station) since || b) || list_any (sends (Block station number)) (filter is_no_arrival since)) (starts_filter since)
    ∙ ap (λ b. (list_any (forgets station) since || starts_over since) || b) (any-filter (sends (Block station number)) (λ arrival. refl) since)

judge_filter : (since : List HistoryEntry) (pair : Head × Part) → judge (filter is_no_arrival since) pair ≡ judge since pair
judge_filter since pair =
    ap (λ b. record { head = pair.0; part = pair.1; verdict = cond b Stale (if pair.1.counter == pair.0.expected then Good else Wrong) })
    (outdated_filter pair.0.item since)

pub judged-filter : (since : List HistoryEntry) (pairs : List (Head × Part)) → map (judge (filter is_no_arrival since)) pairs ≡ map (judge since) pairs
judged-filter since [] = refl
judged-filter since (pair ∷ pairs) =
    ap (λ datagram. datagram ∷ map (judge (filter is_no_arrival since)) pairs) (judge_filter since pair)
    ∙ ap (λ datagrams. judge since pair ∷ datagrams) (judged-filter since pairs)

all_filter : (heads : List Head) (since : List HistoryEntry) → all_outdated (filter is_no_arrival since) heads ≡ all_outdated since heads
all_filter [] since = refl
all_filter (head ∷ heads) since =
    ap (λ b. b && all_outdated (filter is_no_arrival since) heads) (outdated_filter head.item since)
    ∙ ap (λ b. is_outdated head.item since && b) (all_filter heads since)

again_filter : (heads : List Head) (entry : HistoryEntry) (since : List HistoryEntry) → is_no_arrival entry ≡ true → all_outdated (entry ∷ filter is_no_arrival since) heads ≡ all_outdated (entry ∷ since) heads
again_filter heads entry since other =
    ap (λ entries. all_outdated entries heads) (sym (ap (λ b. cond b (entry ∷ filter is_no_arrival since) (filter is_no_arrival since)) other))
    ∙ all_filter heads (entry ∷ since)

-- what is out of date stays so

starts_more : (entry : HistoryEntry) (since : List HistoryEntry) → starts_over since ≡ true → starts_over (entry ∷ since) ≡ true
starts_more (Wrote blocks) since e = or_right (list_any is_forgetting since) (starts_over since) e
starts_more other since e = e

block_more : (station number : ℕ) (entry : HistoryEntry) (since : List HistoryEntry) → is_outdated (Block station number) since ≡ true → is_outdated (Block station number) (entry ∷ since) ≡ true
block_more station number entry since e =
    by_bool (list_any (forgets station) since)
    (λ t. or_left (is_dropped (Block station number) (entry ∷ since)) (list_any (sends (Block station number)) (entry ∷ since))
    (or_left (list_any (forgets station) (entry ∷ since)) (starts_over (entry ∷ since)) (or_right (forgets station entry) (list_any (forgets station) since) t)))
    (λ t. by_bool (starts_over since)
    (λ u. or_left (is_dropped (Block station number) (entry ∷ since)) (list_any (sends (Block station number)) (entry ∷ since))
    (or_right (list_any (forgets station) (entry ∷ since)) (starts_over (entry ∷ since)) (starts_more entry since u)))
    (λ u. or_right (is_dropped (Block station number) (entry ∷ since)) (list_any (sends (Block station number)) (entry ∷ since))
    (or_right (sends (Block station number) entry) (list_any (sends (Block station number)) since) (rw (t, u) at e))))

pub outdated-more : (item : Item) (entry : HistoryEntry) (since : List HistoryEntry) → is_outdated item since ≡ true → is_outdated item (entry ∷ since) ≡ true
outdated-more (Datagram task d) entry since e = or_right (sends (Datagram task d) entry) (list_any (sends (Datagram task d)) since) e
outdated-more (Block station number) entry since e = block_more station number entry since e

pub again-more : (entry : HistoryEntry) (since : List HistoryEntry) (heads : List Head) → all_outdated since heads ≡ true → all_outdated (entry ∷ since) heads ≡ true
again-more entry since [] e = refl
again-more entry since (head ∷ heads) e =
    let both = and_parts (is_outdated head.item since) (all_outdated since heads) e in
    and_from (is_outdated head.item (entry ∷ since)) (all_outdated (entry ∷ since) heads) (outdated-more head.item entry since both.0) (again-more entry since heads both.1)

-- an entry that sends no datagram of a task leaves what a frame of tasks carries

pub data-untouched : (entry : HistoryEntry) → ((task d : ℕ) → sends (Datagram task d) entry ≡ false) → (item : Item) (since : List HistoryEntry) → is_block item ≡ false → is_outdated item (entry ∷ since) ≡ is_outdated item since
data-untouched entry none (Datagram task d) since e = ap (λ b. b || list_any (sends (Datagram task d)) since) (none task d)
data-untouched entry none (Block station number) since e = cc

pub no-block_first : (head : Head) (heads : List Head) → list_any (λ one. is_block one.item) (head ∷ heads) ≡ false → (is_block head.item ≡ false) × (list_any (λ one. is_block one.item) heads ≡ false)
no-block_first head heads e = or_parts (is_block head.item) (list_any (λ one. is_block one.item) heads) e

pub frame-untouched : (entry : HistoryEntry) → ((task d : ℕ) → sends (Datagram task d) entry ≡ false) → (heads : List Head) (since : List HistoryEntry) → list_any (λ head. is_block head.item) heads ≡ false
    → all_outdated (entry ∷ since) heads ≡ all_outdated since heads
frame-untouched entry none [] since e = refl
frame-untouched entry none (head ∷ heads) since e =
    let both = no-block_first head heads e in
    ap (λ b. b && all_outdated (entry ∷ since) heads) (data-untouched entry none head.item since both.0)
    ∙ ap (λ b. is_outdated head.item since && b) (frame-untouched entry none heads since both.1)

-- updates and judgements

are_updates_of : (b c : Bool) → not (is_stale (cond b Stale (cond c Good Wrong))) ≡ not b
are_updates_of true c = refl
are_updates_of false true = refl
are_updates_of false false = refl

-- a frame with the heads of a sending is current for it where something of it isn't out of date
pub updates-is : (since : List HistoryEntry) (heads : List Head) (parts : List Part) → has_heads heads parts ≡ true → list_any is_current (map (judge since) (zip heads parts)) ≡ not (all_outdated since heads)
updates-is since [] [] e = refl
updates-is since [] (part ∷ parts) e = cc
updates-is since (head ∷ heads) [] e = cc
updates-is since (head ∷ heads) (part ∷ parts) e =
    let rest = (and_parts _ _ e).1 in
    ap (λ b. b || list_any is_current (map (judge since) (zip heads parts))) (are_updates_of (is_outdated head.item since) (part.counter == head.expected))
    ∙ ap (λ b. not (is_outdated head.item since) || b) (updates-is since heads parts rest)
    ∙ not_both (is_outdated head.item since) (all_outdated since heads)

updates_any : (datagrams : List Judged) → list_any is_current (updates datagrams) ≡ list_any is_current datagrams
updates_any datagrams = by_bool (list_any is_current datagrams) (λ t. rw t t) (λ t. rw t refl)

updates_answered : (arrival : Arrival) (found : Option Sending) → updates (option_map_or (judged arrival) (option_and_then (only_if (is_answer arrival)) found) []) ≡ updates_from (option_and_then (still_awaited arrival.serial) found) arrival
updates_answered arrival None = refl
updates_answered arrival (Some s) =
    by_bool (has_heads s.heads arrival.parts)
    (λ h. by_bool (is_ended arrival.serial s)
    (λ e. rw (same_is arrival.serial, h, e) refl)
    (λ e. by_bool (all_outdated s.since s.heads)
    (λ r. let none : list_any is_current (judged arrival s) ≡ false = updates-is s.since s.heads arrival.parts h ∙ ap not r in
    rw (same_is arrival.serial, h, e, r, none) refl)
    (λ r. let some : list_any is_current (judged arrival s) ≡ true = updates-is s.since s.heads arrival.parts h ∙ ap not r in
    rw (same_is arrival.serial, h, e, r, some) (rw h (sym (judged-filter s.since (zip s.heads arrival.parts)))))))
    (λ h. by_bool (is_ended arrival.serial s || all_outdated s.since s.heads)
    (λ e. rw (same_is arrival.serial, h, e) refl)
    (λ e. rw (same_is arrival.serial, h, e) (rw h refl)))

-- what an arrival is, where it is current, hangs on what is awaited with its serial
pub awaited-updates : (history : History) (arrival : Arrival) → updates (judged_by history arrival) ≡ updates_from (awaited history arrival.serial) arrival
awaited-updates history arrival = updates_answered arrival (sending_of history arrival.serial)

-- and whether it is current
pub awaited-any : (history : History) (arrival : Arrival) → list_any is_current (judged_by history arrival) ≡ list_any is_current (updates_from (awaited history arrival.serial) arrival)
awaited-any history arrival = sym (updates_any (judged_by history arrival)) ∙ ap (list_any is_current) (awaited-updates history arrival)

-- what is awaited says what was sent

awaited_heads : (serial : ℕ) (sending now : Sending) (over : Bool) → cond over None (Some (record { heads = sending.heads; since = filter is_no_arrival sending.since })) ≡ Some now → now.heads ≡ sending.heads
awaited_heads serial sending now true e = absurd (none-some now e)
awaited_heads serial sending now false e = ap (λ s. s.heads) (sym (same_Some _ now e))

pub awaited-heads : (serial : ℕ) (sending now : Sending) → still_awaited serial sending ≡ Some now → now.heads ≡ sending.heads
awaited-heads serial sending now e = awaited_heads serial sending now (is_ended serial sending || all_outdated sending.since sending.heads) e

-- and something of it isn't out of date

new_answer_one : (serial : ℕ) (made now : Sending) → still_awaited serial made ≡ Some now → all_outdated now.since now.heads ≡ false
new_answer_one serial made now e =
    let slim : Sending = record { heads = made.heads; since = filter is_no_arrival made.since } in
    by_bool (is_ended serial made || all_outdated made.since made.heads)
    (λ t. absurd (none-some now (sym (ap (λ b. cond b None (Some slim)) t) ∙ e)))
    (λ t. let same = same_Some slim now (sym (ap (λ b. cond b None (Some slim)) t) ∙ e) in
    ap (λ s. all_outdated s.since s.heads) (sym same) ∙ all_filter made.heads made.since ∙ (or_parts (is_ended serial made) (all_outdated made.since made.heads) t).1)

new_answer_found : (serial : ℕ) (found : Option Sending) (now : Sending) → option_and_then (still_awaited serial) found ≡ Some now → all_outdated now.since now.heads ≡ false
new_answer_found serial None now e = absurd (none-some now e)
new_answer_found serial (Some made) now e = new_answer_one serial made now e

pub awaited-new_answer : (history : History) (serial : ℕ) (now : Sending) → awaited history serial ≡ Some now → all_outdated now.since now.heads ≡ false
awaited-new_answer history serial now e = new_answer_found serial (sending_of history serial) now e

-- what an entry makes of what is awaited

abbrev pub unless_fits : ℕ → Arrival → Sending → Option Sending
unless_fits serial arrival s = if fits_sending serial s.heads arrival then None else Some s

abbrev pub unless_again : HistoryEntry → Sending → Option Sending
unless_again entry s = if all_outdated (entry ∷ s.since) s.heads then None else Some (followed_by entry s)

pub awaited_edited : (serial : ℕ) (edit : Edit) (found : Option Sending) → option_and_then (still_awaited serial) (option_map (followed_by (Edited edit)) found) ≡ None
awaited_edited serial edit None = refl
awaited_edited serial edit (Some s) = refl

-- an arrival and a post leave what is out of date

outdated_came : (arrival : Arrival) (item : Item) (since : List HistoryEntry) → is_outdated item (Came arrival ∷ since) ≡ is_outdated item since
outdated_came arrival (Datagram task d) since = refl
outdated_came arrival (Block station number) since = refl

all-came : (arrival : Arrival) (heads : List Head) (since : List HistoryEntry) → all_outdated (Came arrival ∷ since) heads ≡ all_outdated since heads
all-came arrival [] since = refl
all-came arrival (head ∷ heads) since =
    ap (λ b. b && all_outdated (Came arrival ∷ since) heads) (outdated_came arrival head.item since) ∙ ap (λ b. is_outdated head.item since && b) (all-came arrival heads since)

pub outdated-posted : (task : ℕ) (bytes : List ℕ) (item : Item) (since : List HistoryEntry) → is_outdated item (Posted task bytes ∷ since) ≡ is_outdated item since
outdated-posted task bytes (Datagram t d) since = refl
outdated-posted task bytes (Block station number) since = refl

pub all-posted : (task : ℕ) (bytes : List ℕ) (heads : List Head) (since : List HistoryEntry) → all_outdated (Posted task bytes ∷ since) heads ≡ all_outdated since heads
all-posted task bytes [] since = refl
all-posted task bytes (head ∷ heads) since =
    ap (λ b. b && all_outdated (Posted task bytes ∷ since) heads) (outdated-posted task bytes head.item since) ∙ ap (λ b. is_outdated head.item since && b) (all-posted task bytes heads since)

came_if : (serial : ℕ) (arrival : Arrival) (s : Sending)
    → cond ((fits_sending serial s.heads arrival || is_ended serial s) || all_outdated s.since s.heads) None (Some (record { heads = s.heads; since = filter is_no_arrival s.since }))
    ≡ option_and_then (unless_fits serial arrival) (still_awaited serial s)
came_if serial arrival s =
    by_bool (fits_sending serial s.heads arrival)
    (λ t. by_bool (is_ended serial s || all_outdated s.since s.heads) (λ e. rw (t, e) refl) (λ e. rw (t, e) (rw t refl)))
    (λ t. by_bool (is_ended serial s || all_outdated s.since s.heads) (λ e. rw (t, e) refl) (λ e. rw (t, e) (rw t refl)))

pub awaited_came : (serial : ℕ) (arrival : Arrival) (found : Option Sending) → option_and_then (still_awaited serial) (option_map (followed_by (Came arrival)) found) ≡ option_and_then (unless_fits serial arrival) (option_and_then (still_awaited serial) found)
awaited_came serial arrival None = refl
awaited_came serial arrival (Some s) =
    ap (λ b. cond ((fits_sending serial s.heads arrival || is_ended serial s) || b) None (Some (record { heads = s.heads; since = filter is_no_arrival s.since }))) (all-came arrival s.heads s.since)
    ∙ came_if serial arrival s

pub awaited_other : (serial : ℕ) (entry : HistoryEntry) → ((heads : List Head) → ends serial heads entry ≡ false) → is_no_arrival entry ≡ true → (found : Option Sending) → option_and_then (still_awaited serial) (option_map (followed_by entry) found) ≡ option_and_then (unless_again entry) (option_and_then (still_awaited serial) found)
awaited_other serial entry k c None = refl
awaited_other serial entry k c (Some s) =
    by_bool (is_ended serial s)
    (λ e. rw (k s.heads, e) refl)
    (λ e. by_bool (all_outdated s.since s.heads)
    (λ r. rw (k s.heads, e, r, again-more entry s.since s.heads r) refl)
    (λ r. rw (k s.heads, e, r, c, again_filter s.heads entry s.since c) refl))

other_grows : (a b : History) (serial : ℕ) (entry : HistoryEntry) → ((heads : List Head) → ends serial heads entry ≡ false) → is_no_arrival entry ≡ true → awaited a serial ≡ awaited b serial → option_and_then (still_awaited serial) (option_map (followed_by entry) (sending_of a serial)) ≡ option_and_then (still_awaited serial) (option_map (followed_by entry) (sending_of b serial))
other_grows a b serial entry k c same = awaited_other serial entry k c (sending_of a serial) ∙ ap (option_and_then (unless_again entry)) same ∙ sym (awaited_other serial entry k c (sending_of b serial))

by_serial : (serial : ℕ) (c : Bool) (x y z : Option Sending) → option_and_then (still_awaited serial) y ≡ option_and_then (still_awaited serial) z → option_and_then (still_awaited serial) (cond c x y) ≡ option_and_then (still_awaited serial) (cond c x z)
by_serial serial true x y z e = refl
by_serial serial false x y z e = e

-- what is awaited after one more entry hangs on what was awaited before it, on the line and on the next serial
pub awaited-grows : (a b : History) (serial : ℕ) (entry : HistoryEntry) → next_serial a ≡ next_serial b → line_of a ≡ line_of b → awaited a serial ≡ awaited b serial → awaited (entry ∷ a) serial ≡ awaited (entry ∷ b) serial
awaited-grows a b serial (Opened groups) n l same = refl
awaited-grows a b serial (Edited edit) n l same = awaited_edited serial edit (sending_of a serial) ∙ sym (awaited_edited serial edit (sending_of b serial))
awaited-grows a b serial (Posted task bytes) n l same = other_grows a b serial (Posted task bytes) (λ heads. refl) refl same
awaited-grows a b serial (Forgot station) n l same = other_grows a b serial (Forgot station) (λ heads. refl) refl same
awaited-grows a b serial (Cleared station) n l same = other_grows a b serial (Cleared station) (λ heads. refl) refl same
awaited-grows a b serial (Unplugged station) n l same = other_grows a b serial (Unplugged station) (λ heads. refl) refl same
awaited-grows a b serial (Came arrival) n l same = awaited_came serial arrival (sending_of a serial) ∙ ap (option_and_then (unless_fits serial arrival)) same ∙ sym (awaited_came serial arrival (sending_of b serial))
awaited-grows a b serial (Sent frame) n l same =
    ap (λ m. option_and_then (still_awaited serial) (cond (m == serial) (Some (sending_of_heads (data_heads (line_of a) frame))) (option_map (followed_by (Sent frame)) (sending_of a serial)))) n
    ∙ ap (λ line. option_and_then (still_awaited serial) (cond (next_serial b == serial) (Some (sending_of_heads (data_heads line frame))) (option_map (followed_by (Sent frame)) (sending_of a serial)))) l
    ∙ by_serial serial (next_serial b == serial) _ _ _ (other_grows a b serial (Sent frame) (λ heads. refl) refl same)
awaited-grows a b serial (Wrote blocks) n l same =
    ap (λ m. option_and_then (still_awaited serial) (cond (m == serial) (Some (sending_of_heads (write_heads blocks))) (option_map (followed_by (Wrote blocks)) (sending_of a serial)))) n
    ∙ by_serial serial (next_serial b == serial) _ _ _ (other_grows a b serial (Wrote blocks) (λ heads. refl) refl same)

-- a stale arrival

-- an arrival ends nothing that is awaited with another serial
pub unless-other : (serial : ℕ) (arrival : Arrival) (found : Option Sending) → (serial == arrival.serial) ≡ false → option_and_then (unless_fits serial arrival) found ≡ found
unless-other serial arrival None e = refl
unless-other serial arrival (Some s) e = rw e refl

unless_stale : (arrival : Arrival) (found : Option Sending) → list_any is_current (option_map_or (judged arrival) (option_and_then (only_if (is_answer arrival)) found) []) ≡ false → option_and_then (unless_fits arrival.serial arrival) (option_and_then (still_awaited arrival.serial) found) ≡ option_and_then (still_awaited arrival.serial) found
unless_stale arrival None k = refl
unless_stale arrival (Some s) k =
    by_bool (is_ended arrival.serial s)
    (λ e. rw e refl)
    (λ e. by_bool (all_outdated s.since s.heads)
    (λ r. rw (e, r) refl)
    (λ r. by_bool (has_heads s.heads arrival.parts)
    (λ h. let some : list_any is_current (judged arrival s) ≡ true = updates-is s.since s.heads arrival.parts h ∙ ap not r in
    let never : true ≡ false = sym some ∙ rw (same_is arrival.serial, h, e) at k in cc)
    (λ h. rw (e, r) (rw (same_is arrival.serial, h) refl))))

came_stale : (arrival : Arrival) (serial : ℕ) (found : Option Sending) → (serial ≡ arrival.serial → list_any is_current (option_map_or (judged arrival) (option_and_then (only_if (is_answer arrival)) found) []) ≡ false) → option_and_then (unless_fits serial arrival) (option_and_then (still_awaited serial) found) ≡ option_and_then (still_awaited serial) found
came_stale arrival serial found k =
    by_bool (serial == arrival.serial)
    (λ t. let same : serial ≡ arrival.serial = eqb-true serial arrival.serial t in
    subst (λ m. option_and_then (unless_fits m arrival) (option_and_then (still_awaited m) found) ≡ option_and_then (still_awaited m) found) (sym same) (unless_stale arrival found (k same)))
    (λ t. unless-other serial arrival (option_and_then (still_awaited serial) found) t)

-- a stale arrival ends nothing that is awaited
pub awaited-stale : (history : History) (arrival : Arrival) (serial : ℕ) → list_any is_current (judged_by history arrival) ≡ false → awaited (Came arrival ∷ history) serial ≡ awaited history serial
awaited-stale history arrival serial k =
    awaited_came serial arrival (sending_of history serial)
    ∙ came_stale arrival serial (sending_of history serial)
    (λ same. ap (λ m. list_any is_current (option_map_or (judged arrival) (option_and_then (only_if (is_answer arrival)) (sending_of history m)) [])) same ∙ k)

-- Histories where no slave is forgotten and each register write has a frame of its own say what they said, and so do the answers to events of that kind.
use Rattle.std.proofs.Common.{◌≡◌, ℕ, ◌==◌, Bool, true, false, cond, not, ◌&&◌, ◌||◌, List, [], ◌∷◌, ◌++◌, filter, length, map, refl, sym, ap, ◌∙◌, subst, Option, Some, None, ◌≤◌, arith}
use Rattle.std.specs.Prelude.{All, fold, option_and_then, option_map}
use Rattle.std.specs.Option.{option_map_or, option_or}
use Rattle.std.specs.List.{flat_map, list_any, zip, list_all}
use Rattle.std.specs.Str.{bytes_eq}
use Rattle.std.proofs.lemmas.Bool.{and_parts, eqb-true}
use Rattle.std.proofs.lemmas.List.Elements.{All-nil, All-cons, All-head, All-tail}
use Rattle.hc_registers.specs.Blocks.{LineBlock, line_blocks}
use Rattle.hc_events.specs.declared.answer.Answer.TheVariants as answer
use Rattle.hc_events.specs.Ages.{data_serial, dated}
use Rattle.hc_events.specs.Answering.{Good, Judged, Sending, Stale, Verdict, Wrong, followed_by, forgets, is_answer, is_forgetting, is_outdated, has_good, judge, judged, judged_by, sending_of_heads, only_if, sending_of, sends, starts_over, is_current}
use Rattle.hc_events.specs.Arrivals.{Arrival, Part}
use Rattle.hc_events.specs.Awaited.{still_awaited, all_outdated, awaited, is_ended, is_no_arrival}
use Rattle.hc_events.specs.Changes.{Answered, Swapped, updates_of}
use Rattle.hc_events.specs.Entries.{HistoryEntry, History, Opened, Edited, Posted, Sent, Wrote, Came, Forgot, Cleared, Unplugged}
use Rattle.hc_events.specs.Forgetting.{SaysAsAtFirst, writes_one}
use Rattle.hc_events.specs.Heads.{Block, Datagram, Head, Item, block_item, data_heads, same_item, write_head, write_heads, is_block, data_head}
use Rattle.hc_events.specs.Images.{new_answer, new_answer_by, renewed, slot_of}
use Rattle.hc_events.specs.Owed.{if_confirmed, is_in_line, is_owed, known_bytes, last_write, owed_blocks, was_confirmed, block_among, write_of, confirms}
use Rattle.hc_events.specs.Points.{line_of, next_serial}
use Rattle.hc_events.specs.Sendings.{Named}
use Rattle.hc_events.specs.Steps.{judged_answer, outcome_for, outcome_of, inputs_of, wrong_of, write_answer, judged_blocks_answer}
use Rattle.hc_events.specs.WithoutForgetting.{FirstStep, Edits, Posts, SendsTasks, SendsWrite, Arrives, Reads, step_of}
use Rattle.hc_events.specs.WithoutForgetting as first
use Rattle.hc_events.proofs.lemmas.OneWrite.{filter-same}
use Rattle.hc_events.proofs.lemmas.Fronts.{or_none}
use Rattle.hc_events.specs.SendingLaws.{is_opening, is_sending, heads_of}
use Rattle.hc_events.proofs.lemmas.LastWrites.{is_placed-last}
use Rattle.hc_events.proofs.lemmas.Live.{unconfirmed, at_least, not_below, unanswered}
use Rattle.hc_events.proofs.lemmas.Once.{serial-made}
use Rattle.hc_events.proofs.lemmas.Placing.{found-under, is_placed-at}
use Rattle.hc_events.specs.declared.answer.Outcome.TheVariants as outcome
use Rattle.hc_records.specs.Line.{Member}
use Rattle.hc_records.proofs.lemmas.Choices.{by_bool}

-- entries among which no slave is forgotten

abbrev pub Plain : List HistoryEntry → Type 0
Plain entries = list_any is_forgetting entries ≡ false

-- and each register write has a frame of its own
abbrev pub Single : List HistoryEntry → Type 0
Single entries = list_all writes_one entries ≡ true

no_forgets : (station : ℕ) (since : List HistoryEntry) → Plain since → list_any (forgets station) since ≡ false
no_forgets station [] plain = refl
no_forgets station (Forgot other ∷ since) plain = cc
no_forgets station (other ∷ since) plain = no_forgets station since plain

no_start : (since : List HistoryEntry) → Plain since → starts_over since ≡ false
no_start [] plain = refl
no_start (Forgot other ∷ since) plain = cc
no_start (Wrote blocks ∷ since) plain = ap (λ b. b || starts_over since) plain ∙ no_start since plain
no_start (other ∷ since) plain = no_start since plain

outdated_plain : (item : Item) (since : List HistoryEntry) → Plain since → list_any (sends item) since ≡ is_outdated item since
outdated_plain (Datagram task d) since plain = refl
outdated_plain (Block station number) since plain =
    sym (ap (λ b. (b || starts_over since) || list_any (sends (Block station number)) since) (no_forgets station since plain)
    ∙ ap (λ b. b || list_any (sends (Block station number)) since) (no_start since plain))

abbrev PlainSince : Option Sending → Type 0
PlainSince None = Unit {0}
PlainSince (Some sending) = Plain sending.since

plain_more : (entry : HistoryEntry) (found : Option Sending) → is_forgetting entry ≡ false → PlainSince found → PlainSince (option_map (followed_by entry) found)
plain_more entry None e plain = tt
plain_more entry (Some sending) e plain = ap (λ b. b || list_any is_forgetting sending.since) e ∙ plain

plain_either : (c : Bool) (now : Sending) (rest : Option Sending) → Plain now.since → PlainSince rest → PlainSince (cond c (Some now) rest)
plain_either true now rest a b = a
plain_either false now rest a b = b

plain_sending : (history : History) (serial : ℕ) → Plain history → PlainSince (sending_of history serial)
plain_sending [] serial plain = tt
plain_sending (Opened groups ∷ history) serial plain = tt
plain_sending (Edited edit ∷ history) serial plain = plain_more (Edited edit) (sending_of history serial) refl (plain_sending history serial plain)
plain_sending (Posted task bytes ∷ history) serial plain = plain_more (Posted task bytes) (sending_of history serial) refl (plain_sending history serial plain)
plain_sending (Came arrival ∷ history) serial plain = plain_more (Came arrival) (sending_of history serial) refl (plain_sending history serial plain)
plain_sending (Forgot station ∷ history) serial plain = cc
plain_sending (Cleared other ∷ history) serial plain = plain_more (Cleared other) (sending_of history serial) refl (plain_sending history serial plain)
plain_sending (Unplugged other ∷ history) serial plain = plain_more (Unplugged other) (sending_of history serial) refl (plain_sending history serial plain)
plain_sending (Sent frame ∷ history) serial plain =
    plain_either (next_serial history == serial) (sending_of_heads (data_heads (line_of history) frame)) (option_map (followed_by (Sent frame)) (sending_of history serial)) refl
    (plain_more (Sent frame) (sending_of history serial) refl (plain_sending history serial plain))
plain_sending (Wrote blocks ∷ history) serial plain =
    plain_either (next_serial history == serial) (sending_of_heads (write_heads blocks)) (option_map (followed_by (Wrote blocks)) (sending_of history serial)) refl
    (plain_more (Wrote blocks) (sending_of history serial) refl (plain_sending history serial plain))

two_never : (block next : LineBlock) (blocks : List LineBlock) (rest : Bool) → ((length (block ∷ next ∷ blocks) == 1) && rest) ≡ true → ⊥
two_never block next blocks rest e =
    let one : length (block ∷ next ∷ blocks) ≡ 1 = eqb-true (length (block ∷ next ∷ blocks)) 1 (and_parts (length (block ∷ next ∷ blocks) == 1) rest e).0 in
    omega arith

-- the sending with a serial

same_either : (c : Bool) (now : Option Sending) (entry : HistoryEntry) (a b : Option Sending) → a ≡ b → cond c now (option_map (followed_by entry) a) ≡ cond c now (option_map (followed_by entry) b)
same_either c now entry a b same = ap (λ found. cond c now (option_map (followed_by entry) found)) same

same_sending : (history : History) (serial : ℕ) → Single history → first.sending_of history serial ≡ sending_of history serial
same_sending [] serial one = refl
same_sending (Opened groups ∷ history) serial one = refl
same_sending (Edited edit ∷ history) serial one = ap (option_map (followed_by (Edited edit))) (same_sending history serial one)
same_sending (Posted task bytes ∷ history) serial one = ap (option_map (followed_by (Posted task bytes))) (same_sending history serial one)
same_sending (Came arrival ∷ history) serial one = ap (option_map (followed_by (Came arrival))) (same_sending history serial one)
same_sending (Forgot station ∷ history) serial one = ap (option_map (followed_by (Forgot station))) (same_sending history serial one)
same_sending (Cleared other ∷ history) serial one = ap (option_map (followed_by (Cleared other))) (same_sending history serial one)
same_sending (Unplugged other ∷ history) serial one = ap (option_map (followed_by (Unplugged other))) (same_sending history serial one)
same_sending (Sent frame ∷ history) serial one =
    same_either (next_serial history == serial) (Some (sending_of_heads (data_heads (line_of history) frame))) (Sent frame) (first.sending_of history serial) (sending_of history serial) (same_sending history serial one)
same_sending (Wrote [] ∷ history) serial one = cc
same_sending (Wrote (block ∷ next ∷ blocks) ∷ history) serial one = absurd (two_never block next blocks (list_all writes_one history) one)
same_sending (Wrote (block ∷ []) ∷ history) serial one =
    same_either (next_serial history == serial) (Some (sending_of_heads (write_head block ∷ []))) (Wrote (block ∷ [])) (first.sending_of history serial) (sending_of history serial) (same_sending history serial one)

-- what was sent again

same_sends : (item : Item) (since : List HistoryEntry) → Single since → list_any (first.sends item) since ≡ list_any (sends item) since
same_sends item [] one = refl
same_sends item (Wrote [] ∷ since) one = cc
same_sends item (Wrote (block ∷ next ∷ blocks) ∷ since) one = absurd (two_never block next blocks (list_all writes_one since) one)
same_sends item (Wrote (block ∷ []) ∷ since) one =
    ap (λ b. b || list_any (first.sends item) since) (sym (or_none (same_item item (block_item block)))) ∙ ap (λ b. sends item (Wrote (block ∷ [])) || b) (same_sends item since one)
same_sends item (Opened groups ∷ since) one = same_sends item since one
same_sends item (Edited edit ∷ since) one = same_sends item since one
same_sends item (Posted task bytes ∷ since) one = same_sends item since one
same_sends item (Came arrival ∷ since) one = same_sends item since one
same_sends item (Forgot station ∷ since) one = same_sends item since one
same_sends item (Cleared other ∷ since) one = same_sends item since one
same_sends item (Unplugged other ∷ since) one = same_sends item since one
same_sends item (Sent frame ∷ since) one = ap (λ b. sends item (Sent frame) || b) (same_sends item since one)

outdated_first : (item : Item) (since : List HistoryEntry) → Plain since → Single since → list_any (first.sends item) since ≡ is_outdated item since
outdated_first item since plain one = same_sends item since one ∙ outdated_plain item since plain

-- the entries since a sending are of that kind too

abbrev SingleSince : Option Sending → Type 0
SingleSince None = Unit {0}
SingleSince (Some sending) = Single sending.since

single_more : (entry : HistoryEntry) (found : Option Sending) → writes_one entry ≡ true → SingleSince found → SingleSince (option_map (followed_by entry) found)
single_more entry None e one = tt
single_more entry (Some sending) e one = ap (λ b. b && list_all writes_one sending.since) e ∙ one

single_either : (c : Bool) (now : Sending) (rest : Option Sending) → Single now.since → SingleSince rest → SingleSince (cond c (Some now) rest)
single_either true now rest a b = a
single_either false now rest a b = b

single_sending : (history : History) (serial : ℕ) → Single history → SingleSince (sending_of history serial)
single_sending [] serial one = tt
single_sending (Opened groups ∷ history) serial one = tt
single_sending (Edited edit ∷ history) serial one = single_more (Edited edit) (sending_of history serial) refl (single_sending history serial one)
single_sending (Posted task bytes ∷ history) serial one = single_more (Posted task bytes) (sending_of history serial) refl (single_sending history serial one)
single_sending (Came arrival ∷ history) serial one = single_more (Came arrival) (sending_of history serial) refl (single_sending history serial one)
single_sending (Forgot station ∷ history) serial one = single_more (Forgot station) (sending_of history serial) refl (single_sending history serial one)
single_sending (Cleared other ∷ history) serial one = single_more (Cleared other) (sending_of history serial) refl (single_sending history serial one)
single_sending (Unplugged other ∷ history) serial one = single_more (Unplugged other) (sending_of history serial) refl (single_sending history serial one)
single_sending (Sent frame ∷ history) serial one =
    single_either (next_serial history == serial) (sending_of_heads (data_heads (line_of history) frame)) (option_map (followed_by (Sent frame)) (sending_of history serial)) refl
    (single_more (Sent frame) (sending_of history serial) refl (single_sending history serial one))
single_sending (Wrote blocks ∷ history) serial one =
    let both = and_parts (length blocks == 1) (list_all writes_one history) one in
    single_either (next_serial history == serial) (sending_of_heads (write_heads blocks)) (option_map (followed_by (Wrote blocks)) (sending_of history serial)) refl
    (single_more (Wrote blocks) (sending_of history serial) both.0 (single_sending history serial both.1))

-- what an arrival is

same_judge : (since : List HistoryEntry) (pair : Head × Part) → Plain since → Single since → first.judge since pair ≡ judge since pair
same_judge since pair plain one =
    ap (λ b. let it : Judged = record { head = pair.0; part = pair.1; verdict = cond b Stale (cond (pair.1.counter == pair.0.expected) Good Wrong) } in it) (outdated_first pair.0.item since plain one)

same_judged : (since : List HistoryEntry) (pairs : List (Head × Part)) → Plain since → Single since → map (first.judge since) pairs ≡ map (judge since) pairs
same_judged since [] plain one = refl
same_judged since (pair ∷ pairs) plain one =
    ap (λ it. it ∷ map (first.judge since) pairs) (same_judge since pair plain one) ∙ ap (λ rest. judge since pair ∷ rest) (same_judged since pairs plain one)

answer_if : (arrival : Arrival) (c : Bool) (sending : Sending) → Plain sending.since → Single sending.since
    → option_map_or (first.judged arrival) (cond c (Some sending) None) [] ≡ option_map_or (judged arrival) (cond c (Some sending) None) []
answer_if arrival true sending plain one = same_judged sending.since (zip sending.heads arrival.parts) plain one
answer_if arrival false sending plain one = refl

same_answer : (arrival : Arrival) (found : Option Sending) → PlainSince found → SingleSince found
    → option_map_or (first.judged arrival) (option_and_then (only_if (is_answer arrival)) found) [] ≡ option_map_or (judged arrival) (option_and_then (only_if (is_answer arrival)) found) []
same_answer arrival None plain one = refl
same_answer arrival (Some sending) plain one = answer_if arrival (is_answer arrival sending) sending plain one

-- no slave was forgotten, and each write has a frame of its own
abbrev pub AsAtFirst : History → Type 0
AsAtFirst history = Plain history × Single history

pub same-judged : (history : History) (arrival : Arrival) → AsAtFirst history → first.judged_by history arrival ≡ judged_by history arrival
same-judged history arrival kind =
    ap (λ found. option_map_or (first.judged arrival) (option_and_then (only_if (is_answer arrival)) found) []) (same_sending history arrival.serial kind.1)
    ∙ same_answer arrival (sending_of history arrival.serial) (plain_sending history arrival.serial kind.0) (single_sending history arrival.serial kind.1)

same_new_answer : (history : History) (arrival : Arrival) → AsAtFirst history → first.new_answer_by history arrival ≡ new_answer_by history arrival
same_new_answer history arrival kind = ap (flat_map new_answer) (same-judged history arrival kind)

-- what is awaited

same_outdated : (since : List HistoryEntry) (heads : List Head) → Plain since → Single since → first.all_sent_again since heads ≡ all_outdated since heads
same_outdated since [] plain one = refl
same_outdated since (head ∷ heads) plain one =
    ap (λ b. b && first.all_sent_again since heads) (outdated_first head.item since plain one) ∙ ap (λ b. is_outdated head.item since && b) (same_outdated since heads plain one)

same_awaited_still : (serial : ℕ) (found : Option Sending) → PlainSince found → SingleSince found → option_and_then (first.still_awaited serial) found ≡ option_and_then (still_awaited serial) found
same_awaited_still serial None plain one = refl
same_awaited_still serial (Some sending) plain one =
    ap (λ b. cond (is_ended serial sending || b) None (Some (record { heads = sending.heads; since = filter is_no_arrival sending.since }))) (same_outdated sending.since sending.heads plain one)

same_awaited : (history : History) (serial : ℕ) → AsAtFirst history → first.awaited history serial ≡ awaited history serial
same_awaited history serial kind =
    ap (option_and_then (first.still_awaited serial)) (same_sending history serial kind.1)
    ∙ same_awaited_still serial (sending_of history serial) (plain_sending history serial kind.0) (single_sending history serial kind.1)

-- what a task reads, and the updates

pub same_slot : (history : History) (task d : ℕ) → Plain history → Single history → first.slot_of history task d ≡ slot_of history task d
same_slot [] task d plain one = refl
same_slot (Opened groups ∷ history) task d plain one = refl
same_slot (Edited edit ∷ history) task d plain one = refl
same_slot (Came arrival ∷ history) task d plain one =
    ap (λ slot. fold (renewed task d) slot (first.new_answer_by history arrival)) (same_slot history task d plain one)
    ∙ ap (fold (renewed task d) (slot_of history task d)) (same_new_answer history arrival (plain, one))
same_slot (Forgot station ∷ history) task d plain one = cc
same_slot (Cleared other ∷ history) task d plain one = same_slot history task d plain one
same_slot (Unplugged other ∷ history) task d plain one = same_slot history task d plain one
same_slot (Posted post bytes ∷ history) task d plain one = same_slot history task d plain one
same_slot (Sent frame ∷ history) task d plain one = same_slot history task d plain one
same_slot (Wrote blocks ∷ history) task d plain one = same_slot history task d plain (and_parts (length blocks == 1) (list_all writes_one history) one).1

same_date : (history : History) (task d : ℕ) → Plain history → Single history → first.data_serial history task d ≡ data_serial history task d
same_date [] task d plain one = refl
same_date (Opened groups ∷ history) task d plain one = refl
same_date (Edited edit ∷ history) task d plain one = refl
same_date (Came arrival ∷ history) task d plain one =
    ap (λ date. fold (dated arrival.serial task d) date (first.new_answer_by history arrival)) (same_date history task d plain one)
    ∙ ap (fold (dated arrival.serial task d) (data_serial history task d)) (same_new_answer history arrival (plain, one))
same_date (Forgot station ∷ history) task d plain one = cc
same_date (Cleared other ∷ history) task d plain one = same_date history task d plain one
same_date (Unplugged other ∷ history) task d plain one = same_date history task d plain one
same_date (Posted post bytes ∷ history) task d plain one = same_date history task d plain one
same_date (Sent frame ∷ history) task d plain one = same_date history task d plain one
same_date (Wrote blocks ∷ history) task d plain one = same_date history task d plain (and_parts (length blocks == 1) (list_all writes_one history) one).1

same_updates : (history : History) → Plain history → Single history → first.updates_of history ≡ updates_of history
same_updates [] plain one = refl
same_updates (Opened groups ∷ history) plain one = refl
same_updates (Edited edit ∷ history) plain one = ap (λ updates. updates ++ Swapped edit ∷ []) (same_updates history plain one)
same_updates (Came arrival ∷ history) plain one =
    ap (λ updates. updates ++ map Answered (first.new_answer_by history arrival)) (same_updates history plain one)
    ∙ ap (λ good_answers. updates_of history ++ map Answered good_answers) (same_new_answer history arrival (plain, one))
same_updates (Forgot station ∷ history) plain one = cc
same_updates (Cleared other ∷ history) plain one = same_updates history plain one
same_updates (Unplugged other ∷ history) plain one = same_updates history plain one
same_updates (Posted post bytes ∷ history) plain one = same_updates history plain one
same_updates (Sent frame ∷ history) plain one = same_updates history plain one
same_updates (Wrote blocks ∷ history) plain one = same_updates history plain (and_parts (length blocks == 1) (list_all writes_one history) one).1

-- what is known, and what is owed

one_or : (same : Bool) (serial : ℕ) (block : LineBlock) (rest : Option (ℕ × List ℕ))
    → cond same (Some (serial, block.block.bytes)) rest ≡ option_or (option_map (write_of serial) (cond same (Some block) None)) rest
one_or true serial block rest = refl
one_or false serial block rest = refl

same_write : (history : History) (station number : ℕ) → AsAtFirst history → first.last_write history station number ≡ last_write history station number
same_write [] station number kind = refl
same_write (Opened groups ∷ history) station number kind = refl
same_write (Wrote [] ∷ history) station number kind = let never = kind.1 in cc
same_write (Wrote (block ∷ next ∷ blocks) ∷ history) station number kind = absurd (two_never block next blocks (list_all writes_one history) kind.1)
same_write (Wrote (block ∷ []) ∷ history) station number kind =
    ap (cond (same_item (Block station number) (block_item block)) (Some (next_serial history, block.block.bytes))) (same_write history station number (kind.0, kind.1))
    ∙ one_or (same_item (Block station number) (block_item block)) (next_serial history) block (last_write history station number)
same_write (Edited edit ∷ history) station number kind = ap (λ write. cond (is_in_line history station) write None) (same_write history station number (kind.0, kind.1))
same_write (Forgot other ∷ history) station number kind = let never = kind.0 in cc
same_write (Cleared other ∷ history) station number kind = same_write history station number (kind.0, kind.1)
same_write (Unplugged other ∷ history) station number kind = same_write history station number (kind.0, kind.1)
same_write (Posted task bytes ∷ history) station number kind = same_write history station number (kind.0, kind.1)
same_write (Sent frame ∷ history) station number kind = same_write history station number (kind.0, kind.1)
same_write (Came arrival ∷ history) station number kind = same_write history station number (kind.0, kind.1)

-- a write is confirmed by its own datagram, the only one of its frame

first_unconfirmed : (history : History) (serial : ℕ) → AsAtFirst history → next_serial history ≤ serial → first.was_confirmed history serial ≡ false
first_unconfirmed [] serial kind above = refl
first_unconfirmed (Opened groups ∷ history) serial kind above = refl
first_unconfirmed (Edited edit ∷ history) serial kind above = first_unconfirmed history serial (kind.0, kind.1) above
first_unconfirmed (Posted task bytes ∷ history) serial kind above = first_unconfirmed history serial (kind.0, kind.1) above
first_unconfirmed (Forgot station ∷ history) serial kind above = let never = kind.0 in cc
first_unconfirmed (Cleared other ∷ history) serial kind above = first_unconfirmed history serial (kind.0, kind.1) above
first_unconfirmed (Unplugged other ∷ history) serial kind above = first_unconfirmed history serial (kind.0, kind.1) above
first_unconfirmed (Sent frame ∷ history) serial kind above = first_unconfirmed history serial (kind.0, kind.1) (omega arith)
first_unconfirmed (Wrote blocks ∷ history) serial kind above =
    first_unconfirmed history serial (kind.0, (and_parts (length blocks == 1) (list_all writes_one history) kind.1).1) (omega arith)
first_unconfirmed (Came arrival ∷ history) serial kind above =
    let before : AsAtFirst history = (kind.0, kind.1) in
    let rest = first_unconfirmed history serial before above in
    by_bool (arrival.serial == serial)
    (λ t. let nothing : judged_by history arrival ≡ [] =
    unanswered arrival (sending_of history arrival.serial) (serial-made history arrival.serial ∙ not_below arrival.serial (next_serial history) serial t above) in
    ap (λ datagrams. ((arrival.serial == serial) && list_any has_good datagrams) || first.was_confirmed history serial) (same-judged history arrival before ∙ nothing)
    ∙ ap (λ b. (b && false) || first.was_confirmed history serial) t ∙ rest)
    (λ t. ap (λ b. (b && list_any has_good (first.judged_by history arrival)) || first.was_confirmed history serial) t ∙ rest)

same_confirms : (since : List HistoryEntry) (item : Item) (block : LineBlock) (parts : List Part) → same_item item (block_item block) ≡ true
    → list_any has_good (map (judge since) (zip (write_heads (block ∷ [])) parts)) ≡ list_any (confirms item) (map (judge since) (zip (write_heads (block ∷ [])) parts))
same_confirms since item block [] same = refl
same_confirms since item block (part ∷ parts) same = sym (ap (λ b. (b && has_good (judge since (write_head block, part))) || false) same)

same_good : (arrival : Arrival) (item : Item) (block : LineBlock) (since : List HistoryEntry) (answers : Bool) → same_item item (block_item block) ≡ true
    → let found : Option Sending = cond answers (Some (record { heads = write_heads (block ∷ []); since = since })) None in
    list_any has_good (option_map_or (judged arrival) found []) ≡ list_any (confirms item) (option_map_or (judged arrival) found [])
same_good arrival item block since true same = same_confirms since item block arrival.parts same
same_good arrival item block since false same = refl

is_serial : (a b : ℕ) → (a == b) ≡ true → b ≡ a
is_serial a b e = sym (eqb-true a b e)

confirmed_as : (since : List HistoryEntry) (before : History) (block : LineBlock) (item : Item) → same_item item (block_item block) ≡ true → list_any is_opening since ≡ false → AsAtFirst (since ++ Wrote (block ∷ []) ∷ before)
    → first.was_confirmed (since ++ Wrote (block ∷ []) ∷ before) (next_serial before) ≡ was_confirmed (since ++ Wrote (block ∷ []) ∷ before) (next_serial before) item
confirmed_as [] before block item same running kind =
    first_unconfirmed before (next_serial before) (kind.0, kind.1) (at_least (next_serial before)) ∙ sym (unconfirmed before (next_serial before) item (at_least (next_serial before)))
confirmed_as (Opened groups ∷ since) before block item same running kind = cc
confirmed_as (Edited edit ∷ since) before block item same running kind = confirmed_as since before block item same running (kind.0, kind.1)
confirmed_as (Posted task bytes ∷ since) before block item same running kind = confirmed_as since before block item same running (kind.0, kind.1)
confirmed_as (Forgot station ∷ since) before block item same running kind = let never = kind.0 in cc
confirmed_as (Cleared other ∷ since) before block item same running kind = confirmed_as since before block item same running (kind.0, kind.1)
confirmed_as (Unplugged other ∷ since) before block item same running kind = confirmed_as since before block item same running (kind.0, kind.1)
confirmed_as (Sent frame ∷ since) before block item same running kind = confirmed_as since before block item same running (kind.0, kind.1)
confirmed_as (Wrote blocks ∷ since) before block item same running kind =
    confirmed_as since before block item same running (kind.0, (and_parts (length blocks == 1) (list_all writes_one (since ++ Wrote (block ∷ []) ∷ before)) kind.1).1)
confirmed_as (Came arrival ∷ since) before block item same running kind =
    let history = since ++ Wrote (block ∷ []) ∷ before in
    let older : AsAtFirst history = (kind.0, kind.1) in
    let rest = confirmed_as since before block item same running older in
    let serial = next_serial before in
    by_bool (arrival.serial == serial)
    (λ t. let made : Sending = record { heads = write_heads (block ∷ []); since = since } in
    let there : sending_of history arrival.serial ≡ Some made = ap (sending_of history) (sym (is_serial arrival.serial serial t)) ∙ found-under since before (Wrote (block ∷ [])) refl running in
    let answered : judged_by history arrival ≡ option_map_or (judged arrival) (cond (is_answer arrival made) (Some made) None) [] =
    ap (λ found. option_map_or (judged arrival) (option_and_then (only_if (is_answer arrival)) found) []) there in
    let good_answers : list_any has_good (first.judged_by history arrival) ≡ list_any (confirms item) (judged_by history arrival) =
    ap (list_any has_good) (same-judged history arrival older ∙ answered) ∙ same_good arrival item block since (is_answer arrival made) same ∙ ap (list_any (confirms item)) (sym answered) in
    ap (λ b. ((arrival.serial == serial) && b) || first.was_confirmed history serial) good_answers
    ∙ ap (λ b. ((arrival.serial == serial) && list_any (confirms item) (judged_by history arrival)) || b) rest)
    (λ t. ap (λ b. (b && list_any has_good (first.judged_by history arrival)) || first.was_confirmed history serial) t
    ∙ rest ∙ sym (ap (λ b. (b && list_any (confirms item) (judged_by history arrival)) || was_confirmed history serial item) t))

single_at : (since : List HistoryEntry) (blocks : List LineBlock) (before : History) → Single (since ++ Wrote blocks ∷ before) → length blocks ≡ 1
single_at [] blocks before one = eqb-true (length blocks) 1 (and_parts (length blocks == 1) (list_all writes_one before) one).0
single_at (entry ∷ since) blocks before one = single_at since blocks before (and_parts (writes_one entry) (list_all writes_one (since ++ Wrote blocks ∷ before)) one).1

among_first : (same : Bool) (block found : LineBlock) → cond same (Some block) None ≡ Some found → same ≡ true
among_first true block found e = refl
among_first false block found e = cc

confirmed_by : (since : List HistoryEntry) (blocks : List LineBlock) (before : History) (station number : ℕ) (block : LineBlock) → length blocks ≡ 1 → block_among station number blocks ≡ Some block → list_any is_opening since ≡ false
    → AsAtFirst (since ++ Wrote blocks ∷ before)
    → first.was_confirmed (since ++ Wrote blocks ∷ before) (next_serial before) ≡ was_confirmed (since ++ Wrote blocks ∷ before) (next_serial before) (Block station number)
confirmed_by since [] before station number block one among running kind = cc
confirmed_by since (own ∷ next ∷ blocks) before station number block one among running kind = absurd (omega arith)
confirmed_by since (own ∷ []) before station number block one among running kind =
    confirmed_as since before own (Block station number) (among_first (same_item (Block station number) (block_item own)) own block among) running kind

same_confirmed : (history : History) (station number : ℕ) (write : ℕ × List ℕ) → last_write history station number ≡ Some write → AsAtFirst history
    → first.was_confirmed history write.0 ≡ was_confirmed history write.0 (Block station number)
same_confirmed history station number write e kind =
    let last = is_placed-last history station number write e in
    let there = last.since ++ Wrote last.blocks ∷ last.before in
    let kind_there : AsAtFirst there = subst AsAtFirst last.split kind in
    let serial : write.0 ≡ next_serial last.before = ap (λ (w : ℕ × List ℕ). w.0) last.written in
    ap (first.was_confirmed history) serial ∙ ap (λ entries. first.was_confirmed entries (next_serial last.before)) last.split
    ∙ confirmed_by last.since last.blocks last.before station number last.block (single_at last.since last.blocks last.before kind_there.1) last.among last.running kind_there
    ∙ sym (ap (λ entries. was_confirmed entries (next_serial last.before) (Block station number)) last.split)
    ∙ sym (ap (λ serial. was_confirmed history serial (Block station number)) serial)

known_either : (history : History) (station number : ℕ) (write : Option (ℕ × List ℕ)) → last_write history station number ≡ write → AsAtFirst history
    → option_and_then (first.if_confirmed history) write ≡ option_and_then (if_confirmed history (Block station number)) write
known_either history station number None e kind = refl
known_either history station number (Some write) e kind = ap (λ b. cond b (Some write.1) None) (same_confirmed history station number write e kind)

same_known : (history : History) (station number : ℕ) → AsAtFirst history → first.known_bytes history station number ≡ known_bytes history station number
same_known history station number kind =
    ap (option_and_then (first.if_confirmed history)) (same_write history station number kind) ∙ known_either history station number (last_write history station number) refl kind

pub same-owed : (history : History) → AsAtFirst history → first.owed_blocks history ≡ owed_blocks history
same-owed history kind =
    filter-same (first.is_owed history) (is_owed history)
    (λ block. ap (λ known. not (option_map_or (bytes_eq block.block.bytes) known false)) (same_known history block.station block.number kind))
    (line_blocks (line_of history))

pub says-first : (history : History) → AsAtFirst history → SaysAsAtFirst history
says-first history kind = record {
  judged = λ arrival. same-judged history arrival kind;
  awaits = λ serial. same_awaited history serial kind;
  slots = λ task d. same_slot history task d kind.0 kind.1;
  dates = λ task d. same_date history task d kind.0 kind.1;
  updates = same_updates history kind.0 kind.1;
  known = λ station number. same_known history station number kind;
  owed = same-owed history kind;
}

-- the answer to an arrival

abbrev no_block : Judged → Type 0
no_block datagram = is_block datagram.head.item ≡ false

good_item : (item : Item) → is_block item ≡ false → first.inputs_of item ≡ inputs_of item
good_item (Datagram task d) plain = refl
good_item (Block station number) plain = cc

wrong_item : (item : Item) (expected got : ℕ) → is_block item ≡ false → outcome.WrongCount expected got ≡ wrong_of item expected got
wrong_item (Datagram task d) expected got plain = refl
wrong_item (Block station number) expected got plain = cc

by_item : (head : Head) (part : Part) (verdict : Verdict) → is_block head.item ≡ false → first.outcome_of head part verdict ≡ outcome_of head part verdict
by_item head part Stale plain = refl
by_item head part Good plain = good_item head.item plain
by_item head part Wrong plain = wrong_item head.item head.expected part.counter plain

same_outcome : (datagram : Judged) → no_block datagram → first.outcome_for datagram ≡ outcome_for datagram
same_outcome datagram plain = by_item datagram.head datagram.part datagram.verdict plain

same_outcomes : (datagrams : List Judged) → All no_block datagrams → map first.outcome_for datagrams ≡ map outcome_for datagrams
same_outcomes [] all = refl
same_outcomes (datagram ∷ datagrams) all =
    ap (λ one. one ∷ map first.outcome_for datagrams) (same_outcome datagram (All-head no_block datagram datagrams all))
    ∙ ap (λ rest. outcome_for datagram ∷ rest) (same_outcomes datagrams (All-tail no_block datagram datagrams all))

answered_plain : (datagrams : List Judged) → All no_block datagrams → first.judged_answer datagrams ≡ judged_answer datagrams
answered_plain [] all = refl
answered_plain (datagram ∷ datagrams) all =
    let plain = All-head no_block datagram datagrams all in
    ap (λ outcomes. cond (is_block datagram.head.item) (write_answer datagram.verdict) (cond (list_any is_current (datagram ∷ datagrams)) (answer.Answered outcomes) answer.Stale)) (same_outcomes (datagram ∷ datagrams) all)
    ∙ ap (λ b. cond b (write_answer datagram.verdict) (cond (list_any is_current (datagram ∷ datagrams)) (answer.Answered (map outcome_for (datagram ∷ datagrams))) answer.Stale)) plain
    ∙ sym (ap (λ b. cond b (judged_blocks_answer (datagram ∷ datagrams)) (cond (list_any is_current (datagram ∷ datagrams)) (answer.Answered (map outcome_for (datagram ∷ datagrams))) answer.Stale)) plain)

data_plain : (line : List Member) (since : List HistoryEntry) (frame : List Named) (parts : List Part) → All no_block (map (judge since) (zip (data_heads line frame) parts))
data_plain line since [] parts = All-nil no_block
data_plain line since (named ∷ frame) [] = All-nil no_block
data_plain line since (named ∷ frame) (part ∷ parts) =
    All-cons no_block (judge since (data_head line named, part)) (map (judge since) (zip (data_heads line frame) parts)) refl (data_plain line since frame parts)

answered_one : (since : List HistoryEntry) (block : LineBlock) (parts : List Part)
    → first.judged_answer (map (judge since) (zip (write_heads (block ∷ [])) parts)) ≡ judged_answer (map (judge since) (zip (write_heads (block ∷ [])) parts))
answered_one since block [] = refl
answered_one since block (part ∷ parts) = refl

answered_single : (since : List HistoryEntry) (blocks : List LineBlock) (parts : List Part) → length blocks ≡ 1
    → first.judged_answer (map (judge since) (zip (write_heads blocks) parts)) ≡ judged_answer (map (judge since) (zip (write_heads blocks) parts))
answered_single since [] parts one = cc
answered_single since (block ∷ []) parts one = answered_one since block parts
answered_single since (block ∷ next ∷ blocks) parts one = absurd (omega arith)

answered_by_entry : (history : History) (sending : Sending) (parts : List Part) (before : History) (entry : HistoryEntry) → Single history → history ≡ sending.since ++ entry ∷ before → is_sending entry ≡ true → sending.heads ≡ heads_of before entry
    → first.judged_answer (map (judge sending.since) (zip sending.heads parts)) ≡ judged_answer (map (judge sending.since) (zip sending.heads parts))
answered_by_entry history sending parts before (Opened groups) one split sends heads = cc
answered_by_entry history sending parts before (Edited edit) one split sends heads = cc
answered_by_entry history sending parts before (Posted task bytes) one split sends heads = cc
answered_by_entry history sending parts before (Came arrival) one split sends heads = cc
answered_by_entry history sending parts before (Forgot station) one split sends heads = cc
answered_by_entry history sending parts before (Cleared other) one split sends heads = cc
answered_by_entry history sending parts before (Unplugged other) one split sends heads = cc
answered_by_entry history sending parts before (Sent frame) one split sends heads =
    answered_plain (map (judge sending.since) (zip sending.heads parts))
    (subst (λ all. All no_block (map (judge sending.since) (zip all parts))) (sym heads) (data_plain (line_of before) sending.since frame parts))
answered_by_entry history sending parts before (Wrote blocks) one split sends heads =
    let single = single_at sending.since blocks before (subst Single split one) in
    subst (λ all. first.judged_answer (map (judge sending.since) (zip all parts)) ≡ judged_answer (map (judge sending.since) (zip all parts))) (sym heads) (answered_single sending.since blocks parts single)

pub answered_if : (history : History) (arrival : Arrival) (found : Option Sending) → sending_of history arrival.serial ≡ found → Single history
    → first.judged_answer (option_map_or (judged arrival) (option_and_then (only_if (is_answer arrival)) found) []) ≡ judged_answer (option_map_or (judged arrival) (option_and_then (only_if (is_answer arrival)) found) [])
answered_if history arrival None there one = refl
answered_if history arrival (Some sending) there one =
    let at = is_placed-at history arrival.serial sending there in
    by_bool (is_answer arrival sending)
    (λ t. let same = answered_by_entry history sending arrival.parts at.before at.entry one at.split at.sends at.heads in
    ap (λ b. first.judged_answer (option_map_or (judged arrival) (cond b (Some sending) None) [])) t ∙ same ∙ sym (ap (λ b. judged_answer (option_map_or (judged arrival) (cond b (Some sending) None) [])) t))
    (λ t. ap (λ b. first.judged_answer (option_map_or (judged arrival) (cond b (Some sending) None) [])) t ∙ sym (ap (λ b. judged_answer (option_map_or (judged arrival) (cond b (Some sending) None) [])) t))

-- Frames of register writes that are answered well leave owed what they didn't carry.
use Rattle.std.proofs.Common.{◌≡◌, ℕ, Bool, true, false, cond, not, ◌&&◌, ◌||◌, List, [], ◌∷◌, ◌++◌, filter, map, refl, sym, ap, ◌∙◌, subst, Option, Some, rules}
use Rattle.std.specs.Prelude.{All, option_map}
use Rattle.std.specs.Option.{option_map_or, option_or}
use Rattle.std.specs.List.{list_all, list_any, zip}
use Rattle.std.specs.Str.{bytes_eq}
use Rattle.std.proofs.lemmas.Bool.{and_parts, not-true, or_left, or_parts, or_right}
use Rattle.std.proofs.lemmas.List.Elements.{All-contains_itself, All-head, All-tail}
use Rattle.std.proofs.lemmas.List.Folds.{list_any-append}
use Rattle.hc_records.specs.Line.{line}
use Rattle.hc_records.specs.Lists.{lowest}
use Rattle.hc_records.proofs.lemmas.Choices.{by_bool}
use Rattle.hc_registers.specs.Blocks.{LineBlock, line_blocks}
use Rattle.hc_events.specs.Arrivals.{Arrival, Part}
use Rattle.hc_events.specs.Entries.{HistoryEntry, History, Opened, Edited, Posted, Sent, Wrote, Came, Forgot, Cleared, Unplugged}
use Rattle.hc_events.specs.Points.{line_of, next_serial, state_of}
use Rattle.hc_events.specs.Heads.{Block, Datagram, Head, Item, block_item, is_block, same_item, write_heads}
use Rattle.hc_events.specs.Answering.{Judged, answered_by, has_good, judge, judged, judged_by, has_head, has_heads}
use Rattle.hc_events.specs.Owed.{confirms, is_owed, known_bytes, last_write, owed_blocks, block_among, write_of}
use Rattle.hc_events.specs.Steps.{SendsWrites, entries_after, with_writes, write_faults}
use Rattle.hc_events.specs.WriteFrames.{frame_blocks}
use Rattle.hc_events.specs.AnswerLaws.{HasOwnNames}
use Rattle.hc_events.specs.WriteLaws.{AreDone, AreKnown, IsDone, Round, after_all_done, after_done, carried_blocks, confirms_block, is_carried, leave_known, sent_at}
use Rattle.hc_events.proofs.lemmas.Answers.{owed-inside, answers-first}
use Rattle.hc_events.proofs.lemmas.Confirmed.{heads_named, known-came, confirms-by}
use Rattle.hc_events.proofs.lemmas.Fronts.{beside-front, front-all}
use Rattle.hc_events.proofs.lemmas.Live.{others-as_before}
use Rattle.hc_events.proofs.lemmas.TwoWrites.{InLine}
use Rattle.hc_events.proofs.Proposals.{frame-some, unchanged_next, written_next}
use Rattle.std.proofs.lemmas.Slice.Eq.{bytes_eq-Decides}

and_false : (b : Bool) → false ≡ (b && false)
and_false true = refl
and_false false = refl

and_true : (b : Bool) → b ≡ (b && true)
and_true true = refl
and_true false = refl

bytes_alike : (bytes : List ℕ) → bytes_eq bytes bytes ≡ true
bytes_alike bytes = search (rules, bytes_eq-Decides)

-- each block of the frame is confirmed, and no other

all_confirm : (since : List HistoryEntry) (item : Item) (heads : List Head) (parts : List Part) → has_heads heads parts ≡ true → list_any (λ head. same_item item head.item) heads ≡ true
    → list_all has_good (map (judge since) (zip heads parts)) ≡ true → list_any (confirms item) (map (judge since) (zip heads parts)) ≡ true
all_confirm since item [] parts fit named good = cc
all_confirm since item (head ∷ heads) [] fit named good = cc
all_confirm since item (head ∷ heads) (part ∷ parts) fit named good =
    let one = judge since (head, part) in
    let others : List Judged = map (judge since) (zip heads parts) in
    let both = and_parts (has_good one) (list_all has_good others) good in
    by_bool (same_item item head.item)
    (λ t. or_left (confirms item one) (list_any (confirms item) others) (ap (λ b. b && has_good one) t ∙ both.0))
    (λ t. or_right (confirms item one) (list_any (confirms item) others)
    (all_confirm since item heads parts (and_parts (has_head head part) (has_heads heads parts) fit).1
    (sym (ap (λ b. b || list_any (λ head. same_item item head.item) heads) t) ∙ named) both.1))

-- a block that is found is one of these

record IsFoundAmong (P : LineBlock → Type 0) (other : LineBlock) (found : Option LineBlock) : Type 0 where
  block : LineBlock
  is : found ≡ Some block
  known : P block
  same : same_item (block_item other) (block_item block) ≡ true

found_more : (P : LineBlock → Type 0) (other first : LineBlock) (blocks : List LineBlock) → IsFoundAmong P other (block_among other.station other.number blocks) → same_item (block_item other) (block_item first) ≡ false
    → IsFoundAmong P other (block_among other.station other.number (first ∷ blocks))
found_more P other first blocks one differs = record {
  block = one.block;
  is = ap (λ b. cond b (Some first) (block_among other.station other.number blocks)) differs ∙ one.is;
  known = one.known;
  same = one.same;
}

found_among : (P : LineBlock → Type 0) (other : LineBlock) (blocks : List LineBlock) → All P blocks → is_carried blocks other ≡ true → IsFoundAmong P other (block_among other.station other.number blocks)
found_among P other [] all named = cc
found_among P other (first ∷ blocks) all named =
    by_bool (same_item (block_item other) (block_item first))
    (λ t. record { block = first; is = ap (λ b. cond b (Some first) (block_among other.station other.number blocks)) t; known = All-head P first blocks all; same = t })
    (λ t. found_more P other first blocks
    (found_among P other blocks (All-tail P first blocks all) (sym (ap (λ b. b || is_carried blocks other) t) ∙ named)) t)

-- entries that leave what is known

not_confirmed : (item : Item) (datagram : Judged) → is_block item ≡ true → confirms_block datagram ≡ false → confirms item datagram ≡ false
not_confirmed item datagram block none =
    by_bool (confirms item datagram)
    (λ t. let both = and_parts (same_item item datagram.head.item) (has_good datagram) t in
    let never : true ≡ false = sym (ap (λ b. b && has_good datagram) (same_kind item datagram.head.item block both.0) ∙ both.1) ∙ none in cc)
    (λ t. t)
  where
    same_kind : (a b : Item) → is_block a ≡ true → same_item a b ≡ true → is_block b ≡ true
    same_kind (Datagram task d) b block same = cc
    same_kind (Block station number) (Datagram task d) block same = cc
    same_kind (Block station number) (Block other n) block same = refl

none_confirmed : (item : Item) (datagrams : List Judged) → is_block item ≡ true → list_any confirms_block datagrams ≡ false → list_any (confirms item) datagrams ≡ false
none_confirmed item [] block none = refl
none_confirmed item (datagram ∷ datagrams) block none =
    let parts = or_parts (confirms_block datagram) (list_any confirms_block datagrams) none in
    ap (λ b. b || list_any (confirms item) datagrams) (not_confirmed item datagram block parts.0) ∙ none_confirmed item datagrams block parts.1

record StaysKnown (since : List HistoryEntry) (history : History) : Type 0 where
  state : state_of (since ++ history) ≡ state_of history
  write : (station number : ℕ) → last_write (since ++ history) station number ≡ last_write history station number
  known : (station number : ℕ) → known_bytes (since ++ history) station number ≡ known_bytes history station number

came_known : (since : List HistoryEntry) (history : History) (arrival : Arrival) → list_any confirms_block (judged_by (since ++ history) arrival) ≡ false → StaysKnown since history → StaysKnown (Came arrival ∷ since) history
came_known since history arrival none before = record {
  state = before.state;
  write = before.write;
  known = λ station number.
      known-came (since ++ history) arrival station number
      ∙ ap (λ b. cond b (option_map (λ write. write.1) (last_write (since ++ history) station number)) (known_bytes (since ++ history) station number))
      (none_confirmed (Block station number) (judged_by (since ++ history) arrival) refl none)
      ∙ before.known station number;
}

stays_known : (since : List HistoryEntry) (history : History) → leave_known history since ≡ true → StaysKnown since history
stays_known [] history quiet = record { state = refl; write = λ station number. refl; known = λ station number. refl }
stays_known (Opened groups ∷ since) history quiet = cc
stays_known (Edited edit ∷ since) history quiet = cc
stays_known (Wrote blocks ∷ since) history quiet = cc
stays_known (Forgot station ∷ since) history quiet = cc
stays_known (Posted task bytes ∷ since) history quiet = let before = stays_known since history quiet in record { state = before.state; write = before.write; known = before.known }
stays_known (Sent frame ∷ since) history quiet = let before = stays_known since history quiet in record { state = before.state; write = before.write; known = before.known }
stays_known (Cleared station ∷ since) history quiet = let before = stays_known since history quiet in record { state = before.state; write = before.write; known = before.known }
stays_known (Unplugged station ∷ since) history quiet = let before = stays_known since history quiet in record { state = before.state; write = before.write; known = before.known }
stays_known (Came arrival ∷ since) history quiet =
    let parts = and_parts (not (list_any confirms_block (judged_by (since ++ history) arrival))) (leave_known history since) quiet in
    came_known since history arrival (not-true (list_any confirms_block (judged_by (since ++ history) arrival)) parts.0) (stays_known since history parts.1)

filter_same : (p q : LineBlock → Bool) → ((x : LineBlock) → p x ≡ q x) → (blocks : List LineBlock) → filter p blocks ≡ filter q blocks
filter_same p q same [] = refl
filter_same p q same (x ∷ blocks) = ap (λ b. cond b (x ∷ filter p blocks) (filter p blocks)) (same x) ∙ ap (λ xs. cond (q x) (x ∷ xs) xs) (filter_same p q same blocks)

same_owing : (since : List HistoryEntry) (history : History) (block : LineBlock) → StaysKnown since history → is_owed (since ++ history) block ≡ is_owed history block
same_owing since history block stays = ap (λ known. not (option_map_or (bytes_eq block.block.bytes) known false)) (stays.known block.station block.number)

stays_owed : (since : List HistoryEntry) (history : History) → StaysKnown since history → owed_blocks (since ++ history) ≡ owed_blocks history
stays_owed since history stays =
    filter_same (is_owed (since ++ history)) (is_owed history) (λ block. same_owing since history block stays) (line_blocks (line_of (since ++ history)))
    ∙ ap (λ state. filter (is_owed history) (line_blocks (line state))) stays.state

-- so it is with each block of the line

record IsSent (history : History) (since : List HistoryEntry) (arrival : Arrival) : Type 0 where
  stays : StaysKnown since (Wrote (frame_blocks (owed_blocks history)) ∷ history)
  answered : answered_by (since ++ Wrote (frame_blocks (owed_blocks history)) ∷ history) arrival ≡ Some (record { heads = write_heads (frame_blocks (owed_blocks history)); since = since })
  good : list_all has_good (judged_by (since ++ Wrote (frame_blocks (owed_blocks history)) ∷ history) arrival) ≡ true

abbrev left_owed : History → LineBlock → Bool
left_owed history other = is_owed history other && not (is_carried (frame_blocks (owed_blocks history)) other)

judged_are : (history : History) (since : List HistoryEntry) (arrival : Arrival) → IsSent history since arrival
    → judged_by (since ++ Wrote (frame_blocks (owed_blocks history)) ∷ history) arrival ≡ map (judge since) (zip (write_heads (frame_blocks (owed_blocks history))) arrival.parts)
judged_are history since arrival sent = ap (λ found. option_map_or (judged arrival) found []) sent.answered

frame_inside : (history : History) → All (InLine (line_of history)) (frame_blocks (owed_blocks history))
frame_inside history =
    let front = beside-front 0 (owed_blocks history) in
    front-all (InLine (line_of history)) (frame_blocks (owed_blocks history)) front.rest (subst (All (InLine (line_of history))) front.joined (owed-inside history))

carried_known : (history : History) (since : List HistoryEntry) (arrival : Arrival) (other : LineBlock) → HasOwnNames (line_of history) → IsSent history since arrival → InLine (line_of history) other
    → is_carried (frame_blocks (owed_blocks history)) other ≡ true → is_owed (Came arrival ∷ since ++ Wrote (frame_blocks (owed_blocks history)) ∷ history) other ≡ false
carried_known history since arrival other names sent known carried =
    let blocks = frame_blocks (owed_blocks history) in
    let next = Wrote blocks ∷ history in
    let now = since ++ next in
    let item = block_item other in
    let fit = ((answers-first now arrival (record { heads = write_heads blocks; since = since })).0 sent.answered).fits in
    let good : list_all has_good (map (judge since) (zip (write_heads blocks) arrival.parts)) ≡ true = sym (ap (list_all has_good) (judged_are history since arrival sent)) ∙ sent.good in
    let confirmed : list_any (confirms item) (judged_by now arrival) ≡ true =
    ap (list_any (confirms item)) (judged_are history since arrival sent) ∙ all_confirm since item (write_heads blocks) arrival.parts fit (heads_named item blocks ∙ carried) good in
    let found = found_among (InLine (line_of history)) other blocks (frame_inside history) carried in
    let same : other ≡ found.block = names other found.block known found.known found.same in
    let bytes : known_bytes (Came arrival ∷ now) other.station other.number ≡ Some found.block.block.bytes =
    known-came now arrival other.station other.number
    ∙ ap (λ b. cond b (option_map (λ write. write.1) (last_write now other.station other.number)) (known_bytes now other.station other.number)) confirmed
    ∙ ap (option_map (λ write. write.1)) (sent.stays.write other.station other.number)
    ∙ ap (λ one. option_map (λ write. write.1) (option_or (option_map (write_of (next_serial history)) one) (last_write history other.station other.number))) found.is in
    ap (λ one. not (option_map_or (bytes_eq other.block.bytes) one false)) (bytes ∙ ap (λ (b : LineBlock). Some b.block.bytes) (sym same))
    ∙ ap not (bytes_alike other.block.bytes)

others_known : (history : History) (since : List HistoryEntry) (arrival : Arrival) (other : LineBlock) → IsSent history since arrival → is_carried (frame_blocks (owed_blocks history)) other ≡ false
    → is_owed (Came arrival ∷ since ++ Wrote (frame_blocks (owed_blocks history)) ∷ history) other ≡ is_owed history other
others_known history since arrival other sent carried =
    let blocks = frame_blocks (owed_blocks history) in
    let next = Wrote blocks ∷ history in
    let now = since ++ next in
    let item = block_item other in
    let none : list_any (confirms item) (judged_by now arrival) ≡ false =
    by_bool (list_any (confirms item) (judged_by now arrival))
    (λ t. let one = confirms-by since other.station other.number (write_heads blocks) arrival.parts (sym (ap (list_any (confirms item)) (judged_are history since arrival sent)) ∙ t) in
    let never : true ≡ false = sym one.carried ∙ heads_named item blocks ∙ carried in cc)
    (λ t. t) in
    ap (λ one. not (option_map_or (bytes_eq other.block.bytes) one false))
    (known-came now arrival other.station other.number
    ∙ ap (λ b. cond b (option_map (λ write. write.1) (last_write now other.station other.number)) (known_bytes now other.station other.number)) none
    ∙ sent.stays.known other.station other.number)
    ∙ others-as_before history blocks other carried

owed_left : (history : History) (since : List HistoryEntry) (arrival : Arrival) (other : LineBlock) → HasOwnNames (line_of history) → IsSent history since arrival → InLine (line_of history) other
    → is_owed (Came arrival ∷ since ++ Wrote (frame_blocks (owed_blocks history)) ∷ history) other ≡ left_owed history other
owed_left history since arrival other names sent known =
    by_bool (is_carried (frame_blocks (owed_blocks history)) other)
    (λ t. carried_known history since arrival other names sent known t ∙ and_false (is_owed history other) ∙ sym (ap (λ b. is_owed history other && not b) t))
    (λ t. others_known history since arrival other sent t ∙ and_true (is_owed history other) ∙ sym (ap (λ b. is_owed history other && not b) t))

-- lists of blocks that pass

filter_both : (P : LineBlock → Type 0) (p c q : LineBlock → Bool) → ((x : LineBlock) → P x → q x ≡ (p x && not (c x))) → (blocks : List LineBlock) → All P blocks
    → filter q blocks ≡ filter (λ x. not (c x)) (filter p blocks)
filter_both P p c q same [] all = refl
filter_both P p c q same (x ∷ blocks) all =
    let rest = filter_both P p c q same blocks (All-tail P x blocks all) in
    let here = same x (All-head P x blocks all) in
    by_bool (p x)
    (λ t. ap (λ b. cond b (x ∷ filter q blocks) (filter q blocks)) (here ∙ ap (λ b. b && not (c x)) t)
    ∙ ap (λ xs. cond (not (c x)) (x ∷ xs) xs) rest
    ∙ sym (ap (λ b. filter (λ x. not (c x)) (cond b (x ∷ filter p blocks) (filter p blocks))) t))
    (λ t. ap (λ b. cond b (x ∷ filter q blocks) (filter q blocks)) (here ∙ ap (λ b. b && not (c x)) t)
    ∙ rest
    ∙ sym (ap (λ b. filter (λ x. not (c x)) (cond b (x ∷ filter p blocks) (filter p blocks))) t))

filter_twice : (a b c : LineBlock → Bool) → ((x : LineBlock) → c x ≡ (a x || b x)) → (blocks : List LineBlock) → filter (λ x. not (b x)) (filter (λ x. not (a x)) blocks) ≡ filter (λ x. not (c x)) blocks
filter_twice a b c same [] = refl
filter_twice a b c same (x ∷ blocks) =
    let rest = filter_twice a b c same blocks in
    by_bool (a x)
    (λ t. ap (λ d. filter (λ x. not (b x)) (cond (not d) (x ∷ filter (λ x. not (a x)) blocks) (filter (λ x. not (a x)) blocks))) t ∙ rest
    ∙ sym (ap (λ d. cond (not d) (x ∷ filter (λ x. not (c x)) blocks) (filter (λ x. not (c x)) blocks)) (same x ∙ ap (λ d. d || b x) t)))
    (λ t. ap (λ d. filter (λ x. not (b x)) (cond (not d) (x ∷ filter (λ x. not (a x)) blocks) (filter (λ x. not (a x)) blocks))) t
    ∙ ap (λ xs. cond (not (b x)) (x ∷ xs) xs) rest
    ∙ sym (ap (λ d. cond (not d) (x ∷ filter (λ x. not (c x)) blocks) (filter (λ x. not (c x)) blocks)) (same x ∙ ap (λ d. d || b x) t)))

filter_every : (blocks : List LineBlock) → filter (λ x. true) blocks ≡ blocks
filter_every [] = refl
filter_every (x ∷ blocks) = ap (λ xs. x ∷ xs) (filter_every blocks)

none_pass : (c : LineBlock → Bool) (blocks : List LineBlock) → All (λ x. c x ≡ true) blocks → filter (λ x. not (c x)) blocks ≡ []
none_pass c [] all = refl
none_pass c (x ∷ blocks) all =
    ap (λ d. cond (not d) (x ∷ filter (λ x. not (c x)) blocks) (filter (λ x. not (c x)) blocks)) (All-head (λ y. c y ≡ true) x blocks all)
    ∙ none_pass c blocks (All-tail (λ y. c y ≡ true) x blocks all)

-- a frame and its answer

sent_next : (history : History) (round : Round) → IsDone history round → entries_after (sent_at history round) SendsWrites ≡ Wrote (frame_blocks (owed_blocks (sent_at history round))) ∷ sent_at history round
sent_next history round done =
    let at = sent_at history round in
    unchanged_next at (with_writes at (frame_blocks (owed_blocks at))) (lowest (write_faults at (owed_blocks at))) done.sent
    ∙ written_next at (frame_blocks (owed_blocks at)) (frame-some at done.sent)

sent_by : (history : History) (round : Round) → IsDone history round → IsSent (sent_at history round) round.since round.arrival
sent_by history round done =
    let next = sent_next history round done in
    record {
      stays = stays_known round.since (Wrote (frame_blocks (owed_blocks (sent_at history round))) ∷ sent_at history round) (sym (ap (λ entries. leave_known entries round.since) next) ∙ done.quiet_since);
      answered = sym (ap (λ entries. answered_by (round.since ++ entries) round.arrival) next) ∙ done.answered;
      good = sym (ap (λ entries. list_all has_good (judged_by (round.since ++ entries) round.arrival)) next) ∙ done.good;
    }

sent_line : (history : History) (round : Round) → IsDone history round → line_of (sent_at history round) ≡ line_of history
sent_line history round done = ap line (stays_known round.before history done.quiet_before).state

after_line : (history : History) (round : Round) → IsDone history round → line_of (after_done history round) ≡ line_of history
after_line history round done =
    ap (λ entries. line_of (round.since ++ entries)) (sent_next history round done) ∙ ap line (sent_by history round done).stays.state ∙ sent_line history round done

one_done : (history : History) (round : Round) → HasOwnNames (line_of history) → IsDone history round
    → owed_blocks (after_done history round) ≡ filter (λ block. not (is_carried (frame_blocks (owed_blocks (sent_at history round))) block)) (owed_blocks history)
one_done history round names done =
    let at = sent_at history round in
    let blocks = frame_blocks (owed_blocks at) in
    let sent = sent_by history round done in
    let now = round.since ++ Wrote blocks ∷ at in
    let own : HasOwnNames (line_of at) = subst HasOwnNames (sym (sent_line history round done)) names in
    ap (λ entries. owed_blocks (Came round.arrival ∷ round.since ++ entries)) (sent_next history round done)
    ∙ ap (λ state. filter (is_owed (Came round.arrival ∷ now)) (line_blocks (line state))) sent.stays.state
    ∙ filter_both (InLine (line_of at)) (is_owed at) (is_carried blocks) (is_owed (Came round.arrival ∷ now))
    (λ x known. owed_left at round.since round.arrival x own sent known) (line_blocks (line_of at)) (All-contains_itself (line_blocks (line_of at)))
    ∙ ap (filter (λ block. not (is_carried blocks block))) (stays_owed round.before history (stays_known round.before history done.quiet_before))

all_done : (history : History) (rounds : List Round) → HasOwnNames (line_of history) → AreDone history rounds
    → owed_blocks (after_all_done history rounds) ≡ filter (λ block. not (is_carried (carried_blocks history rounds) block)) (owed_blocks history)
all_done history [] names done = sym (filter_every (owed_blocks history))
all_done history (round ∷ rounds) names done =
    let after = after_done history round in
    let blocks = frame_blocks (owed_blocks (sent_at history round)) in
    let others = carried_blocks after rounds in
    let names_after : HasOwnNames (line_of after) = subst HasOwnNames (sym (after_line history round done.0)) names in
    all_done after rounds names_after done.1
    ∙ ap (filter (λ block. not (is_carried others block))) (one_done history round names done.0)
    ∙ filter_twice (is_carried blocks) (is_carried others) (is_carried (blocks ++ others))
    (λ x. list_any-append (λ block. same_item (block_item x) (block_item block)) blocks others) (owed_blocks history)

pub done-known : (history : History) (rounds : List Round) → HasOwnNames (line_of history) → AreDone history rounds → AreKnown history rounds
done-known history rounds names done = record {
  owed = all_done history rounds names done;
  nothing = λ all. all_done history rounds names done ∙ none_pass (is_carried (carried_blocks history rounds)) (owed_blocks history) all;
}

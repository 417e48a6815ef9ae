-- A block of an awaited frame that isn't out of date is under way, and each block under way is of such a frame. A further frame carries none of them.
use Rattle.std.proofs.Common.{◌≡◌, ℕ, ◌==◌, Bool, true, false, cond, not, ◌&&◌, ◌||◌, List, [], ◌∷◌, ◌++◌, filter, length, refl, sym, ap, ◌∙◌, subst, Option, Some, None}
use Rattle.std.specs.Prelude.{All, Contains, is_some, option_and_then, option_map}
use Rattle.std.specs.Option.{option_map_or, option_or}
use Rattle.std.specs.List.{list_any}
use Rattle.std.specs.Str.{bytes_eq}
use Rattle.std.proofs.lemmas.Bool.{and_parts, eqb-true, not-true, or_left, or_right}
use Rattle.std.proofs.lemmas.List.Elements.{All-head, All-tail, All-weaker, filter_passes}
use Rattle.std.proofs.lemmas.Option.{same_Some}
use Rattle.std.proofs.lemmas.Slice.Eq.{bytes_eq-Decides}
use Rattle.hc_records.specs.Lists.{lowest}
use Rattle.hc_records.proofs.lemmas.Choices.{by_bool, is_other}
use Rattle.hc_registers.specs.Blocks.{LineBlock, line_blocks}
use Rattle.hc_events.specs.declared.faults.CoreFault.{CoreFault}
use Rattle.hc_events.specs.declared.faults.CoreFault.TheVariants.{NothingOwed, SerialsSpent, UnderWay}
use Rattle.hc_events.specs.Accepted.{AreAccepted}
use Rattle.hc_events.specs.AnswerLaws.{HasOwnNames}
use Rattle.hc_events.specs.Answering.{Sending, ends, followed_by, forgets, is_forgetting, is_outdated, judged_by, sending_of, sending_of_heads, sends, starts_over}
use Rattle.hc_events.specs.Arrivals.{Arrival}
use Rattle.hc_events.specs.Awaited.{all_outdated, awaited, is_no_arrival, still_awaited}
use Rattle.hc_events.specs.Entries.{HistoryEntry, History, Opened, Edited, Posted, Sent, Wrote, Came, Forgot, Cleared, Unplugged}
use Rattle.hc_events.specs.Heads.{Block, Datagram, Head, Item, block_item, is_block, same_item, write_heads}
use Rattle.hc_events.specs.Owed.{block_among, confirms, is_in_line, is_owed, known_bytes, last_write, owed_blocks, write_of}
use Rattle.hc_events.specs.Points.{line_of, next_serial}
use Rattle.hc_events.specs.SendingLaws.{is_opening}
use Rattle.hc_events.specs.Sendings.{Named}
use Rattle.hc_events.specs.Steps.{has_serials, unless, unless_fault, with_writes, writes_answer}
use Rattle.hc_events.specs.UnderWay.{further_blocks, is_under_way, is_write_awaited}
use Rattle.hc_events.specs.UnderWayLaws.{CarriesItem, IsAsAtFirst, IsLeftAwaited}
use Rattle.hc_events.specs.WriteFrames.{frame_blocks}
use Rattle.hc_events.proofs.lemmas.Answers.{still_awaited-is}
use Rattle.hc_events.proofs.lemmas.Awaited.{awaited-new_answer, awaited_other, outdated-more, outdated_filter, same_is, unless_again}
use Rattle.hc_events.proofs.lemmas.Confirmed.{confirmed-last, heads_named, known-good, last-of}
use Rattle.hc_events.proofs.lemmas.Fronts.{beside-front, front-all}
use Rattle.hc_events.proofs.lemmas.LastWrites.{came-same}
use Rattle.hc_events.proofs.lemmas.Live.{any_found, live-owed}
use Rattle.hc_events.proofs.lemmas.Once.{serial-below}
use Rattle.hc_events.proofs.lemmas.Placing.{found-under}

-- a block of an awaited frame that isn't out of date

pub record IsLive (history : History) (station number : ℕ) : Type 0 where
  pub serial : ℕ
  pub sending : Sending
  pub there : awaited history serial ≡ Some sending
  pub carried : CarriesItem (Block station number) sending
  pub live : is_outdated (Block station number) sending.since ≡ false

block_named : (station number : ℕ) (item : Item) → same_item (Block station number) item ≡ true → is_block item ≡ true
block_named station number (Datagram task d) e = cc
block_named station number (Block other n) e = refl

pub some-block : (station number : ℕ) (heads : List Head) → list_any (λ head. same_item (Block station number) head.item) heads ≡ true → list_any (λ head. is_block head.item) heads ≡ true
some-block station number [] e = cc
some-block station number (head ∷ heads) e =
    by_bool (same_item (Block station number) head.item)
    (λ t. or_left (is_block head.item) (list_any (λ one. is_block one.item) heads) (block_named station number head.item t))
    (λ t. or_right (is_block head.item) (list_any (λ one. is_block one.item) heads)
    (some-block station number heads (sym (ap (λ b. b || list_any (λ one. same_item (Block station number) one.item) heads) t) ∙ e)))

pub record IsLast (history : History) (station number serial : ℕ) : Type 0 where
  pub bytes : List ℕ
  pub last : last_write history station number ≡ Some (serial, bytes)

-- its last write is the one that this frame carries

pub live-last : (history : History) (station number : ℕ) (one : IsLive history station number) → IsLast history station number one.serial
live-last history station number one =
    let item = Block station number in
    let still = still_awaited-is one.serial (sending_of history one.serial) one.sending one.there in
    let heads : still.made.heads ≡ one.sending.heads = ap (λ (s : Sending). s.heads) still.same in
    let since : filter is_no_arrival still.made.since ≡ one.sending.since = ap (λ (s : Sending). s.since) still.same in
    let carried : list_any (λ head. same_item item head.item) still.made.heads ≡ true = ap (list_any (λ head. same_item item head.item)) heads ∙ one.carried in
    let confirmed = last-of history one.serial still.made station number still.there still.goes_on (record {
      carried = carried;
      write = some-block station number still.made.heads carried;
      live = sym (outdated_filter item still.made.since) ∙ ap (is_outdated item) since ∙ one.live;
    }) in
    record { bytes = confirmed.block.block.bytes; last = confirmed.last }

-- so it is under way
pub live-under_way : (history : History) (station number : ℕ) → IsLive history station number → is_under_way history station number ≡ true
live-under_way history station number one =
    ap (λ found. option_map_or (is_write_awaited history) found false) (live-last history station number one).last ∙ ap is_some one.there

-- the last write of a block: since then neither was the block sent nor its slave forgotten

record IsLastSince (history : History) (station number serial : ℕ) : Type 0 where
  since : List HistoryEntry
  blocks : List LineBlock
  before : History
  split : history ≡ since ++ Wrote blocks ∷ before
  running : list_any is_opening since ≡ false
  number_is : next_serial before ≡ serial
  carried : is_some (block_among station number blocks) ≡ true
  unsent : list_any (sends (Block station number)) since ≡ false
  unforgotten : list_any (forgets station) since ≡ false

one_later : (entry : HistoryEntry) (history : History) (station number serial : ℕ) → is_opening entry ≡ false → sends (Block station number) entry ≡ false → forgets station entry ≡ false
    → IsLastSince history station number serial → IsLastSince (entry ∷ history) station number serial
one_later entry history station number serial plain unsent unforgotten last = record {
  since = entry ∷ last.since;
  blocks = last.blocks;
  before = last.before;
  split = ap (λ entries. entry ∷ entries) last.split;
  running = ap (λ b. b || list_any is_opening last.since) plain ∙ last.running;
  number_is = last.number_is;
  carried = last.carried;
  unsent = ap (λ b. b || list_any (sends (Block station number)) last.since) unsent ∙ last.unsent;
  unforgotten = ap (λ b. b || list_any (forgets station) last.since) unforgotten ∙ last.unforgotten;
}

no_task : (station number : ℕ) (frame : List Named) → sends (Block station number) (Sent frame) ≡ false
no_task station number [] = refl
no_task station number (named ∷ frame) = no_task station number frame

wrote_since : (history : History) (blocks : List LineBlock) (station number : ℕ) (write : ℕ × List ℕ) (found : Option LineBlock) → block_among station number blocks ≡ found
    → (last_write history station number ≡ Some write → IsLastSince history station number write.0)
    → option_or (option_map (write_of (next_serial history)) found) (last_write history station number) ≡ Some write → IsLastSince (Wrote blocks ∷ history) station number write.0
wrote_since history blocks station number write None among older e =
    one_later (Wrote blocks) history station number write.0 refl (any_found (λ block. same_item (Block station number) (block_item block)) blocks ∙ ap is_some among) refl (older e)
wrote_since history blocks station number write (Some block) among older e = record {
  since = [];
  blocks = blocks;
  before = history;
  split = refl;
  running = refl;
  number_is = ap (λ (w : ℕ × List ℕ). w.0) (same_Some (write_of (next_serial history) block) write e);
  carried = ap is_some among;
  unsent = refl;
  unforgotten = refl;
}

last_since : (history : History) (station number : ℕ) (write : ℕ × List ℕ) → last_write history station number ≡ Some write → IsLastSince history station number write.0
last_since [] station number write e = cc
last_since (Opened groups ∷ history) station number write e = cc
last_since (Edited edit ∷ history) station number write e =
    by_bool (is_in_line history station)
    (λ t. one_later (Edited edit) history station number write.0 refl refl refl (last_since history station number write (sym (ap (λ b. cond b (last_write history station number) None) t) ∙ e)))
    (λ t. let never : None ≡ Some write = sym (ap (λ b. cond b (last_write history station number) None) t) ∙ e in cc)
last_since (Wrote blocks ∷ history) station number write e =
    wrote_since history blocks station number write (block_among station number blocks) refl (last_since history station number write) e
last_since (Forgot other ∷ history) station number write e =
    by_bool (station == other)
    (λ t. let never : None ≡ Some write = sym (ap (λ b. cond b None (last_write history station number)) t) ∙ e in cc)
    (λ t. one_later (Forgot other) history station number write.0 refl refl t (last_since history station number write (sym (ap (λ b. cond b None (last_write history station number)) t) ∙ e)))
last_since (Sent frame ∷ history) station number write e = one_later (Sent frame) history station number write.0 refl (no_task station number frame) refl (last_since history station number write e)
last_since (Posted task bytes ∷ history) station number write e = one_later (Posted task bytes) history station number write.0 refl refl refl (last_since history station number write e)
last_since (Came arrival ∷ history) station number write e = one_later (Came arrival) history station number write.0 refl refl refl (last_since history station number write e)
last_since (Cleared other ∷ history) station number write e = one_later (Cleared other) history station number write.0 refl refl refl (last_since history station number write e)
last_since (Unplugged other ∷ history) station number write e = one_later (Unplugged other) history station number write.0 refl refl refl (last_since history station number write e)

-- where the writes started over, all of an older frame of them is out of date

begun : (a s b : Bool) → s ≡ true → ((a || s) || b) ≡ true
begun true s b e = refl
begun false true b e = refl
begun false false b e = cc

all_begun : (blocks : List LineBlock) (since : List HistoryEntry) → starts_over since ≡ true → all_outdated since (write_heads blocks) ≡ true
all_begun [] since e = refl
all_begun (block ∷ blocks) since e =
    ap (λ b. b && all_outdated since (write_heads blocks)) (begun (list_any (forgets block.station) since) (starts_over since) (list_any (sends (block_item block)) since) e) ∙ all_begun blocks since e

none_of : (a s b : Bool) → a ≡ false → s ≡ false → b ≡ false → ((a || s) || b) ≡ false
none_of a s b x y z = rw (x, y, z) refl

-- a block that is under way, with its last write

record IsWay (history : History) (station number : ℕ) : Type 0 where
  write : ℕ × List ℕ
  sending : Sending
  last : last_write history station number ≡ Some write
  there : awaited history write.0 ≡ Some sending

sent_there : (history : History) (station number : ℕ) (write : ℕ × List ℕ) (found : Option Sending) → last_write history station number ≡ Some write → awaited history write.0 ≡ found → is_some found ≡ true → IsWay history station number
sent_there history station number write None last there e = cc
sent_there history station number write (Some sending) last there e = record { write = write; sending = sending; last = last; there = there }

way_of : (history : History) (station number : ℕ) (found : Option (ℕ × List ℕ)) → last_write history station number ≡ found → option_map_or (is_write_awaited history) found false ≡ true → IsWay history station number
way_of history station number None last e = cc
way_of history station number (Some write) last e = sent_there history station number write (awaited history write.0) last refl e

record IsMadeLive (history : History) (station number : ℕ) : Type 0 where
  way : IsWay history station number
  last : IsLastSince history station number way.write.0
  made : list_any (ends way.write.0 (write_heads last.blocks)) last.since ≡ false
  live : is_outdated (Block station number) last.since ≡ false
  same : record { heads = write_heads last.blocks; since = filter is_no_arrival last.since } ≡ way.sending

made_live : (history : History) (station number : ℕ) → is_under_way history station number ≡ true → IsMadeLive history station number
made_live history station number e =
    let way = way_of history station number (last_write history station number) refl e in
    let serial = way.write.0 in
    let last = last_since history station number way.write way.last in
    let still = still_awaited-is serial (sending_of history serial) way.sending way.there in
    let here : Sending = record { heads = write_heads last.blocks; since = last.since } in
    let found : sending_of history serial ≡ Some here =
    ap (sending_of history) (sym last.number_is) ∙ ap (λ entries. sending_of entries (next_serial last.before)) last.split ∙ found-under last.since last.before (Wrote last.blocks) refl last.running in
    let same : still.made ≡ here = same_Some still.made here (sym still.there ∙ found) in
    let updates : all_outdated last.since (write_heads last.blocks) ≡ false = ap (λ (s : Sending). all_outdated s.since s.heads) (sym same) ∙ still.updates in
    record {
      way = way;
      last = last;
      made = ap (λ (s : Sending). list_any (ends serial s.heads) s.since) (sym same) ∙ still.goes_on;
      live = none_of (list_any (forgets station) last.since) (starts_over last.since) (list_any (sends (Block station number)) last.since) last.unforgotten
          (by_bool (starts_over last.since) (λ t. let never : true ≡ false = sym (all_begun last.blocks last.since t) ∙ updates in cc) (λ t. t)) last.unsent;
      same = ap (λ (s : Sending). record { heads = s.heads; since = filter is_no_arrival s.since }) (sym same) ∙ still.same;
    }

-- so it is a block of an awaited frame that isn't out of date
pub under_way-live : (history : History) (station number : ℕ) → is_under_way history station number ≡ true → IsLive history station number
under_way-live history station number e =
    let one = made_live history station number e in
    let item = Block station number in
    record {
      serial = one.way.write.0;
      sending = one.way.sending;
      there = one.way.there;
      carried = ap (λ (s : Sending). list_any (λ head. same_item item head.item) s.heads) (sym one.same)
          ∙ heads_named item one.last.blocks ∙ any_found (λ block. same_item item (block_item block)) one.last.blocks ∙ one.last.carried;
      live = ap (λ (s : Sending). is_outdated item s.since) (sym one.same) ∙ outdated_filter item one.last.since ∙ one.live;
    }

-- and it is owed
pub under_way-owed : (history : History) (block : LineBlock) → is_under_way history block.station block.number ≡ true → is_owed history block ≡ true
under_way-owed history block e =
    let one = made_live history block.station block.number e in
    let last = one.last in
    ap (λ entries. is_owed entries block) last.split
    ∙ live-owed last.since last.before last.blocks block (any_found (λ other. same_item (block_item block) (block_item other)) last.blocks ∙ last.carried) last.running
    (ap (λ n. list_any (ends n (write_heads last.blocks)) last.since) last.number_is ∙ one.made) one.live

-- a further frame carries no block that is under way

abbrev pub IsResting : History → LineBlock → Type 0
IsResting history block = is_under_way history block.station block.number ≡ false

rests : (history : History) (blocks : List LineBlock) → All (IsResting history) (filter (λ block. not (is_under_way history block.station block.number)) blocks)
rests history blocks =
    let resting : LineBlock → Bool = λ block. not (is_under_way history block.station block.number) in
    All-weaker (λ (block : LineBlock). resting block ≡ true) (IsResting history) (λ block rest. not-true (is_under_way history block.station block.number) rest) (filter resting blocks) (filter_passes resting blocks)

further-rests : (history : History) → All (IsResting history) (frame_blocks (further_blocks history))
further-rests history =
    let front = beside-front 0 (further_blocks history) in
    front-all (IsResting history) (frame_blocks (further_blocks history)) front.rest (subst (All (IsResting history)) front.joined (rests history (owed_blocks history)))

none_sent : (history : History) (station number : ℕ) → is_under_way history station number ≡ true → (blocks : List LineBlock) → All (IsResting history) blocks → sends (Block station number) (Wrote blocks) ≡ false
none_sent history station number under [] all = refl
none_sent history station number under (block ∷ blocks) all =
    by_bool (same_item (Block station number) (block_item block))
    (λ t. let both = and_parts (station == block.station) (number == block.number) t in
    let here : is_under_way history block.station block.number ≡ true =
    ap (λ s. is_under_way history s block.number) (sym (eqb-true station block.station both.0)) ∙ ap (is_under_way history station) (sym (eqb-true number block.number both.1)) ∙ under in
    let never : true ≡ false = sym here ∙ All-head (IsResting history) block blocks all in cc)
    (λ t. ap (λ b. b || sends (Block station number) (Wrote blocks)) t ∙ none_sent history station number under blocks (All-tail (IsResting history) block blocks all))

pub further-unsent : (history : History) (station number : ℕ) → is_under_way history station number ≡ true → sends (Block station number) (Wrote (frame_blocks (further_blocks history))) ≡ false
further-unsent history station number under = none_sent history station number under (frame_blocks (further_blocks history)) (further-rests history)

-- so it leaves what is awaited

no_datagram : (task d : ℕ) (blocks : List LineBlock) → sends (Datagram task d) (Wrote blocks) ≡ false
no_datagram task d [] = refl
no_datagram task d (block ∷ blocks) = no_datagram task d blocks

still_dropped : (a f s q b : Bool) → f ≡ false → q ≡ false → ((a || (f || s)) || (q || b)) ≡ ((a || s) || b)
still_dropped a f s q b none unsent = rw (none, unsent) refl

same_outdated : (history : History) (serial : ℕ) (sending : Sending) → awaited history serial ≡ Some sending → list_any is_forgetting sending.since ≡ false → (item : Item) → CarriesItem item sending
    → is_outdated item (Wrote (frame_blocks (further_blocks history)) ∷ sending.since) ≡ is_outdated item sending.since
same_outdated history serial sending there none (Datagram task d) carried =
    ap (λ b. b || list_any (sends (Datagram task d)) sending.since) (no_datagram task d (frame_blocks (further_blocks history)))
same_outdated history serial sending there none (Block station number) carried =
    let item = Block station number in
    let entry = Wrote (frame_blocks (further_blocks history)) in
    by_bool (is_outdated item sending.since)
    (λ t. outdated-more item entry sending.since t ∙ sym t)
    (λ t. still_dropped (list_any (forgets station) sending.since) (list_any is_forgetting sending.since) (starts_over sending.since) (sends item entry) (list_any (sends item) sending.since) none
    (further-unsent history station number (live-under_way history station number (record { serial = serial; sending = sending; there = there; carried = carried; live = t }))))

itself : (item : Item) → same_item item item ≡ true
itself (Datagram task d) = rw (same_is task, same_is d) refl
itself (Block station number) = rw (same_is station, same_is number) refl

all_alike : (entry : HistoryEntry) (since : List HistoryEntry) (heads : List Head) → ((item : Item) → list_any (λ head. same_item item head.item) heads ≡ true → is_outdated item (entry ∷ since) ≡ is_outdated item since)
    → all_outdated (entry ∷ since) heads ≡ all_outdated since heads
all_alike entry since [] alike = refl
all_alike entry since (head ∷ heads) alike =
    ap (λ b. b && all_outdated (entry ∷ since) heads) (alike head.item (or_left (same_item head.item head.item) (list_any (λ one. same_item head.item one.item) heads) (itself head.item)))
    ∙ ap (λ b. is_outdated head.item since && b) (all_alike entry since heads (λ item carried. alike item (or_right (same_item item head.item) (list_any (λ one. same_item item one.item) heads) carried)))

some_made : (serial : ℕ) (found : Option Sending) (sending : Sending) → option_and_then (still_awaited serial) found ≡ Some sending → is_some found ≡ true
some_made serial None sending e = cc
some_made serial (Some made) sending e = refl

pub further-leaves : (history : History) (serial : ℕ) (sending : Sending) → awaited history serial ≡ Some sending → list_any is_forgetting sending.since ≡ false
    → IsLeftAwaited history (Wrote (frame_blocks (further_blocks history))) serial sending
further-leaves history serial sending there none =
    let blocks = frame_blocks (further_blocks history) in
    let entry = Wrote blocks in
    let alike = same_outdated history serial sending there none in
    let older = is_other serial (next_serial history) (serial-below history serial (some_made serial (sending_of history serial) sending there)) in
    record {
      there = ap (λ b. option_and_then (still_awaited serial) (cond b (Some (sending_of_heads (write_heads blocks))) (option_map (followed_by entry) (sending_of history serial)))) older
          ∙ awaited_other serial entry (λ heads. refl) refl (sending_of history serial)
          ∙ ap (option_and_then (unless_again entry)) there
          ∙ ap (λ b. cond b None (Some (followed_by entry sending))) (all_alike entry sending.since sending.heads alike ∙ awaited-new_answer history serial sending there);
      judged = alike;
    }

-- where nothing is under way, a further frame carries the first owed blocks

all_further : (history : History) (blocks : List LineBlock) → All (IsResting history) blocks → filter (λ block. not (is_under_way history block.station block.number)) blocks ≡ blocks
all_further history [] all = refl
all_further history (block ∷ blocks) all =
    ap (λ b. cond (not b) (block ∷ filter (λ one. not (is_under_way history one.station one.number)) blocks) (filter (λ one. not (is_under_way history one.station one.number)) blocks)) (All-head (IsResting history) block blocks all)
    ∙ ap (λ (rest : List LineBlock). block ∷ rest) (all_further history blocks (All-tail (IsResting history) block blocks all))

twice_none : (none : Bool) (rest : List (Bool × CoreFault)) → lowest ((none, NothingOwed) ∷ (none, UnderWay) ∷ rest) ≡ lowest ((none, NothingOwed) ∷ rest)
twice_none true rest = refl
twice_none false rest = refl

pub as-at_first : (history : History) → All (IsResting history) (owed_blocks history) → IsAsAtFirst history
as-at_first history all =
    let same : further_blocks history ≡ owed_blocks history = all_further history (owed_blocks history) all in
    let serials : List (Bool × CoreFault) = (not (has_serials history 1), SerialsSpent) ∷ [] in
    let owed = owed_blocks history in
    let none = length owed == 0 in
    record {
      answer = ap (λ (blocks : List LineBlock). unless (lowest ((none, NothingOwed) ∷ (length blocks == 0, UnderWay) ∷ serials)) (writes_answer (next_serial history) (frame_blocks blocks))) same
          ∙ ap (λ refused. unless refused (writes_answer (next_serial history) (frame_blocks owed))) (twice_none none serials);
      entries = ap (λ (blocks : List LineBlock). unless_fault (lowest ((none, NothingOwed) ∷ (length blocks == 0, UnderWay) ∷ serials)) history (with_writes history (frame_blocks blocks))) same
          ∙ ap (λ refused. unless_fault refused history (with_writes history (frame_blocks owed))) (twice_none none serials);
    }

-- answers

pub older-answers : (history : History) (arrival : Arrival) (station number serial : ℕ) (bytes : List ℕ) → last_write history station number ≡ Some (serial, bytes) → (arrival.serial == serial) ≡ false
    → known_bytes (Came arrival ∷ history) station number ≡ known_bytes history station number
older-answers history arrival station number serial bytes last other =
    came-same history arrival (last_write history station number)
    (λ write e. ap (λ (w : ℕ × List ℕ). arrival.serial == w.0) (same_Some write (serial, bytes) (sym e ∙ last)) ∙ other) (Block station number)

pub good-ends : (history : History) (arrival : Arrival) (block : LineBlock) → AreAccepted history → HasOwnNames (line_of history) → Contains (line_blocks (line_of history)) block
    → list_any (confirms (block_item block)) (judged_by history arrival) ≡ true → is_owed (Came arrival ∷ history) block ≡ false
good-ends history arrival block all names inside good =
    let one = confirmed-last history arrival block.station block.number good in
    let same : block ≡ one.block = names block one.block inside (one.inside all) one.same in
    ap (λ known. not (option_map_or (bytes_eq block.block.bytes) known false)) (known-good history arrival block.station block.number good ∙ ap (option_map (λ (write : ℕ × List ℕ). write.1)) one.last)
    ∙ ap (λ (other : LineBlock). not (bytes_eq block.block.bytes other.block.bytes)) (sym same)
    ∙ ap not ((bytes_eq-Decides block.block.bytes block.block.bytes).1 refl)

-- Of two frames of the first owed register blocks that are awaited the later one is of one block, and the earlier one of more.
use Rattle.std.proofs.Common.{◌≡◌, ℕ, ◌<◌, nat_lt, Bool, true, false, cond, ◌&&◌, ◌||◌, List, [], ◌∷◌, ◌++◌, filter, length, take, refl, sym, ap, ◌∙◌, subst, arith, Option, Some, None, ⊎_elim}
use Rattle.std.specs.Prelude.{All, Contains, is_some, option_map}
use Rattle.std.specs.List.{list_any}
use Rattle.std.proofs.lemmas.Bool.Decides.{nat_tests}
use Rattle.std.proofs.lemmas.Bool.{or_left, or_right, or_parts}
use Rattle.std.proofs.lemmas.List.Elements.{All-cons, All-nil, All-head, All-tail, All-weaker, All-contains, All-contains_itself, filter_passes}
use Rattle.std.proofs.lemmas.List.Folds.{list_any-append}
use Rattle.std.proofs.lemmas.List.{length-map}
use Rattle.std.proofs.lemmas.Option.{same_Some}
use Rattle.hc_records.specs.Line.{Member}
use Rattle.hc_records.proofs.lemmas.Choices.{by_bool}
use Rattle.hc_registers.specs.Blocks.{LineBlock, line_blocks}
use Rattle.hc_events.specs.Arrivals.{Arrival}
use Rattle.hc_events.specs.Entries.{HistoryEntry, History, Opened, Edited, Posted, Sent, Wrote, Came, Forgot, Cleared, Unplugged}
use Rattle.hc_events.specs.Points.{line_of, next_serial}
use Rattle.hc_events.specs.Heads.{Head, Item, block_item, is_block, same_item, write_head, write_heads}
use Rattle.hc_events.specs.Answering.{Sending, ends, fits_sending, followed_by, forgets, is_forgetting, is_outdated, sending_of, sends, starts_over}
use Rattle.hc_events.specs.Awaited.{all_outdated, awaited, is_write_sending}
use Rattle.hc_events.specs.Owed.{is_owed, owed_blocks}
use Rattle.hc_events.specs.WriteFrames.{frame_blocks}
use Rattle.hc_events.specs.Accepted.{AreAccepted, IsFirstWrite, IsWrite, carries_first}
use Rattle.hc_events.specs.SendingLaws.{heads_of, is_opening, is_sending}
use Rattle.hc_events.specs.AnswerLaws.{HasOwnNames, IsBesideOne}
use Rattle.hc_events.proofs.lemmas.Answers.{accepted-at, still_awaited-is, same_line, still_open, written-inside}
use Rattle.hc_events.proofs.lemmas.Awaited.{same_is}
use Rattle.hc_events.proofs.lemmas.BlockSizes.{write-fits}
use Rattle.hc_events.proofs.lemmas.Fronts.{OneName, first-again, first-front, held-again, is_named, written-all}
use Rattle.hc_events.proofs.lemmas.Live.{live-owed, others-as_before}
use Rattle.hc_events.proofs.lemmas.Once.{serial-below, serial-made}
use Rattle.hc_events.proofs.lemmas.OneWrite.{no_blocks, not-owed_stays}
use Rattle.hc_events.proofs.lemmas.Placing.{passed_by, is_placed-at}

-- a sending, after more entries

pub passed-on : (since : List HistoryEntry) (history : History) (serial : ℕ) (sending : Sending) → list_any is_opening since ≡ false → sending_of history serial ≡ Some sending
    → sending_of (since ++ history) serial ≡ Some (record { heads = sending.heads; since = since ++ sending.since })
passed-on [] history serial sending running there = there
passed-on (Opened groups ∷ since) history serial sending running there = cc
passed-on (Edited edit ∷ since) history serial sending running there = ap (option_map (followed_by (Edited edit))) (passed-on since history serial sending running there)
passed-on (Posted task bytes ∷ since) history serial sending running there = ap (option_map (followed_by (Posted task bytes))) (passed-on since history serial sending running there)
passed-on (Came arrival ∷ since) history serial sending running there = ap (option_map (followed_by (Came arrival))) (passed-on since history serial sending running there)
passed-on (Forgot station ∷ since) history serial sending running there = ap (option_map (followed_by (Forgot station))) (passed-on since history serial sending running there)
passed-on (Cleared station ∷ since) history serial sending running there = ap (option_map (followed_by (Cleared station))) (passed-on since history serial sending running there)
passed-on (Unplugged station ∷ since) history serial sending running there = ap (option_map (followed_by (Unplugged station))) (passed-on since history serial sending running there)
passed-on (Sent frame ∷ since) history serial sending running there =
    let found = passed-on since history serial sending running there in
    passed_by serial (next_serial (since ++ history)) _ (Sent frame) (sending_of (since ++ history) serial) (record { heads = sending.heads; since = since ++ sending.since })
    (serial-below (since ++ history) serial (ap is_some found)) found
passed-on (Wrote blocks ∷ since) history serial sending running there =
    let found = passed-on since history serial sending running there in
    passed_by serial (next_serial (since ++ history)) _ (Wrote blocks) (sending_of (since ++ history) serial) (record { heads = sending.heads; since = since ++ sending.since })
    (serial-below (since ++ history) serial (ap is_some found)) found

-- where the frame of writes with a serial was sent

pub record WroteAt (history : History) (serial : ℕ) (made : Sending) : Type 0 where
  pub before : History
  pub blocks : List LineBlock
  pub split : history ≡ made.since ++ Wrote blocks ∷ before
  pub serial_is : next_serial before ≡ serial
  pub heads : made.heads ≡ write_heads blocks
  pub running : list_any is_opening made.since ≡ false

wrote_by : (history : History) (serial : ℕ) (made : Sending) (before : History) (entry : HistoryEntry) → history ≡ made.since ++ entry ∷ before → is_sending entry ≡ true → next_serial before ≡ serial
    → made.heads ≡ heads_of before entry → list_any is_opening made.since ≡ false → is_write_sending made ≡ true → WroteAt history serial made
wrote_by history serial made before (Opened groups) split sends number heads running write = cc
wrote_by history serial made before (Edited edit) split sends number heads running write = cc
wrote_by history serial made before (Posted task bytes) split sends number heads running write = cc
wrote_by history serial made before (Came arrival) split sends number heads running write = cc
wrote_by history serial made before (Forgot station) split sends number heads running write = cc
wrote_by history serial made before (Cleared station) split sends number heads running write = cc
wrote_by history serial made before (Unplugged station) split sends number heads running write = cc
wrote_by history serial made before (Sent frame) split sends number heads running write =
    let never : false ≡ true = sym (no_blocks (line_of before) frame) ∙ sym (ap (list_any (λ head. is_block head.item)) heads) ∙ write in cc
wrote_by history serial made before (Wrote blocks) split sends number heads running write =
    record { before = before; blocks = blocks; split = split; serial_is = number; heads = heads; running = running }

pub wrote-at : (history : History) (serial : ℕ) (made : Sending) → sending_of history serial ≡ Some made → is_write_sending made ≡ true → WroteAt history serial made
wrote-at history serial made there write =
    let at = is_placed-at history serial made there in
    wrote_by history serial made at.before at.entry at.split at.sends at.serial_is at.heads at.running write

-- what lies before a point was accepted, and there the line is the same as long as no edit was accepted since

pub accepted-after_it : (since : List HistoryEntry) (history : History) → list_any is_opening since ≡ false → AreAccepted (since ++ history) → AreAccepted history
accepted-after_it [] history running all = all
accepted-after_it (Opened groups ∷ since) history running all = cc
accepted-after_it (Edited edit ∷ since) history running all = accepted-after_it since history running all.1
accepted-after_it (Posted task bytes ∷ since) history running all = accepted-after_it since history running all.1
accepted-after_it (Came arrival ∷ since) history running all = accepted-after_it since history running all.1
accepted-after_it (Forgot station ∷ since) history running all = accepted-after_it since history running all.1
accepted-after_it (Cleared station ∷ since) history running all = accepted-after_it since history running all.1
accepted-after_it (Unplugged station ∷ since) history running all = accepted-after_it since history running all.1
accepted-after_it (Sent frame ∷ since) history running all = accepted-after_it since history running all.1
accepted-after_it (Wrote blocks ∷ since) history running all = accepted-after_it since history running all.1

pub line-stays : (since : List HistoryEntry) (history : History) (serial : ℕ) (heads : List Head) → list_any is_opening since ≡ false → list_any (ends serial heads) since ≡ false → line_of (since ++ history) ≡ line_of history
line-stays since history serial heads running going = same_line serial heads since history (still_open serial heads since running going)

-- a frame of writes leaves what is owed, but for blocks of one name

abbrev pub InLine : List Member → LineBlock → Type 0
InLine line block = Contains (line_blocks line) block

pub owed_all : (history : History) (blocks : List LineBlock) → IsWrite history blocks → All (λ block. is_owed history block ≡ true) blocks
owed_all history blocks write = written-all (λ block. is_owed history block ≡ true) history blocks write (filter_passes (is_owed history) (line_blocks (line_of history)))

named_owed : (P : LineBlock → Type 0) (names : OneName P) (p : LineBlock → Bool) (other : LineBlock) → P other → (blocks : List LineBlock) → All P blocks → All (λ block. p block ≡ true) blocks
    → is_named (block_item other) blocks ≡ true → p other ≡ true
named_owed P names p other known [] all passes named = cc
named_owed P names p other known (block ∷ blocks) all passes named =
    by_bool (same_item (block_item other) (block_item block))
    (λ t. let same : other ≡ block = names other block known (All-head P block blocks all) t in
    ap p same ∙ All-head (λ (x : LineBlock). p x ≡ true) block blocks passes)
    (λ t. named_owed P names p other known blocks (All-tail P block blocks all) (All-tail (λ (x : LineBlock). p x ≡ true) block blocks passes)
    (sym (ap (λ b. b || is_named (block_item other) blocks) t) ∙ named))

pub wrote-owes : (history : History) (blocks : List LineBlock) (other : LineBlock) → OneName (InLine (line_of history)) → IsWrite history blocks → InLine (line_of history) other
    → is_owed (Wrote blocks ∷ history) other ≡ true → is_owed history other ≡ true
wrote-owes history blocks other names write known owed =
    by_bool (sends (block_item other) (Wrote blocks))
    (λ t. named_owed (InLine (line_of history)) names (is_owed history) other known blocks (written-inside history blocks write) (owed_all history blocks write) t)
    (λ t. sym (others-as_before history blocks other t) ∙ owed)

came_owes : (history : History) (arrival : Arrival) (other : LineBlock) → is_owed (Came arrival ∷ history) other ≡ true → is_owed history other ≡ true
came_owes history arrival other owed =
    by_bool (is_owed history other)
    (λ t. t)
    (λ t. let never : true ≡ false = sym owed ∙ not-owed_stays history arrival other t in cc)

-- a frame that carries the first owed blocks, where it was sent

carries-before : (since : List HistoryEntry) (history : History) (serial : ℕ) → list_any is_opening since ≡ false → carries_first (since ++ history) serial → carries_first history serial
carries-before [] history serial running carries = carries
carries-before (Opened groups ∷ since) history serial running carries = cc
carries-before (Edited edit ∷ since) history serial running carries = carries-before since history serial running carries
carries-before (Posted task bytes ∷ since) history serial running carries = carries-before since history serial running carries
carries-before (Came arrival ∷ since) history serial running carries = carries-before since history serial running carries
carries-before (Forgot station ∷ since) history serial running carries = carries-before since history serial running carries
carries-before (Cleared station ∷ since) history serial running carries = carries-before since history serial running carries
carries-before (Unplugged station ∷ since) history serial running carries = carries-before since history serial running carries
carries-before (Sent frame ∷ since) history serial running carries = carries-before since history serial running carries
carries-before (Wrote blocks ∷ since) history serial running carries = carries-before since history serial running carries.1

-- what is owed was owed before, as long as no edit was accepted since and no slave forgotten

pub owed-shrinks : (since : List HistoryEntry) (history : History) (serial : ℕ) (heads : List Head) (other : LineBlock) → OneName (InLine (line_of history)) → list_any is_opening since ≡ false
    → list_any (ends serial heads) since ≡ false → list_any is_forgetting since ≡ false → AreAccepted (since ++ history) → InLine (line_of history) other → is_owed (since ++ history) other ≡ true → is_owed history other ≡ true
owed-shrinks [] history serial heads other names running going none all known owed = owed
owed-shrinks (Opened groups ∷ since) history serial heads other names running going none all known owed = cc
owed-shrinks (Edited edit ∷ since) history serial heads other names running going none all known owed = cc
owed-shrinks (Forgot station ∷ since) history serial heads other names running going none all known owed = cc
owed-shrinks (Cleared station ∷ since) history serial heads other names running going none all known owed = owed-shrinks since history serial heads other names running going none all.1 known owed
owed-shrinks (Unplugged station ∷ since) history serial heads other names running going none all known owed = owed-shrinks since history serial heads other names running going none all.1 known owed
owed-shrinks (Posted task bytes ∷ since) history serial heads other names running going none all known owed = owed-shrinks since history serial heads other names running going none all.1 known owed
owed-shrinks (Sent frame ∷ since) history serial heads other names running going none all known owed = owed-shrinks since history serial heads other names running going none all.1 known owed
owed-shrinks (Came arrival ∷ since) history serial heads other names running going none all known owed =
    owed-shrinks since history serial heads other names running (or_parts (fits_sending serial heads arrival) _ going).1 none all.1 known (came_owes (since ++ history) arrival other owed)
owed-shrinks (Wrote blocks ∷ since) history serial heads other names running going none all known owed =
    let line = line-stays since history serial heads running going in
    owed-shrinks since history serial heads other names running going none all.1 known
    (wrote-owes (since ++ history) blocks other (subst (λ members. OneName (InLine members)) (sym line) names) all.0 (subst (λ members. InLine members other) (sym line) known) owed)

-- a block of an awaited frame that isn't out of date

pub record IsLive (P : LineBlock → Type 0) (since : List HistoryEntry) (blocks : List LineBlock) : Type 0 where
  pub block : LineBlock
  pub known : P block
  pub sent : is_named (block_item block) blocks ≡ true
  pub live : is_outdated (block_item block) since ≡ false

more_live : (P : LineBlock → Type 0) (since : List HistoryEntry) (first : LineBlock) (blocks : List LineBlock) → IsLive P since blocks → IsLive P since (first ∷ blocks)
more_live P since first blocks one = record {
  block = one.block;
  known = one.known;
  sent = or_right (same_item (block_item one.block) (block_item first)) (is_named (block_item one.block) blocks) one.sent;
  live = one.live;
}

same_block : (block : LineBlock) → same_item (block_item block) (block_item block) ≡ true
same_block block = rw (same_is block.station, same_is block.number) refl

pub some-live : (P : LineBlock → Type 0) (since : List HistoryEntry) (blocks : List LineBlock) → All P blocks → all_outdated since (write_heads blocks) ≡ false → IsLive P since blocks
some-live P since [] all live = cc
some-live P since (block ∷ blocks) all live =
    by_bool (is_outdated (block_item block) since)
    (λ t. more_live P since block blocks (some-live P since blocks (All-tail P block blocks all) (sym (ap (λ b. b && all_outdated since (write_heads blocks)) t) ∙ live)))
    (λ t. record {
      block = block;
      known = All-head P block blocks all;
      sent = or_left (same_item (block_item block) (block_item block)) (is_named (block_item block) blocks) (same_block block);
      live = t;
    })

-- a block that passes a test is among those that do

with_more : (p : LineBlock → Bool) (item : Item) (first : LineBlock) (blocks : List LineBlock) → is_named item (filter p blocks) ≡ true → is_named item (filter p (first ∷ blocks)) ≡ true
with_more p item first blocks named =
    by_bool (p first)
    (λ t. ap (λ b. is_named item (cond b (first ∷ filter p blocks) (filter p blocks))) t ∙ or_right (same_item item (block_item first)) (is_named item (filter p blocks)) named)
    (λ t. ap (λ b. is_named item (cond b (first ∷ filter p blocks) (filter p blocks))) t ∙ named)

abbrev IsUnchanged : (LineBlock → Bool) → List LineBlock → LineBlock → Type 0
IsUnchanged p blocks block = p block ≡ true → is_named (block_item block) (filter p blocks) ≡ true

all_unchanged : (p : LineBlock → Bool) (blocks : List LineBlock) → All (IsUnchanged p blocks) blocks
all_unchanged p [] = All-nil (IsUnchanged p [])
all_unchanged p (first ∷ blocks) =
    All-cons (IsUnchanged p (first ∷ blocks)) first blocks
    (λ passes. ap (λ b. is_named (block_item first) (cond b (first ∷ filter p blocks) (filter p blocks))) passes
    ∙ or_left (same_item (block_item first) (block_item first)) (is_named (block_item first) (filter p blocks)) (same_block first))
    (All-weaker (IsUnchanged p blocks) (IsUnchanged p (first ∷ blocks)) (λ block unchanged passes. with_more p (block_item block) first blocks (unchanged passes)) blocks (all_unchanged p blocks))

pub named-passing : (p : LineBlock → Bool) (block : LineBlock) → p block ≡ true → (blocks : List LineBlock) → Contains blocks block → is_named (block_item block) (filter p blocks) ≡ true
named-passing p block passes blocks at = All-contains (IsUnchanged p blocks) blocks block (all_unchanged p blocks) at passes

-- what an entry after a sending, and those before it, leave of it

starts_after : (since more : List HistoryEntry) → starts_over (since ++ more) ≡ false → starts_over more ≡ false
starts_after [] more none = none
starts_after (Wrote blocks ∷ since) more none = starts_after since more (or_parts (list_any is_forgetting (since ++ more)) _ none).1
starts_after (Opened groups ∷ since) more none = starts_after since more none
starts_after (Edited edit ∷ since) more none = starts_after since more none
starts_after (Posted task bytes ∷ since) more none = starts_after since more none
starts_after (Sent frame ∷ since) more none = starts_after since more none
starts_after (Came arrival ∷ since) more none = starts_after since more none
starts_after (Forgot station ∷ since) more none = starts_after since more none
starts_after (Cleared other ∷ since) more none = starts_after since more none
starts_after (Unplugged other ∷ since) more none = starts_after since more none

last_part : (test : HistoryEntry → Bool) (since more : List HistoryEntry) → list_any test (since ++ more) ≡ false → list_any test more ≡ false
last_part test since more none = (or_parts (list_any test since) (list_any test more) (sym (list_any-append test since more) ∙ none)).1

-- a block's write that isn't out of date after a later frame of writes: that frame doesn't carry it, no slave was forgotten before it, and it wasn't out of date then
record IsLeft (block : LineBlock) (blocks : List LineBlock) (since : List HistoryEntry) : Type 0 where
  again : sends (block_item block) (Wrote blocks) ≡ false
  none : list_any is_forgetting since ≡ false
  live : is_outdated (block_item block) since ≡ false

none_true : (a b c : Bool) → a ≡ false → b ≡ false → c ≡ false → ((a || b) || c) ≡ false
none_true a b c x y z = rw (x, y, z) refl

left_by : (block : LineBlock) (blocks : List LineBlock) (newer since : List HistoryEntry) → is_outdated (block_item block) (newer ++ Wrote blocks ∷ since) ≡ false → IsLeft block blocks since
left_by block blocks newer since live =
    let all = newer ++ Wrote blocks ∷ since in
    let parts = or_parts (list_any (forgets block.station) all || starts_over all) (list_any (sends (block_item block)) all) live in
    let dropped = or_parts (list_any (forgets block.station) all) (starts_over all) parts.0 in
    let starts = or_parts (list_any is_forgetting since) (starts_over since) (starts_after newer (Wrote blocks ∷ since) dropped.1) in
    let again = or_parts (sends (block_item block) (Wrote blocks)) (list_any (sends (block_item block)) since) (last_part (sends (block_item block)) newer (Wrote blocks ∷ since) parts.1) in
    record {
      again = again.0;
      none = starts.0;
      live = none_true (list_any (forgets block.station) since) (starts_over since) (list_any (sends (block_item block)) since)
          (last_part (forgets block.station) newer (Wrote blocks ∷ since) dropped.0) starts.1 again.1;
    }

-- two frames of writes, the later one after the earlier one

record AreTwo (history : History) (low high : ℕ) (older newer : Sending) : Type 0 where
  later : List HistoryEntry
  before : History
  blocks : List LineBlock
  split : history ≡ later ++ Wrote blocks ∷ before
  high_is : next_serial before ≡ high
  heads : newer.heads ≡ write_heads blocks
  running : list_any is_opening later ≡ false
  going : list_any (ends high newer.heads) later ≡ false
  since : List HistoryEntry
  first : History
  own : List LineBlock
  split_first : before ≡ since ++ Wrote own ∷ first
  serial_is : next_serial first ≡ low
  own_heads : older.heads ≡ write_heads own
  running_first : list_any is_opening since ≡ false
  going_first : list_any (ends low older.heads) (later ++ Wrote blocks ∷ since) ≡ false
  live : all_outdated (later ++ Wrote blocks ∷ since) older.heads ≡ false

record IsThere (found : Option Sending) : Type 0 where
  sending : Sending
  there : found ≡ Some sending

is_there : (found : Option Sending) → is_some found ≡ true → IsThere found
is_there None e = cc
is_there (Some sending) e = record { sending = sending; there = refl }

less_true : (a b : ℕ) → a < b → nat_lt a b ≡ true
less_true a b less = grind (arith, nat_tests)

are_two : (history : History) (low high : ℕ) (older newer : Sending) → low < high → awaited history low ≡ Some older → is_write_sending older ≡ true → awaited history high ≡ Some newer → is_write_sending newer ≡ true → AreTwo history low high older newer
are_two history low high older newer less e w f v =
    let old = still_awaited-is low (sending_of history low) older e in
    let new = still_awaited-is high (sending_of history high) newer f in
    let old_heads : old.made.heads ≡ older.heads = ap (λ (s : Sending). s.heads) old.same in
    let new_heads : new.made.heads ≡ newer.heads = ap (λ (s : Sending). s.heads) new.same in
    let at = wrote-at history high new.made new.there (ap (list_any (λ head. is_block head.item)) new_heads ∙ v) in
    let later = new.made.since in
    let mid = is_there (sending_of at.before low) (serial-made at.before low ∙ ap (nat_lt low) at.serial_is ∙ less_true low high less) in
    let wrote = passed-on (Wrote at.blocks ∷ []) at.before low mid.sending refl mid.there in
    let made = passed-on later (Wrote at.blocks ∷ at.before) low (record { heads = mid.sending.heads; since = Wrote at.blocks ∷ mid.sending.since }) at.running wrote in
    let same : old.made ≡ record { heads = mid.sending.heads; since = later ++ Wrote at.blocks ∷ mid.sending.since } =
    same_Some old.made _ (sym old.there ∙ ap (λ entries. sending_of entries low) at.split ∙ made) in
    let heads : mid.sending.heads ≡ older.heads = sym (ap (λ (s : Sending). s.heads) same) ∙ old_heads in
    let first = wrote-at at.before low mid.sending mid.there (ap (list_any (λ head. is_block head.item)) heads ∙ w) in
    let since_is : old.made.since ≡ later ++ Wrote at.blocks ∷ mid.sending.since = ap (λ (s : Sending). s.since) same in
    record {
      later = later;
      before = at.before;
      blocks = at.blocks;
      split = at.split;
      high_is = at.serial_is;
      heads = sym new_heads ∙ at.heads;
      running = at.running;
      going = ap (λ heads. list_any (ends high heads) later) (sym new_heads) ∙ new.goes_on;
      since = mid.sending.since;
      first = first.before;
      own = first.blocks;
      split_first = first.split;
      serial_is = first.serial_is;
      own_heads = sym heads ∙ first.heads;
      running_first = first.running;
      going_first = ap (λ heads. list_any (ends low heads) (later ++ Wrote at.blocks ∷ mid.sending.since)) (sym old_heads)
          ∙ ap (list_any (ends low old.made.heads)) (sym since_is) ∙ old.goes_on;
      live = ap (all_outdated (later ++ Wrote at.blocks ∷ mid.sending.since)) (sym old_heads) ∙ ap (λ since. all_outdated since old.made.heads) (sym since_is) ∙ old.updates;
    }

-- the later one is the first owed block alone

one_of : (blocks : List LineBlock) → 0 < length (take 1 blocks) → length (take 1 blocks) ≡ 1
one_of [] some = absurd (omega arith)
one_of (block ∷ blocks) some = refl

more_than : (n : ℕ) → 0 < n → (n ≡ 1 → ⊥) → 1 < n
more_than n some other = omega arith

is_beside : (history : History) (low high : ℕ) (older newer : Sending) → AreAccepted history → OneName (InLine (line_of history)) → carries_first history low → carries_first history high → AreTwo history low high older newer → IsBesideOne older newer
is_beside history low high older newer all names carries_low carries_high two =
    let line_then : line_of history ≡ line_of two.before = ap line_of two.split ∙ line-stays two.later (Wrote two.blocks ∷ two.before) high newer.heads two.running two.going in
    let going_since = (or_parts (ends low older.heads (Wrote two.blocks)) (list_any (ends low older.heads) two.since) (last_part (ends low older.heads) two.later (Wrote two.blocks ∷ two.since) two.going_first)).1 in
    let line_first : line_of two.before ≡ line_of two.first = ap line_of two.split_first ∙ line-stays two.since (Wrote two.own ∷ two.first) low older.heads two.running_first going_since in
    let all_later : AreAccepted (two.later ++ Wrote two.blocks ∷ two.before) = subst AreAccepted two.split all in
    let all_then : AreAccepted two.before = (accepted-after_it two.later (Wrote two.blocks ∷ two.before) two.running all_later).1 in
    let written : IsWrite two.before two.blocks = accepted-at two.later two.before (Wrote two.blocks) two.running refl all_later in
    let all_first : AreAccepted (two.since ++ Wrote two.own ∷ two.first) = subst AreAccepted two.split_first all_then in
    let first_written : IsWrite two.first two.own = accepted-at two.since two.first (Wrote two.own) two.running_first refl all_first in
    let members = line_of two.first in
    let line = line_blocks members in
    let P = InLine members in
    let names_first : OneName P = subst (λ m. OneName (InLine m)) (line_then ∙ line_first) names in
    let live = some-live P (two.later ++ Wrote two.blocks ∷ two.since) two.own (written-inside two.first two.own first_written)
    (ap (all_outdated (two.later ++ Wrote two.blocks ∷ two.since)) (sym two.own_heads) ∙ two.live) in
    let item = block_item live.block in
    let left = left_by live.block two.blocks two.later two.since live.live in
    let going_own : list_any (ends (next_serial two.first) (write_heads two.own)) two.since ≡ false =
    ap (λ n. list_any (ends n (write_heads two.own)) two.since) two.serial_is ∙ ap (λ heads. list_any (ends low heads) two.since) (sym two.own_heads) ∙ going_since in
    let owed : is_owed two.before live.block ≡ true =
    ap (λ entries. is_owed entries live.block) two.split_first ∙ live-owed two.since two.first two.own live.block live.sent two.running_first going_own left.live in
    let low_then : carries_first two.before low = (carries-before two.later (Wrote two.blocks ∷ two.before) low two.running (subst (λ entries. carries_first entries low) two.split carries_low)).1 in
    let own_first : IsFirstWrite (owed_blocks two.first) two.own =
    (carries-before two.since (Wrote two.own ∷ two.first) low two.running_first (subst (λ entries. carries_first entries low) two.split_first low_then)).0 two.serial_is in
    let first_owed : IsFirstWrite (owed_blocks two.before) two.blocks =
    (carries-before two.later (Wrote two.blocks ∷ two.before) high two.running (subst (λ entries. carries_first entries high) two.split carries_high)).0 two.high_is in
    let p = is_owed two.first in
    let q = is_owed two.before in
    let less : (x : LineBlock) → P x → q x ≡ true → p x ≡ true = λ x known now.
    wrote-owes two.first two.own x names_first first_written known
    (owed-shrinks two.since (Wrote two.own ∷ two.first) low older.heads x names_first two.running_first going_since left.none all_first known (sym (ap (λ entries. is_owed entries x) two.split_first) ∙ now)) in
    let owed_then : owed_blocks two.before ≡ filter q line = ap (λ m. filter q (line_blocks m)) line_first in
    let named : is_named item (filter q line) ≡ true = named-passing q live.block owed line live.known in
    let front = first-front (owed_blocks two.first) two.own own_first in
    let inside : All P line = All-contains_itself line in
    let again : (blocks : List LineBlock) → blocks ≡ two.blocks → is_named item blocks ≡ true → ⊥ = λ blocks same is.
    let never : true ≡ false = sym is ∙ ap (is_named item) same ∙ left.again in cc in
    let alone : two.blocks ≡ take 1 (owed_blocks two.before) =
    ⊎_elim (λ (one : two.blocks ≡ take 1 (owed_blocks two.before)). one)
    (λ (held : two.blocks ≡ frame_blocks (owed_blocks two.before)). absurd (again (frame_blocks (filter q line)) (sym (ap frame_blocks owed_then) ∙ sym held)
    (held-again P names_first p q less item 0 line two.own front.rest inside front.joined (write-fits two.first two.own first_written) live.sent named)))
    first_owed in
    let single : length two.blocks ≡ 1 = ap length alone ∙ one_of (owed_blocks two.before) (subst (λ blocks. 0 < length blocks) alone written.some) in
    let several : 1 < length two.own = more_than (length two.own) first_written.some
    (λ one. again (take 1 (filter q line)) (sym (ap (take 1) owed_then) ∙ sym alone)
    (first-again P names_first p q less item line two.own front.rest inside front.joined one live.sent named)) in
    record {
      one = ap length two.heads ∙ length-map two.blocks write_head ∙ single;
      more = subst (λ n. 1 < n) (sym (ap length two.own_heads ∙ length-map two.own write_head)) several;
    }

pub two-writes : (history : History) (low high : ℕ) (older newer : Sending) → AreAccepted history → HasOwnNames (line_of history) → carries_first history low → carries_first history high → low < high → awaited history low ≡ Some older → is_write_sending older ≡ true
    → awaited history high ≡ Some newer → is_write_sending newer ≡ true → IsBesideOne older newer
two-writes history low high older newer all names carries_low carries_high less e w f v = is_beside history low high older newer all names carries_low carries_high (are_two history low high older newer less e w f v)

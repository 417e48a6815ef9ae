-- The stored frames and writes stay those that the record awaits: at the opening, and after edits, stale arrivals, posts,
-- register writes and forgotten slaves.
use Rattle.std.proofs.Common.{◌≡◌, ◌≢◌, ℕ, ◌+◌, ◌==◌, ◌<◌, ◌≤◌, Bool, true, false, cond, not, ◌||◌, ◌&&◌, List, [], ◌∷◌, ◌++◌, filter, length, map, refl, sym, ap, ◌∙◌, subst, append_assoc, append-nil, arith, Option, Some, None}
use Rattle.std.specs.Prelude.{All, AllPairs, find, option_and_then, option_map}
use Rattle.std.specs.Option.{option_or}
use Rattle.std.specs.List.{list_any}
use Rattle.std.proofs.lemmas.Bool.{not-true}
use Rattle.std.proofs.lemmas.List.{map-append}
use Rattle.std.proofs.lemmas.List.Elements.{All-append, All-cons, All-filter, All-head, All-map, All-nil, All-tail, All-weaker, filter-append}
use Rattle.std.proofs.lemmas.List.Kept.{AllPairs-cons, AllPairs-filter}
use Rattle.hc_records.specs.declared.edit.Edit.{Edit}
use Rattle.hc_records.specs.declared.records.Group.{Group}
use Rattle.hc_records.proofs.lemmas.Lists.{All-append_right, AllPairs-append, AllPairs-map, AllPairs-nil}
use Rattle.hc_records.proofs.lemmas.Choices.{by_bool}
use Rattle.hc_registers.specs.Blocks.{LineBlock}
use Rattle.hc_events.specs.Arrivals.{Arrival}
use Rattle.hc_events.specs.Accepted.{IsFirstWrite, IsInLine, carries_first, just_opened}
use Rattle.hc_events.specs.Entries.{HistoryEntry, History, Opened, Edited, Posted, Sent, Wrote, Came, Forgot, Cleared, Unplugged}
use Rattle.hc_events.specs.Owed.{owed_blocks}
use Rattle.hc_events.specs.Points.{line_of, next_serial}
use Rattle.hc_events.specs.Heads.{Block, Datagram, Head, Item, write_heads}
use Rattle.hc_events.specs.Answering.{Sending, ends, followed_by, is_current, is_outdated, is_stale_to, judged_by, sending_of_heads, sending_of, sends}
use Rattle.hc_events.specs.Awaited.{still_awaited, all_outdated, awaited, is_ended, is_no_arrival}
use Rattle.hc_events.proofs.lemmas.Awaited.{awaited_edited, awaited_other, awaited-stale, outdated-posted, unless_again}
use Rattle.hc_events.proofs.lemmas.Once.{below_more}
use Rattle.hc_sendings.specs.declared.write_frames.PlacedBlock.{PlacedBlock}
use Rattle.hc_sendings.specs.declared.writes.AwaitedBlock.{AwaitedBlock}
use Rattle.hc_sendings.specs.Waiting.{AwaitedFrame, AwaitedWrite, Waiting, all_writes, awaited_block, block_forgotten, forgot, is_awaited, left_after, left_forgotten, nothing, older_further, older_writes, with_written, write_forgotten, written_again, wrote, wrote_further}
use Rattle.hc_sendings.specs.WriteFrames.{block_of}
use Rattle.hc_sendings.specs.Judging.{Due, block_due, due_with, found_frame, found_write, frame_due, write_due}
use Rattle.hc_sendings.proofs.lemmas.Inserted.{all-more, All-append_left, pairs-more}
use Rattle.hc_sendings.proofs.lemmas.Marked.{find-marked, find-more}
use Rattle.hc_sendings.proofs.lemmas.Rewritten.{all-over, forgotten-marks, frame-after, stored-since, marked-dues, write-after, write-left, written-marks}
use Rattle.hc_sendings.specs.History.{KeepsAwaited, due_by, due_in, dues_of, was_forgotten}

-- nothing is awaited at the opening, and after an accepted edit

nothing_waits : (history : History) → ((serial : ℕ) → due_by history serial ≡ None) → was_forgotten history ≡ false → KeepsAwaited history nothing
nothing_waits history none never = record {
  due = λ serial. sym (none serial);
  ascend = AllPairs-nil (λ (a b : AwaitedFrame). a.serial < b.serial);
  below = All-nil (λ (frame : AwaitedFrame). frame.serial < next_serial history);
  in_line = All-nil (λ (frame : AwaitedFrame). All (λ carried. IsInLine (line_of history) carried.datagram) frame.datagrams);
  in_order = AllPairs-nil (λ (a b : AwaitedWrite). a.serial < b.serial);
  distinct = AllPairs-nil (λ (a b : AwaitedWrite). a.serial ≢ b.serial);
  first = All-nil (λ (write : AwaitedWrite). carries_first history write.serial);
  given = All-nil (λ (write : AwaitedWrite). write.serial < next_serial history);
  apart = All-nil (λ (write : AwaitedWrite). All (λ (frame : AwaitedFrame). frame.serial ≢ write.serial) []);
  forgotten = sym never;
}

pub waits-opened : (groups : List Group) → KeepsAwaited (just_opened groups) nothing
waits-opened groups = nothing_waits (just_opened groups) (λ serial. refl) refl

pub waits-edited : (history : History) (edit : Edit) → KeepsAwaited (Edited edit ∷ history) nothing
waits-edited history edit = nothing_waits (Edited edit ∷ history) (λ serial. ap (option_map dues_of) (awaited_edited serial edit (sending_of history serial))) refl

-- a stale arrival changes nothing

pub waits-stale : (history : History) (stored : Waiting) (arrival : Arrival) → is_stale_to history arrival ≡ true → KeepsAwaited history stored → KeepsAwaited (Came arrival ∷ history) stored
waits-stale history stored arrival stale waits = record {
  due = λ serial. waits.due serial ∙ sym (ap (option_map dues_of) (awaited-stale history arrival serial (not-true (list_any is_current (judged_by history arrival)) stale)));
  ascend = waits.ascend;
  below = waits.below;
  in_line = waits.in_line;
  in_order = waits.in_order;
  distinct = waits.distinct;
  first = waits.first;
  given = waits.given;
  apart = waits.apart;
  forgotten = waits.forgotten;
}

-- nor does an entry that concerns no sending: a post, or what is said of a slave's registers

pub record IsBeside (entry : HistoryEntry) : Type 0 where
  outdated : (item : Item) (since : List HistoryEntry) → is_outdated item (entry ∷ since) ≡ is_outdated item since
  going : (serial : ℕ) (heads : List Head) → ends serial heads entry ≡ false
  stays : is_no_arrival entry ≡ true

dues_beside : (entry : HistoryEntry) → IsBeside entry → (heads : List Head) (since : List HistoryEntry) → map (due_in (entry ∷ since)) heads ≡ map (due_in since) heads
dues_beside entry beside [] since = refl
dues_beside entry beside (head ∷ heads) since =
    ap (λ b. let due : Due = record { head = head; last_sent = not b } in due ∷ map (due_in (entry ∷ since)) heads) (beside.outdated head.item since)
    ∙ ap (λ dues. due_in since head ∷ dues) (dues_beside entry beside heads since)

all_beside : (entry : HistoryEntry) → IsBeside entry → (heads : List Head) (since : List HistoryEntry) → all_outdated (entry ∷ since) heads ≡ all_outdated since heads
all_beside entry beside [] since = refl
all_beside entry beside (head ∷ heads) since =
    ap (λ b. b && all_outdated (entry ∷ since) heads) (beside.outdated head.item since) ∙ ap (λ b. is_outdated head.item since && b) (all_beside entry beside heads since)

due_if : (over : Bool) (a b : Sending) → dues_of a ≡ dues_of b → option_map dues_of (cond over None (Some a)) ≡ option_map dues_of (cond over None (Some b))
due_if true a b same = refl
due_if false a b same = ap (λ dues. Some dues) same

due_beside : (entry : HistoryEntry) → IsBeside entry → (serial : ℕ) (found : Option Sending)
    → option_map dues_of (option_and_then (still_awaited serial) (option_map (followed_by entry) found)) ≡ option_map dues_of (option_and_then (still_awaited serial) found)
due_beside entry beside serial None = refl
due_beside entry beside serial (Some sending) =
    let slim : List HistoryEntry = filter is_no_arrival sending.since in
    let after : Bool → Bool → List HistoryEntry → Option (List Due) =
    λ ended over since. option_map dues_of (cond ((ended || is_ended serial sending) || over) None (Some (record { heads = sending.heads; since = since }))) in
    ap (λ b. after b (all_outdated (entry ∷ sending.since) sending.heads) (filter is_no_arrival (entry ∷ sending.since))) (beside.going serial sending.heads)
    ∙ ap (λ b. after false b (filter is_no_arrival (entry ∷ sending.since))) (all_beside entry beside sending.heads sending.since)
    ∙ ap (λ b. after false (all_outdated sending.since sending.heads) (cond b (entry ∷ slim) slim)) beside.stays
    ∙ due_if (is_ended serial sending || all_outdated sending.since sending.heads)
    (record { heads = sending.heads; since = entry ∷ slim })
    (record { heads = sending.heads; since = slim }) (dues_beside entry beside sending.heads slim)

posted_beside : (task : ℕ) (bytes : List ℕ) → IsBeside (Posted task bytes)
posted_beside task bytes = record { outdated = outdated-posted task bytes; going = λ serial heads. refl; stays = refl }

outdated-cleared : (station : ℕ) (item : Item) (since : List HistoryEntry) → is_outdated item (Cleared station ∷ since) ≡ is_outdated item since
outdated-cleared station (Datagram t d) since = refl
outdated-cleared station (Block other number) since = refl

outdated-unplugged : (station : ℕ) (item : Item) (since : List HistoryEntry) → is_outdated item (Unplugged station ∷ since) ≡ is_outdated item since
outdated-unplugged station (Datagram t d) since = refl
outdated-unplugged station (Block other number) since = refl

pub waits-posted : (history : History) (stored : Waiting) (task : ℕ) (bytes : List ℕ) → KeepsAwaited history stored → KeepsAwaited (Posted task bytes ∷ history) stored
waits-posted history stored task bytes waits =
    record {
      due = λ serial. waits.due serial ∙ sym (due_beside (Posted task bytes) (posted_beside task bytes) serial (sending_of history serial));
      ascend = waits.ascend;
      below = waits.below;
      in_line = waits.in_line;
      in_order = waits.in_order;
      distinct = waits.distinct;
      first = waits.first;
      given = waits.given;
      apart = waits.apart;
      forgotten = waits.forgotten;
    }

-- a slave is cleared, or unplugged
pub waits-cleared : (history : History) (stored : Waiting) (station : ℕ) → KeepsAwaited history stored → KeepsAwaited (Cleared station ∷ history) stored
waits-cleared history stored station waits =
    let beside : IsBeside (Cleared station) = record { outdated = outdated-cleared station; going = λ serial heads. refl; stays = refl } in
    record {
      due = λ serial. waits.due serial ∙ sym (due_beside (Cleared station) beside serial (sending_of history serial));
      ascend = waits.ascend;
      below = waits.below;
      in_line = waits.in_line;
      in_order = waits.in_order;
      distinct = waits.distinct;
      first = waits.first;
      given = waits.given;
      apart = waits.apart;
      forgotten = waits.forgotten;
    }

pub waits-unplugged : (history : History) (stored : Waiting) (station : ℕ) → KeepsAwaited history stored → KeepsAwaited (Unplugged station ∷ history) stored
waits-unplugged history stored station waits =
    let beside : IsBeside (Unplugged station) = record { outdated = outdated-unplugged station; going = λ serial heads. refl; stays = refl } in
    record {
      due = λ serial. waits.due serial ∙ sym (due_beside (Unplugged station) beside serial (sending_of history serial));
      ascend = waits.ascend;
      below = waits.below;
      in_line = waits.in_line;
      in_order = waits.in_order;
      distinct = waits.distinct;
      first = waits.first;
      given = waits.given;
      apart = waits.apart;
      forgotten = waits.forgotten;
    }

-- register blocks are written in one frame

-- the writes that stay

abbrev Ascend : AwaitedWrite → AwaitedWrite → Type 0
Ascend a b = a.serial < b.serial

abbrev Differ : AwaitedWrite → AwaitedWrite → Type 0
Differ a b = a.serial ≢ b.serial

abbrev serial_of : AwaitedWrite → ℕ
serial_of write = write.serial

left_all : (P : AwaitedWrite → Type 0) (again : List AwaitedBlock) (writes : List AwaitedWrite) (gone : Bool) → ((write : AwaitedWrite) → P write → P (with_written again write)) → All P writes
    → All P (left_after again gone writes)
left_all P again writes true still all = All-nil P
left_all P again writes false still all =
    All-filter is_awaited P (map (with_written again) writes) (All-map P (with_written again) writes (All-weaker P (λ (write : AwaitedWrite). P (with_written again write)) still writes all))

left_pairs : (R : AwaitedWrite → AwaitedWrite → Type 0) (again : List AwaitedBlock) (writes : List AwaitedWrite) (gone : Bool) → AllPairs (λ a b. R (with_written again a) (with_written again b)) writes
    → AllPairs R (left_after again gone writes)
left_pairs R again writes true all = AllPairs-nil R
left_pairs R again writes false all = AllPairs-filter R is_awaited (map (with_written again) writes) (AllPairs-map R (with_written again) writes all)

left_joined : (again : List AwaitedBlock) (gone : Bool) (xs ys : List AwaitedWrite) → left_after again gone (xs ++ ys) ≡ left_after again gone xs ++ left_after again gone ys
left_joined again true xs ys = refl
left_joined again false xs ys =
    ap (filter is_awaited) (map-append (with_written again) xs ys) ∙ filter-append is_awaited (map (with_written again) xs) (map (with_written again) ys)

less_apart : (m n : ℕ) → m < n → m ≢ n
less_apart m n less same = omega (arith, less, same)

-- what carries the first owed blocks does so after a frame of writes too

no_later : (next serial : ℕ) → next + 1 ≤ serial → next ≡ serial → ⊥
no_later next serial above same = omega (arith, above, same)

carries_above : (history : History) (serial : ℕ) → next_serial history ≤ serial → carries_first history serial
carries_above [] serial above = tt
carries_above (Opened groups ∷ history) serial above = tt
carries_above (Edited edit ∷ history) serial above = carries_above history serial above
carries_above (Posted task bytes ∷ history) serial above = carries_above history serial above
carries_above (Sent frame ∷ history) serial above = carries_above history serial (omega arith)
carries_above (Wrote blocks ∷ history) serial above = (λ same. absurd (no_later (next_serial history) serial above same), carries_above history serial (omega arith))
carries_above (Came arrival ∷ history) serial above = carries_above history serial above
carries_above (Forgot station ∷ history) serial above = carries_above history serial above
carries_above (Cleared station ∷ history) serial above = carries_above history serial above
carries_above (Unplugged station ∷ history) serial above = carries_above history serial above

carries_older : (history : History) (blocks : List LineBlock) (writes : List AwaitedWrite) → All (λ write. carries_first history write.serial) writes → All (λ write. write.serial < next_serial history) writes
    → All (λ write. carries_first (Wrote blocks ∷ history) write.serial) writes
carries_older history blocks [] first below = All-nil (λ (write : AwaitedWrite). carries_first (Wrote blocks ∷ history) write.serial)
carries_older history blocks (write ∷ writes) first below =
    let less : write.serial < next_serial history = All-head (λ (one : AwaitedWrite). one.serial < next_serial history) write writes below in
    All-cons (λ (one : AwaitedWrite). carries_first (Wrote blocks ∷ history) one.serial) write writes
    ((λ same. absurd (less_apart write.serial (next_serial history) less (sym same))), All-head (λ (one : AwaitedWrite). carries_first history one.serial) write writes first)
    (carries_older history blocks writes (All-tail (λ (one : AwaitedWrite). carries_first history one.serial) write writes first)
    (All-tail (λ (one : AwaitedWrite). one.serial < next_serial history) write writes below))

-- by the record

awaited_now : (history : History) (block : LineBlock) (blocks : List LineBlock) (serial : ℕ) → (next_serial history == serial) ≡ true
    → awaited (Wrote (block ∷ blocks) ∷ history) serial ≡ Some (sending_of_heads (write_heads (block ∷ blocks)))
awaited_now history block blocks serial t =
    ap (λ b. option_and_then (still_awaited serial) (cond b (Some (sending_of_heads (write_heads (block ∷ blocks)))) (option_map (followed_by (Wrote (block ∷ blocks))) (sending_of history serial)))) t

awaited_older : (history : History) (blocks : List LineBlock) (serial : ℕ) → (next_serial history == serial) ≡ false
    → awaited (Wrote blocks ∷ history) serial ≡ option_and_then (unless_again (Wrote blocks)) (awaited history serial)
awaited_older history blocks serial t =
    ap (λ b. option_and_then (still_awaited serial) (cond b (Some (sending_of_heads (write_heads blocks))) (option_map (followed_by (Wrote blocks)) (sending_of history serial)))) t
    ∙ awaited_other serial (Wrote blocks) (λ heads. refl) refl (sending_of history serial)

no_datagram : (task d : ℕ) (blocks : List LineBlock) → sends (Datagram task d) (Wrote blocks) ≡ false
no_datagram task d [] = refl
no_datagram task d (block ∷ blocks) = no_datagram task d blocks

new_dues : (placed : List PlacedBlock) → map block_due (map awaited_block placed) ≡ map (due_in []) (write_heads (map block_of placed))
new_dues [] = refl
new_dues (one ∷ placed) = ap (λ (dues : List Due). block_due (awaited_block one) ∷ dues) (new_dues placed)

-- by the stored state

-- the stored writes after the write: those that stay, and among them the one that was sent
record IsAmong (history : History) (stored after : Waiting) (placed : List PlacedBlock) : Type 0 where
  before : List AwaitedWrite
  later : List AwaitedWrite
  left : before ++ later ≡ left_after (map awaited_block placed) stored.forgotten (all_writes stored)
  all : all_writes after ≡ before ++ record { serial = next_serial history; blocks = map awaited_block placed } ∷ later
  frames : after.frames ≡ stored.frames

module _ (history : History) (stored after : Waiting) (placed : List PlacedBlock) (waits : KeepsAwaited history stored) (is : IsAmong history stored after placed) where
  abbrev again : List AwaitedBlock
  again = map awaited_block placed

  abbrev older : List AwaitedWrite
  older = left_after again stored.forgotten (all_writes stored)

  abbrev new : AwaitedWrite
  new = record { serial = next_serial history; blocks = again }

  abbrev has : ℕ → AwaitedWrite → Bool
  has serial write = write.serial == serial

  abbrev frames_with : ℕ → Option (List Due)
  frames_with serial = option_map (frame_due (line_of history)) (found_frame serial stored)

  abbrev left_with : ℕ → Option (List Due)
  left_with serial = option_or (option_map write_due (find (has serial) older)) (frames_with serial)

  below_next : All (λ (write : AwaitedWrite). write.serial < next_serial history) older
  below_next = left_all (λ (write : AwaitedWrite). write.serial < next_serial history) again (all_writes stored) stored.forgotten (λ write below. below) waits.given

  below_parts : All (λ (write : AwaitedWrite). write.serial < next_serial history) (is.before ++ is.later)
  below_parts = subst (All (λ (write : AwaitedWrite). write.serial < next_serial history)) (sym is.left) below_next

  found_all : (serial : ℕ) → found_write serial after ≡ cond (next_serial history == serial) (Some new) (find (has serial) older)
  found_all serial =
      ap (find (has serial)) is.all
      ∙ find-more serial_of serial is.before is.later new below_parts
      ∙ ap (λ (writes : List AwaitedWrite). cond (next_serial history == serial) (Some new) (find (has serial) writes)) is.left

  -- an older write stays unless all its blocks are written again
  stays_found : (serial : ℕ) → stored.forgotten ≡ false → (found : Option AwaitedWrite) → found_write serial stored ≡ found
      → find (has serial) older ≡ option_and_then (λ (write : AwaitedWrite). cond (is_awaited (with_written again write)) (Some (with_written again write)) None) found
  stays_found serial not_forgotten found e =
      ap (λ b. find (has serial) (left_after again b (all_writes stored))) not_forgotten
      ∙ find-marked serial_of (with_written again) is_awaited (λ write. refl) serial (all_writes stored) waits.distinct
      ∙ ap (option_and_then (λ (write : AwaitedWrite). cond (is_awaited (with_written again write)) (Some (with_written again write)) None)) e

  goes_found : (serial : ℕ) → stored.forgotten ≡ true → find (has serial) older ≡ None
  goes_found serial some = ap (λ b. find (has serial) (left_after again b (all_writes stored))) some

  abbrev Left : ℕ → Type 0
  Left serial = left_with serial ≡ option_map dues_of (option_and_then (unless_again (Wrote (map block_of placed))) (awaited history serial))

  left_none : (serial : ℕ) → find (has serial) older ≡ None → found_write serial stored ≡ None → Left serial
  left_none serial gone e =
      ap (λ found. option_or (option_map write_due found) (frames_with serial)) gone
      ∙ frame-after history stored (Wrote (map block_of placed)) serial waits (λ task d. no_datagram task d (map block_of placed)) e

  left_over : (serial : ℕ) (write : AwaitedWrite) → stored.forgotten ≡ true → found_write serial stored ≡ Some write → Left serial
  left_over serial write some e =
      ap (λ found. option_or (option_map write_due found) (frames_with serial)) (goes_found serial some)
      ∙ write-after history stored (Wrote (map block_of placed)) serial waits write None e
      (λ one. sym (ap (λ b. option_map dues_of (cond b None (Some (followed_by (Wrote (map block_of placed)) one.sending))))
      (all-over placed one.sending.since write.blocks one.sending.heads one.dues (stored-since history stored serial write waits one ∙ some))))

  left_again : (serial : ℕ) (write : AwaitedWrite) → stored.forgotten ≡ false → found_write serial stored ≡ Some write → Left serial
  left_again serial write not_forgotten e =
      let mark = with_written again write in
      ap (λ found. option_or (option_map write_due found) (frames_with serial)) (stays_found serial not_forgotten (Some write) e)
      ∙ write-after history stored (Wrote (map block_of placed)) serial waits write (cond (is_awaited mark) (Some mark) None) e
      (λ one. write-left (written_again again) (Wrote (map block_of placed)) write one.sending
      (marked-dues (written_again again) (Wrote (map block_of placed)) one.sending.since
      (written-marks placed one.sending.since (stored-since history stored serial write waits one ∙ not_forgotten)) write.blocks one.sending.heads one.dues))

  left_by : (serial : ℕ) (found : Option AwaitedWrite) → found_write serial stored ≡ found → Left serial
  left_by serial None e =
      by_bool stored.forgotten
      (λ t. left_none serial (goes_found serial t) e)
      (λ t. left_none serial (stays_found serial t None e) e)
  left_by serial (Some write) e =
      by_bool stored.forgotten
      (λ t. left_over serial write t e)
      (λ t. left_again serial write t e)

  due_all : (serial : ℕ) → due_with (line_of history) after serial ≡ cond (next_serial history == serial) (Some (write_due new)) (left_with serial)
  due_all serial =
      ap (λ (frames : List AwaitedFrame). option_or (option_map write_due (found_write serial after)) (option_map (frame_due (line_of history)) (find (λ (frame : AwaitedFrame). frame.serial == serial) frames))) is.frames
      ∙ ap (λ found. option_or (option_map write_due found) (frames_with serial)) (found_all serial)
      ∙ by (next_serial history == serial)
    where
      by : (now : Bool) → option_or (option_map write_due (cond now (Some new) (find (has serial) older))) (frames_with serial) ≡ cond now (Some (write_due new)) (left_with serial)
      by true = refl
      by false = refl

  -- the serials

  distinct_now : AllPairs Differ (all_writes after)
  distinct_now =
      let parts : AllPairs Differ (is.before ++ is.later) = subst (AllPairs Differ) (sym is.left) (left_pairs Differ again (all_writes stored) stored.forgotten waits.distinct) in
      subst (AllPairs Differ) (sym is.all)
      (pairs-more Differ is.before is.later new parts
      (All-weaker (λ (write : AwaitedWrite). write.serial < next_serial history) (λ (write : AwaitedWrite). Differ write new) (λ write less. less_apart write.serial (next_serial history) less) is.before
      (All-append_left (λ (write : AwaitedWrite). write.serial < next_serial history) is.before is.later below_parts))
      (All-weaker (λ (write : AwaitedWrite). write.serial < next_serial history) (Differ new) (λ write less same. less_apart write.serial (next_serial history) less (sym same)) is.later
      (All-append_right (λ (write : AwaitedWrite). write.serial < next_serial history) is.before is.later below_parts)))

  given_now : All (λ (write : AwaitedWrite). write.serial < next_serial history + 1) (all_writes after)
  given_now =
      subst (All (λ (write : AwaitedWrite). write.serial < next_serial history + 1)) (sym is.all)
      (all-more (λ (write : AwaitedWrite). write.serial < next_serial history + 1) is.before is.later new
      (All-weaker (λ (write : AwaitedWrite). write.serial < next_serial history) (λ (write : AwaitedWrite). write.serial < next_serial history + 1) (λ write below. below_more write.serial (next_serial history) below) (is.before ++ is.later) below_parts)
      (omega arith))

  abbrev Apart : AwaitedWrite → Type 0
  Apart write = All (λ (frame : AwaitedFrame). frame.serial ≢ write.serial) stored.frames

  apart_now : All (λ (write : AwaitedWrite). All (λ (frame : AwaitedFrame). frame.serial ≢ write.serial) after.frames) (all_writes after)
  apart_now =
      subst (λ (frames : List AwaitedFrame). All (λ (write : AwaitedWrite). All (λ (frame : AwaitedFrame). frame.serial ≢ write.serial) frames) (all_writes after)) (sym is.frames)
      (subst (All Apart) (sym is.all)
      (all-more Apart is.before is.later new
      (subst (All Apart) (sym is.left) (left_all Apart again (all_writes stored) stored.forgotten (λ write other. other) waits.apart))
      (All-weaker (λ (frame : AwaitedFrame). frame.serial < next_serial history) (λ (frame : AwaitedFrame). frame.serial ≢ next_serial history) (λ frame below. less_apart frame.serial (next_serial history) below) stored.frames waits.below)))

due_wrote : (history : History) (stored after : Waiting) (one : PlacedBlock) (rest : List PlacedBlock) (serial : ℕ) → KeepsAwaited history stored → IsAmong history stored after (one ∷ rest)
    → due_with (line_of history) after serial ≡ due_by (Wrote (map block_of (one ∷ rest)) ∷ history) serial
due_wrote history stored after one rest serial waits is =
    let placed = one ∷ rest in
    due_all history stored after placed waits is serial
    ∙ by_bool (next_serial history == serial)
    (λ t. ap (λ b. cond b (Some (write_due (new history stored after placed waits is))) (left_with history stored after placed waits is serial)) t
    ∙ ap (λ (dues : List Due). Some dues) (new_dues placed)
    ∙ sym (ap (option_map dues_of) (awaited_now history one.block (map block_of rest) serial t)))
    (λ t. ap (λ b. cond b (Some (write_due (new history stored after placed waits is))) (left_with history stored after placed waits is serial)) t
    ∙ left_by history stored after placed waits is serial (found_write serial stored) refl
    ∙ sym (ap (option_map dues_of) (awaited_older history (map block_of placed) serial t)))

-- the stored writes that carry the first owed blocks
record AreFirst (history : History) (placed : List PlacedBlock) (after : Waiting) : Type 0 where
  in_order : AllPairs Ascend after.writes
  first : All (λ write. carries_first (Wrote (map block_of placed) ∷ history) write.serial) after.writes
  forgotten : after.forgotten ≡ false

write_waits : (history : History) (stored after : Waiting) (one : PlacedBlock) (rest : List PlacedBlock) → KeepsAwaited history stored → IsAmong history stored after (one ∷ rest) → AreFirst history (one ∷ rest) after
    → KeepsAwaited (Wrote (map block_of (one ∷ rest)) ∷ history) after
write_waits history stored after one rest waits is are =
    let placed = one ∷ rest in
    record {
      due = λ serial. due_wrote history stored after one rest serial waits is;
      ascend = subst (AllPairs (λ (a b : AwaitedFrame). a.serial < b.serial)) (sym is.frames) waits.ascend;
      below = subst (All (λ (frame : AwaitedFrame). frame.serial < next_serial history + 1)) (sym is.frames)
          (All-weaker (λ (frame : AwaitedFrame). frame.serial < next_serial history) (λ (frame : AwaitedFrame). frame.serial < next_serial history + 1) (λ frame below. below_more frame.serial (next_serial history) below) stored.frames waits.below);
      in_line = subst (All (λ (frame : AwaitedFrame). All (λ carried. IsInLine (line_of history) carried.datagram) frame.datagrams)) (sym is.frames) waits.in_line;
      in_order = are.in_order;
      distinct = distinct_now history stored after placed waits is;
      given = given_now history stored after placed waits is;
      apart = apart_now history stored after placed waits is;
      first = are.first;
      forgotten = are.forgotten;
    }

-- the older writes of the first owed blocks

older_order : (history : History) (stored : Waiting) (again : List AwaitedBlock) → KeepsAwaited history stored → AllPairs Ascend (older_writes again stored)
older_order history stored again waits = left_pairs Ascend again stored.writes stored.forgotten waits.in_order

older_below : (history : History) (stored : Waiting) (again : List AwaitedBlock) → KeepsAwaited history stored → All (λ (write : AwaitedWrite). write.serial < next_serial history) (older_writes again stored)
older_below history stored again waits =
    left_all (λ (write : AwaitedWrite). write.serial < next_serial history) again stored.writes stored.forgotten (λ write below. below)
    (All-append_right (λ (write : AwaitedWrite). write.serial < next_serial history) stored.further stored.writes waits.given)

older_first : (history : History) (stored : Waiting) (placed : List PlacedBlock) → KeepsAwaited history stored
    → All (λ (write : AwaitedWrite). carries_first (Wrote (map block_of placed) ∷ history) write.serial) (older_writes (map awaited_block placed) stored)
older_first history stored placed waits =
    carries_older history (map block_of placed) (older_writes (map awaited_block placed) stored)
    (left_all (λ (write : AwaitedWrite). carries_first history write.serial) (map awaited_block placed) stored.writes stored.forgotten (λ write first. first) waits.first)
    (older_below history stored (map awaited_block placed) waits)

-- the first owed blocks

wrote_among : (history : History) (stored : Waiting) (placed : List PlacedBlock) → IsAmong history stored (wrote (next_serial history) (map awaited_block placed) stored) placed
wrote_among history stored placed =
    let again = map awaited_block placed in
    let new : AwaitedWrite = record { serial = next_serial history; blocks = again } in
    record {
      before = older_further again stored ++ older_writes again stored;
      later = [];
      left = append-nil (older_further again stored ++ older_writes again stored) ∙ sym (left_joined again stored.forgotten stored.further stored.writes);
      all = sym (append_assoc (older_further again stored) (older_writes again stored) (new ∷ []));
      frames = refl;
    }

pub waits-wrote : (history : History) (stored : Waiting) (placed : List PlacedBlock) → 0 < length placed → IsFirstWrite (owed_blocks history) (map block_of placed) → KeepsAwaited history stored
    → KeepsAwaited (Wrote (map block_of placed) ∷ history) (wrote (next_serial history) (map awaited_block placed) stored)
waits-wrote history stored [] some first waits = absurd (omega (arith, some))
waits-wrote history stored (one ∷ rest) some first waits =
    let placed = one ∷ rest in
    let again = map awaited_block placed in
    let older = older_writes again stored in
    let new : AwaitedWrite = record { serial = next_serial history; blocks = again } in
    let Carries : AwaitedWrite → Type 0 = λ write. carries_first (Wrote (map block_of placed) ∷ history) write.serial in
    write_waits history stored (wrote (next_serial history) again stored) one rest waits (wrote_among history stored placed) (record {
      in_order = AllPairs-append Ascend older (new ∷ []) (older_order history stored again waits)
          (AllPairs-cons Ascend new [] (All-nil (Ascend new)) (AllPairs-nil Ascend))
          (All-weaker (λ (write : AwaitedWrite). write.serial < next_serial history) (λ (write : AwaitedWrite). All (Ascend write) (new ∷ []))
          (λ write less. All-cons (Ascend write) new [] less (All-nil (Ascend write))) older (older_below history stored again waits));
      first = All-append Carries older (new ∷ []) (older_first history stored placed waits)
          (All-cons Carries new [] ((λ same. first), carries_above history (next_serial history) (omega arith)) (All-nil Carries));
      forgotten = refl;
    })

-- further ones

further_among : (history : History) (stored : Waiting) (placed : List PlacedBlock) → IsAmong history stored (wrote_further (next_serial history) (map awaited_block placed) stored) placed
further_among history stored placed =
    let again = map awaited_block placed in
    let new : AwaitedWrite = record { serial = next_serial history; blocks = again } in
    record {
      before = older_further again stored;
      later = older_writes again stored;
      left = sym (left_joined again stored.forgotten stored.further stored.writes);
      all = append_assoc (older_further again stored) (new ∷ []) (older_writes again stored);
      frames = refl;
    }

pub waits-wrote_further : (history : History) (stored : Waiting) (placed : List PlacedBlock) → 0 < length placed → KeepsAwaited history stored
    → KeepsAwaited (Wrote (map block_of placed) ∷ history) (wrote_further (next_serial history) (map awaited_block placed) stored)
waits-wrote_further history stored [] some waits = absurd (omega (arith, some))
waits-wrote_further history stored (one ∷ rest) some waits =
    let placed = one ∷ rest in
    let again = map awaited_block placed in
    write_waits history stored (wrote_further (next_serial history) again stored) one rest waits (further_among history stored placed)
    (record { in_order = older_order history stored again waits; first = older_first history stored placed waits; forgotten = refl })

-- forgetting a slave ends the writes of its blocks, and nothing else

all_forgot : (station : ℕ) (stored : Waiting) → all_writes (forgot station stored) ≡ left_forgotten station (all_writes stored)
all_forgot station stored =
    sym (ap (filter is_awaited) (map-append (write_forgotten station) stored.further stored.writes)
    ∙ filter-append is_awaited (map (write_forgotten station) stored.further) (map (write_forgotten station) stored.writes))

found_forgot : (history : History) (stored : Waiting) (station serial : ℕ) (found : Option AwaitedWrite) → KeepsAwaited history stored → found_write serial stored ≡ found
    → found_write serial (forgot station stored) ≡ option_and_then (λ (write : AwaitedWrite). cond (is_awaited (write_forgotten station write)) (Some (write_forgotten station write)) None) found
found_forgot history stored station serial found waits e =
    ap (find (λ (write : AwaitedWrite). write.serial == serial)) (all_forgot station stored)
    ∙ find-marked serial_of (write_forgotten station) is_awaited (λ write. refl) serial (all_writes stored) waits.distinct
    ∙ ap (option_and_then (λ (write : AwaitedWrite). cond (is_awaited (write_forgotten station write)) (Some (write_forgotten station write)) None)) e

forgot_by : (history : History) (stored : Waiting) (station serial : ℕ) (found : Option AwaitedWrite) → KeepsAwaited history stored → found_write serial stored ≡ found
    → due_with (line_of history) (forgot station stored) serial ≡ option_map dues_of (option_and_then (unless_again (Forgot station)) (awaited history serial))
forgot_by history stored station serial None waits e =
    ap (λ write. option_or (option_map write_due write) (option_map (frame_due (line_of history)) (found_frame serial stored))) (found_forgot history stored station serial None waits e)
    ∙ frame-after history stored (Forgot station) serial waits (λ task d. refl) e
forgot_by history stored station serial (Some write) waits e =
    let mark = write_forgotten station write in
    ap (λ write. option_or (option_map write_due write) (option_map (frame_due (line_of history)) (found_frame serial stored))) (found_forgot history stored station serial (Some write) waits e)
    ∙ write-after history stored (Forgot station) serial waits write (cond (is_awaited mark) (Some mark) None) e
    (λ one. write-left (block_forgotten station) (Forgot station) write one.sending
    (marked-dues (block_forgotten station) (Forgot station) one.sending.since (forgotten-marks station one.sending.since) write.blocks one.sending.heads one.dues))

forgotten_all : (P : AwaitedWrite → Type 0) (station : ℕ) (writes : List AwaitedWrite) → ((write : AwaitedWrite) → P write → P (write_forgotten station write)) → All P writes → All P (left_forgotten station writes)
forgotten_all P station writes still all =
    All-filter is_awaited P (map (write_forgotten station) writes) (All-map P (write_forgotten station) writes (All-weaker P (λ (write : AwaitedWrite). P (write_forgotten station write)) still writes all))

forgotten_pairs : (R : AwaitedWrite → AwaitedWrite → Type 0) (station : ℕ) (writes : List AwaitedWrite) → AllPairs (λ a b. R (write_forgotten station a) (write_forgotten station b)) writes → AllPairs R (left_forgotten station writes)
forgotten_pairs R station writes all = AllPairs-filter R is_awaited (map (write_forgotten station) writes) (AllPairs-map R (write_forgotten station) writes all)

pub waits-forgot : (history : History) (stored : Waiting) (station : ℕ) → KeepsAwaited history stored → KeepsAwaited (Forgot station ∷ history) (forgot station stored)
waits-forgot history stored station waits =
    let back : (P : List AwaitedWrite → Type 0) → P (left_forgotten station (all_writes stored)) → P (all_writes (forgot station stored)) = λ P holds. subst P (sym (all_forgot station stored)) holds in
    record {
      due = λ serial.
          forgot_by history stored station serial (found_write serial stored) waits refl
          ∙ sym (ap (option_map dues_of) (awaited_other serial (Forgot station) (λ heads. refl) refl (sending_of history serial)));
      ascend = waits.ascend;
      below = waits.below;
      in_line = waits.in_line;
      in_order = forgotten_pairs Ascend station stored.writes waits.in_order;
      distinct = back (AllPairs Differ) (forgotten_pairs Differ station (all_writes stored) waits.distinct);
      given = back (All (λ (write : AwaitedWrite). write.serial < next_serial history))
          (forgotten_all (λ (write : AwaitedWrite). write.serial < next_serial history) station (all_writes stored) (λ write below. below) waits.given);
      apart = back (All (λ (write : AwaitedWrite). All (λ (frame : AwaitedFrame). frame.serial ≢ write.serial) stored.frames))
          (forgotten_all (λ (write : AwaitedWrite). All (λ (frame : AwaitedFrame). frame.serial ≢ write.serial) stored.frames) station (all_writes stored) (λ write other. other) waits.apart);
      first = forgotten_all (λ (write : AwaitedWrite). carries_first history write.serial) station stored.writes (λ write first. first) waits.first;
      forgotten = refl;
    }

-- Awaited register writes after a later entry of the record: their due datagrams by the stored state are those by the record.
use Rattle.std.proofs.Common.{◌≡◌, ◌≢◌, ℕ, ◌==◌, ◌<◌, Bool, true, false, cond, not, ◌&&◌, ◌||◌, List, [], ◌∷◌, map, refl, sym, ap, ◌∙◌, subst, Option, Some, None}
use Rattle.std.specs.Prelude.{All, find, option_and_then, option_map}
use Rattle.std.specs.Option.{option_or}
use Rattle.std.specs.List.{list_any}
use Rattle.std.proofs.lemmas.Bool.{eqb-true, ne_eqb}
use Rattle.std.proofs.lemmas.List.Elements.{All-head, All-tail}
use Rattle.hc_records.specs.Line.{Member}
use Rattle.hc_records.proofs.lemmas.Choices.{by_bool}
use Rattle.hc_events.specs.Entries.{HistoryEntry, History, Sent, Wrote, Forgot}
use Rattle.hc_events.specs.Points.{line_of, next_serial}
use Rattle.hc_events.specs.Sendings.{Named}
use Rattle.hc_events.specs.Heads.{Block, Datagram, Head, block_item, is_block, same_item}
use Rattle.hc_events.specs.Answering.{Sending, followed_by, forgets, is_forgetting, is_outdated, sends, starts_over}
use Rattle.hc_events.specs.Awaited.{all_outdated, awaited, is_write_sending}
use Rattle.hc_events.proofs.lemmas.Awaited.{awaited-new_answer, frame-untouched, data-untouched, no-block_first, not_both, unless_again}
use Rattle.hc_sendings.specs.declared.write_frames.PlacedBlock.{PlacedBlock}
use Rattle.hc_sendings.specs.declared.writes.AwaitedBlock.{AwaitedBlock}
use Rattle.hc_sendings.specs.Waiting.{AwaitedFrame, AwaitedWrite, AwaitedDatagram, Waiting, all_writes, awaited_block, block_forgotten, is_awaited, is_same, written_again}
use Rattle.hc_sendings.specs.WriteFrames.{block_of}
use Rattle.hc_sendings.specs.Judging.{Due, block_due, due_of, found_frame, found_write, frame_due, write_due, written_head}
use Rattle.hc_sendings.specs.History.{KeepsAwaited, due_in, dues_of}
use Rattle.hc_sendings.proofs.lemmas.Dues.{heads-back}
use Rattle.hc_sendings.proofs.lemmas.Forgets.{forgetting-since}

-- which of them are the newest

abbrev is_last_sent : Due → Bool
is_last_sent due = due.last_sent

pub some-last_sent : (since : List HistoryEntry) (heads : List Head) → list_any is_last_sent (map (due_in since) heads) ≡ not (all_outdated since heads)
some-last_sent since [] = refl
some-last_sent since (head ∷ heads) =
    ap (λ b. not (is_outdated head.item since) || b) (some-last_sent since heads)
    ∙ not_both (is_outdated head.item since) (all_outdated since heads)

any_last_sent : (blocks : List AwaitedBlock) → list_any (λ (block : AwaitedBlock). block.last_sent) blocks ≡ list_any is_last_sent (map block_due blocks)
any_last_sent [] = refl
any_last_sent (block ∷ blocks) = ap (λ b. block.last_sent || b) (any_last_sent blocks)

-- a write as it is marked, and as the record has it

module _ (mark : AwaitedBlock → AwaitedBlock) (entry : HistoryEntry) where
  abbrev pub with_mark : AwaitedWrite → AwaitedWrite
  with_mark write = record { serial = write.serial; blocks = map mark write.blocks }

  -- what is due of each block is marked as the entry has it
  abbrev pub Marks : List HistoryEntry → Type 0
  Marks since = (block : AwaitedBlock) (head : Head) → block_due block ≡ due_in since head → block_due (mark block) ≡ due_in (entry ∷ since) head

  pub marked-dues : (since : List HistoryEntry) → Marks since → (blocks : List AwaitedBlock) (heads : List Head) → map block_due blocks ≡ map (due_in since) heads
      → map block_due (map mark blocks) ≡ map (due_in (entry ∷ since)) heads
  marked-dues since marks [] [] e = refl
  marked-dues since marks [] (head ∷ heads) e = cc
  marked-dues since marks (block ∷ blocks) [] e = cc
  marked-dues since marks (block ∷ blocks) (head ∷ heads) e =
      let first : block_due block ≡ due_in since head = cc in
      let rest : map block_due blocks ≡ map (due_in since) heads = cc in
      ap (λ (due : Due). due ∷ map block_due (map mark blocks)) (marks block head first)
      ∙ ap (λ (dues : List Due). due_in (entry ∷ since) head ∷ dues) (marked-dues since marks blocks heads rest)

  pub write-left : (write : AwaitedWrite) (sending : Sending) → map block_due (map mark write.blocks) ≡ map (due_in (entry ∷ sending.since)) sending.heads
      → option_map write_due (cond (is_awaited (with_mark write)) (Some (with_mark write)) None) ≡ option_map dues_of (unless_again entry sending)
  write-left write sending dues =
      let awaited_still : is_awaited (with_mark write) ≡ not (all_outdated (entry ∷ sending.since) sending.heads) =
      any_last_sent (map mark write.blocks) ∙ ap (list_any is_last_sent) dues ∙ some-last_sent (entry ∷ sending.since) sending.heads in
      ap (λ b. option_map write_due (cond b (Some (with_mark write)) None)) awaited_still
      ∙ by (all_outdated (entry ∷ sending.since) sending.heads)
    where
      by : (over : Bool) → option_map write_due (cond (not over) (Some (with_mark write)) None) ≡ option_map dues_of (cond over None (Some (followed_by entry sending)))
      by true = refl
      by false = ap (λ (due : List Due). Some due) dues

-- one block after another

outdated_of : (block : AwaitedBlock) (since : List HistoryEntry) (head : Head) → block_due block ≡ due_in since head → block.last_sent ≡ not (is_outdated (Block block.station block.number) since)
outdated_of block since head e =
    let head_is : written_head block ≡ head = ap (λ (due : Due). due.head) e in
    ap (λ (due : Due). due.last_sent) e ∙ ap (λ (one : Head). not (is_outdated one.item since)) (sym head_is)

due_back : (block : AwaitedBlock) (last_sent : Bool) (since : List HistoryEntry) (head : Head) → written_head block ≡ head → last_sent ≡ not (is_outdated (Block block.station block.number) since)
    → (let due : Due = record { head = written_head block; last_sent = last_sent } in due) ≡ due_in since head
due_back block last_sent since head is e =
    ap (λ b. let due : Due = record { head = written_head block; last_sent = b } in due) e
    ∙ ap (λ (one : Head). due_in since one) is

-- after a write

among : (block : AwaitedBlock) (placed : List PlacedBlock) → list_any (is_same block) (map awaited_block placed)
    ≡ list_any (λ line. same_item (Block block.station block.number) (block_item line)) (map block_of placed)
among block [] = refl
among block (one ∷ placed) = ap (λ b. same_item (Block block.station block.number) (block_item one.block) || b) (among block placed)

not_again : (a f s q b : Bool) → f ≡ false → (not ((a || s) || b) && not q) ≡ not ((a || (f || s)) || (q || b))
not_again true f s q b e = refl
not_again false true s q b e = cc
not_again false false true q b e = refl
not_again false false false true true e = refl
not_again false false false true false e = refl
not_again false false false false b e = and_true (not b)
  where
    and_true : (c : Bool) → (c && true) ≡ c
    and_true true = refl
    and_true false = refl

pub written-marks : (placed : List PlacedBlock) (since : List HistoryEntry) → list_any is_forgetting since ≡ false → Marks (written_again (map awaited_block placed)) (Wrote (map block_of placed)) since
written-marks placed since none block head e =
    let item = Block block.station block.number in
    let lines = map block_of placed in
    due_back block (block.last_sent && not (list_any (is_same block) (map awaited_block placed))) (Wrote lines ∷ since) head (ap (λ (due : Due). due.head) e)
    (ap (λ b. b && not (list_any (is_same block) (map awaited_block placed))) (outdated_of block since head e)
    ∙ ap (λ b. not (is_outdated item since) && not b) (among block placed)
    ∙ not_again (list_any (forgets block.station) since) (list_any is_forgetting since) (starts_over since) (sends item (Wrote lines)) (list_any (sends item) since) none)

-- where a slave was forgotten since, nothing of an older write stays

over_again : (a f s q b : Bool) → f ≡ true → ((a || (f || s)) || (q || b)) ≡ true
over_again true f s q b e = refl
over_again false true s q b e = refl
over_again false false s q b e = cc

pub all-over : (placed : List PlacedBlock) (since : List HistoryEntry) (blocks : List AwaitedBlock) (heads : List Head) → map block_due blocks ≡ map (due_in since) heads → list_any is_forgetting since ≡ true
    → all_outdated (Wrote (map block_of placed) ∷ since) heads ≡ true
all-over placed since blocks [] e some = refl
all-over placed since [] (head ∷ heads) e some = cc
all-over placed since (block ∷ blocks) (head ∷ heads) e some =
    let first : block_due block ≡ due_in since head = cc in
    let rest : map block_due blocks ≡ map (due_in since) heads = cc in
    let lines = map block_of placed in
    let item = Block block.station block.number in
    let head_is : written_head block ≡ head = ap (λ (due : Due). due.head) first in
    let over : is_outdated item (Wrote lines ∷ since) ≡ true =
    over_again (list_any (forgets block.station) since) (list_any is_forgetting since) (starts_over since) (sends item (Wrote lines)) (list_any (sends item) since) some in
    ap (λ (one : Head). is_outdated one.item (Wrote lines ∷ since) && all_outdated (Wrote lines ∷ since) heads) (sym head_is)
    ∙ ap (λ b. b && all_outdated (Wrote lines ∷ since) heads) over
    ∙ all-over placed since blocks heads rest some

-- after a slave was forgotten

not_gone : (a s b own : Bool) → (not ((a || s) || b) && not own) ≡ not (((own || a) || s) || b)
not_gone true s b true = refl
not_gone true s b false = refl
not_gone false true b true = refl
not_gone false true b false = refl
not_gone false false true true = refl
not_gone false false true false = refl
not_gone false false false true = refl
not_gone false false false false = refl

pub forgotten-marks : (station : ℕ) (since : List HistoryEntry) → Marks (block_forgotten station) (Forgot station) since
forgotten-marks station since block head e =
    let item = Block block.station block.number in
    due_back block (block.last_sent && not (block.station == station)) (Forgot station ∷ since) head (ap (λ (due : Due). due.head) e)
    (ap (λ b. b && not (block.station == station)) (outdated_of block since head e)
    ∙ not_gone (list_any (forgets block.station) since) (starts_over since) (list_any (sends item) since) (block.station == station))

-- after a frame of tasks

no_task : (station number : ℕ) (frame : List Named) → sends (Block station number) (Sent frame) ≡ false
no_task station number [] = refl
no_task station number (named ∷ frame) = no_task station number frame

abbrev pub unmarked : AwaitedBlock → AwaitedBlock
unmarked block = block

pub sent-marks : (frame : List Named) (since : List HistoryEntry) → Marks unmarked (Sent frame) since
sent-marks frame since block head e =
    let item = Block block.station block.number in
    due_back block block.last_sent (Sent frame ∷ since) head (ap (λ (due : Due). due.head) e)
    (outdated_of block since head e
    ∙ ap (λ q. not ((list_any (forgets block.station) since || starts_over since) || (q || list_any (sends item) since))) (sym (no_task block.station block.number frame)))

unmarked_same : (blocks : List AwaitedBlock) → map unmarked blocks ≡ blocks
unmarked_same [] = refl
unmarked_same (block ∷ blocks) = ap (λ (rest : List AwaitedBlock). block ∷ rest) (unmarked_same blocks)

pub sent-dues : (frame : List Named) (since : List HistoryEntry) (blocks : List AwaitedBlock) (heads : List Head) → map block_due blocks ≡ map (due_in since) heads
    → map block_due blocks ≡ map (due_in (Sent frame ∷ since)) heads
sent-dues frame since blocks heads e =
    ap (map block_due) (sym (unmarked_same blocks)) ∙ marked-dues unmarked (Sent frame) since (sent-marks frame since) blocks heads e

-- a write that is found is an awaited sending's

pub record IsStoredWrite (history : History) (serial : ℕ) (write : AwaitedWrite) : Type 0 where
  pub sending : Sending
  pub there : awaited history serial ≡ Some sending
  pub dues : write_due write ≡ dues_of sending

found_due : (history : History) (serial : ℕ) (dues : List Due) (found : Option Sending) → awaited history serial ≡ found → Some dues ≡ option_map dues_of found
    → (sending : Sending) × (awaited history serial ≡ Some sending) × (dues ≡ dues_of sending)
found_due history serial dues None there e = cc
found_due history serial dues (Some sending) there e = (sending, there, cc)

pub stored-write : (history : History) (stored : Waiting) (serial : ℕ) (write : AwaitedWrite) → KeepsAwaited history stored → found_write serial stored ≡ Some write → IsStoredWrite history serial write
stored-write history stored serial write waits e =
    let one = found_due history serial (write_due write) (awaited history serial) refl
    (sym (ap (λ found. option_or (option_map write_due found) (option_map (frame_due (line_of history)) (found_frame serial stored))) e) ∙ waits.due serial) in
    record { sending = one.0; there = one.1; dues = one.2 }

-- all its datagrams are of blocks, it has one at least, and the writes didn't start over since

heads_of : (write : AwaitedWrite) (sending : Sending) → write_due write ≡ dues_of sending → sending.heads ≡ map written_head write.blocks
heads_of write sending e = sym (heads-back sending.since sending.heads) ∙ ap (map (λ (due : Due). due.head)) (sym e) ∙ own write.blocks
  where
    own : (blocks : List AwaitedBlock) → map (λ (due : Due). due.head) (map block_due blocks) ≡ map written_head blocks
    own [] = refl
    own (block ∷ blocks) = ap (λ (heads : List Head). written_head block ∷ heads) (own blocks)

writes_of : (blocks : List AwaitedBlock) (heads : List Head) (since : List HistoryEntry) → heads ≡ map written_head blocks → all_outdated since heads ≡ false → list_any (λ (head : Head). is_block head.item) heads ≡ true
writes_of [] heads since e new_answer = let never : true ≡ false = sym (ap (all_outdated since) e) ∙ new_answer in cc
writes_of (block ∷ blocks) heads since e new_answer = ap (list_any (λ (head : Head). is_block head.item)) e

begun : (a s b : Bool) → s ≡ true → ((a || s) || b) ≡ true
begun true s b e = refl
begun false true b e = refl
begun false false b e = cc

started_over : (blocks : List AwaitedBlock) (since : List HistoryEntry) → starts_over since ≡ true → all_outdated since (map written_head blocks) ≡ true
started_over [] since e = refl
started_over (block ∷ blocks) since e =
    ap (λ b. b && all_outdated since (map written_head blocks)) (begun (list_any (forgets block.station) since) (starts_over since) (list_any (sends (Block block.station block.number)) since) e)
    ∙ started_over blocks since e

pub stored-writes : (history : History) (serial : ℕ) (write : AwaitedWrite) (one : IsStoredWrite history serial write) → is_write_sending one.sending ≡ true
stored-writes history serial write one =
    writes_of write.blocks one.sending.heads one.sending.since (heads_of write one.sending one.dues) (awaited-new_answer history serial one.sending one.there)

pub stored-since : (history : History) (stored : Waiting) (serial : ℕ) (write : AwaitedWrite) → KeepsAwaited history stored → (one : IsStoredWrite history serial write) → list_any is_forgetting one.sending.since ≡ stored.forgotten
stored-since history stored serial write waits one =
    let new_answer = awaited-new_answer history serial one.sending one.there in
    forgetting-since history serial one.sending one.there (stored-writes history serial write one)
    (by_bool (starts_over one.sending.since)
    (λ t. let never : true ≡ false = sym (ap (all_outdated one.sending.since) (heads_of write one.sending one.dues) ∙ started_over write.blocks one.sending.since t) ∙ new_answer in cc)
    (λ t. t))
    ∙ sym waits.forgotten

-- no frame has its serial

holds_found : {X : Type 0} (P : X → Type 0) (test : X → Bool) (xs : List X) (x : X) → All P xs → find test xs ≡ Some x → P x × (test x ≡ true)
holds_found P test [] x all e = cc
holds_found P test (y ∷ xs) x all e =
    by_bool (test y)
    (λ t. let same : y ≡ x = same_some y x (sym (ap (λ b. cond b (Some y) (find test xs)) t) ∙ e) in (subst P same (All-head P y xs all), sym (ap test same) ∙ t))
    (λ t. holds_found P test xs x (All-tail P y xs all) (sym (ap (λ b. cond b (Some y) (find test xs)) t) ∙ e))
  where
    same_some : {Y : Type 0} (a b : Y) → Some a ≡ Some b → a ≡ b
    same_some a b e = cc

none_with : (serial : ℕ) (frames : List AwaitedFrame) → All (λ frame. frame.serial ≢ serial) frames → find (λ (frame : AwaitedFrame). frame.serial == serial) frames ≡ None
none_with serial [] all = refl
none_with serial (frame ∷ frames) all =
    ap (λ b. cond b (Some frame) (find (λ (one : AwaitedFrame). one.serial == serial) frames)) (ne_eqb frame.serial serial (All-head (λ (one : AwaitedFrame). one.serial ≢ serial) frame frames all))
    ∙ none_with serial frames (All-tail (λ (one : AwaitedFrame). one.serial ≢ serial) frame frames all)

pub no-frame : (history : History) (stored : Waiting) (serial : ℕ) (write : AwaitedWrite) → KeepsAwaited history stored → found_write serial stored ≡ Some write → found_frame serial stored ≡ None
no-frame history stored serial write waits e =
    let one = holds_found (λ (w : AwaitedWrite). All (λ (frame : AwaitedFrame). frame.serial ≢ w.serial) stored.frames) (λ (w : AwaitedWrite). w.serial == serial) (all_writes stored) write waits.apart e in
    none_with serial stored.frames (subst (λ (n : ℕ). All (λ (frame : AwaitedFrame). frame.serial ≢ n) stored.frames) (eqb-true write.serial serial one.1) one.0)

-- its serial was given
pub written-below : (history : History) (stored : Waiting) (serial : ℕ) (write : AwaitedWrite) → KeepsAwaited history stored → found_write serial stored ≡ Some write → serial < next_serial history
written-below history stored serial write waits e =
    let one = holds_found (λ (w : AwaitedWrite). w.serial < next_serial history) (λ (w : AwaitedWrite). w.serial == serial) (all_writes stored) write waits.given e in
    subst (λ n. n < next_serial history) (eqb-true write.serial serial one.1) one.0

-- what isn't a write's is a frame's

no_block : (line : List Member) (datagrams : List AwaitedDatagram) → list_any (λ (head : Head). is_block head.item) (map (λ (due : Due). due.head) (map (due_of line) datagrams)) ≡ false
no_block line [] = refl
no_block line (carried ∷ datagrams) = no_block line datagrams

pub framed-plain : (line : List Member) (frame : Option AwaitedFrame) (sending : Sending) → option_map (frame_due line) frame ≡ Some (dues_of sending) → is_write_sending sending ≡ false
framed-plain line None sending e = cc
framed-plain line (Some frame) sending e =
    let same : frame_due line frame ≡ dues_of sending = cc in
    ap (list_any (λ (head : Head). is_block head.item)) (sym (heads-back sending.since sending.heads) ∙ ap (map (λ (due : Due). due.head)) (sym same))
    ∙ no_block line frame.datagrams

-- entries that say nothing of frames of tasks leave what is due of these

dues_stay : (entry : HistoryEntry) → ((task d : ℕ) → sends (Datagram task d) entry ≡ false) → (heads : List Head) (since : List HistoryEntry) → list_any (λ head. is_block head.item) heads ≡ false
    → map (due_in (entry ∷ since)) heads ≡ map (due_in since) heads
dues_stay entry none [] since e = refl
dues_stay entry none (head ∷ heads) since e =
    let both = no-block_first head heads e in
    ap (λ b. let due : Due = record { head = head; last_sent = not b } in due ∷ map (due_in (entry ∷ since)) heads) (data-untouched entry none head.item since both.0)
    ∙ ap (λ dues. due_in since head ∷ dues) (dues_stay entry none heads since both.1)

frame_stays : (history : History) (entry : HistoryEntry) → ((task d : ℕ) → sends (Datagram task d) entry ≡ false) → (serial : ℕ) (sending : Sending) → awaited history serial ≡ Some sending → is_write_sending sending ≡ false
    → option_map dues_of (unless_again entry sending) ≡ Some (dues_of sending)
frame_stays history entry none serial sending there frame =
    ap (λ b. option_map dues_of (cond b None (Some (followed_by entry sending)))) (frame-untouched entry none sending.heads sending.since frame ∙ awaited-new_answer history serial sending there)
    ∙ ap (λ dues. Some dues) (dues_stay entry none sending.heads sending.since frame)

-- so what is due after such an entry is what is due by the record, where the writes are marked so

module _ (history : History) (stored : Waiting) (entry : HistoryEntry) (serial : ℕ) (waits : KeepsAwaited history stored) where
  abbrev after : Option Sending → Option (List Due)
  after found = option_map dues_of (option_and_then (unless_again entry) found)

  abbrev frames : Option (List Due)
  frames = option_map (frame_due (line_of history)) (found_frame serial stored)

  no_sending : (found : Option Sending) → awaited history serial ≡ found → ((task d : ℕ) → sends (Datagram task d) entry ≡ false) → frames ≡ option_map dues_of found → frames ≡ after found
  no_sending None there none e = e
  no_sending (Some sending) there none e =
      e ∙ sym (frame_stays history entry none serial sending there (framed-plain (line_of history) (found_frame serial stored) sending e))

  pub frame-after : ((task d : ℕ) → sends (Datagram task d) entry ≡ false) → found_write serial stored ≡ None → frames ≡ after (awaited history serial)
  frame-after none e =
      no_sending (awaited history serial) refl none
      (sym (ap (λ found. option_or (option_map write_due found) frames) e) ∙ waits.due serial)

  only_write : (found : Option AwaitedWrite) → option_or (option_map write_due found) None ≡ option_map write_due found
  only_write None = refl
  only_write (Some write) = refl

  pub write-after : (write : AwaitedWrite) (found : Option AwaitedWrite) → found_write serial stored ≡ Some write
      → ((one : IsStoredWrite history serial write) → option_map write_due found ≡ option_map dues_of (unless_again entry one.sending))
      → option_or (option_map write_due found) frames ≡ after (awaited history serial)
  write-after write found e left =
      let one = stored-write history stored serial write waits e in
      ap (λ frame. option_or (option_map write_due found) (option_map (frame_due (line_of history)) frame)) (no-frame history stored serial write waits e)
      ∙ only_write found
      ∙ left one
      ∙ sym (ap after one.there)

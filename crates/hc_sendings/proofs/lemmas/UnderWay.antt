-- A block is under way by the record exactly if its last write is stored as awaited.
use Rattle.std.proofs.Common.{◌≡◌, ℕ, ◌==◌, ◌&&◌, ◌||◌, Bool, true, false, cond, not, List, [], ◌∷◌, map, refl, sym, ap, ◌∙◌, Option, Some, None}
use Rattle.std.specs.Prelude.{All, find, option_map}
use Rattle.std.specs.Option.{option_or}
use Rattle.std.specs.List.{list_any}
use Rattle.std.proofs.lemmas.Bool.{and_from, and_parts, eqb-true, not-true, or_left, or_right}
use Rattle.std.proofs.lemmas.List.Elements.{All-head, All-tail}
use Rattle.hc_records.proofs.lemmas.Choices.{by_bool, itself}
use Rattle.hc_events.specs.Answering.{is_outdated}
use Rattle.hc_events.specs.Awaited.{is_write_sending}
use Rattle.hc_events.specs.Entries.{HistoryEntry, History}
use Rattle.hc_events.specs.Heads.{Block, Head, same_item}
use Rattle.hc_events.specs.Points.{line_of}
use Rattle.hc_events.specs.UnderWay.{is_under_way}
use Rattle.hc_events.proofs.lemmas.UnderWay.{IsLive, live-under_way, some-block, under_way-live}
use Rattle.hc_sendings.specs.declared.writes.AwaitedBlock.{AwaitedBlock}
use Rattle.hc_sendings.specs.History.{KeepsAwaited, due_in, dues_of}
use Rattle.hc_sendings.specs.Judging.{Due, block_due, found_frame, found_write, frame_due, write_due}
use Rattle.hc_sendings.specs.Waiting.{AwaitedWrite, Waiting, all_writes, carries_newest, is_newest_awaited, is_newest_of}
use Rattle.hc_sendings.proofs.lemmas.Marked.{find-each}
use Rattle.hc_sendings.proofs.lemmas.Rewritten.{framed-plain, stored-write}

-- the last write of a block among the stored ones is one by the record

record IsHead (station number : ℕ) (heads : List Head) (since : List HistoryEntry) : Type 0 where
  carried : list_any (λ head. same_item (Block station number) head.item) heads ≡ true
  live : is_outdated (Block station number) since ≡ false

newest_head : (station number : ℕ) (block : AwaitedBlock) (head : Head) (since : List HistoryEntry) → block_due block ≡ due_in since head → is_newest_of station number block ≡ true
    → (same_item (Block station number) head.item ≡ true) × (is_outdated (Block station number) since ≡ false)
newest_head station number block head since due last =
    let parts = and_parts ((block.station == station) && (block.number == number)) block.last_sent last in
    let named = and_parts (block.station == station) (block.number == number) parts.0 in
    let is : Block block.station block.number ≡ Block station number =
    ap (λ s. Block s block.number) (eqb-true block.station station named.0) ∙ ap (Block station) (eqb-true block.number number named.1) in
    let item : Block station number ≡ head.item = sym is ∙ ap (λ (one : Due). one.head.item) due in
    let live : is_outdated head.item since ≡ false = not-true (is_outdated head.item since) (sym (ap (λ (one : Due). one.last_sent) due) ∙ parts.1) in
    (ap (same_item (Block station number)) (sym item) ∙ and_from (station == station) (number == number) (itself station) (itself number), ap (λ one. is_outdated one since) item ∙ live)

head_of : (station number : ℕ) (blocks : List AwaitedBlock) (heads : List Head) (since : List HistoryEntry) → map block_due blocks ≡ map (due_in since) heads → list_any (is_newest_of station number) blocks ≡ true
    → IsHead station number heads since
head_of station number [] heads since due last = cc
head_of station number (block ∷ blocks) [] since due last = cc
head_of station number (block ∷ blocks) (head ∷ heads) since due last =
    let first : block_due block ≡ due_in since head = cc in
    let rest : map block_due blocks ≡ map (due_in since) heads = cc in
    by_bool (is_newest_of station number block)
    (λ t. let one = newest_head station number block head since first t in
    record { carried = or_left (same_item (Block station number) head.item) (list_any (λ other. same_item (Block station number) other.item) heads) one.0; live = one.1 })
    (λ t. let later = head_of station number blocks heads since rest (sym (ap (λ b. b || list_any (is_newest_of station number) blocks) t) ∙ last) in
    record { carried = or_right (same_item (Block station number) head.item) (list_any (λ other. same_item (Block station number) other.item) heads) later.carried; live = later.live })

abbrev Found : Waiting → AwaitedWrite → Type 0
Found stored write = found_write write.serial stored ≡ Some write

record IsStoredLast (stored : Waiting) (station number : ℕ) : Type 0 where
  write : AwaitedWrite
  found : Found stored write
  last : carries_newest station number write ≡ true

stored_in : (stored : Waiting) (station number : ℕ) (writes : List AwaitedWrite) → All (Found stored) writes → list_any (carries_newest station number) writes ≡ true → IsStoredLast stored station number
stored_in stored station number [] all last = cc
stored_in stored station number (write ∷ writes) all last =
    by_bool (carries_newest station number write)
    (λ t. record { write = write; found = All-head (Found stored) write writes all; last = t })
    (λ t. stored_in stored station number writes (All-tail (Found stored) write writes all) (sym (ap (λ b. b || list_any (carries_newest station number) writes) t) ∙ last))

kept_live : (history : History) (stored : Waiting) (station number : ℕ) → KeepsAwaited history stored → is_newest_awaited station number stored ≡ true → IsLive history station number
kept_live history stored station number waits last =
    let store = stored_in stored station number (all_writes stored) (find-each (λ (write : AwaitedWrite). write.serial) (all_writes stored) waits.distinct) last in
    let one = stored-write history stored store.write.serial store.write waits store.found in
    let head = head_of station number store.write.blocks one.sending.heads one.sending.since one.dues store.last in
    record { serial = store.write.serial; sending = one.sending; there = one.there; carried = head.carried; live = head.live }

-- and back

is_last_one : (station number : ℕ) (block : AwaitedBlock) (head : Head) (since : List HistoryEntry) → block_due block ≡ due_in since head → same_item (Block station number) head.item ≡ true
    → is_outdated (Block station number) since ≡ false → is_newest_of station number block ≡ true
is_last_one station number block head since due same live =
    let item : Block block.station block.number ≡ head.item = ap (λ (one : Due). one.head.item) due in
    let both = and_parts (station == block.station) (number == block.number) (ap (same_item (Block station number)) item ∙ same) in
    let s : station ≡ block.station = eqb-true station block.station both.0 in
    let n : number ≡ block.number = eqb-true number block.number both.1 in
    let is : Block station number ≡ head.item = ap (λ one. Block one number) s ∙ ap (Block block.station) n ∙ item in
    let last : block.last_sent ≡ true = ap (λ (one : Due). one.last_sent) due ∙ ap (λ one. not (is_outdated one since)) (sym is) ∙ ap not live in
    and_from ((block.station == station) && (block.number == number)) block.last_sent
    (and_from (block.station == station) (block.number == number) (ap (λ one. block.station == one) s ∙ itself block.station) (ap (λ one. block.number == one) n ∙ itself block.number)) last

newest_in : (station number : ℕ) (blocks : List AwaitedBlock) (heads : List Head) (since : List HistoryEntry) → map block_due blocks ≡ map (due_in since) heads
    → list_any (λ head. same_item (Block station number) head.item) heads ≡ true → is_outdated (Block station number) since ≡ false → list_any (is_newest_of station number) blocks ≡ true
newest_in station number [] [] since due carried live = cc
newest_in station number [] (head ∷ heads) since due carried live = cc
newest_in station number (block ∷ blocks) [] since due carried live = cc
newest_in station number (block ∷ blocks) (head ∷ heads) since due carried live =
    let first : block_due block ≡ due_in since head = cc in
    let rest : map block_due blocks ≡ map (due_in since) heads = cc in
    by_bool (same_item (Block station number) head.item)
    (λ t. or_left (is_newest_of station number block) (list_any (is_newest_of station number) blocks) (is_last_one station number block head since first t live))
    (λ t. or_right (is_newest_of station number block) (list_any (is_newest_of station number) blocks)
    (newest_in station number blocks heads since rest (sym (ap (λ b. b || list_any (λ other. same_item (Block station number) other.item) heads) t) ∙ carried) live))

found_passes : (test passes : AwaitedWrite → Bool) (writes : List AwaitedWrite) (write : AwaitedWrite) → find test writes ≡ Some write → passes write ≡ true → list_any passes writes ≡ true
found_passes test passes [] write found e = cc
found_passes test passes (first ∷ writes) write found e =
    by_bool (test first)
    (λ t. let same : first ≡ write = same_write first write (sym (ap (λ b. cond b (Some first) (find test writes)) t) ∙ found) in
    or_left (passes first) (list_any passes writes) (ap passes same ∙ e))
    (λ t. or_right (passes first) (list_any passes writes) (found_passes test passes writes write (sym (ap (λ b. cond b (Some first) (find test writes)) t) ∙ found) e))
  where
    same_write : (a b : AwaitedWrite) → Some a ≡ Some b → a ≡ b
    same_write a b e = cc

stored_by : (history : History) (stored : Waiting) (station number : ℕ) (live : IsLive history station number) (found : Option AwaitedWrite) → found_write live.serial stored ≡ found
    → option_or (option_map write_due found) (option_map (frame_due (line_of history)) (found_frame live.serial stored)) ≡ Some (dues_of live.sending) → is_newest_awaited station number stored ≡ true
stored_by history stored station number live None there due =
    let write : is_write_sending live.sending ≡ true = some-block station number live.sending.heads live.carried in
    let never : true ≡ false = sym write ∙ framed-plain (line_of history) (found_frame live.serial stored) live.sending due in cc
stored_by history stored station number live (Some write) there due =
    let dues : write_due write ≡ dues_of live.sending = cc in
    found_passes (λ (one : AwaitedWrite). one.serial == live.serial) (carries_newest station number) (all_writes stored) write there
    (newest_in station number write.blocks live.sending.heads live.sending.since dues live.carried live.live)

pub newest-under_way : (history : History) (stored : Waiting) (station number : ℕ) → KeepsAwaited history stored → is_newest_awaited station number stored ≡ is_under_way history station number
newest-under_way history stored station number waits =
    by_bool (is_newest_awaited station number stored)
    (λ t. t ∙ sym (live-under_way history station number (kept_live history stored station number waits t)))
    (λ t. by_bool (is_under_way history station number)
    (λ u. let live = under_way-live history station number u in
    let never : true ≡ false = sym (stored_by history stored station number live (found_write live.serial stored) refl (waits.due live.serial ∙ ap (option_map dues_of) live.there)) ∙ t in cc)
    (λ u. t ∙ sym u))

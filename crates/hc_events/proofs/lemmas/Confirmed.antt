-- The register blocks that an arrival makes known.
use Rattle.std.proofs.Common.{◌≡◌, ℕ, ◌==◌, Bool, true, false, cond, ◌&&◌, ◌||◌, List, [], ◌∷◌, map, refl, sym, ap, ◌∙◌, Option, Some, None, subst}
use Rattle.std.specs.Prelude.{is_some, option_and_then, option_map, All}
use Rattle.std.specs.Option.{option_map_or, option_or}
use Rattle.std.specs.List.{list_any, zip}
use Rattle.std.proofs.lemmas.Bool.{and_parts, eqb-true, not-true, or_left, or_right, or_parts}
use Rattle.hc_records.proofs.lemmas.Choices.{by_bool}
use Rattle.hc_registers.specs.Blocks.{LineBlock}
use Rattle.hc_events.specs.Arrivals.{Arrival, Part}
use Rattle.hc_events.specs.Entries.{HistoryEntry, History, Came, Wrote}
use Rattle.hc_events.specs.Points.{next_serial, line_of}
use Rattle.hc_events.specs.Heads.{Block, Datagram, Head, Item, block_item, is_block, same_item, write_heads}
use Rattle.hc_events.specs.Answering.{Good, Sending, Stale, Wrong, ends, fits_sending, forgets, has_good, is_answer, is_good, is_outdated, judge, judged, judged_by, only_if, sending_of, sends, starts_over}
use Rattle.hc_events.specs.Owed.{block_among, confirms, if_confirmed, known_bytes, last_write, was_confirmed, write_of}
use Rattle.hc_events.proofs.lemmas.Awaited.{same_is}
use Rattle.hc_events.proofs.lemmas.Live.{any_found, last-stays, find-is}
use Rattle.hc_events.proofs.lemmas.OneWrite.{known-same}
use Rattle.hc_events.proofs.lemmas.TwoWrites.{wrote-at, InLine, line-stays}
use Rattle.std.proofs.lemmas.List.Elements.{All-nil, All-cons}
use Rattle.hc_events.proofs.lemmas.Answers.{accepted-at, written-inside}
use Rattle.hc_events.specs.Accepted.{AreAccepted}

-- an arrival that is good for a block answers a frame that carries it, and since then neither was the block sent nor the slave forgotten

pub record Confirms (item : Item) (heads : List Head) (since : List HistoryEntry) : Type 0 where
  pub carried : list_any (λ head. same_item item head.item) heads ≡ true
  pub write : list_any (λ head. is_block head.item) heads ≡ true
  pub live : is_outdated item since ≡ false

same_name : (station number : ℕ) (other : Item) → same_item (Block station number) other ≡ true → other ≡ Block station number
same_name station number (Datagram task d) e = cc
same_name station number (Block other n) e =
    let both = and_parts (station == other) (number == n) e in
    ap (λ s. Block s n) (sym (eqb-true station other both.0)) ∙ ap (Block station) (sym (eqb-true number n both.1))

good_live : (outdated same : Bool) → is_good (cond outdated Stale (cond same Good Wrong)) ≡ true → outdated ≡ false
good_live true same e = cc
good_live false same e = refl

more_confirms : (item : Item) (head : Head) (heads : List Head) (since : List HistoryEntry) → Confirms item heads since → Confirms item (head ∷ heads) since
more_confirms item head heads since one = record {
  carried = or_right (same_item item head.item) (list_any (λ head. same_item item head.item) heads) one.carried;
  write = or_right (is_block head.item) (list_any (λ head. is_block head.item) heads) one.write;
  live = one.live;
}

pub confirms-by : (since : List HistoryEntry) (station number : ℕ) (heads : List Head) (parts : List Part) → list_any (confirms (Block station number)) (map (judge since) (zip heads parts)) ≡ true → Confirms (Block station number) heads since
confirms-by since station number [] parts e = cc
confirms-by since station number (head ∷ heads) [] e = cc
confirms-by since station number (head ∷ heads) (part ∷ parts) e =
    let item = Block station number in
    by_bool (confirms item (judge since (head, part)))
    (λ t. let both = and_parts (same_item item head.item) (has_good (judge since (head, part))) t in
    let same = same_name station number head.item both.0 in
    record {
      carried = or_left (same_item item head.item) (list_any (λ head. same_item item head.item) heads) both.0;
      write = or_left (is_block head.item) (list_any (λ head. is_block head.item) heads) (ap is_block same);
      live = ap (λ one. is_outdated one since) (sym same) ∙ good_live (is_outdated head.item since) (part.counter == head.expected) both.1;
    })
    (λ t. more_confirms item head heads since (confirms-by since station number heads parts (sym (ap (λ b. b || list_any (confirms item) (map (judge since) (zip heads parts))) t) ∙ e)))

pub heads_named : (item : Item) (blocks : List LineBlock) → list_any (λ head. same_item item head.item) (write_heads blocks) ≡ sends item (Wrote blocks)
heads_named item [] = refl
heads_named item (block ∷ blocks) = ap (λ b. same_item item (block_item block) || b) (heads_named item blocks)

-- so its last write is the one that was answered

pub record IsConfirmed (history : History) (serial station number : ℕ) : Type 0 where
  pub block : LineBlock
  pub last : last_write history station number ≡ Some (write_of serial block)
  pub same : same_item (Block station number) (block_item block) ≡ true
  pub inside : AreAccepted history → InLine (line_of history) block

all_units : (blocks : List LineBlock) → All (λ (other : LineBlock). Unit {0}) blocks
all_units [] = All-nil (λ (other : LineBlock). Unit {0})
all_units (block ∷ blocks) = All-cons (λ (other : LineBlock). Unit {0}) block blocks tt (all_units blocks)

found_some : (history : History) (serial station number : ℕ) (blocks : List LineBlock) (found : Option LineBlock) → found ≡ block_among station number blocks → is_some found ≡ true
    → last_write history station number ≡ option_or (option_map (write_of serial) found) None → (AreAccepted history → All (InLine (line_of history)) blocks) → IsConfirmed history serial station number
found_some history serial station number blocks None is some e inside = cc
found_some history serial station number blocks (Some block) is some e inside = record {
  block = block;
  last = e;
  same = (find-is (λ other. Unit {0}) (λ other. same_item (Block station number) (block_item other)) blocks block (all_units blocks) (sym is)).1;
  inside = λ all. (find-is (InLine (line_of history)) (λ other. same_item (Block station number) (block_item other)) blocks block (inside all) (sym is)).0;
}

some_or : (serial : ℕ) (found : Option LineBlock) (rest : Option (ℕ × List ℕ)) → is_some found ≡ true → option_or (option_map (write_of serial) found) rest ≡ option_or (option_map (write_of serial) found) None
some_or serial None rest some = cc
some_or serial (Some block) rest some = refl

pub last-of : (history : History) (serial : ℕ) (sending : Sending) (station number : ℕ) → sending_of history serial ≡ Some sending → list_any (ends serial sending.heads) sending.since ≡ false
    → Confirms (Block station number) sending.heads sending.since → IsConfirmed history serial station number
last-of history serial sending station number there going one =
    let at = wrote-at history serial sending there one.write in
    let item = Block station number in
    let live = or_parts (list_any (forgets station) sending.since || starts_over sending.since) (list_any (sends item) sending.since) one.live in
    let unchanged = or_parts (list_any (forgets station) sending.since) (starts_over sending.since) live.0 in
    let stays = last-stays sending.since (Wrote at.blocks ∷ at.before) serial sending.heads station number at.running going unchanged.0 live.1 in
    let some : is_some (block_among station number at.blocks) ≡ true =
    sym (any_found (λ block. same_item item (block_item block)) at.blocks) ∙ sym (heads_named item at.blocks) ∙ sym (ap (list_any (λ head. same_item item head.item)) at.heads) ∙ one.carried in
    let line = ap line_of at.split ∙ line-stays sending.since (Wrote at.blocks ∷ at.before) serial sending.heads at.running going in
    found_some history serial station number at.blocks (block_among station number at.blocks) refl some
    (ap (λ entries. last_write entries station number) at.split ∙ stays
    ∙ some_or (next_serial at.before) (block_among station number at.blocks) (last_write at.before station number) some
    ∙ ap (λ n. option_or (option_map (write_of n) (block_among station number at.blocks)) None) at.serial_is)
    (λ all. subst (λ members. All (InLine members) at.blocks) (sym line) (written-inside at.before at.blocks (accepted-at sending.since at.before (Wrote at.blocks) at.running refl (subst AreAccepted at.split all))))

confirmed_if : (history : History) (arrival : Arrival) (station number : ℕ) (found : Option Sending) → sending_of history arrival.serial ≡ found
    → list_any (confirms (Block station number)) (option_map_or (judged arrival) (option_and_then (only_if (is_answer arrival)) found) []) ≡ true → IsConfirmed history arrival.serial station number
confirmed_if history arrival station number None there e = cc
confirmed_if history arrival station number (Some sending) there e =
    by_bool (is_answer arrival sending)
    (λ t. last-of history arrival.serial sending station number there
    (not-true (list_any (ends arrival.serial sending.heads) sending.since) (and_parts (fits_sending arrival.serial sending.heads arrival) _ t).1)
    (confirms-by sending.since station number sending.heads arrival.parts (sym (ap (λ b. list_any (confirms (Block station number)) (option_map_or (judged arrival) (cond b (Some sending) None) [])) t) ∙ e)))
    (λ t. let never : false ≡ true = sym (ap (λ b. list_any (confirms (Block station number)) (option_map_or (judged arrival) (cond b (Some sending) None) [])) t) ∙ e in cc)

pub confirmed-last : (history : History) (arrival : Arrival) (station number : ℕ) → list_any (confirms (Block station number)) (judged_by history arrival) ≡ true → IsConfirmed history arrival.serial station number
confirmed-last history arrival station number e = confirmed_if history arrival station number (sending_of history arrival.serial) refl e

-- what is known after it

pub known-good : (history : History) (arrival : Arrival) (station number : ℕ) → list_any (confirms (Block station number)) (judged_by history arrival) ≡ true
    → known_bytes (Came arrival ∷ history) station number ≡ option_map (λ write. write.1) (last_write history station number)
known-good history arrival station number e =
    let one = confirmed-last history arrival station number e in
    let item = Block station number in
    let confirmed : was_confirmed (Came arrival ∷ history) arrival.serial item ≡ true =
    or_left ((arrival.serial == arrival.serial) && list_any (confirms item) (judged_by history arrival)) (was_confirmed history arrival.serial item)
    (ap (λ b. b && list_any (confirms item) (judged_by history arrival)) (same_is arrival.serial) ∙ e) in
    ap (option_and_then (if_confirmed (Came arrival ∷ history) item)) one.last
    ∙ ap (λ b. cond b (Some one.block.block.bytes) None) confirmed
    ∙ sym (ap (option_map (λ write. write.1)) one.last)

pub known-came : (history : History) (arrival : Arrival) (station number : ℕ) → known_bytes (Came arrival ∷ history) station number
    ≡ cond (list_any (confirms (Block station number)) (judged_by history arrival)) (option_map (λ write. write.1) (last_write history station number)) (known_bytes history station number)
known-came history arrival station number =
    by_bool (list_any (confirms (Block station number)) (judged_by history arrival))
    (λ t. known-good history arrival station number t
    ∙ sym (ap (λ b. cond b (option_map (λ write. write.1) (last_write history station number)) (known_bytes history station number)) t))
    (λ t. known-same history arrival (Block station number) (last_write history station number) t
    ∙ sym (ap (λ b. cond b (option_map (λ write. write.1) (last_write history station number)) (known_bytes history station number)) t))

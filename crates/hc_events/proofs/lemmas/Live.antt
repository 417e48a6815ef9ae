-- A register write that is sent and not out of date is the last one of its block, and unconfirmed while no answer to its frame came: so the block is owed.
use Rattle.std.proofs.Common.{◌≡◌, ℕ, ◌≤◌, ◌==◌, nat_lt, Bool, true, false, cond, not, ◌&&◌, ◌||◌, List, [], ◌∷◌, ◌++◌, refl, sym, ap, ◌∙◌, arith, Option, Some, None, subst}
use Rattle.std.specs.Prelude.{find, is_some, option_and_then, option_map, All}
use Rattle.std.specs.Option.{option_map_or, option_or}
use Rattle.std.specs.List.{list_any}
use Rattle.std.specs.Str.{bytes_eq}
use Rattle.std.proofs.lemmas.Bool.Decides.{nat_tests}
use Rattle.std.proofs.lemmas.Bool.{or_parts}
use Rattle.hc_records.proofs.lemmas.Choices.{by_bool}
use Rattle.hc_registers.specs.Blocks.{LineBlock}
use Rattle.hc_events.specs.Arrivals.{Arrival}
use Rattle.hc_events.specs.Entries.{HistoryEntry, History, Opened, Edited, Posted, Sent, Wrote, Came, Forgot, Cleared, Unplugged}
use Rattle.hc_events.specs.Points.{next_serial}
use Rattle.hc_events.specs.Heads.{Block, Head, Item, block_item, same_item, write_heads}
use Rattle.hc_events.specs.Answering.{Sending, ends, fits_sending, forgets, is_answer, is_outdated, judged, judged_by, only_if, sending_of, sends}
use Rattle.hc_events.specs.Owed.{block_among, confirms, if_confirmed, is_owed, last_write, was_confirmed, write_of}
use Rattle.hc_events.specs.SendingLaws.{is_opening}
use Rattle.hc_events.proofs.lemmas.Once.{serial-made}
use Rattle.hc_events.proofs.lemmas.Placing.{found-under}
use Rattle.std.proofs.lemmas.Option.{same_Some}
use Rattle.std.proofs.lemmas.List.Elements.{All-head, All-tail}

-- a write just sent isn't confirmed

pub unanswered : (arrival : Arrival) (found : Option Sending) → is_some found ≡ false → option_map_or (judged arrival) (option_and_then (only_if (is_answer arrival)) found) [] ≡ []
unanswered arrival None e = refl
unanswered arrival (Some sending) e = cc

pub not_below : (serial m n : ℕ) → (serial == n) ≡ true → m ≤ n → nat_lt serial m ≡ false
not_below serial m n e above = grind (arith, nat_tests)

pub unconfirmed : (history : History) (serial : ℕ) (item : Item) → next_serial history ≤ serial → was_confirmed history serial item ≡ false
unconfirmed [] serial item above = refl
unconfirmed (Opened groups ∷ history) serial item above = refl
unconfirmed (Edited edit ∷ history) serial item above = unconfirmed history serial item above
unconfirmed (Posted task bytes ∷ history) serial item above = unconfirmed history serial item above
unconfirmed (Forgot station ∷ history) serial item above = unconfirmed history serial item above
unconfirmed (Cleared station ∷ history) serial item above = unconfirmed history serial item above
unconfirmed (Unplugged station ∷ history) serial item above = unconfirmed history serial item above
unconfirmed (Sent frame ∷ history) serial item above = unconfirmed history serial item (omega arith)
unconfirmed (Wrote blocks ∷ history) serial item above = unconfirmed history serial item (omega arith)
unconfirmed (Came arrival ∷ history) serial item above =
    by_bool (arrival.serial == serial)
    (λ t. let nothing : judged_by history arrival ≡ [] =
    unanswered arrival (sending_of history arrival.serial) (serial-made history arrival.serial ∙ not_below arrival.serial (next_serial history) serial t above) in
    rw (t, nothing) (unconfirmed history serial item above))
    (λ t. rw t (unconfirmed history serial item above))

pub at_least : (n : ℕ) → n ≤ n
at_least n = omega arith

-- what a frame of writes makes of a block, by whether the block is in it

pub any_found : (p : LineBlock → Bool) (blocks : List LineBlock) → list_any p blocks ≡ is_some (find p blocks)
any_found p [] = refl
any_found p (block ∷ blocks) =
    by_bool (p block)
    (λ t. ap (λ b. b || list_any p blocks) t ∙ sym (ap (λ b. is_some (cond b (Some block) (find p blocks))) t))
    (λ t. ap (λ b. b || list_any p blocks) t ∙ any_found p blocks ∙ sym (ap (λ b. is_some (cond b (Some block) (find p blocks))) t))

-- a block that is found is one of them, and passes
pub find-is : (P : LineBlock → Type 0) (p : LineBlock → Bool) (blocks : List LineBlock) (block : LineBlock) → All P blocks → find p blocks ≡ Some block → P block × (p block ≡ true)
find-is P p [] block all e = cc
find-is P p (first ∷ blocks) block all e =
    by_bool (p first)
    (λ t. let same : first ≡ block = same_Some first block (sym (ap (λ b. cond b (Some first) (find p blocks)) t) ∙ e) in
    (subst P same (All-head P first blocks all), ap p (sym same) ∙ t))
    (λ t. find-is P p blocks block (All-tail P first blocks all) (sym (ap (λ b. cond b (Some first) (find p blocks)) t) ∙ e))

pub found-none : (found : Option LineBlock) → is_some found ≡ false → found ≡ None
found-none None e = refl
found-none (Some block) e = cc

owes : (history : History) (blocks : List LineBlock) (other : LineBlock) (found : Option LineBlock) → is_some found ≡ true
    → not (option_map_or (bytes_eq other.block.bytes)
    (option_and_then (if_confirmed (Wrote blocks ∷ history) (block_item other)) (option_or (option_map (write_of (next_serial history)) found) (last_write history other.station other.number))) false) ≡ true
owes history blocks other None some = cc
owes history blocks other (Some block) some =
    ap (λ b. not (option_map_or (bytes_eq other.block.bytes) (cond b (Some block.block.bytes) None) false)) (unconfirmed history (next_serial history) (block_item other) (at_least (next_serial history)))

-- a block that is written is owed from then on
pub written-is_owed : (history : History) (blocks : List LineBlock) (other : LineBlock) → sends (block_item other) (Wrote blocks) ≡ true → is_owed (Wrote blocks ∷ history) other ≡ true
written-is_owed history blocks other e =
    owes history blocks other (block_among other.station other.number blocks) (sym (any_found (λ block. same_item (block_item other) (block_item block)) blocks) ∙ e)

pub among-none : (blocks : List LineBlock) (station number : ℕ) → sends (Block station number) (Wrote blocks) ≡ false → block_among station number blocks ≡ None
among-none blocks station number e =
    found-none (block_among station number blocks) (sym (any_found (λ block. same_item (Block station number) (block_item block)) blocks) ∙ e)

-- and another one as it was before
pub others-as_before : (history : History) (blocks : List LineBlock) (other : LineBlock) → sends (block_item other) (Wrote blocks) ≡ false → is_owed (Wrote blocks ∷ history) other ≡ is_owed history other
others-as_before history blocks other e =
    ap (λ found. not (option_map_or (bytes_eq other.block.bytes)
    (option_and_then (if_confirmed history (block_item other)) (option_or (option_map (write_of (next_serial history)) found) (last_write history other.station other.number))) false))
    (among-none blocks other.station other.number e)

-- entries that leave a write the last one of its block

pub last-stays : (since : List HistoryEntry) (history : History) (serial : ℕ) (heads : List Head) (station number : ℕ) → list_any is_opening since ≡ false → list_any (ends serial heads) since ≡ false
    → list_any (forgets station) since ≡ false → list_any (sends (Block station number)) since ≡ false → last_write (since ++ history) station number ≡ last_write history station number
last-stays [] history serial heads station number running going unchanged again = refl
last-stays (Opened groups ∷ since) history serial heads station number running going unchanged again = cc
last-stays (Edited edit ∷ since) history serial heads station number running going unchanged again = cc
last-stays (Posted task bytes ∷ since) history serial heads station number running going unchanged again = last-stays since history serial heads station number running going unchanged again
last-stays (Sent frame ∷ since) history serial heads station number running going unchanged again =
    last-stays since history serial heads station number running going unchanged (or_parts (sends (Block station number) (Sent frame)) _ again).1
last-stays (Came arrival ∷ since) history serial heads station number running going unchanged again =
    last-stays since history serial heads station number running (or_parts (fits_sending serial heads arrival) _ going).1 unchanged again
last-stays (Forgot other ∷ since) history serial heads station number running going unchanged again =
    let parts = or_parts (station == other) _ unchanged in
    ap (λ b. cond b None (last_write (since ++ history) station number)) parts.0 ∙ last-stays since history serial heads station number running going parts.1 again
last-stays (Cleared other ∷ since) history serial heads station number running going unchanged again = last-stays since history serial heads station number running going unchanged again
last-stays (Unplugged other ∷ since) history serial heads station number running going unchanged again = last-stays since history serial heads station number running going unchanged again
last-stays (Wrote blocks ∷ since) history serial heads station number running going unchanged again =
    let parts = or_parts (sends (Block station number) (Wrote blocks)) _ again in
    ap (λ found. option_or (option_map (write_of (next_serial (since ++ history))) found) (last_write (since ++ history) station number)) (among-none blocks station number parts.0)
    ∙ last-stays since history serial heads station number running going unchanged parts.1

-- and unconfirmed

no_answer : (arrival : Arrival) (sending : Sending) (found : Option Sending) → found ≡ Some sending → fits_sending arrival.serial sending.heads arrival ≡ false
    → option_map_or (judged arrival) (option_and_then (only_if (is_answer arrival)) found) [] ≡ []
no_answer arrival sending found there other =
    ap (λ one. option_map_or (judged arrival) (option_and_then (only_if (is_answer arrival)) one) []) there
    ∙ ap (λ b. option_map_or (judged arrival) (cond (b && not (list_any (ends arrival.serial sending.heads) sending.since)) (Some sending) None) []) other

serial_is : (a b : ℕ) → (a == b) ≡ true → b ≡ a
serial_is a b e = grind (arith, nat_tests)

pub stays-unconfirmed : (since : List HistoryEntry) (before : History) (blocks : List LineBlock) (item : Item) → list_any is_opening since ≡ false → list_any (ends (next_serial before) (write_heads blocks)) since ≡ false
    → was_confirmed (since ++ Wrote blocks ∷ before) (next_serial before) item ≡ false
stays-unconfirmed [] before blocks item running going = unconfirmed before (next_serial before) item (at_least (next_serial before))
stays-unconfirmed (Opened groups ∷ since) before blocks item running going = cc
stays-unconfirmed (Edited edit ∷ since) before blocks item running going = cc
stays-unconfirmed (Posted task bytes ∷ since) before blocks item running going = stays-unconfirmed since before blocks item running going
stays-unconfirmed (Sent frame ∷ since) before blocks item running going = stays-unconfirmed since before blocks item running going
stays-unconfirmed (Wrote others ∷ since) before blocks item running going = stays-unconfirmed since before blocks item running going
stays-unconfirmed (Forgot station ∷ since) before blocks item running going = stays-unconfirmed since before blocks item running going
stays-unconfirmed (Cleared station ∷ since) before blocks item running going = stays-unconfirmed since before blocks item running going
stays-unconfirmed (Unplugged station ∷ since) before blocks item running going = stays-unconfirmed since before blocks item running going
stays-unconfirmed (Came arrival ∷ since) before blocks item running going =
    let parts = or_parts (fits_sending (next_serial before) (write_heads blocks) arrival) _ going in
    let rest = stays-unconfirmed since before blocks item running parts.1 in
    let history = since ++ Wrote blocks ∷ before in
    by_bool (arrival.serial == next_serial before)
    (λ t. let same = serial_is arrival.serial (next_serial before) t in
    let sending : Sending = record { heads = write_heads blocks; since = since } in
    let there : sending_of history arrival.serial ≡ Some sending = ap (sending_of history) (sym same) ∙ found-under since before (Wrote blocks) refl running in
    let other : fits_sending arrival.serial (write_heads blocks) arrival ≡ false = sym (ap (λ n. fits_sending n (write_heads blocks) arrival) same) ∙ parts.0 in
    let nothing : judged_by history arrival ≡ [] = no_answer arrival sending (sending_of history arrival.serial) there other in
    ap (λ datagrams. ((arrival.serial == next_serial before) && list_any (confirms item) datagrams) || was_confirmed history (next_serial before) item) nothing
    ∙ ap (λ b. (b && false) || was_confirmed history (next_serial before) item) t ∙ rest)
    (λ t. ap (λ b. (b && list_any (confirms item) (judged_by history arrival)) || was_confirmed history (next_serial before) item) t ∙ rest)

-- so the block is owed

owed_since : (since : List HistoryEntry) (before : History) (blocks : List LineBlock) (other : LineBlock) (found : Option LineBlock) → block_among other.station other.number blocks ≡ found → is_some found ≡ true
    → list_any is_opening since ≡ false → list_any (ends (next_serial before) (write_heads blocks)) since ≡ false → last_write (since ++ Wrote blocks ∷ before) other.station other.number ≡ last_write (Wrote blocks ∷ before) other.station other.number
    → is_owed (since ++ Wrote blocks ∷ before) other ≡ true
owed_since since before blocks other None among some running going last = cc
owed_since since before blocks other (Some block) among some running going last =
    let history = since ++ Wrote blocks ∷ before in
    let write : last_write history other.station other.number ≡ Some (write_of (next_serial before) block) =
    last ∙ ap (λ found. option_or (option_map (write_of (next_serial before)) found) (last_write before other.station other.number)) among in
    ap (λ found. not (option_map_or (bytes_eq other.block.bytes) (option_and_then (if_confirmed history (block_item other)) found) false)) write
    ∙ ap (λ b. not (option_map_or (bytes_eq other.block.bytes) (cond b (Some block.block.bytes) None) false)) (stays-unconfirmed since before blocks (block_item other) running going)

pub live-owed : (since : List HistoryEntry) (before : History) (blocks : List LineBlock) (other : LineBlock) → sends (block_item other) (Wrote blocks) ≡ true → list_any is_opening since ≡ false
    → list_any (ends (next_serial before) (write_heads blocks)) since ≡ false → is_outdated (block_item other) since ≡ false → is_owed (since ++ Wrote blocks ∷ before) other ≡ true
live-owed since before blocks other sent running going live =
    let parts = or_parts (list_any (forgets other.station) since || _) (list_any (sends (block_item other)) since) live in
    let unchanged = or_parts (list_any (forgets other.station) since) _ parts.0 in
    owed_since since before blocks other (block_among other.station other.number blocks) refl
    (sym (any_found (λ block. same_item (block_item other) (block_item block)) blocks) ∙ sent) running going
    (last-stays since (Wrote blocks ∷ before) (next_serial before) (write_heads blocks) other.station other.number running going unchanged.0 parts.1)

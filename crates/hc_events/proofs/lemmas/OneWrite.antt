-- A sending that is awaited after an entry was awaited before it. A block that is owed after an arrival was owed before it.
use Rattle.std.proofs.Common.{◌≡◌, ℕ, ◌==◌, Bool, true, false, cond, not, ◌&&◌, List, [], ◌∷◌, filter, refl, sym, ap, ◌∙◌, Option, Some, None}
use Rattle.std.specs.Prelude.{is_some, option_map, option_and_then}
use Rattle.std.specs.Option.{option_map_or}
use Rattle.std.specs.List.{list_any}
use Rattle.std.specs.Str.{bytes_eq}
use Rattle.std.proofs.lemmas.Bool.{not-false, or_right}
use Rattle.std.proofs.lemmas.Option.{same_Some}
use Rattle.hc_records.specs.Line.{Member}
use Rattle.hc_records.proofs.lemmas.Choices.{by_bool}
use Rattle.hc_registers.specs.Blocks.{LineBlock}
use Rattle.hc_events.specs.Arrivals.{Arrival}
use Rattle.hc_events.specs.Entries.{HistoryEntry, History, Wrote, Came}
use Rattle.hc_events.specs.Points.{next_serial}
use Rattle.hc_events.specs.Sendings.{Named}
use Rattle.hc_events.specs.Heads.{Head, Item, block_item, data_heads, is_block, write_heads}
use Rattle.hc_events.specs.Answering.{Sending, sending_of_heads, followed_by, sending_of, fits_sending, ends, judged_by}
use Rattle.hc_events.specs.Awaited.{all_outdated, still_awaited, awaited, is_no_arrival, is_write_sending}
use Rattle.hc_events.specs.Owed.{if_confirmed, is_owed, last_write, was_confirmed, confirms}
use Rattle.hc_events.proofs.lemmas.Awaited.{awaited-heads, unless_fits, unless_again, awaited_came, awaited_other}

-- what is awaited after an entry was awaited before it

pub record Was (history : History) (serial : ℕ) (now : Sending) : Type 0 where
  pub before : Sending
  pub there : awaited history serial ≡ Some before
  pub heads : now.heads ≡ before.heads

-- an arrival

pub record StillAwaited (history : History) (serial : ℕ) (arrival : Arrival) (now : Sending) : Type 0 where
  pub was : Was history serial now
  pub since : now.since ≡ was.before.since
  pub other : fits_sending serial now.heads arrival ≡ false

still_fits : (history : History) (serial : ℕ) (arrival : Arrival) (now : Sending) (found : Option Sending) → awaited history serial ≡ found → option_and_then (unless_fits serial arrival) found ≡ Some now → StillAwaited history serial arrival now
still_fits history serial arrival now None there e = cc
still_fits history serial arrival now (Some before) there e =
    by_bool (fits_sending serial before.heads arrival)
    (λ t. let never : option_and_then (unless_fits serial arrival) (Some before) ≡ None = rw t refl in
    let absurdly : is_some (Some now) ≡ false = ap is_some (sym e ∙ never) in cc)
    (λ t. let stays : option_and_then (unless_fits serial arrival) (Some before) ≡ Some before = rw t refl in
    let same = same_Some before now (sym stays ∙ e) in
    record {
      was = record { before = before; there = there; heads = ap (λ s. s.heads) (sym same) };
      since = ap (λ s. s.since) (sym same);
      other = ap (λ s. fits_sending serial s.heads arrival) (sym same) ∙ t;
    })

pub still_came : (history : History) (serial : ℕ) (arrival : Arrival) (now : Sending) → awaited (Came arrival ∷ history) serial ≡ Some now → StillAwaited history serial arrival now
still_came history serial arrival now e =
    still_fits history serial arrival now (awaited history serial) refl (sym (awaited_came serial arrival (sending_of history serial)) ∙ e)

-- another entry that isn't an edit

pub record NotAgain (history : History) (serial : ℕ) (entry : HistoryEntry) (now : Sending) : Type 0 where
  pub was : Was history serial now
  pub since : now.since ≡ entry ∷ was.before.since
  pub other : all_outdated (entry ∷ was.before.since) now.heads ≡ false

still_again : (history : History) (serial : ℕ) (entry : HistoryEntry) (now : Sending) (found : Option Sending) → awaited history serial ≡ found → option_and_then (unless_again entry) found ≡ Some now → NotAgain history serial entry now
still_again history serial entry now None there e = cc
still_again history serial entry now (Some before) there e =
    by_bool (all_outdated (entry ∷ before.since) before.heads)
    (λ t. let never : option_and_then (unless_again entry) (Some before) ≡ None = rw t refl in
    let absurdly : is_some (Some now) ≡ false = ap is_some (sym e ∙ never) in cc)
    (λ t. let stays : option_and_then (unless_again entry) (Some before) ≡ Some (followed_by entry before) = rw t refl in
    let same = same_Some (followed_by entry before) now (sym stays ∙ e) in
    record {
      was = record { before = before; there = there; heads = ap (λ s. s.heads) (sym same) };
      since = ap (λ s. s.since) (sym same);
      other = ap (λ s. all_outdated (entry ∷ before.since) s.heads) (sym same) ∙ t;
    })

pub still_other : (history : History) (serial : ℕ) (entry : HistoryEntry) (now : Sending) → ((heads : List Head) → ends serial heads entry ≡ false) → is_no_arrival entry ≡ true → option_and_then (still_awaited serial) (option_map (followed_by entry) (sending_of history serial)) ≡ Some now → NotAgain history serial entry now
still_other history serial entry now k c e =
    still_again history serial entry now (awaited history serial) refl (sym (awaited_other serial entry k c (sending_of history serial)) ∙ e)

-- blocks that are owed

-- what was known stays known with an arrival
known_stays : (history : History) (arrival : Arrival) (item : Item) (bytes : List ℕ) (write : Option (ℕ × List ℕ)) → option_map_or (bytes_eq bytes) (option_and_then (if_confirmed history item) write) false ≡ true
    → option_map_or (bytes_eq bytes) (option_and_then (if_confirmed (Came arrival ∷ history) item) write) false ≡ true
known_stays history arrival item bytes None e = e
known_stays history arrival item bytes (Some write) e =
    by_bool (was_confirmed history write.0 item)
    (λ t. let confirmed : was_confirmed (Came arrival ∷ history) write.0 item ≡ true = or_right ((arrival.serial == write.0) && list_any (confirms item) (judged_by history arrival)) _ t in
    let same : bytes_eq bytes write.1 ≡ true = rw t at e in
    rw confirmed same)
    (λ t. let never : false ≡ true = rw t at e in cc)

pub not-owed_stays : (history : History) (arrival : Arrival) (block : LineBlock) → is_owed history block ≡ false → is_owed (Came arrival ∷ history) block ≡ false
not-owed_stays history arrival block e =
    ap not (known_stays history arrival (block_item block) block.block.bytes (last_write history block.station block.number) (not-false _ e))

pub filter_none : (p q : LineBlock → Bool) → ((x : LineBlock) → p x ≡ false → q x ≡ false) → (xs : List LineBlock) → filter p xs ≡ [] → filter q xs ≡ []
filter_none p q k [] e = refl
filter_none p q k (x ∷ xs) e =
    by_bool (p x)
    (λ t. let never : x ∷ filter p xs ≡ [] = rw t at e in cc)
    (λ t. let rest : filter p xs ≡ [] = rw t at e in
    let out : q x ≡ false = k x t in
    rw out (filter_none p q k xs rest))

-- an arrival where no datagram of a block is good leaves what is known of it

confirmed_same : (history : History) (arrival : Arrival) (item : Item) (serial : ℕ) → list_any (confirms item) (judged_by history arrival) ≡ false → was_confirmed (Came arrival ∷ history) serial item ≡ was_confirmed history serial item
confirmed_same history arrival item serial none =
    by_bool (arrival.serial == serial)
    (λ t. rw (t, none) refl)
    (λ t. rw t refl)

pub known-same : (history : History) (arrival : Arrival) (item : Item) (write : Option (ℕ × List ℕ)) → list_any (confirms item) (judged_by history arrival) ≡ false
    → option_and_then (if_confirmed (Came arrival ∷ history) item) write ≡ option_and_then (if_confirmed history item) write
known-same history arrival item None none = refl
known-same history arrival item (Some write) none = ap (λ b. cond b (Some write.1) None) (confirmed_same history arrival item write.0 none)

pub filter-same : (p q : LineBlock → Bool) → ((x : LineBlock) → p x ≡ q x) → (xs : List LineBlock) → filter p xs ≡ filter q xs
filter-same p q k [] = refl
filter-same p q k (x ∷ xs) = ap (λ b. cond b (x ∷ filter p xs) (filter p xs)) (k x) ∙ ap (λ ys. cond (q x) (x ∷ ys) ys) (filter-same p q k xs)

pub heads_same : (a b : LineBlock) (xs ys : List LineBlock) → a ∷ xs ≡ b ∷ ys → a ≡ b
heads_same a b xs ys e = cc

pub some_of_none : (block : LineBlock) (blocks : List LineBlock) → [] ≡ block ∷ blocks → ⊥
some_of_none block blocks e = cc

pub no_blocks : (line : List Member) (frame : List Named) → list_any (λ head. is_block head.item) (data_heads line frame) ≡ false
no_blocks line [] = refl
no_blocks line (named ∷ frame) = no_blocks line frame

-- a sending with a new serial, or an older one

pub write_was : (now before : Sending) → now.heads ≡ before.heads → is_write_sending before ≡ is_write_sending now
write_was now before same = ap (list_any (λ head. is_block head.item)) (sym same)

pub new_or_older : (serial : ℕ) (c : Bool) (first older : Option Sending) (now : Sending) → option_and_then (still_awaited serial) (cond c first older) ≡ Some now → c ≡ true → option_and_then (still_awaited serial) first ≡ Some now
new_or_older serial true first older now e t = e
new_or_older serial false first older now e t = cc

older_one : (serial : ℕ) (c : Bool) (first older : Option Sending) (now : Sending) → option_and_then (still_awaited serial) (cond c first older) ≡ Some now → c ≡ false → option_and_then (still_awaited serial) older ≡ Some now
older_one serial true first older now e t = cc
older_one serial false first older now e t = e

pub older_wrote : (history : History) (blocks : List LineBlock) (serial : ℕ) (now : Sending) → awaited (Wrote blocks ∷ history) serial ≡ Some now → (next_serial history == serial) ≡ false → NotAgain history serial (Wrote blocks) now
older_wrote history blocks serial now e t =
    still_other history serial (Wrote blocks) now (λ heads. refl) refl
    (older_one serial (next_serial history == serial) (Some (sending_of_heads (write_heads blocks))) (option_map (followed_by (Wrote blocks)) (sending_of history serial)) now e t)

pub new_wrote : (history : History) (blocks : List LineBlock) (serial : ℕ) (now : Sending) → awaited (Wrote blocks ∷ history) serial ≡ Some now → (next_serial history == serial) ≡ true → now.heads ≡ write_heads blocks
new_wrote history blocks serial now e t =
    awaited-heads serial (sending_of_heads (write_heads blocks)) now
    (new_or_older serial (next_serial history == serial) (Some (sending_of_heads (write_heads blocks))) (option_map (followed_by (Wrote blocks)) (sending_of history serial)) now e t)

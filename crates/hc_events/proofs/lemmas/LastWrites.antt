-- The place of a block's last write in a record. An answer to a frame of tasks leaves the known bytes of each block.
use Rattle.std.proofs.Common.{◌≡◌, ℕ, ◌==◌, true, false, cond, ◌||◌, List, [], ◌∷◌, ◌++◌, refl, sym, ap, ◌∙◌, Option, Some, None, rules}
use Rattle.std.specs.Prelude.{option_and_then, option_map}
use Rattle.std.specs.Option.{option_or}
use Rattle.std.specs.List.{list_any}
use Rattle.std.proofs.lemmas.Bool.{eqb-true}
use Rattle.std.proofs.lemmas.Option.{same_Some}
use Rattle.hc_records.proofs.lemmas.Choices.{by_bool}
use Rattle.hc_registers.specs.Blocks.{LineBlock}
use Rattle.hc_events.specs.Arrivals.{Arrival}
use Rattle.hc_events.specs.Entries.{HistoryEntry, History, Opened, Edited, Wrote, Came, Forgot}
use Rattle.hc_events.specs.Points.{next_serial}
use Rattle.hc_events.specs.Heads.{Item, Block, is_block, write_heads}
use Rattle.hc_events.specs.Answering.{Sending, sending_of}
use Rattle.hc_events.specs.Awaited.{still_awaited, awaited, is_write_sending}
use Rattle.hc_events.specs.Owed.{block_among, if_confirmed, is_in_line, known_bytes, last_write, write_of}
use Rattle.hc_events.specs.SendingLaws.{is_opening}
use Rattle.hc_events.proofs.lemmas.Awaited.{awaited-heads}
use Rattle.hc_events.proofs.lemmas.Placing.{found-under}

-- where the last write of a block is

pub record IsLastWrite (history : History) (station number : ℕ) (write : ℕ × List ℕ) : Type 0 where
  pub since : List HistoryEntry
  pub blocks : List LineBlock
  pub block : LineBlock
  pub before : History
  pub split : history ≡ since ++ Wrote blocks ∷ before
  pub running : list_any is_opening since ≡ false
  pub among : block_among station number blocks ≡ Some block
  pub written : write ≡ write_of (next_serial before) block

after_it : (entry : HistoryEntry) (history : History) (station number : ℕ) (write : ℕ × List ℕ) → is_opening entry ≡ false → IsLastWrite history station number write → IsLastWrite (entry ∷ history) station number write
after_it entry history station number write plain last = record {
  since = entry ∷ last.since;
  blocks = last.blocks;
  block = last.block;
  before = last.before;
  split = ap (λ entries. entry ∷ entries) last.split;
  running = ap (λ b. b || list_any is_opening last.since) plain ∙ last.running;
  among = last.among;
  written = last.written;
}

-- of a frame of writes, by the block that is found in it
wrote_last : (history : History) (blocks : List LineBlock) (station number : ℕ) (write : ℕ × List ℕ) (found : Option LineBlock) → block_among station number blocks ≡ found
    → (last_write history station number ≡ Some write → IsLastWrite history station number write)
    → option_or (option_map (write_of (next_serial history)) found) (last_write history station number) ≡ Some write → IsLastWrite (Wrote blocks ∷ history) station number write
wrote_last history blocks station number write None among older e = after_it (Wrote blocks) history station number write refl (older e)
wrote_last history blocks station number write (Some block) among older e = record {
  since = [];
  blocks = blocks;
  block = block;
  before = history;
  split = refl;
  running = refl;
  among = among;
  written = sym (same_Some (write_of (next_serial history) block) write e);
}

pub is_placed-last : (history : History) (station number : ℕ) (write : ℕ × List ℕ) → last_write history station number ≡ Some write → IsLastWrite history station number write
is_placed-last [] station number write e = cc
is_placed-last (Opened groups ∷ history) station number write e = cc
is_placed-last (Edited edit ∷ history) station number write e =
    by_bool (is_in_line history station)
    (λ t. after_it (Edited edit) history station number write refl (is_placed-last history station number write (sym (ap (λ b. cond b (last_write history station number) None) t) ∙ e)))
    (λ t. let never : None ≡ Some write = sym (ap (λ b. cond b (last_write history station number) None) t) ∙ e in cc)
is_placed-last (Wrote blocks ∷ history) station number write e =
    wrote_last history blocks station number write (block_among station number blocks) refl (is_placed-last history station number write) e
is_placed-last (Forgot other ∷ history) station number write e =
    by_bool (station == other)
    (λ t. let never : None ≡ Some write = sym (ap (λ b. cond b None (last_write history station number)) t) ∙ e in cc)
    (λ t. after_it (Forgot other) history station number write refl (is_placed-last history station number write (sym (ap (λ b. cond b None (last_write history station number)) t) ∙ e)))
is_placed-last (other ∷ history) station number write e = after_it other history station number write refl (is_placed-last history station number write e)

-- what is awaited with its serial is this write

pub record IsWriteOf (station number : ℕ) (sending : Sending) : Type 0 where
  pub blocks : List LineBlock
  pub block : LineBlock
  pub heads : sending.heads ≡ write_heads blocks
  pub among : block_among station number blocks ≡ Some block

pub awaited-last : (history : History) (station number : ℕ) (write : ℕ × List ℕ) (sending : Sending) → last_write history station number ≡ Some write → awaited history write.0 ≡ Some sending → IsWriteOf station number sending
awaited-last history station number write sending e there =
    let last = is_placed-last history station number write e in
    let made : Sending = record { heads = write_heads last.blocks; since = last.since } in
    let serial : write.0 ≡ next_serial last.before = ap (λ (w : ℕ × List ℕ). w.0) last.written in
    let found : sending_of history write.0 ≡ Some made =
    ap (sending_of history) serial ∙ ap (λ entries. sending_of entries (next_serial last.before)) last.split ∙ found-under last.since last.before (Wrote last.blocks) refl last.running in
    record { blocks = last.blocks; block = last.block; heads = awaited-heads write.0 made sending (sym (ap (option_and_then (still_awaited write.0)) found) ∙ there); among = last.among }

-- an arrival makes no other bytes known where it is no good answer to the last write

pub came-same : (history : History) (arrival : Arrival) (found : Option (ℕ × List ℕ)) → ((write : ℕ × List ℕ) → found ≡ Some write → (arrival.serial == write.0) ≡ false)
    → (item : Item) → option_and_then (if_confirmed (Came arrival ∷ history) item) found ≡ option_and_then (if_confirmed history item) found
came-same history arrival found other item = search rules

-- so it is where a frame of tasks is answered

some_among : (blocks : List LineBlock) (station number : ℕ) (block : LineBlock) → block_among station number blocks ≡ Some block → list_any (λ head. is_block head.item) (write_heads blocks) ≡ true
some_among [] station number block e = cc
some_among (other ∷ blocks) station number block e = refl

pub not-frame : (sending : Sending) (station number : ℕ) → IsWriteOf station number sending → is_write_sending sending ≡ true
not-frame sending station number of = ap (list_any (λ head. is_block head.item)) of.heads ∙ some_among of.blocks station number of.block of.among

pub known-framed : (history : History) (arrival : Arrival) (sending : Sending) → awaited history arrival.serial ≡ Some sending → is_write_sending sending ≡ false
    → (station number : ℕ) → known_bytes (Came arrival ∷ history) station number ≡ known_bytes history station number
known-framed history arrival sending there frame station number =
    came-same history arrival (last_write history station number)
    (λ write e. by_bool (arrival.serial == write.0)
    (λ t. let of = awaited-last history station number write sending e (sym (ap (awaited history) (eqb-true arrival.serial write.0 t)) ∙ there) in
    let never : true ≡ false = sym (not-frame sending station number of) ∙ frame in cc)
    (λ t. t))
    (Block station number)

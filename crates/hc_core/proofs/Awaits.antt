-- The awaited frames and writes of a core stay those that the record awaits: at the opening, and after each entry but frames of
-- tasks.
use Rattle.std.proofs.Common.{◌≡◌, ℕ, ◌<◌, ◌==◌, Bool, true, false, not, List, [], ◌∷◌, ◌++◌, filter, length, map, refl}
use Rattle.std.specs.Prelude.{All}
use Rattle.std.proofs.lemmas.List.Elements.{All-append, All-cons, All-filter, All-head, All-map, All-nil, All-tail, All-weaker}
use Rattle.hc_records.proofs.lemmas.Lists.{All-append_right}
use Rattle.hc_records.specs.declared.edit.Edit.{Edit}
use Rattle.hc_records.specs.declared.records.Group.{Group}
use Rattle.hc_records.specs.Line.{State}
use Rattle.hc_events.specs.Arrivals.{Arrival}
use Rattle.hc_events.specs.Accepted.{IsFirstWrite, just_opened}
use Rattle.hc_events.specs.Owed.{owed_blocks}
use Rattle.hc_events.specs.Entries.{History, Edited, Posted, Wrote, Came, Forgot, Cleared, Unplugged}
use Rattle.hc_events.specs.Points.{next_serial, state_of}
use Rattle.hc_events.specs.Answering.{is_stale_to}
use Rattle.hc_sendings.specs.declared.write_frames.PlacedBlock.{PlacedBlock}
use Rattle.hc_sendings.specs.declared.writes.AwaitedBlock.{AwaitedBlock}
use Rattle.hc_sendings.specs.Waiting.{AwaitedWrite, Waiting, awaited_block, block_forgotten, ended, forgot, is_awaited, left_after, left_forgotten, nothing, older_further, older_writes, with_written, write_forgotten, written_again, wrote, wrote_further}
use Rattle.hc_sendings.specs.WriteFrames.{block_of}
use Rattle.hc_sendings.proofs.lemmas.Awaits as awaited
use Rattle.hc_sendings.proofs.lemmas.Ended as over
use Rattle.hc_sendings.proofs.lemmas.Inserted.{All-append_left}
use Rattle.hc_core.specs.Chosen.{IsAwaitedAt, IsLineBlock}
use Rattle.hc_core.specs.Waits.{Waits}

-- the blocks of a write are of the line
abbrev IsPlaced : State → AwaitedWrite → Type 0
IsPlaced state write = All (IsAwaitedAt state) write.blocks

-- nothing is awaited at the opening, and after an accepted edit

pub waits-opened : (groups : List Group) → Waits (just_opened groups) nothing
waits-opened groups = record { awaits = awaited.waits-opened groups; placed = All-nil (IsPlaced (state_of (just_opened groups))) }

pub waits-edited : (history : History) (edit : Edit) → Waits (Edited edit ∷ history) nothing
waits-edited history edit = record { awaits = awaited.waits-edited history edit; placed = All-nil (IsPlaced (state_of (Edited edit ∷ history))) }

-- a stale arrival changes nothing, and a post neither

pub waits-stale : (history : History) (unchanged : Waiting) (arrival : Arrival) → is_stale_to history arrival ≡ true → Waits history unchanged → Waits (Came arrival ∷ history) unchanged
waits-stale history unchanged arrival stale waits = record { awaits = awaited.waits-stale history unchanged arrival stale waits.awaits; placed = waits.placed }

pub waits-posted : (history : History) (unchanged : Waiting) (task : ℕ) (bytes : List ℕ) → Waits history unchanged → Waits (Posted task bytes ∷ history) unchanged
waits-posted history unchanged task bytes waits = record { awaits = awaited.waits-posted history unchanged task bytes waits.awaits; placed = waits.placed }

pub waits-cleared : (history : History) (unchanged : Waiting) (station : ℕ) → Waits history unchanged → Waits (Cleared station ∷ history) unchanged
waits-cleared history unchanged station waits = record { awaits = awaited.waits-cleared history unchanged station waits.awaits; placed = waits.placed }

pub waits-unplugged : (history : History) (unchanged : Waiting) (station : ℕ) → Waits history unchanged → Waits (Unplugged station ∷ history) unchanged
waits-unplugged history unchanged station waits = record { awaits = awaited.waits-unplugged history unchanged station waits.awaits; placed = waits.placed }

-- an arrival that is current ends what it answers, and the writes that it doesn't answer stay

pub waits-ended : (history : History) (unchanged : Waiting) (arrival : Arrival) → Waits history unchanged → is_stale_to history arrival ≡ false
    → Waits (Came arrival ∷ history) (ended arrival.serial unchanged)
waits-ended history unchanged arrival waits updates = record {
  awaits = over.waits-ended history unchanged arrival waits.awaits updates;
  placed =
      let stays : AwaitedWrite → Bool = λ write. not (write.serial == arrival.serial) in
      let P = IsPlaced (state_of history) in
      All-append P (filter stays unchanged.further) (filter stays unchanged.writes)
      (All-filter stays P unchanged.further (All-append_left P unchanged.further unchanged.writes waits.placed))
      (All-filter stays P unchanged.writes (All-append_right P unchanged.further unchanged.writes waits.placed));
}

-- owed blocks are sent in one frame

placed_awaited : (state : State) (placed : List PlacedBlock) → All (IsLineBlock state) placed → All (IsAwaitedAt state) (map awaited_block placed)
placed_awaited state [] all = All-nil (IsAwaitedAt state)
placed_awaited state (one ∷ placed) all =
    All-cons (IsAwaitedAt state) (awaited_block one) (map awaited_block placed) (record { found = one.block; at = All-head (IsLineBlock state) one placed all; head = refl })
    (placed_awaited state placed (All-tail (IsLineBlock state) one placed all))

still_at : (state : State) (blocks : List AwaitedBlock) (mark : AwaitedBlock → AwaitedBlock) → ((block : AwaitedBlock) → IsAwaitedAt state block → IsAwaitedAt state (mark block)) → All (IsAwaitedAt state) blocks
    → All (IsAwaitedAt state) (map mark blocks)
still_at state blocks mark stays all =
    All-map (IsAwaitedAt state) mark blocks (All-weaker (IsAwaitedAt state) (λ block. IsAwaitedAt state (mark block)) stays blocks all)

again_at : (state : State) (again : List AwaitedBlock) (block : AwaitedBlock) → IsAwaitedAt state block → IsAwaitedAt state (written_again again block)
again_at state again block at = record { found = at.found; at = at.at; head = at.head }

older_are_placed : (state : State) (again : List AwaitedBlock) (forgotten : Bool) (writes : List AwaitedWrite) → All (IsPlaced state) writes → All (IsPlaced state) (left_after again forgotten writes)
older_are_placed state again true writes all = All-nil (IsPlaced state)
older_are_placed state again false writes all =
    All-filter is_awaited (IsPlaced state) (map (with_written again) writes)
    (All-map (IsPlaced state) (with_written again) writes
    (All-weaker (IsPlaced state) (λ write. IsPlaced state (with_written again write)) (λ write at. still_at state write.blocks (written_again again) (again_at state again) at) writes all))

older_parts : (history : History) (unchanged : Waiting) (again : List AwaitedBlock) → Waits history unchanged
    → All (IsPlaced (state_of history)) (older_further again unchanged) × All (IsPlaced (state_of history)) (older_writes again unchanged)
older_parts history unchanged again waits =
    let P = IsPlaced (state_of history) in (
      older_are_placed (state_of history) again unchanged.forgotten unchanged.further (All-append_left P unchanged.further unchanged.writes waits.placed),
      older_are_placed (state_of history) again unchanged.forgotten unchanged.writes (All-append_right P unchanged.further unchanged.writes waits.placed),
    )

pub waits-wrote : (history : History) (unchanged : Waiting) (placed : List PlacedBlock) → 0 < length placed → IsFirstWrite (owed_blocks history) (map block_of placed) → All (IsLineBlock (state_of history)) placed → Waits history unchanged
    → Waits (Wrote (map block_of placed) ∷ history) (wrote (next_serial history) (map awaited_block placed) unchanged)
waits-wrote history unchanged placed some first all waits =
    let state = state_of history in
    let P = IsPlaced state in
    let again = map awaited_block placed in
    let now : AwaitedWrite = record { serial = next_serial history; blocks = again } in
    let older = older_parts history unchanged again waits in
    record {
      awaits = awaited.waits-wrote history unchanged placed some first waits.awaits;
      placed = All-append P (older_further again unchanged) (older_writes again unchanged ++ now ∷ []) older.0
          (All-append P (older_writes again unchanged) (now ∷ []) older.1 (All-cons P now [] (placed_awaited state placed all) (All-nil P)));
    }

pub waits-wrote_further : (history : History) (unchanged : Waiting) (placed : List PlacedBlock) → 0 < length placed → All (IsLineBlock (state_of history)) placed → Waits history unchanged
    → Waits (Wrote (map block_of placed) ∷ history) (wrote_further (next_serial history) (map awaited_block placed) unchanged)
waits-wrote_further history unchanged placed some all waits =
    let state = state_of history in
    let P = IsPlaced state in
    let again = map awaited_block placed in
    let now : AwaitedWrite = record { serial = next_serial history; blocks = again } in
    let older = older_parts history unchanged again waits in
    record {
      awaits = awaited.waits-wrote_further history unchanged placed some waits.awaits;
      placed = All-append P (older_further again unchanged ++ now ∷ []) (older_writes again unchanged)
          (All-append P (older_further again unchanged) (now ∷ []) older.0 (All-cons P now [] (placed_awaited state placed all) (All-nil P))) older.1;
    }

-- a slave that is forgotten is awaited no longer

forgotten_at : (state : State) (station : ℕ) (block : AwaitedBlock) → IsAwaitedAt state block → IsAwaitedAt state (block_forgotten station block)
forgotten_at state station block at = record { found = at.found; at = at.at; head = at.head }

forgotten_are_placed : (state : State) (station : ℕ) (writes : List AwaitedWrite) → All (IsPlaced state) writes → All (IsPlaced state) (left_forgotten station writes)
forgotten_are_placed state station writes all =
    All-filter is_awaited (IsPlaced state) (map (write_forgotten station) writes)
    (All-map (IsPlaced state) (write_forgotten station) writes
    (All-weaker (IsPlaced state) (λ write. IsPlaced state (write_forgotten station write)) (λ write at. still_at state write.blocks (block_forgotten station) (forgotten_at state station) at) writes all))

pub waits-forgot : (history : History) (unchanged : Waiting) (station : ℕ) → Waits history unchanged → Waits (Forgot station ∷ history) (forgot station unchanged)
waits-forgot history unchanged station waits =
    let state = state_of history in
    record {
      awaits = awaited.waits-forgot history unchanged station waits.awaits;
      placed = All-append (IsPlaced state) (left_forgotten station unchanged.further) (left_forgotten station unchanged.writes)
          (forgotten_are_placed state station unchanged.further (All-append_left (IsPlaced state) unchanged.further unchanged.writes waits.placed))
          (forgotten_are_placed state station unchanged.writes (All-append_right (IsPlaced state) unchanged.further unchanged.writes waits.placed));
    }

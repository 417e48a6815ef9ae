-- The sending of the first owed blocks: its faults, its answer, and its entry in the record.
use Rattle.std.proofs.Common.{◌≡◌, ℕ, suc, ◌+◌, ◌<◌, ◌≤◌, ◌==◌, nat_lt, true, false, cond, not, List, [], ◌∷◌, ◌++◌, drop, length, take, refl, sym, ap, ◌∙◌, subst, arith, inl, inr, Option, Some, None, rules}
use Rattle.std.specs.Prelude.{All, IfOk, OnOk, Result, Ok, Err}
use Rattle.std.proofs.lemmas.Bool.Decides.{nat_tests}
use Rattle.std.proofs.lemmas.List.{append-nil, drop_all, take_all, take-append-le}
use Rattle.std.proofs.lemmas.List.Elements.{All-head}
use Rattle.std.proofs.lemmas.List.Sums.{sum_by-cons}
use Rattle.std.proofs.Math.Seq.{take-length}
use Rattle.hc_records.specs.Lists.{lowest}
use Rattle.hc_registers.specs.Blocks.{LineBlock}
use Rattle.hc_frames.specs.declared.building.Room.{Room as NeededRoom}
use Rattle.hc_frames.specs.declared.limits.TheConstants.{SETUP_SERIAL}
use Rattle.hc_frames.specs.Builds.{Builds}
use Rattle.hc_frames.specs.Sizes.{frame_bytes}
use Rattle.hc_events.specs.declared.answer.Answer.{Answer}
use Rattle.hc_events.specs.declared.answer.Answer.TheVariants as answer
use Rattle.hc_events.specs.declared.faults.CoreFault.{CoreFault}
use Rattle.hc_events.specs.declared.faults.CoreFault.TheVariants.{NothingOwed, SerialsSpent}
use Rattle.hc_events.specs.declared.sending.TheConstants.{FRAME_BLOCKS}
use Rattle.hc_events.specs.Accepted.{IsFirstWrite, IsWrite}
use Rattle.hc_events.specs.Calls.{room_faults, write_all_into_faults, write_into_faults, write_size}
use Rattle.hc_events.specs.Entries.{History, Wrote}
use Rattle.hc_events.specs.Owed.{owed_blocks}
use Rattle.hc_events.specs.Points.{next_serial}
use Rattle.hc_events.specs.Sendings.{has_room}
use Rattle.hc_events.specs.Steps.{SendsWrite, SendsWrites, answer_to, entries_after, has_serials, unless_fault, sent_write_answer, writes_answer, unless, with_write, with_writes, write_faults}
use Rattle.hc_events.specs.WriteFrames.{block_bytes, blocks_beside, frame_blocks, writes_size, writes_text}
use Rattle.hc_events.proofs.lemmas.Accepted.{passed}
use Rattle.hc_events.proofs.lemmas.BlockSizes.{Sized, frame-holds, owed-sized, write-few}
use Rattle.hc_core.specs.declared.writing.SentWrites.{SentWrites}
use Rattle.hc_core.specs.State.{CoreState}
use Rattle.hc_core.specs.Written.{HoldsBlocks, HoldsWrites, IsMost, first_blocks, first_into_faults, sent_answer}
use Rattle.hc_core.proofs.Lowest.{lowest-none}

-- the first owed blocks of one frame: one of them, or as many as it holds

one_size : (history : History) (block : LineBlock) (rest : List LineBlock) → owed_blocks history ≡ block ∷ rest → length block.block.bytes ≤ 16
one_size history block rest first = (All-head Sized block rest (subst (All Sized) first (owed-sized history))).most

small_room : (size : ℕ) → size ≤ 16 → has_room 0 size ≡ true
small_room size small = grind (arith, nat_tests)

one_front : (blocks : List LineBlock) → ((block : LineBlock) (rest : List LineBlock) → blocks ≡ block ∷ rest → has_room 0 (length block.block.bytes) ≡ true) → take 1 (frame_blocks blocks) ≡ take 1 blocks
one_front [] rooms = refl
one_front (block ∷ rest) rooms = ap (λ b. take 1 (cond b (block ∷ blocks_beside (0 + block_bytes block) rest) [])) (rooms block rest refl)

pub first-one : (history : History) → first_blocks 1 history ≡ take 1 (owed_blocks history)
first-one history = one_front (owed_blocks history) (λ block rest first. small_room (length block.block.bytes) (one_size history block rest first))

frame_few : (history : History) (blocks : List LineBlock) → frame_blocks (owed_blocks history) ≡ blocks → length blocks ≤ FRAME_BLOCKS
frame_few history [] same = omega arith
frame_few history (block ∷ blocks) same = write-few history (block ∷ blocks) (record { some = some_more block blocks; first = inl (inr (sym same)) })
  where
    some_more : (block : LineBlock) (blocks : List LineBlock) → 0 < length (block ∷ blocks)
    some_more block blocks = omega arith

pub first-all : (history : History) → first_blocks FRAME_BLOCKS history ≡ frame_blocks (owed_blocks history)
first-all history = take_all FRAME_BLOCKS (frame_blocks (owed_blocks history)) (frame_few history (frame_blocks (owed_blocks history)) refl)

-- the first owed blocks can be sent if the event is not refused

pub some-owed : (history : History) → lowest (write_faults history (owed_blocks history)) ≡ None → 0 < length (owed_blocks history)
some-owed history none = owes (owed_blocks history) none
  where
    owes : (blocks : List LineBlock) → lowest (write_faults history blocks) ≡ None → 0 < length blocks
    owes [] none = cc
    owes (block ∷ blocks) none = omega arith

take_some : (blocks : List LineBlock) → 0 < length blocks → 0 < length (take 1 blocks)
take_some [] some = some
take_some (block ∷ blocks) some = omega arith

pub first-kind : (history : History) (most : ℕ) → IsMost most → IsFirstWrite (owed_blocks history) (first_blocks most history)
first-kind history most (inl one) = inl (ap (λ n. first_blocks n history) one ∙ first-one history)
first-kind history most (inr all) = inr (ap (λ n. first_blocks n history) all ∙ first-all history)

pub first-write : (history : History) (most : ℕ) → IsMost most → lowest (write_faults history (owed_blocks history)) ≡ None → IsWrite history (first_blocks most history)
first-write history most (inl one) none =
    subst (λ n. IsWrite history (first_blocks n history)) (sym one)
    (subst (IsWrite history) (sym (first-one history)) (record { some = take_some (owed_blocks history) (some-owed history none); first = inl (inl refl) }))
first-write history most (inr all) none =
    subst (λ n. IsWrite history (first_blocks n history)) (sym all)
    (subst (IsWrite history) (sym (first-all history)) (record { some = frame-holds history (some-owed history none); first = inl (inr refl) }))

pub serial-left : (history : History) → lowest (write_faults history (owed_blocks history)) ≡ None → next_serial history < SETUP_SERIAL
serial-left history none =
    let first = passed (length (owed_blocks history) == 0) NothingOwed ((not (has_serials history 1), SerialsSpent) ∷ []) none in
    let second = passed (not (has_serials history 1)) SerialsSpent [] first.1 in
    below (next_serial history) second.0
  where
    below : (serial : ℕ) → not (not (nat_lt SETUP_SERIAL (serial + 1))) ≡ false → serial < SETUP_SERIAL
    below serial e = grind (arith, nat_tests)

-- the answer to a frame of the first owed blocks, and its entry in the record

unchanged_next : (history next : History) (refused : Option CoreFault) → refused ≡ None → unless_fault refused history next ≡ next
unchanged_next history next None none = refl
unchanged_next history next (Some fault) none = cc

answered_next : (refused : Option CoreFault) (answer_given : Answer) → refused ≡ None → unless refused answer_given ≡ answer_given
answered_next None answer_given none = refl
answered_next (Some fault) answer_given none = cc

one_written : (history : History) (blocks : List LineBlock) → 0 < length blocks → with_write history blocks ≡ Wrote (take 1 blocks) ∷ history
one_written history [] some = absurd (omega arith)
one_written history (block ∷ blocks) some = refl

all_written : (history : History) (blocks : List LineBlock) → 0 < length blocks → with_writes history blocks ≡ Wrote blocks ∷ history
all_written history [] some = absurd (omega arith)
all_written history (block ∷ blocks) some = refl

one_answered : (serial : ℕ) (blocks : List LineBlock) → 0 < length blocks → sent_write_answer serial blocks ≡ answer.WriteSent (writes_text serial (take 1 blocks))
one_answered serial [] some = absurd (omega arith)
one_answered serial (block ∷ blocks) some = refl

pub write-entries : (history : History) → lowest (write_faults history (owed_blocks history)) ≡ None → entries_after history SendsWrite ≡ Wrote (first_blocks 1 history) ∷ history
write-entries history none =
    unchanged_next history (with_write history (owed_blocks history)) (lowest (write_faults history (owed_blocks history))) none ∙ one_written history (owed_blocks history) (some-owed history none)
    ∙ ap (λ blocks. Wrote blocks ∷ history) (sym (first-one history))

pub write-answer_given : (history : History) → lowest (write_faults history (owed_blocks history)) ≡ None → answer_to history SendsWrite ≡ answer.WriteSent (writes_text (next_serial history) (first_blocks 1 history))
write-answer_given history none =
    answered_next (lowest (write_faults history (owed_blocks history))) (sent_write_answer (next_serial history) (owed_blocks history)) none ∙ one_answered (next_serial history) (owed_blocks history) (some-owed history none)
    ∙ ap (λ blocks. answer.WriteSent (writes_text (next_serial history) blocks)) (sym (first-one history))

pub writes-entries : (history : History) → lowest (write_faults history (owed_blocks history)) ≡ None → entries_after history SendsWrites ≡ Wrote (first_blocks FRAME_BLOCKS history) ∷ history
writes-entries history none =
    unchanged_next history (with_writes history (frame_blocks (owed_blocks history))) (lowest (write_faults history (owed_blocks history))) none
    ∙ all_written history (frame_blocks (owed_blocks history)) (frame-holds history (some-owed history none))
    ∙ ap (λ blocks. Wrote blocks ∷ history) (sym (first-all history))

pub writes-answer_given : (history : History) → lowest (write_faults history (owed_blocks history)) ≡ None → answer_to history SendsWrites ≡ writes_answer (next_serial history) (frame_blocks (owed_blocks history))
writes-answer_given history none = answered_next (lowest (write_faults history (owed_blocks history))) (writes_answer (next_serial history) (frame_blocks (owed_blocks history))) none

pub sent-answered : (serial : ℕ) (blocks : List LineBlock) → 0 < length blocks → sent_answer (writes_text serial blocks) (length blocks) ≡ writes_answer serial blocks
sent-answered serial [] some = absurd (omega arith)
sent-answered serial (block ∷ []) some = refl
sent-answered serial (block ∷ next ∷ blocks) some = ap (λ b. cond b (answer.WriteSent (writes_text serial (block ∷ next ∷ blocks))) (answer.WritesSent (writes_text serial (block ∷ next ∷ blocks)))) (not_one (length blocks))
  where
    not_one : (n : ℕ) → (suc (suc n) == 1) ≡ false
    not_one n = grind (arith, nat_tests)

pub sent-answer_given : (history : History) → lowest (write_faults history (owed_blocks history)) ≡ None
    → sent_answer (writes_text (next_serial history) (first_blocks FRAME_BLOCKS history)) (length (first_blocks FRAME_BLOCKS history)) ≡ answer_to history SendsWrites
sent-answer_given history none =
    ap (λ blocks. sent_answer (writes_text (next_serial history) blocks) (length blocks)) (first-all history)
    ∙ sent-answered (next_serial history) (frame_blocks (owed_blocks history)) (frame-holds history (some-owed history none)) ∙ sym (writes-answer_given history none)

-- the faults of a slice

one_bytes : (blocks : List LineBlock) → 0 < length blocks → writes_size (take 1 blocks) ≡ write_size blocks
one_bytes [] some = absurd (omega arith)
one_bytes (block ∷ blocks) some = let sum = sum_by-cons block_bytes block [] in ap frame_bytes (omega (arith, sum))

pub one-sized : (history : History) → 0 < length (owed_blocks history) → writes_size (first_blocks 1 history) ≡ write_size (owed_blocks history)
one-sized history some = ap writes_size (first-one history) ∙ one_bytes (owed_blocks history) some

pub one-faults : (history : History) (bytes : ℕ) → lowest (first_into_faults 1 history bytes) ≡ lowest (write_into_faults history bytes)
one-faults history bytes = by_owed (owed_blocks history) refl
  where
    by_owed : (blocks : List LineBlock) → owed_blocks history ≡ blocks → lowest (first_into_faults 1 history bytes) ≡ lowest (write_into_faults history bytes)
    by_owed [] none =
        ap (λ blocks. lowest (write_faults history blocks ++ room_faults (writes_size (first_blocks 1 history)) bytes)) none
        ∙ sym (ap (λ blocks. lowest (write_faults history blocks ++ room_faults (write_size (owed_blocks history)) bytes)) none)
    by_owed (block ∷ rest) first =
        ap (λ size. lowest (write_faults history (owed_blocks history) ++ room_faults size bytes)) (one-sized history (subst (λ blocks. 0 < length blocks) (sym first) (owes block rest)))
      where
        owes : (block : LineBlock) (rest : List LineBlock) → 0 < length (block ∷ rest)
        owes block rest = omega arith

pub all-faults : (history : History) (bytes : ℕ) → first_into_faults FRAME_BLOCKS history bytes ≡ write_all_into_faults history bytes
all-faults history bytes = ap (λ blocks. write_faults history (owed_blocks history) ++ room_faults (writes_size blocks) bytes) (first-all history)

-- the slice and the core after a frame of as many blocks as it holds

pub all-written : (history : History) (old new : List ℕ) (result : Result SentWrites CoreFault) → IfOk result (HoldsBlocks history (first_blocks FRAME_BLOCKS history) old new)
    → OnOk result (lowest (first_into_faults FRAME_BLOCKS history (length old)) ≡ None) → IfOk result (HoldsWrites history old new)
all-written history old new (Ok sent) holds none =
    let event = lowest-none (write_faults history (owed_blocks history)) (room_faults (writes_size (first_blocks FRAME_BLOCKS history)) (length old)) none in
    record { answer = writes-answer_given history event; blocks = subst (λ blocks. HoldsBlocks history blocks old new sent) (first-all history) holds }
all-written history old new (Err fault) holds none = holds

pub all-entries : (old new : CoreState) (bytes : ℕ) (result : Result SentWrites CoreFault) → OnOk result (new ≡ record old { history = Wrote (first_blocks FRAME_BLOCKS old.history) ∷ old.history })
    → OnOk result (lowest (first_into_faults FRAME_BLOCKS old.history bytes) ≡ None) → OnOk result (new ≡ record old { history = entries_after old.history SendsWrites })
all-entries old new bytes (Ok sent) same none =
    let event = lowest-none (write_faults old.history (owed_blocks old.history)) (room_faults (writes_size (first_blocks FRAME_BLOCKS old.history)) bytes) none in
    same ∙ ap (λ (entries : History). let next : CoreState = record old { history = entries } in next) (sym (writes-entries old.history event))
all-entries old new bytes (Err fault) same none = same

-- a slice of just the frame's bytes

pub whole : {X : Type 0} (n : ℕ) (new old : List X) → length new ≡ n → take n (new ++ drop (length new) old) ≡ new
whole n new old long = take-append-le n new (drop (length new) old) (omega (arith, long)) ∙ ap (λ (k : ℕ). take k new) (sym long) ∙ take-length new

pub built : (old new text : List ℕ) (size : ℕ) (result : Result ℕ NeededRoom) → Builds old new result text size → length old ≡ size → new ≡ text
built old new text size result builds long = search (rules, drop_all, append-nil)

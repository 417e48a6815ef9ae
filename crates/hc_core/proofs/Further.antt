-- The sending of further owed blocks: its faults, its answer, and its entry in the record.
use Rattle.std.proofs.Common.{◌≡◌, ℕ, ◌+◌, ◌<◌, ◌≤◌, ◌==◌, nat_lt, Bool, true, false, not, List, [], ◌∷◌, ◌++◌, drop, length, length-append, map, take, refl, sym, ap, ◌∙◌, subst, arith, suc, inr, Option, Some, None}
use Rattle.std.specs.Prelude.{is_some}
use Rattle.std.proofs.lemmas.List.{length-drop, take-append-le}
use Rattle.std.proofs.Math.Seq.{take-length}
use Rattle.std.proofs.lemmas.Bool.Decides.{nat_tests}
use Rattle.hc_records.specs.Lists.{lowest}
use Rattle.hc_registers.specs.Blocks.{LineBlock}
use Rattle.hc_frames.specs.declared.limits.TheConstants.{MAX_ETHERCAT, SETUP_SERIAL}
use Rattle.hc_frames.specs.Sizes.{frame_bytes}
use Rattle.hc_events.specs.declared.answer.Answer.{Answer}
use Rattle.hc_events.specs.declared.faults.CoreFault.{CoreFault}
use Rattle.hc_events.specs.declared.faults.CoreFault.TheVariants.{NothingOwed, Room, SerialsSpent, UnderWay}
use Rattle.hc_events.specs.declared.sending.TheConstants.{FRAME_BLOCKS}
use Rattle.hc_events.specs.Accepted.{IsWrite}
use Rattle.hc_events.specs.Calls.{further_into_faults, room_faults}
use Rattle.hc_events.specs.Entries.{History, Wrote}
use Rattle.hc_events.specs.Owed.{known_bytes, owed_blocks}
use Rattle.hc_events.specs.Points.{next_serial, state_of}
use Rattle.hc_events.specs.Steps.{SendsFurther, answer_to, entries_after, further_faults, has_serials, unless, unless_fault, with_writes, writes_answer}
use Rattle.hc_events.specs.UnderWay.{further_blocks}
use Rattle.hc_events.specs.WriteFrames.{blocks_bytes, frame_blocks, writes_size}
use Rattle.hc_events.proofs.lemmas.Accepted.{passed}
use Rattle.hc_events.proofs.lemmas.BlockSizes.{further-holds}
use Rattle.hc_events.proofs.lemmas.Fronts.{beside-fits}
use Rattle.hc_sendings.specs.declared.write_frames.PlacedBlock.{PlacedBlock}
use Rattle.hc_sendings.specs.WriteFrames.{WriteFrame, block_of, no_blocks}
use Rattle.hc_core.proofs.FirstBlocks.{AreChosen, are-further, further-first, room-enough, room-short}
use Rattle.hc_core.proofs.Lowest.{lowest-after_it}
use Rattle.hc_core.proofs.Writes.{whole}
use Rattle.hc_core.specs.Agreement.{Agree, CoreParts}
use Rattle.hc_core.specs.Chosen.{GivesNext, IsChosenFrom, further_from}

-- an owed block isn't under way

not_none : (n : ℕ) → true ≡ not (suc n == 0)
not_none n = grind (arith, nat_tests)

pub some-further : (unchanged : CoreParts) (history taken : History) (found : Option PlacedBlock) → Agree unchanged history taken
    → GivesNext (further_from (known_bytes history) (state_of history) unchanged.awaited) (state_of history) 0 found
    → is_some found ≡ not (length (further_blocks history) == 0)
some-further unchanged history taken None agree none =
    ap (λ (blocks : List LineBlock). not (length blocks == 0)) (sym none ∙ further-first unchanged history taken agree)
some-further unchanged history taken (Some next) agree is =
    not_none (length (further_from (known_bytes history) (state_of history) unchanged.awaited (next.place + 1)))
    ∙ ap (λ (blocks : List LineBlock). not (length blocks == 0)) (sym is.next ∙ further-first unchanged history taken agree)

-- nothing refuses them

record Passes (history : History) : Type 0 where
  some : 0 < length (further_blocks history)
  left : next_serial history < SETUP_SERIAL

some_of : (n : ℕ) → (n == 0) ≡ false → 0 < n
some_of n e = grind (arith, nat_tests)

below : (serial : ℕ) → not (not (nat_lt SETUP_SERIAL (serial + 1))) ≡ false → serial < SETUP_SERIAL
below serial e = grind (arith, nat_tests)

passes : (history : History) → lowest (further_faults history) ≡ None → Passes history
passes history none =
    let serials : List (Bool × CoreFault) = (not (has_serials history 1), SerialsSpent) ∷ [] in
    let first = passed (length (owed_blocks history) == 0) NothingOwed ((length (further_blocks history) == 0, UnderWay) ∷ serials) none in
    let second = passed (length (further_blocks history) == 0) UnderWay serials first.1 in
    let third = passed (not (has_serials history 1)) SerialsSpent [] second.1 in
    record { some = some_of (length (further_blocks history)) second.0; left = below (next_serial history) third.0 }

-- the frame that is chosen for them

pub record IsFurther (history : History) (frame : WriteFrame) : Type 0 where
  pub chosen : AreChosen history (frame_blocks (further_blocks history)) frame
  pub write : IsWrite history (map block_of frame.blocks)
  pub left : next_serial history < SETUP_SERIAL

pub is-further : (unchanged : CoreParts) (history taken : History) (old new : WriteFrame) → Agree unchanged history taken → lowest (further_faults history) ≡ None → old ≡ no_blocks
    → IsChosenFrom (further_from (known_bytes history) (state_of history) unchanged.awaited) (state_of history) 0 FRAME_BLOCKS old new → IsFurther history new
is-further unchanged history taken old new agree none empty chosen =
    let are = are-further unchanged history taken old new agree empty chosen in
    let one = passes history none in
    record {
      chosen = are;
      write = subst (IsWrite history) (sym are.blocks) (record { some = further-holds history one.some; first = inr refl });
      left = one.left;
    }

-- its slice

pub further-short : (history : History) (frame : WriteFrame) (size bytes : ℕ) → lowest (further_faults history) ≡ None → AreChosen history (frame_blocks (further_blocks history)) frame → size ≡ frame_bytes frame.bytes → bytes < size
    → lowest (further_into_faults history bytes) ≡ Some (Room size)
further-short history frame size bytes none chosen sized less =
    lowest-after_it (further_faults history) (room_faults (writes_size (frame_blocks (further_blocks history))) bytes) none
    ∙ ap (λ n. lowest (room_faults n bytes)) (sym (sized ∙ ap frame_bytes chosen.bytes)) ∙ room-short size bytes less

pub further-enough : (history : History) (frame : WriteFrame) (size bytes : ℕ) → lowest (further_faults history) ≡ None → AreChosen history (frame_blocks (further_blocks history)) frame → size ≡ frame_bytes frame.bytes → size ≤ bytes
    → lowest (further_into_faults history bytes) ≡ None
further-enough history frame size bytes none chosen sized enough =
    lowest-after_it (further_faults history) (room_faults (writes_size (frame_blocks (further_blocks history))) bytes) none
    ∙ ap (λ n. lowest (room_faults n bytes)) (sym (sized ∙ ap frame_bytes chosen.bytes)) ∙ room-enough size bytes (λ less. absurd (omega (arith, less, enough)))

frame_small : (bytes : ℕ) → 2 + (0 + bytes) ≤ MAX_ETHERCAT → frame_bytes bytes ≤ 1514
frame_small bytes fits = grind (arith, nat_tests)

pub further-most : (history : History) → writes_size (frame_blocks (further_blocks history)) ≤ 1514
further-most history = frame_small (blocks_bytes (frame_blocks (further_blocks history))) (beside-fits 0 (further_blocks history) (omega arith))

pub further-has-room : (history : History) (bytes : ℕ) → 1514 ≤ bytes → lowest (further_faults history) ≡ None → lowest (further_into_faults history bytes) ≡ None
further-has-room history bytes long none =
    let most = further-most history in
    lowest-after_it (further_faults history) (room_faults (writes_size (frame_blocks (further_blocks history))) bytes) none
    ∙ room-enough (writes_size (frame_blocks (further_blocks history))) bytes (λ less. absurd (omega (arith, less, long, most)))

-- the answer to a further frame, and its entry in the record

unchanged_next : (history next : History) (refused : Option CoreFault) → refused ≡ None → unless_fault refused history next ≡ next
unchanged_next history next None none = refl
unchanged_next history next (Some fault) none = cc

answered_next : (refused : Option CoreFault) (answer_given : Answer) → refused ≡ None → unless refused answer_given ≡ answer_given
answered_next None answer_given none = refl
answered_next (Some fault) answer_given none = cc

all_written : (history : History) (blocks : List LineBlock) → 0 < length blocks → with_writes history blocks ≡ Wrote blocks ∷ history
all_written history [] some = absurd (omega arith)
all_written history (block ∷ blocks) some = refl

pub further-entries : (history : History) → lowest (further_faults history) ≡ None → entries_after history SendsFurther ≡ Wrote (frame_blocks (further_blocks history)) ∷ history
further-entries history none =
    unchanged_next history (with_writes history (frame_blocks (further_blocks history))) (lowest (further_faults history)) none
    ∙ all_written history (frame_blocks (further_blocks history)) (further-holds history (passes history none).some)

pub further-answer_given : (history : History) → lowest (further_faults history) ≡ None → answer_to history SendsFurther ≡ writes_answer (next_serial history) (frame_blocks (further_blocks history))
further-answer_given history none = answered_next (lowest (further_faults history)) (writes_answer (next_serial history) (frame_blocks (further_blocks history))) none

pub further-some : (history : History) → lowest (further_faults history) ≡ None → 0 < length (frame_blocks (further_blocks history))
further-some history none = further-holds history (passes history none).some

-- a frame at the front of a longer slice

pub cut-text : (text old new items : List ℕ) (size long : ℕ) → new ≡ text ++ drop size old → length new ≡ long → length old ≡ long → size ≤ long → take size (take long (new ++ drop (length new) items)) ≡ text
cut-text text old new items size long holds now before fits =
    let sum = ap length holds ∙ length-append text (drop size old) in
    let left = length-drop size old in
    let same : length text ≡ size = omega (arith, sum, left, now, before, fits) in
    ap (take size) (whole long new items now)
    ∙ ap (take size) holds
    ∙ take-append-le size text (drop size old) (omega (arith, same))
    ∙ ap (λ n. take n text) (sym same)
    ∙ take-length text

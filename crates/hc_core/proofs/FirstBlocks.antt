-- The first owed blocks are those that are chosen by the register state, and they can be marked as sent.
use Rattle.std.proofs.Common.{◌≡◌, ℕ, ◌+◌, ◌<◌, ◌≤◌, nat_lt, Bool, true, false, cond, not, List, [], ◌∷◌, filter, length, map, take, refl, sym, ap, ◌∙◌, subst, arith, inr, Some, None}
use Rattle.std.specs.Prelude.{All}
use Rattle.std.proofs.lemmas.List.{take_all}
use Rattle.std.proofs.lemmas.List.Elements.{All-cons, All-head, All-nil, All-tail, filter_passes}
use Rattle.hc_records.specs.Line.{groups_of}
use Rattle.hc_records.specs.Lists.{lowest}
use Rattle.hc_records.specs.Project.{lowest_fault}
use Rattle.hc_registers.specs.Blocks.{LineBlock, line_blocks}
use Rattle.hc_registers.proofs.lemmas.RanksGapless.{places-hold}
use Rattle.hc_frames.specs.FrameText.{Datagram, frame_text}
use Rattle.std.proofs.lemmas.Bool.Decides.{nat_tests}
use Rattle.hc_events.specs.declared.faults.CoreFault.TheVariants.{Room}
use Rattle.hc_events.specs.Accepted.{IsWrite}
use Rattle.hc_events.specs.Calls.{room_faults}
use Rattle.hc_events.specs.Entries.{History}
use Rattle.hc_events.specs.Holding.{is_unplugged, may_hold}
use Rattle.hc_events.specs.Owed.{is_owed, known_bytes, owed_blocks}
use Rattle.hc_events.specs.Points.{line_of, state_of}
use Rattle.hc_events.specs.WriteFrames.{block_datagram, blocks_beside, blocks_bytes, frame_blocks, writes_text}
use Rattle.hc_events.specs.UnderWay.{further_blocks, is_under_way}
use Rattle.hc_events.specs.declared.sending.TheConstants.{FRAME_BLOCKS}
use Rattle.hc_events.proofs.lemmas.BlockSizes.{write-few}
use Rattle.hc_events.proofs.lemmas.Fronts.{written-all}
use Rattle.hc_owed.specs.RegisterState.{lacks}
use Rattle.hc_owed.specs.Laws.{owed_from}
use Rattle.hc_sendings.specs.declared.write_frames.PlacedBlock.{PlacedBlock}
use Rattle.hc_sendings.specs.Waiting.{is_newest_awaited}
use Rattle.hc_sendings.proofs.lemmas.UnderWay.{newest-under_way}
use Rattle.hc_sendings.specs.WriteFrames.{WriteFrame, block_of, no_blocks, placed_datagram, placed_text}
use Rattle.hc_core.specs.Agreement.{Agree, CoreParts}
use Rattle.hc_core.specs.Chosen.{CanMark, IsChosenFrom, IsLineBlock, KeepsBlocks, Source, further_from}
use Rattle.hc_core.specs.Held.{CanMarkAreas}
use Rattle.hc_core.specs.Written.{first_blocks}

-- the register state is right for the line
abbrev pub stays-blocks : (unchanged : CoreParts) (history taken : History) → Agree unchanged history taken → KeepsBlocks unchanged.owed unchanged.plan
stays-blocks unchanged history taken agree = record { known = known_bytes history; state = state_of history; planned = agree.state; project = agree.project; right = agree.known }

-- the blocks that are chosen for a frame
pub record AreChosen (history : History) (chosen : List LineBlock) (frame : WriteFrame) : Type 0 where
  pub blocks : map block_of frame.blocks ≡ chosen
  pub bytes : frame.bytes ≡ blocks_bytes chosen
  pub placed : All (IsLineBlock (state_of history)) frame.blocks

from_first : (history : History) → lowest_fault (groups_of (state_of history).groups) ≡ None → owed_from (known_bytes history) (state_of history) 0 ≡ owed_blocks history
from_first history project = ap (filter (lacks (known_bytes history))) (places-hold (state_of history) project)

chosen_from : (history : History) (source : Source) (most : ℕ) (all : List LineBlock) (old new : WriteFrame) → source 0 ≡ all → old ≡ no_blocks → IsChosenFrom source (state_of history) 0 most old new
    → AreChosen history (take most (frame_blocks all)) new
chosen_from history source most all old new same none chosen =
    let own = subst (λ frame. IsChosenFrom source (state_of history) 0 most frame new) none chosen in
    let first : take most (blocks_beside 0 (source 0)) ≡ take most (frame_blocks all) = ap (λ blocks. take most (blocks_beside 0 blocks)) same in
    let sum = own.bytes in
    record {
      blocks = own.blocks ∙ first;
      bytes = none_before new.bytes (blocks_bytes (take most (blocks_beside 0 (source 0)))) sum ∙ ap blocks_bytes first;
      placed = own.placed (All-nil (IsLineBlock (state_of history)));
    }
  where
    none_before : (n m : ℕ) → n ≡ 0 + m → n ≡ m
    none_before n m same = omega (arith, same)

-- the first ones from the first place on
pub are-first : (unchanged : CoreParts) (history taken : History) (most : ℕ) (old new : WriteFrame) → Agree unchanged history taken → old ≡ no_blocks
    → IsChosenFrom (owed_from (known_bytes history) (state_of history)) (state_of history) 0 most old new → AreChosen history (first_blocks most history) new
are-first unchanged history taken most old new agree none chosen =
    chosen_from history (owed_from (known_bytes history) (state_of history)) most (owed_blocks history) old new (from_first history agree.project) none chosen

-- those of them that aren't under way

filter_alike : (p q : LineBlock → Bool) → ((block : LineBlock) → p block ≡ q block) → (blocks : List LineBlock) → filter p blocks ≡ filter q blocks
filter_alike p q same [] = refl
filter_alike p q same (block ∷ blocks) =
    ap (λ b. cond b (block ∷ filter p blocks) (filter p blocks)) (same block) ∙ ap (λ (rest : List LineBlock). cond (q block) (block ∷ rest) rest) (filter_alike p q same blocks)

pub further-first : (unchanged : CoreParts) (history taken : History) → Agree unchanged history taken → further_from (known_bytes history) (state_of history) unchanged.awaited 0 ≡ further_blocks history
further-first unchanged history taken agree =
    filter_alike (λ (block : LineBlock). not (is_newest_awaited block.station block.number unchanged.awaited)) (λ (block : LineBlock). not (is_under_way history block.station block.number))
    (λ block. ap not (newest-under_way history unchanged.awaited block.station block.number agree.waits.awaits)) (owed_from (known_bytes history) (state_of history) 0)
    ∙ ap (filter (λ (block : LineBlock). not (is_under_way history block.station block.number))) (from_first history agree.project)

further_few : (history : History) (blocks : List LineBlock) → frame_blocks (further_blocks history) ≡ blocks → length blocks ≤ FRAME_BLOCKS
further_few history [] same = omega arith
further_few history (block ∷ blocks) same = write-few history (block ∷ blocks) (record { some = some_more block blocks; first = inr (sym same) })
  where
    some_more : (block : LineBlock) (blocks : List LineBlock) → 0 < length (block ∷ blocks)
    some_more block blocks = omega arith

pub are-further : (unchanged : CoreParts) (history taken : History) (old new : WriteFrame) → Agree unchanged history taken → old ≡ no_blocks
    → IsChosenFrom (further_from (known_bytes history) (state_of history) unchanged.awaited) (state_of history) 0 FRAME_BLOCKS old new → AreChosen history (frame_blocks (further_blocks history)) new
are-further unchanged history taken old new agree none chosen =
    subst (λ (blocks : List LineBlock). AreChosen history blocks new) (take_all FRAME_BLOCKS (frame_blocks (further_blocks history)) (further_few history (frame_blocks (further_blocks history)) refl))
    (chosen_from history (further_from (known_bytes history) (state_of history) unchanged.awaited) FRAME_BLOCKS (further_blocks history) old new (further-first unchanged history taken agree) none chosen)

-- they are owed

placed_owed : (history : History) (placed : List PlacedBlock) → All (λ block. is_owed history block ≡ true) (map block_of placed) → All (λ (one : PlacedBlock). lacks (known_bytes history) one.block ≡ true) placed
placed_owed history [] all = All-nil (λ (one : PlacedBlock). lacks (known_bytes history) one.block ≡ true)
placed_owed history (one ∷ placed) all =
    All-cons (λ (other : PlacedBlock). lacks (known_bytes history) other.block ≡ true) one placed (All-head (λ (block : LineBlock). is_owed history block ≡ true) one.block (map block_of placed) all)
    (placed_owed history placed (All-tail (λ (block : LineBlock). is_owed history block ≡ true) one.block (map block_of placed) all))

pub all-lacking : (history : History) (placed : List PlacedBlock) → IsWrite history (map block_of placed) → All (λ (one : PlacedBlock). lacks (known_bytes history) one.block ≡ true) placed
all-lacking history placed write =
    placed_owed history placed
    (written-all (λ block. is_owed history block ≡ true) history (map block_of placed) write (filter_passes (is_owed history) (line_blocks (line_of history))))

abbrev pub can-mark : (unchanged : CoreParts) (history taken : History) (placed shown : List PlacedBlock) → shown ≡ placed → Agree unchanged history taken → IsWrite history (map block_of placed) → All (IsLineBlock (state_of history)) placed
    → CanMark unchanged.owed shown
can-mark unchanged history taken placed shown same agree write at = record {
  known = known_bytes history;
  state = state_of history;
  project = agree.project;
  right = agree.known;
  placed = subst (All (IsLineBlock (state_of history))) (sym same) at;
  lacking = subst (All (λ (one : PlacedBlock). lacks (known_bytes history) one.block ≡ true)) (sym same) (all-lacking history placed write);
}

-- the areas of the first owed blocks can be marked
abbrev pub can-mark_areas : (unchanged : CoreParts) (history taken : History) (placed shown : List PlacedBlock) → shown ≡ placed → Agree unchanged history taken → IsWrite history (map block_of placed) → All (IsLineBlock (state_of history)) placed
    → CanMarkAreas unchanged.readiness shown
can-mark_areas unchanged history taken placed shown same agree write at = record {
  known = known_bytes history;
  held = may_hold history;
  unplugged = is_unplugged history;
  state = state_of history;
  project = agree.project;
  right = agree.ready;
  placed = subst (All (IsLineBlock (state_of history))) (sym same) at;
  lacking = subst (All (λ (one : PlacedBlock). lacks (known_bytes history) one.block ≡ true)) (sym same) (all-lacking history placed write);
}

-- the frame that writes them

datagrams_of : (placed : List PlacedBlock) → map placed_datagram placed ≡ map block_datagram (map block_of placed)
datagrams_of [] = refl
datagrams_of (one ∷ placed) = ap (λ (datagrams : List Datagram). placed_datagram one ∷ datagrams) (datagrams_of placed)

pub placed-text : (serial : ℕ) (placed : List PlacedBlock) → placed_text serial placed ≡ writes_text serial (map block_of placed)
placed-text serial placed = ap (frame_text serial) (datagrams_of placed)

-- a slice that is too short is refused

is_short : (bytes needed : ℕ) → bytes < needed → nat_lt bytes needed ≡ true
is_short bytes needed less = grind (arith, nat_tests)

has_all : (bytes needed : ℕ) → (bytes < needed → ⊥) → nat_lt bytes needed ≡ false
has_all bytes needed enough = grind (arith, nat_tests)

pub room-short : (needed bytes : ℕ) → bytes < needed → lowest (room_faults needed bytes) ≡ Some (Room needed)
room-short needed bytes less = ap (λ b. cond b (Some (Room needed)) None) (is_short bytes needed less)

never : false ≡ true → ⊥
never e = cc

pub room-enough : (needed bytes : ℕ) → (bytes < needed → false ≡ true) → lowest (room_faults needed bytes) ≡ None
room-enough needed bytes enough = ap (λ b. cond b (Some (Room needed)) None) (has_all bytes needed (λ less. never (enough less)))

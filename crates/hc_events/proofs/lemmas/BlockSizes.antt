-- A register block has 8 or 16 bytes: so a frame holds the first owed one always, and 74 at most.
use Rattle.std.proofs.Common.{◌≡◌, ℕ, suc, ◌+◌, ◌*◌, ◌≤◌, ◌<◌, true, cond, List, [], ◌∷◌, get_or, length, take, sym, subst, arith, rules, ⊎_elim}
use Rattle.std.specs.Prelude.{All}
use Rattle.std.specs.List.{enumerate_from}
use Rattle.std.proofs.lemmas.List.Elements.{All-filter, All-head, All-map, All-tail}
use Rattle.std.proofs.lemmas.List.Sums.{sum_by-cons}
use Rattle.std.proofs.lemmas.Bool.Decides.{nat_tests}
use Rattle.hc_records.specs.declared.records.Area.{Area}
use Rattle.hc_records.specs.Line.{Member}
use Rattle.hc_records.proofs.lemmas.Lists.{All-enumerate_from, All-flat_map}
use Rattle.hc_registers.specs.Blocks.{LineBlock, RegisterBlock, area_blocks, line_blocks, member_blocks, slave_blocks}
use Rattle.hc_frames.specs.declared.limits.TheConstants.{MAX_ETHERCAT}
use Rattle.hc_events.specs.declared.sending.TheConstants.{FRAME_BLOCKS}
use Rattle.hc_events.specs.Entries.{History}
use Rattle.hc_events.specs.Owed.{is_owed, owed_blocks}
use Rattle.hc_events.specs.Points.{line_of}
use Rattle.hc_events.specs.Sendings.{has_room}
use Rattle.hc_events.specs.WriteFrames.{block_bytes, blocks_beside, blocks_bytes, frame_blocks}
use Rattle.hc_events.specs.Accepted.{IsFirstWrite, IsWrite}
use Rattle.hc_events.specs.UnderWay.{further_blocks}
use Rattle.hc_events.proofs.lemmas.Fronts.{beside-fits, further-all, written-all}

pub record HasSize (block : RegisterBlock) : Type 0 where
  pub least : 8 ≤ length block.bytes
  pub most : length block.bytes ≤ 16

area_has : (line : List Member) (rank : ℕ) (e : ℕ × Area) → All HasSize (area_blocks line rank e)
area_has line rank e = search rules

slave_has : (line : List Member) (member : Member) → All HasSize (slave_blocks line member)
slave_has line member = search (rules, All-flat_map, area_has)

abbrev pub Sized : LineBlock → Type 0
Sized found = HasSize found.block

member_has : (line : List Member) (member : Member) → All Sized (member_blocks line member)
member_has line member =
    let made : ℕ × RegisterBlock → LineBlock = λ e. record { station = member.slave.station; number = e.0; block = e.1 } in
    All-map Sized made (enumerate_from 0 (slave_blocks line member)) (All-enumerate_from HasSize 0 (slave_blocks line member) (slave_has line member))

pub line-sized : (line : List Member) → All Sized (line_blocks line)
line-sized line = All-flat_map Sized (member_blocks line) line (λ i d within. member_has line (get_or line i d))

pub owed-sized : (history : History) → All Sized (owed_blocks history)
owed-sized history = All-filter (is_owed history) Sized (line_blocks (line_of history)) (line-sized (line_of history))

-- what one frame writes fits

one_fits : (blocks : List LineBlock) → All Sized blocks → length blocks ≤ 1 → 2 + (0 + blocks_bytes blocks) ≤ MAX_ETHERCAT
one_fits [] all few = omega arith
one_fits (block ∷ []) all few =
    let most = (All-head Sized block [] all).most in
    let sum = sum_by-cons block_bytes block [] in
    omega arith
one_fits (block ∷ next ∷ blocks) all few = absurd (omega arith)

few_alone : (blocks : List LineBlock) → length (take 1 blocks) ≤ 1
few_alone [] = omega arith
few_alone (block ∷ blocks) = omega arith

frame_fits : (blocks all : List LineBlock) → blocks ≡ frame_blocks all → 2 + (0 + blocks_bytes blocks) ≤ MAX_ETHERCAT
frame_fits blocks all held = subst (λ some. 2 + (0 + blocks_bytes some) ≤ MAX_ETHERCAT) (sym held) (beside-fits 0 all (omega arith))

pub write-sized : (history : History) (blocks : List LineBlock) → IsWrite history blocks → All Sized blocks
write-sized history blocks write = written-all Sized history blocks write (owed-sized history)

pub write-fits : (history : History) (blocks : List LineBlock) → IsWrite history blocks → 2 + (0 + blocks_bytes blocks) ≤ MAX_ETHERCAT
write-fits history blocks write =
    let sized = write-sized history blocks write in
    ⊎_elim (λ (first : IsFirstWrite (owed_blocks history) blocks).
    ⊎_elim (λ (alone : blocks ≡ take 1 (owed_blocks history)). one_fits blocks sized (subst (λ some. length some ≤ 1) (sym alone) (few_alone (owed_blocks history))))
    (frame_fits blocks (owed_blocks history)) first)
    (frame_fits blocks (further_blocks history)) write.first

counted : (blocks : List LineBlock) → All Sized blocks → 20 * length blocks ≤ blocks_bytes blocks
counted [] all = omega arith
counted (block ∷ blocks) all =
    let least = (All-head Sized block blocks all).least in
    let rest = counted blocks (All-tail Sized block blocks all) in
    let sum = sum_by-cons block_bytes block blocks in
    omega arith

-- so it writes at most 74 blocks
pub write-few : (history : History) (blocks : List LineBlock) → IsWrite history blocks → length blocks ≤ FRAME_BLOCKS
write-few history blocks write =
    let least = counted blocks (write-sized history blocks write) in
    let most = write-fits history blocks write in
    omega arith

-- and the first owed block always joins

one_more : (blocks : List LineBlock) → 0 < suc (length blocks)
one_more blocks = omega arith

holds_first : (blocks : List LineBlock) → All Sized blocks → 0 < length blocks → 0 < length (frame_blocks blocks)
holds_first [] all some = absurd (omega arith)
holds_first (block ∷ blocks) all some =
    let most = (All-head Sized block blocks all).most in
    let room : has_room 0 (length block.block.bytes) ≡ true = grind (arith, nat_tests) in
    subst (λ b. 0 < length (cond b (block ∷ blocks_beside (0 + block_bytes block) blocks) [])) (sym room) (one_more (blocks_beside (0 + block_bytes block) blocks))

pub frame-holds : (history : History) → 0 < length (owed_blocks history) → 0 < length (frame_blocks (owed_blocks history))
frame-holds history some = holds_first (owed_blocks history) (owed-sized history) some

pub further-holds : (history : History) → 0 < length (further_blocks history) → 0 < length (frame_blocks (further_blocks history))
further-holds history some = holds_first (further_blocks history) (further-all Sized history (owed-sized history)) some

-- The memory of a slave after writes of some of the line's blocks: each of its registers has a written block's bytes, or what it had.
use Rattle.std.proofs.Common.{◌≡◌, ℕ, ◌+◌, ◌-◌, ◌*◌, ◌<◌, ◌≤◌, ◌==◌, ◌∙◌, inl, inr, true, false, List, length, refl, sym, ap, ap₂, subst, arith}
use Rattle.std.specs.Prelude.{All, AllPairs, Contains, None, Some, find, slice_index_or, slice_range}
use Rattle.std.proofs.lemmas.Bool.{eqb-true, and_from, and_parts, eq-eqb}
use Rattle.std.proofs.lemmas.List.Elements.{All-contains, Contains-get_or}
use Rattle.hc_records.specs.Line.{Member, State, is_at, line}
use Rattle.hc_records.proofs.lemmas.Finds.{found-none}
use Rattle.hc_events.proofs.lemmas.Live.{find-is}
use Rattle.hc_records.proofs.lemmas.Stations.{project-distinct}
use Rattle.hc_registers.specs.Blocks.{LineBlock, RegisterBlock, line_blocks}
use Rattle.hc_frames.specs.Arrived.{word_at}
use Rattle.hc_events.specs.Heads.{Block, block_item, same_item}
use Rattle.hc_events.specs.Owed.{block_among}
use Rattle.hc_plan.proofs.lemmas.Configured.{block_of, configured-block}
use Rattle.hc_plan.proofs.lemmas.Elements.{contains-order}
use Rattle.hc_exchange.specs.PairLaws.{IsConfigurable}
use Rattle.hc_exchange.proofs.Blocks.{Leaves, OwnApart, apart-misses, block-byte, blocks-stay, blocks_after}
use Rattle.hc_exchange.proofs.Wrote.{IsPlain}
use Rattle.hc_exchange.proofs.lemmas.Members.{one-station, stays-line}
use Rattle.hc_exchange.proofs.lemmas.Programmed.{all-own, history-areas, range-is}
use Rattle.hc_exchange.proofs.lemmas.Sources.{IsOfLine, Source, line-sources}
use Rattle.hc_exchange.proofs.lemmas.Unchanged.{same-range}

-- blocks of the line that can be written, where no two take a register of one slave in common
pub record AreOfLine (line : List Member) (blocks : List LineBlock) : Type 0 where
  pub plain : All IsPlain blocks
  pub apart : AllPairs OwnApart blocks
  pub inside : All (Contains (line_blocks line)) blocks

-- a station address and a number name one block of the line

pub one-block : (state : State) (a b : LineBlock) → IsConfigurable state → Contains (line_blocks (line state)) a → Contains (line_blocks (line state)) b → a.station ≡ b.station → a.number ≡ b.number
    → a ≡ b
one-block state a b can has has' stations numbers =
    let members = line state in
    let distinct = project-distinct state.groups can.project in
    let blocks : Some a.block ≡ Some b.block =
    sym (configured-block members members a distinct has) ∙ ap₂ (λ (n s : ℕ). block_of members n (find (is_at s) members)) numbers stations ∙ configured-block members members b distinct has' in
    let block : a.block ≡ b.block = cc in
    ap (λ (s : ℕ). record { station = s; number = a.number; block = a.block }) stations ∙ ap (λ (n : ℕ). record { station = b.station; number = n; block = a.block }) numbers
    ∙ ap (λ (r : RegisterBlock). record { station = b.station; number = b.number; block = r }) block

-- a range of registers that none of the slave's blocks takes stays
pub range-stays : (memory : List ℕ) (station : ℕ) (blocks : List LineBlock) (at n : ℕ) → length memory ≡ 12288 → word_at memory 16 ≡ station → All IsPlain blocks → at + n ≤ 12288
    → ((r : ℕ) → at ≤ r → r < at + n → All (Leaves station r) blocks) → slice_range (blocks_after memory blocks) at (at + n) ≡ slice_range memory at (at + n)
range-stays memory station blocks at n long is plain within leaves =
    let stays = blocks-stay memory station blocks long is plain in
    let long' = stays.size in
    same-range (blocks_after memory blocks) memory at n (omega arith) (omega arith) (λ i low. stays.outside (at + i) (leaves (at + i) (omega arith) (omega arith)))

-- the register of a block that is written has its bytes
pub range-written : (line : List Member) (memory : List ℕ) (blocks : List LineBlock) (block : LineBlock) → length memory ≡ 12288 → word_at memory 16 ≡ block.station → AreOfLine line blocks
    → Contains blocks block
    → slice_range (blocks_after memory blocks) block.block.register (block.block.register + length block.block.bytes) ≡ block.block.bytes
range-written line memory blocks block long is of_line has =
    let plain = All-contains IsPlain blocks block of_line.plain has in
    let stays = blocks-stay memory block.station blocks long is of_line.plain in
    let long' = stays.size in
    let to = plain.to in
    let at = block.block.register in
    range-is (blocks_after memory blocks) block.block.bytes at (omega arith)
    (λ i low.
    let back : at + i - at ≡ i = omega arith in
    block-byte memory block.station blocks block (at + i) long is of_line.plain of_line.apart has refl (omega arith) (omega arith)
    ∙ ap (λ (n : ℕ). slice_index_or block.block.bytes n 0) back)

-- the register of a block that isn't written stays
pub unwritten-stays : (state : State) (memory : List ℕ) (blocks : List LineBlock) (block : LineBlock) → IsConfigurable state → AreOfLine (line state) blocks
    → Contains (line_blocks (line state)) block → IsPlain block → length memory ≡ 12288 → word_at memory 16 ≡ block.station → ((other : LineBlock) → Contains blocks other → ¬ (other ≡ block))
    → slice_range (blocks_after memory blocks) block.block.register (block.block.register + length block.block.bytes)
    ≡ slice_range memory block.block.register (block.block.register + length block.block.bytes)
unwritten-stays state memory blocks block can of_line has plain long is unlike =
    let members = line state in
    let to = plain.to in
    range-stays memory block.station blocks block.block.register (length block.block.bytes) long is of_line.plain (omega arith)
    (λ r from below k d within same.
    let other = slice_index_or blocks k d in
    elim (contains-order OwnApart (line_blocks members) other block (all-own members (stays-line state can)) (of_line.inside k d within) has) [
      | inl one ↦ absurd (unlike other (Contains-get_or blocks k d within) one)
      | inr (inl before) ↦ apart-misses block other r (λ s x y. before same s y x) from below
      | inr (inr after_it) ↦ apart-misses block other r (after_it (sym same)) from below
    ])

-- one of the blocks, by its station address and number

pub same_name : (station number : ℕ) (other : LineBlock) → same_item (Block station number) (block_item other) ≡ true → (station ≡ other.station) × (number ≡ other.number)
same_name station number other same =
    let parts = and_parts (station == other.station) (number == other.number) same in
    (eqb-true station other.station parts.0, eqb-true number other.number parts.1)

pub named : (block : LineBlock) → same_item (Block block.station block.number) (block_item block) ≡ true
named block = and_from (block.station == block.station) (block.number == block.number) (eq-eqb block.station block.station refl) (eq-eqb block.number block.number refl)

pub among-is : (state : State) (blocks : List LineBlock) (block found : LineBlock) → IsConfigurable state → AreOfLine (line state) blocks → Contains (line_blocks (line state)) block
    → block_among block.station block.number blocks ≡ Some found → (found ≡ block) × Contains blocks found
among-is state blocks block found can of_line has is =
    let test = λ (other : LineBlock). same_item (Block block.station block.number) (block_item other) in
    let one = find-is (Contains blocks) test blocks found (λ k d within. Contains-get_or blocks k d within) is in
    let name = same_name block.station block.number found one.1 in
    (one-block state found block can (All-contains (Contains (line_blocks (line state))) blocks found of_line.inside one.0) has (sym name.0) (sym name.1), one.0)

pub among-written : (state : State) (memory : List ℕ) (blocks : List LineBlock) (block found : LineBlock) → IsConfigurable state → AreOfLine (line state) blocks
    → Contains (line_blocks (line state)) block → length memory ≡ 12288 → word_at memory 16 ≡ block.station → block_among block.station block.number blocks ≡ Some found
    → (found ≡ block) × (slice_range (blocks_after memory blocks) block.block.register (block.block.register + length block.block.bytes) ≡ block.block.bytes)
among-written state memory blocks block found can of_line has long is among =
    let one = among-is state blocks block found can of_line has among in
    (one.0, range-written (line state) memory blocks block long is of_line (subst (Contains blocks) one.0 one.1))

pub among-none : (state : State) (memory : List ℕ) (blocks : List LineBlock) (block : LineBlock) → IsConfigurable state → AreOfLine (line state) blocks
    → Contains (line_blocks (line state)) block → IsPlain block → length memory ≡ 12288 → word_at memory 16 ≡ block.station → block_among block.station block.number blocks ≡ None
    → slice_range (blocks_after memory blocks) block.block.register (block.block.register + length block.block.bytes)
    ≡ slice_range memory block.block.register (block.block.register + length block.block.bytes)
among-none state memory blocks block can of_line has plain long is among =
    let test = λ (other : LineBlock). same_item (Block block.station block.number) (block_item other) in
    unwritten-stays state memory blocks block can of_line has plain long is
    (λ other there one.
    let unlike : test other ≡ false = All-contains (λ (b : LineBlock). test b ≡ false) blocks other (found-none test blocks among) there in
    let never : true ≡ false = sym (named block) ∙ ap test (sym one) ∙ unlike in
    cc)

-- the FMMUs past a slave's areas stay
pub outer-areas : (state : State) (member : Member) (memory : List ℕ) (blocks : List LineBlock) (i : ℕ) → IsConfigurable state → AreOfLine (line state) blocks → Contains (line state) member
    → length memory ≡ 12288 → word_at memory 16 ≡ member.slave.station → length member.slave.areas ≤ i → i < 16
    → slice_range (blocks_after memory blocks) (1536 + 16 * i) (1536 + 16 * i + 16) ≡ slice_range memory (1536 + 16 * i) (1536 + 16 * i + 16)
outer-areas state member memory blocks i can of_line has long is outer low =
    let members = line state in
    range-stays memory member.slave.station blocks (1536 + 16 * i) 16 long is of_line.plain (omega arith)
    (λ r from below k d within same.
    let other = slice_index_or blocks k d in
    let own = All-contains (IsOfLine members) (line_blocks members) other (line-sources members) (of_line.inside k d within) in
    let one : own.member ≡ member = one-station members own.member member (stays-line state can) own.in_line has (sym own.of_member.station_is ∙ same) in
    history-areas members member i r other.block outer from (omega arith) (subst (λ (m : Member). Source members m other.block) one own.of_member.source))

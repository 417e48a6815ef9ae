-- What writing blocks one after another leaves of one slave's memory.
use Rattle.std.proofs.Common.{◌≡◌, ℕ, zero, suc, ◌+◌, ◌-◌, ◌*◌, ◌<◌, ◌≤◌, ◌∙◌, inl, inr, List, [], ◌∷◌, length, get_or, refl, sym, ap, ap₂, subst, arith}
use Rattle.std.specs.Prelude.{All, AllPairs, Contains, slice_index_or}
use Rattle.std.proofs.lemmas.Bool.{cases_eq, cases_lt}
use Rattle.std.proofs.lemmas.List.Elements.{All-head, All-tail}
use Rattle.hc_records.proofs.lemmas.Lists.{AllPairs-head, AllPairs-tail}
use Rattle.hc_frames.specs.Arrived.{word_at}
use Rattle.hc_registers.specs.Blocks.{LineBlock}
use Rattle.hc_registers.specs.Laws.{AreApart}
use Rattle.hc_exchange.proofs.Wrote.{IsPlain, Misses, block_after, other-after_it, own-after_it, written-inside, written-length, written-outside}

-- the memory after the writes of blocks
abbrev pub blocks_after : List ℕ → List LineBlock → List ℕ
blocks_after memory [] = memory
blocks_after memory (block ∷ blocks) = blocks_after (block_after memory block) blocks

-- a slave's blocks leave a byte where none of them takes it
abbrev pub Leaves : ℕ → ℕ → LineBlock → Type 0
Leaves station r block = block.station ≡ station → Misses block.block.register (length block.block.bytes) r

-- two blocks of one slave take no register in common
abbrev pub OwnApart : LineBlock → LineBlock → Type 0
OwnApart a b = a.station ≡ b.station → AreApart a.block b.block

same-word : (a b : List ℕ) → get_or a 16 0 ≡ get_or b 16 0 → get_or a 17 0 ≡ get_or b 17 0 → word_at a 16 ≡ word_at b 16
same-word a b low high = ap₂ (λ (m n : ℕ). m + 256 * n) low high

-- after one block

record Stays (memory memory' : List ℕ) (station : ℕ) (block : LineBlock) : Type 0 where
  size : length memory' ≡ 12288
  station_is : word_at memory' 16 ≡ station
  outside : (r : ℕ) → Leaves station r block → get_or memory' r 0 ≡ get_or memory r 0

own-stays : (memory : List ℕ) (station : ℕ) (block : LineBlock) → length memory ≡ 12288 → word_at memory 16 ≡ station → IsPlain block → block.station ≡ station
    → Stays memory (block_after memory block) station block
own-stays memory station block long is plain own =
    let same = own-after_it memory block long plain (is ∙ sym own) in
    let register = block.block.register in
    let bytes = block.block.bytes in
    let from = plain.from in
    let to = plain.to in
    let outside : (r : ℕ) → Misses register (length bytes) r → get_or (block_after memory block) r 0 ≡ get_or memory r 0 =
    λ r misses. ap (λ (m : List ℕ). get_or m r 0) same ∙ written-outside memory bytes register r (omega arith) (omega arith) misses in
    record {
      size = ap length same ∙ written-length memory bytes register (omega arith) ∙ long;
      station_is = same-word (block_after memory block) memory (outside 16 (inl (omega arith))) (outside 17 (inl (omega arith))) ∙ is;
      outside = λ r leaves. outside r (leaves own);
    }

other-stays : (memory : List ℕ) (station : ℕ) (block : LineBlock) → length memory ≡ 12288 → word_at memory 16 ≡ station → IsPlain block → (block.station ≡ station → ⊥)
    → Stays memory (block_after memory block) station block
other-stays memory station block long is plain other =
    let same = other-after_it memory block plain (λ equal. other (sym equal ∙ is)) in
    record {
      size = ap length same ∙ long;
      station_is = ap (λ (m : List ℕ). word_at m 16) same ∙ is;
      outside = λ r leaves. ap (λ (m : List ℕ). get_or m r 0) same;
    }

block-stays : (memory : List ℕ) (station : ℕ) (block : LineBlock) → length memory ≡ 12288 → word_at memory 16 ≡ station → IsPlain block
    → Stays memory (block_after memory block) station block
block-stays memory station block long is plain = elim (cases_eq block.station station) [
  | inl own ↦ own-stays memory station block long is plain own
  | inr other ↦ other-stays memory station block long is plain other
]

-- after all of them

pub record AllStay (memory memory' : List ℕ) (station : ℕ) (blocks : List LineBlock) : Type 0 where
  pub size : length memory' ≡ 12288
  pub station_is : word_at memory' 16 ≡ station
  pub outside : (r : ℕ) → All (Leaves station r) blocks → get_or memory' r 0 ≡ get_or memory r 0

pub blocks-stay : (memory : List ℕ) (station : ℕ) (blocks : List LineBlock) → length memory ≡ 12288 → word_at memory 16 ≡ station → All IsPlain blocks
    → AllStay memory (blocks_after memory blocks) station blocks
blocks-stay memory station [] long is plain = record { size = long; station_is = is; outside = λ r leaves. refl }
blocks-stay memory station (block ∷ blocks) long is plain =
    let first = block-stays memory station block long is (All-head IsPlain block blocks plain) in
    let rest = blocks-stay (block_after memory block) station blocks first.size first.station_is (All-tail IsPlain block blocks plain) in
    record {
      size = rest.size;
      station_is = rest.station_is;
      outside = λ r leaves. rest.outside r (All-tail (Leaves station r) block blocks leaves) ∙ first.outside r (All-head (Leaves station r) block blocks leaves);
    }

-- a byte of a slave's block is the block's

own-byte : (memory : List ℕ) (station : ℕ) (block : LineBlock) (r : ℕ) → length memory ≡ 12288 → word_at memory 16 ≡ station → IsPlain block → block.station ≡ station
    → block.block.register ≤ r → r < block.block.register + length block.block.bytes → get_or (block_after memory block) r 0 ≡ get_or block.block.bytes (r - block.block.register) 0
own-byte memory station block r long is plain own low high =
    let from = plain.from in
    let to = plain.to in
    ap (λ (m : List ℕ). get_or m r 0) (own-after_it memory block long plain (is ∙ sym own))
    ∙ written-inside memory block.block.bytes block.block.register r (omega arith) (omega arith) low high

pub apart-misses : (a b : LineBlock) (r : ℕ) → AreApart a.block b.block → a.block.register ≤ r → r < a.block.register + length a.block.bytes
    → Misses b.block.register (length b.block.bytes) r
apart-misses a b r apart low high = elim (cases_lt r b.block.register) [
  | inl before ↦ inl before
  | inr from ↦ elim (cases_lt r (b.block.register + length b.block.bytes)) [
    | inl inside ↦ absurd (apart r (record { from = low; below = high }) (record { from = from; below = inside }))
    | inr after_it ↦ inr after_it
  ]
]

byte-at : (memory : List ℕ) (station : ℕ) (blocks : List LineBlock) (k : ℕ) (block : LineBlock) (r : ℕ) → length memory ≡ 12288 → word_at memory 16 ≡ station → All IsPlain blocks
    → AllPairs OwnApart blocks → k < length blocks → slice_index_or blocks k block ≡ block → block.station ≡ station → block.block.register ≤ r
    → r < block.block.register + length block.block.bytes → get_or (blocks_after memory blocks) r 0 ≡ get_or block.block.bytes (r - block.block.register) 0
byte-at memory station [] k block r long is plain apart within at_k own low high = absurd (omega arith)
byte-at memory station (first ∷ blocks) zero block r long is plain apart within at_k own low high =
    let own_first : first.station ≡ station = ap (λ (b : LineBlock). b.station) at_k ∙ own in
    let plain_first = All-head IsPlain first blocks plain in
    let here = block-stays memory station first long is plain_first in
    let rest = blocks-stay (block_after memory first) station blocks here.size here.station_is (All-tail IsPlain first blocks plain) in
    let low_first : first.block.register ≤ r = subst (λ (b : LineBlock). b.block.register ≤ r) (sym at_k) low in
    let high_first : r < first.block.register + length first.block.bytes = subst (λ (b : LineBlock). r < b.block.register + length b.block.bytes) (sym at_k) high in
    rest.outside r (λ j d under same. apart-misses first (slice_index_or blocks j d) r (AllPairs-head OwnApart first blocks apart j d under (own_first ∙ sym same)) low_first high_first)
    ∙ own-byte memory station first r long is plain_first own_first low_first high_first
    ∙ ap (λ (b : LineBlock). get_or b.block.bytes (r - b.block.register) 0) at_k
byte-at memory station (first ∷ blocks) (suc k) block r long is plain apart within at_k own low high =
    let here = block-stays memory station first long is (All-head IsPlain first blocks plain) in
    byte-at (block_after memory first) station blocks k block r here.size here.station_is (All-tail IsPlain first blocks plain) (AllPairs-tail OwnApart first blocks apart)
    (omega arith) at_k own low high

pub block-byte : (memory : List ℕ) (station : ℕ) (blocks : List LineBlock) (block : LineBlock) (r : ℕ) → length memory ≡ 12288 → word_at memory 16 ≡ station → All IsPlain blocks
    → AllPairs OwnApart blocks → Contains blocks block → block.station ≡ station → block.block.register ≤ r → r < block.block.register + length block.block.bytes
    → get_or (blocks_after memory blocks) r 0 ≡ get_or block.block.bytes (r - block.block.register) 0
block-byte memory station blocks block r long is plain apart (k, within, at_k) own low high = byte-at memory station blocks k block r long is plain apart within at_k own low high

pub block-size : (memory : List ℕ) (block : LineBlock) → length memory ≡ 12288 → IsPlain block → length (block_after memory block) ≡ 12288
block-size memory block long plain = (block-stays memory (word_at memory 16) block long refl plain).size

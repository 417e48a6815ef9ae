-- The FMMU block of an area as the slave machine reads it.
use Rattle.std.proofs.Common.{◌≡◌, ℕ, ◌+◌, ◌-◌, ◌*◌, ◌/◌, ◌%◌, ◌<◌, ◌≤◌, ◌^◌, true, List, refl, sym, ap, subst, ◌∙◌, arith}
use Rattle.std.specs.Prelude.{slice_index, ◌==◌}
use Rattle.std.proofs.lemmas.Nat.{from_le_bytes-to_le_bytes_2, from_le_bytes-to_le_bytes_4}
use Rattle.hc_records.specs.declared.records.Area.{Area}
use Rattle.hc_records.specs.declared.records.Dir.{Dir}
use Rattle.hc_records.specs.declared.records.Dir.TheVariants.{Out, In}
use Rattle.hc_records.specs.Area.{width}
use Rattle.hc_records.specs.Keys.{same_dir}
use Rattle.hc_registers.specs.declared.fmmu.Mapping.{Mapping}
use Rattle.hc_registers.specs.Blocks.{IsMappable, mapped_bytes, touched_bytes, type_of}
use Rattle.hc_registers.specs.Fields.{long_at, word_at}
use Rattle.hc_registers.specs.Laws.{FmmuFields}
use Rattle.hc_machine.specs.declared.limits.TheConstants.{MEMORY_BITS}
use Rattle.hc_machine.specs.Fmmus.{is_active}
use Rattle.hc_machine.specs.Laws.{IsPair}
use Rattle.hc_exchange.specs.PairLaws.{BlocksGoOneWay, BlocksPairTheirAreas, PairsAreOneToOne, UnmappedAreasPairNothing}

pub fields : (area : Area) (mapping : Mapping) → area.phys < 2 ^ 16 → IsMappable area mapping → FmmuFields area mapping
fields area mapping phys fits =
    let some : 0 < width area = fits.some in
    let inside : mapping.bit + width area ≤ 11888 = fits.inside in
    let room : mapping.address + 1486 ≤ 2 ^ 32 = fits.room in
    record {
      logical_start_address = from_le_bytes-to_le_bytes_4 (mapping.address + mapping.bit / 8) (omega arith);
      length = from_le_bytes-to_le_bytes_2 (touched_bytes mapping.bit (width area)) (omega arith);
      logical_start_bit = refl;
      logical_stop_bit = refl;
      physical_start_address = from_le_bytes-to_le_bytes_2 area.phys phys;
      physical_start_bit = refl;
      kind = refl;
      activate = refl;
    }

-- the first bit of a block, its last, and its first memory bit, by the fields

first-bit : (address bit start low : ℕ) → start ≡ address + bit / 8 → low ≡ bit % 8 → 8 * start + low % 8 ≡ 8 * address + bit
first-bit address bit start low is is_low = omega arith

last-bit : (address bit bits start size high : ℕ) → 0 < bits → start ≡ address + bit / 8 → size ≡ (bit + bits - 1) / 8 - bit / 8 + 1 → high ≡ (bit + bits - 1) % 8
    → (1 ≤ size) × (8 * (start + size - 1) + high % 8 + 1 ≡ 8 * address + bit + bits)
last-bit address bit bits start size high some is is_size is_high = (omega arith, omega arith)

memory-bit : (phys physical low : ℕ) → physical ≡ phys → low ≡ 0 → 8 * physical + low % 8 ≡ 8 * phys
memory-bit phys physical low is is_low = omega arith

-- bits from `first` on, as many as there are, with memory bits from `memory` on

to-area : (first bits memory x m : ℕ) → first ≤ x → x < first + bits → m + first ≡ x + memory → (x - first < bits) × (x ≡ first + (x - first)) × (m ≡ memory + (x - first))
to-area first bits memory x m low high paired = (omega arith, omega arith, omega arith)

from-area : (first bits memory x m k : ℕ) → k < bits → x ≡ first + k → m ≡ memory + k → (first ≤ x) × (x < first + bits) × (m + first ≡ x + memory)
from-area first bits memory x m k below is is_m = (omega arith, omega arith, omega arith)

below-next : (x n : ℕ) → x ≤ n → x < n + 1
below-next x n low = omega arith

not-above : (x n : ℕ) → x < n + 1 → x ≤ n
not-above x n low = omega arith

-- a pair of a block whose bits these are

read-pair : (block : List ℕ) (first bits memory x m : ℕ) → 8 * long_at block 0 + slice_index block 6 % 8 ≡ first
    → 8 * (long_at block 0 + word_at block 4 - 1) + slice_index block 7 % 8 + 1 ≡ first + bits → 8 * word_at block 8 + slice_index block 10 % 8 ≡ memory
    → IsPair block x m → (x - first < bits) × (x ≡ first + (x - first)) × (m ≡ memory + (x - first))
read-pair block first bits memory x m is is_last is_memory pair =
    let low : first ≤ x = subst (λ (n : ℕ). n ≤ x) is pair.first in
    let high : x < first + bits = subst (λ (n : ℕ). x < n) is_last (below-next x _ pair.last) in
    let paired : m + first ≡ x + memory = ap (λ (n : ℕ). m + n) (sym is) ∙ pair.paired ∙ ap (λ (n : ℕ). x + n) is_memory in
    to-area first bits memory x m low high paired

made-pair : (block : List ℕ) (first bits memory x m k : ℕ) → 8 * long_at block 0 + slice_index block 6 % 8 ≡ first
    → 1 ≤ word_at block 4 → 8 * (long_at block 0 + word_at block 4 - 1) + slice_index block 7 % 8 + 1 ≡ first + bits → 8 * word_at block 8 + slice_index block 10 % 8 ≡ memory
    → is_active block ≡ true → memory + bits ≤ MEMORY_BITS → k < bits → x ≡ first + k → m ≡ memory + k → IsPair block x m
made-pair block first bits memory x m k is some is_last is_memory active inside below is_x is_m =
    let bounds = from-area first bits memory x m k below is_x is_m in
    record {
      active = active;
      first = subst (λ (n : ℕ). n ≤ x) (sym is) bounds.0;
      some = some;
      last = not-above x _ (subst (λ (n : ℕ). x < n) (sym is_last) bounds.1);
      paired = ap (λ (n : ℕ). m + n) is ∙ bounds.2 ∙ ap (λ (n : ℕ). x + n) (sym is_memory);
      inside = omega arith;
    }

pub block-pairs : BlocksPairTheirAreas
block-pairs area mapping x m inside fits =
    let bits : ℕ = width area in
    let some : 0 < bits = fits.some in
    let within : 8 * area.phys + bits ≤ 98304 = inside in
    let read = fields area mapping (omega arith) fits in
    let block : List ℕ = mapped_bytes area mapping in
    let first = first-bit mapping.address mapping.bit (long_at block 0) (slice_index block 6) read.logical_start_address read.logical_start_bit in
    let last =
    last-bit mapping.address mapping.bit bits (long_at block 0) (word_at block 4) (slice_index block 7) some read.logical_start_address read.length read.logical_stop_bit in
    let memory = memory-bit area.phys (word_at block 8) (slice_index block 10) read.physical_start_address read.physical_start_bit in (
      λ pair.
          let answer_given = read-pair block (8 * mapping.address + mapping.bit) bits (8 * area.phys) x m first last.1 memory pair in
          record { k = x - (8 * mapping.address + mapping.bit); below = answer_given.0; logical = answer_given.1; memory = answer_given.2 },
      λ pair.
          made-pair block (8 * mapping.address + mapping.bit) bits (8 * area.phys) x m pair.k first last.0 last.1 memory refl within pair.below pair.logical pair.memory,
    )

pub block-unmapped : UnmappedAreasPairNothing
block-unmapped area x m pair = let active = pair.active in cc

pub block-way : BlocksGoOneWay
block-way area mapping = by area.dir
  where
    by : (dir : Dir) → ((type_of dir % 2 == 1) ≡ same_dir dir In) × ((type_of dir / 2 % 2 == 1) ≡ same_dir dir Out)
    by Out = (refl, refl)
    by In = (refl, refl)

pub block-one : PairsAreOneToOne
block-one block = (
  λ x m n pair other.
      let first = pair.paired in
      let second = other.paired in
      omega (arith, first, second),
  λ x y m pair other.
      let first = pair.paired in
      let second = other.paired in
      omega (arith, first, second),
)

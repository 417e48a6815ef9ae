-- Writes of blocks leave bytes.
use Rattle.std.proofs.Common.{◌≡◌, ℕ, ◌+◌, ◌-◌, ◌%◌, ◌<◌, ◌≤◌, inl, inr, Bool, true, false, List, [], ◌∷◌, length, sym, subst, arith}
use Rattle.std.specs.Prelude.{All, None, Option, Some, ◌==◌, if◌then◌else◌}
use Rattle.std.proofs.lemmas.Bool.{cases_eq, cases_lt}
use Rattle.std.proofs.lemmas.List.Elements.{All-from_recursion, All-head, All-replicate, All-tail, All-weaker}
use Rattle.hc_bits.specs.Bits.{AreBytes}
use Rattle.hc_frames.specs.Arrived.{word_at}
use Rattle.hc_records.specs.declared.records.Area.{Area}
use Rattle.hc_records.specs.declared.records.Dir.{Dir}
use Rattle.hc_records.specs.declared.records.Dir.TheVariants.{Out, In}
use Rattle.hc_records.specs.Area.{width}
use Rattle.hc_records.specs.Line.{Member}
use Rattle.hc_registers.specs.declared.fmmu.Mapping.{Mapping}
use Rattle.hc_registers.specs.Blocks.{LineBlock, RegisterBlock, activation, control_of, fmmu_bytes, last_bit, line_blocks, mapped_bytes, mapping_of, sync_manager_bytes, type_of}
use Rattle.hc_machine.specs.Commands.{register_written}
use Rattle.hc_exchange.specs.Pairs.{member_area_key}
use Rattle.hc_exchange.proofs.Blocks.{block-size, blocks_after}
use Rattle.hc_exchange.proofs.Wrote.{IsPlain, block_after, other-after_it, own-after_it, written-inside, written-length, written-outside}
use Rattle.hc_exchange.proofs.lemmas.Sources.{IsOfLine, Source, line-sources}

abbrev pub IsByte : ℕ → Type 0
IsByte n = n < 256

control-small : (dir : Dir) → control_of dir < 256
control-small Out = omega arith
control-small In = omega arith

type-small : (dir : Dir) → type_of dir < 256
type-small Out = omega arith
type-small In = omega arith

activation-small : (bits : ℕ) → activation bits < 256
activation-small bits = by (bits == 0)
  where
    by : (b : Bool) → (if b then 0 else 1) < 256
    by true = omega arith
    by false = omega arith

digit-small : (n : ℕ) → n % 256 < 256
digit-small n = omega arith

eighth-small : (n : ℕ) → n % 8 < 256
eighth-small n = omega arith

sync-small : (area : Area) → All IsByte (sync_manager_bytes area)
sync-small area = All-from_recursion IsByte (sync_manager_bytes area)
    (digit-small _, (digit-small _, (digit-small _, (digit-small _, (control-small area.dir, (omega arith, (activation-small (width area), (omega arith, tt))))))))

mapped-small : (area : Area) (mapping : Mapping) → All IsByte (mapped_bytes area mapping)
mapped-small area mapping = All-from_recursion IsByte (mapped_bytes area mapping)
    (digit-small _, (digit-small _, (digit-small _, (digit-small _, (digit-small _, (digit-small _, (eighth-small mapping.bit, (eighth-small (last_bit mapping.bit (width area)), (digit-small _, (digit-small _, (omega arith, (type-small area.dir, (omega arith, (omega arith, (omega arith, (omega arith, tt))))))))))))))))

fmmu-small : (area : Area) (o : Option Mapping) → All IsByte (fmmu_bytes area o)
fmmu-small area None = All-replicate IsByte 16 0 (omega arith)
fmmu-small area (Some mapping) = mapped-small area mapping

source-small : (line : List Member) (member : Member) (block : RegisterBlock) → Source line member block → All IsByte block.bytes
source-small line member block (inl manager) = subst (λ (b : RegisterBlock). All IsByte b.bytes) (sym manager.is) (sync-small manager.area)
source-small line member block (inr source) =
    subst (λ (b : RegisterBlock). All IsByte b.bytes) (sym source.is) (fmmu-small source.area (mapping_of line source.area.task (member_area_key member source.index source.area)))

pub blocks-small : (line : List Member) → All (λ block. All IsByte block.block.bytes) (line_blocks line)
blocks-small line =
    All-weaker (IsOfLine line) (λ block. All IsByte block.block.bytes) (λ block own. source-small line own.member block.block own.of_member.source) (line_blocks line) (line-sources line)

-- so a memory of bytes is one after the writes

written-small : (memory bytes : List ℕ) (register : ℕ) → length memory ≡ 12288 → 20 ≤ register → register + length bytes ≤ 12288 → AreBytes memory → All IsByte bytes
    → AreBytes (register_written memory register bytes)
written-small memory bytes register long high within small small' i low =
    let size = written-length memory bytes register (omega arith) in
    let inside : i < length memory = omega arith in
    elim (cases_lt i register) [
      | inl before ↦ subst IsByte (sym (written-outside memory bytes register i (omega arith) (omega arith) (inl before))) (small i inside)
      | inr from ↦ elim (cases_lt i (register + length bytes)) [
        | inl below ↦ subst IsByte (sym (written-inside memory bytes register i (omega arith) high from below)) (small' (i - register) 0 (omega arith))
        | inr after_it ↦ subst IsByte (sym (written-outside memory bytes register i (omega arith) (omega arith) (inr after_it))) (small i inside)
      ]
    ]

block-small : (memory : List ℕ) (block : LineBlock) → length memory ≡ 12288 → IsPlain block → AreBytes memory → All IsByte block.block.bytes → AreBytes (block_after memory block)
block-small memory block long plain small small' = elim (cases_eq (word_at memory 16) block.station) [
  | inl own ↦
      let from = plain.from in
      let to = plain.to in
      subst AreBytes (sym (own-after_it memory block long plain own)) (written-small memory block.block.bytes block.block.register long (omega arith) (omega arith) small small')
  | inr other ↦ subst AreBytes (sym (other-after_it memory block plain other)) small
]

pub memory-small : (memory : List ℕ) (blocks : List LineBlock) → length memory ≡ 12288 → All IsPlain blocks → AreBytes memory → All (λ block. All IsByte block.block.bytes) blocks
    → AreBytes (blocks_after memory blocks)
memory-small memory [] long plain small small' = small
memory-small memory (block ∷ blocks) long plain small small' =
    let first = All-head IsPlain block blocks plain in
    memory-small (block_after memory block) blocks (block-size memory block long first) (All-tail IsPlain block blocks plain)
    (block-small memory block long first small (All-head (λ b. All IsByte b.block.bytes) block blocks small')) (All-tail (λ b. All IsByte b.block.bytes) block blocks small')

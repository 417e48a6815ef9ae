-- What a machine keeps of a record's registers: as long as its registers are the same, and over a frame of logical datagrams that no FMMU of it pairs with a register.
use Rattle.std.proofs.Common.{◌≡◌, ℕ, ◌+◌, ◌*◌, ◌<◌, ◌≤◌, ◌∙◌, inl, inr, Bool, false, List, length, get_or, refl, sym, ap₂, subst, arith}
use Rattle.std.specs.Prelude.{Contains}
use Rattle.std.proofs.lemmas.List.Elements.{All-contains}
use Rattle.std.proofs.lemmas.Option.{slice_get_cases}
use Rattle.hc_bits.specs.Bits.{AreBytes}
use Rattle.hc_records.specs.Line.{Member}
use Rattle.hc_registers.specs.Blocks.{LineBlock, member_blocks}
use Rattle.hc_events.specs.Entries.{History}
use Rattle.hc_events.specs.Holding.{may_hold}
use Rattle.hc_events.specs.Points.{line_of}
use Rattle.hc_machine.specs.Fmmus.{fmmu_block_at}
use Rattle.hc_machine.specs.Laws.{IsPair}
use Rattle.hc_machine.specs.Logical.{logical_memory}
use Rattle.hc_machine.proofs.lemmas.Logical.{unwritten-stays}
use Rattle.hc_machine.proofs.lemmas.Memories.{length-memory, memory-bytes, same-byte}
use Rattle.hc_exchange.specs.Holding.{HoldsContents}
use Rattle.hc_exchange.specs.Runs.{TakesWrites}
use Rattle.hc_exchange.specs.Writing.{IsMachineOf}
use Rattle.hc_exchange.proofs.lemmas.Asked.{block-same}
use Rattle.hc_exchange.proofs.lemmas.Contents.{IsAreaContent, IsSound, content-high}
use Rattle.hc_exchange.proofs.lemmas.Members.{KeepsLine, slave-of}
use Rattle.hc_exchange.proofs.lemmas.Programmed.{IsSized, none-zero, source-sized}
use Rattle.hc_exchange.proofs.lemmas.Sources.{IsOfMember, member-sources}
use Rattle.hc_exchange.proofs.lemmas.Unchanged.{same-range}

-- the registers are as they were
pub record SameRegisters (memory memory' : List ℕ) : Type 0 where
  pub size : length memory' ≡ 12288
  pub all_bytes : AreBytes memory'
  pub same : (r : ℕ) → r < 4096 → get_or memory' r 0 ≡ get_or memory r 0

pub machine-same : (member : Member) (memory memory' : List ℕ) → IsMachineOf member memory → SameRegisters memory memory' → IsMachineOf member memory'
machine-same member memory memory' machine same = record {
  size = same.size;
  address = machine.address;
  programmable = record {
    station = ap₂ (λ (m n : ℕ). m + 256 * n) (same.same 16 (omega arith)) (same.same 17 (omega arith)) ∙ machine.programmable.station;
    unused = λ i outer low. block-same memory memory' i low machine.size same.size same.same ∙ machine.programmable.unused i outer low;
  };
}

-- a block of a slave of the line lies in the registers
pub member-sized : (line : List Member) (member : Member) (block : LineBlock) → KeepsLine line → Contains line member → Contains (member_blocks line member) block → IsSized block.block
member-sized line member block stays has there =
    source-sized line member block.block stays has (All-contains (IsOfMember line member) (member_blocks line member) block (member-sources line member) there).source

pub takes-same : (passed : ℕ → Bool) (history : History) (member : Member) (memory memory' : List ℕ) → KeepsLine (line_of history) → Contains (line_of history) member
    → TakesWrites passed history member memory → SameRegisters memory memory' → TakesWrites passed history member memory'
takes-same passed history member memory memory' stays has takes same = record {
  machine = machine-same member memory memory' takes.machine same;
  all_bytes = same.all_bytes;
  taken = λ block write there last whole.
      let sized = member-sized (line_of history) member block stays has there in
      let to = sized.to in
      let size = takes.machine.size in
      let size' = same.size in
      same-range memory' memory block.block.register (length block.block.bytes) (omega arith) (omega arith) (λ i low. same.same (block.block.register + i) (omega arith))
      ∙ takes.taken block write there last whole;
  held = λ index low known.
      let few = (slave-of (line_of history) member stays has).few in
      subst (HoldsContents (may_hold history member.slave.station (2 * index + 1)))
      (sym (block-same memory memory' index (omega arith) takes.machine.size same.size same.same)) (takes.held index low known);
}

-- logical datagrams

-- each FMMU of a machine pairs process memory alone
abbrev pub PairsHigh : List ℕ → Type 0
PairsHigh memory = (i x m : ℕ) → i < 16 → IsPair (fmmu_block_at memory i) x m → 32768 ≤ m

-- what a frame of logical datagrams keeps of such a machine
abbrev pub KeptByLogical : List ℕ → List ℕ → Type 0
KeptByLogical m x = PairsHigh m → length m ≡ 12288 → AreBytes m → SameRegisters m x

pub logical-itself : (m : List ℕ) → KeptByLogical m m
logical-itself m high long small = record { size = long; all_bytes = small; same = λ r low. refl }

pub logical-keeps : (m x bytes : List ℕ) (from : ℕ) → KeptByLogical m x → KeptByLogical m (logical_memory x from bytes)
logical-keeps m x bytes from before high long small =
    let s = before high long small in
    let size = length-memory x bytes from ∙ s.size in
    let all_bytes = memory-bytes x bytes from s.size s.all_bytes in
    record {
      size = size;
      all_bytes = all_bytes;
      same = λ r low.
          let inside = s.size in
          same-byte (logical_memory x from bytes) x r (all_bytes r (omega (arith, size, low))) (s.all_bytes r (omega (arith, inside, low)))
          (λ j below.
          unwritten-stays x bytes from (8 * r + j) s.size (omega arith)
          (λ i n under in_data writes.
          let up = high i (from + n) (8 * r + j) under (subst (λ (block : List ℕ). IsPair block (from + n) (8 * r + j)) (block-same m x i under long s.size s.same) writes.1) in
          omega arith))
          ∙ s.same r low;
    }

-- so does each machine with known registers
pub held-high : (passed : ℕ → Bool) (history : History) (member : Member) (memory : List ℕ) → IsSound history → TakesWrites passed history member memory
    → ((index : ℕ) → index < length member.slave.areas → (may_hold history member.slave.station (2 * index + 1)).unknown ≡ false) → PairsHigh memory
held-high passed history member memory sound takes known i x m low pair = elim (slice_get_cases member.slave.areas i).1 [
  | inl found ↦ elim (takes.held i found.1 (known i found.1)) [
    | inl zeros ↦ absurd (none-zero x m (subst (λ (block : List ℕ). IsPair block x m) zeros pair))
    | inr there ↦ content-high (fmmu_block_at memory i) x m
        (All-contains IsAreaContent (may_hold history member.slave.station (2 * i + 1)).contents (fmmu_block_at memory i) (sound.contents member.slave.station i) there) pair
  ]
  | inr outer ↦ absurd (none-zero x m (subst (λ (block : List ℕ). IsPair block x m) (takes.machine.programmable.unused i outer.0 low) pair))
]

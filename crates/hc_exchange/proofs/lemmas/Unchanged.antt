-- A machine that keeps its registers stays programmed.
use Rattle.std.proofs.Common.{◌≡◌, ℕ, ◌+◌, ◌-◌, ◌*◌, ◌<◌, ◌≤◌, ◌∙◌, List, length, get_or, take, drop, sym, ap₂, arith, length-drop, length-take}
use Rattle.std.specs.Prelude.{Contains, slice_range}
use Rattle.std.proofs.lemmas.List.{ext_get_or, get_or-drop, get_or-take}
use Rattle.std.proofs.lemmas.List.Elements.{All-contains}
use Rattle.hc_records.specs.Line.{Member}
use Rattle.hc_registers.specs.Blocks.{slave_blocks}
use Rattle.hc_exchange.specs.Writing.{IsProgrammed}
use Rattle.hc_exchange.proofs.lemmas.Members.{KeepsLine}
use Rattle.hc_exchange.proofs.lemmas.Programmed.{source-sized}
use Rattle.hc_exchange.proofs.lemmas.Sources.{Source, slave-sources}

range-length : (bytes : List ℕ) (from n : ℕ) → from + n ≤ length bytes → length (take (from + n - from) (drop from bytes)) ≡ n
range-length bytes from n within = length-take (from + n - from) (drop from bytes) ∙ omega (arith, length-drop from bytes)

-- bytes that are the same from a place on
pub same-range : (a b : List ℕ) (from n : ℕ) → from + n ≤ length a → from + n ≤ length b → ((i : ℕ) → i < n → get_or a (from + i) 0 ≡ get_or b (from + i) 0)
    → slice_range a from (from + n) ≡ slice_range b from (from + n)
same-range a b from n within within' same =
    let long = range-length a from n within in
    let long' = range-length b from n within' in
    ext_get_or 0 (take (from + n - from) (drop from a)) (take (from + n - from) (drop from b)) (long ∙ sym long')
    (λ i low.
    let below : i < from + n - from = omega (arith, long) in
    get_or-take (from + n - from) (drop from a) i 0 below ∙ get_or-drop from a i 0 ∙ same i (omega arith) ∙ sym (get_or-drop from b i 0)
    ∙ sym (get_or-take (from + n - from) (drop from b) i 0 below))

pub programmed-unchanged : (line : List Member) (member : Member) (memory memory' : List ℕ) → KeepsLine line → Contains line member → IsProgrammed line member memory → length memory' ≡ 12288
    → ((r : ℕ) → r < 4096 → get_or memory' r 0 ≡ get_or memory r 0) → IsProgrammed line member memory'
programmed-unchanged line member memory memory' stays has programmed long same =
    let machine = programmed.machine in
    let size = machine.size in
    record {
      machine = record {
        size = long;
        address = machine.address;
        programmable = record {
          station = ap₂ (λ (m n : ℕ). m + 256 * n) (same 16 (omega arith)) (same 17 (omega arith)) ∙ machine.programmable.station;
          unused = λ i history low. same-range memory' memory (1536 + 16 * i) 16 (omega arith) (omega arith) (λ j below. same (1536 + 16 * i + j) (omega arith)) ∙ machine.programmable.unused i history low;
        };
      };
      blocks = λ block within.
          let sized = source-sized line member block stays has (All-contains (Source line member) (slave_blocks line member) block (slave-sources line member) within) in
          let to = sized.to in
          same-range memory' memory block.register (length block.bytes) (omega arith) (omega arith) (λ j below. same (block.register + j) (omega arith)) ∙ programmed.blocks block within;
    }

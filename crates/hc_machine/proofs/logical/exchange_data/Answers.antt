use Rattle.std.proofs.Common.{◌≡◌, ◌*◌, ℕ, List, length, false, sym, ap, ◌∙◌, arith}
use Rattle.hc_bits.specs.Bits.{bit_of}
use Rattle.hc_machine.specs.declared.fmmu.Fmmu.{Fmmu}
use Rattle.hc_machine.specs.Fmmus.{fmmus_of}
use Rattle.hc_machine.specs.Logical.{bit_written, mixes_any}
use Rattle.hc_machine.proofs.Mapped.{written-mapped}
use Rattle.hc_machine.proofs.Unmixed.{bytes-same, written-unmixed}
use Rattle.hc_machine.proofs.logical.exchange_data.Goals as goal

pub returns-clause-memory : goal.returns-clause-memory
returns-clause-memory c =
    let a = c.args in
    let fs = a.fmmus.now in
    let came = bit_of a.bytes.now in
    let read = bit_of c.read_data-2.new.bytes in
    let n = 8 * length a.bytes.now in
    let off : mixes_any fs ≡ false = cc in
    let size : length c.read_data-2.new.bytes ≡ length a.bytes.now = omega arith in
    c.write_data-2.ensures
    ∙ bytes-same (length a.memory.now) _ _ (λ m h.
    ap (λ (k : ℕ). bit_written (fmmus_of a.memory.now) read a.from (8 * k) m (bit_of a.memory.now m)) size
    ∙ sym (written-mapped (fmmus_of a.memory.now) read a.from n m (bit_of a.memory.now m))
    ∙ ap (λ (xs : List Fmmu). bit_written xs read a.from n m (bit_of a.memory.now m)) (sym c.requires.mapped)
    ∙ written-unmixed fs fs (bit_of a.memory.now) came read a.from n m (bit_of a.memory.now m) off (λ k low. c.read_data-2.ensures.bits k low)
    ∙ ap (λ (xs : List Fmmu). bit_written xs came a.from n m (bit_of a.memory.now m)) c.requires.mapped
    ∙ written-mapped (fmmus_of a.memory.now) came a.from n m (bit_of a.memory.now m))

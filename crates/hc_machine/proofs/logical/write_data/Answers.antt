use Rattle.std.proofs.Common.{◌*◌, List, length, ap, ◌∙◌, arith}
use Rattle.hc_bits.specs.Bits.{bit_of}
use Rattle.hc_machine.specs.declared.fmmu.Fmmu.{Fmmu}
use Rattle.hc_machine.specs.Fmmus.{fmmus_of}
use Rattle.hc_machine.specs.Logical.{bit_written}
use Rattle.hc_machine.proofs.Bytes.{bytes-spelled}
use Rattle.hc_machine.proofs.Mapped.{written-mapped}
use Rattle.hc_machine.proofs.logical.write_data.Goals as goal

pub returns : goal.returns
returns c =
    let a = c.args in
    let size = 8 * length a.bytes.now in
    bytes-spelled c.write_bits.new.memory (length a.memory.now) _ (λ i h. (c.type_inv.memory i).fits) (omega arith) (λ m h.
    c.write_bits.ensures m ∙ ap (λ (fs : List Fmmu). bit_written fs (bit_of a.bytes.now) a.from size m (bit_of a.memory.now m)) c.requires.mapped
    ∙ written-mapped (fmmus_of a.memory.now) (bit_of a.bytes.now) a.from size m (bit_of a.memory.now m))

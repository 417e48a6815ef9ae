use Rattle.std.proofs.Common.{◌+◌, ◌*◌, List, length, ap, ◌∙◌, arith}
use Rattle.hc_bits.specs.Bits.{bit_of}
use Rattle.hc_machine.specs.declared.fmmu.Fmmu.{Fmmu}
use Rattle.hc_machine.specs.Fmmus.{fmmus_of}
use Rattle.hc_machine.specs.Logical.{bit_read}
use Rattle.hc_machine.proofs.Bytes.{bytes-spelled}
use Rattle.hc_machine.proofs.Mapped.{read-mapped}
use Rattle.hc_machine.proofs.logical.read_data.Goals as goal

pub returns-clause-data : goal.returns-clause-data
returns-clause-data c =
    let a = c.args in
    bytes-spelled c.read_bits.new.bytes (length a.bytes.now) _ (λ i h. (c.type_inv.bytes i).fits) (omega arith) (λ k h.
    c.read_bits.ensures k h ∙ ap (λ (fs : List Fmmu). bit_read fs (bit_of a.memory.now) (a.from + k) (bit_of a.bytes.now k)) c.requires.mapped
    ∙ read-mapped (fmmus_of a.memory.now) (bit_of a.memory.now) a.from (8 * length a.bytes.now) (a.from + k) (bit_of a.bytes.now k) (omega arith) (omega arith))

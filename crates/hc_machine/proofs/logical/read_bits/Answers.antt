use Rattle.std.proofs.Common.{◌+◌, ◌-◌, ◌∷◌, [], length, drop, get_or, ◌∙◌, ap, arith}
use Rattle.hc_bits.specs.Bits.{bit_of}
use Rattle.hc_machine.specs.Fmmus.{idle}
use Rattle.hc_machine.specs.Logical.{bit_read}
use Rattle.hc_machine.proofs.Pairs.{laid-next, read_first, read_start}
use Rattle.hc_machine.proofs.logical.read_bits.Goals as goal

pub loop-k-init : goal.loop-k-init
loop-k-init c = λ x h. read_start c.args.fmmus.now (bit_of c.args.memory.now) (c.args.from + x) (bit_of c.args.bytes.now x)

pub loop-k-preserved : goal.loop-k-preserved
loop-k-preserved c = λ x h.
    let a = c.args in
    let fs = a.fmmus.now in
    let k = c.loop-k.k in
    let f = get_or fs (length fs - 1 - k) idle in
    c.read_one.ensures x (omega arith) ∙ ap (bit_read (f ∷ []) (bit_of a.memory.now) (a.from + x)) (c.loop-k.invariant x h)
    ∙ read_first (drop (length fs - (k + 1)) fs) (drop (length fs - k) fs) f (bit_of a.memory.now) (a.from + x) _ (laid-next fs k (omega arith))

use Rattle.std.proofs.Common.{◌+◌, ◌-◌, ◌*◌, ◌∷◌, [], length, drop, get_or, ◌∙◌, ap, arith}
use Rattle.hc_bits.specs.Bits.{bit_of}
use Rattle.hc_machine.specs.Fmmus.{idle}
use Rattle.hc_machine.specs.Logical.{bit_written}
use Rattle.hc_machine.proofs.Pairs.{laid-next, written_first, written_start}
use Rattle.hc_machine.proofs.logical.write_bits.Goals as goal

pub loop-k-init : goal.loop-k-init
loop-k-init c = λ m. written_start c.args.fmmus.now (bit_of c.args.bytes.now) c.args.from (8 * length c.args.bytes.now) m (bit_of c.args.memory.now m)

pub loop-k-preserved : goal.loop-k-preserved
loop-k-preserved c = λ m.
    let a = c.args in
    let fs = a.fmmus.now in
    let k = c.loop-k.k in
    let f = get_or fs (length fs - 1 - k) idle in
    let came = bit_of a.bytes.now in
    let n = 8 * length a.bytes.now in
    c.write_one.ensures m ∙ ap (bit_written (f ∷ []) came a.from n m) (c.loop-k.invariant m)
    ∙ written_first (drop (length fs - (k + 1)) fs) (drop (length fs - k) fs) f came a.from n m _ (laid-next fs k (omega arith))

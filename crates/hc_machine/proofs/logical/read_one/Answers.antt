use Rattle.std.proofs.Common.{◌+◌, ◌*◌, length, sym}
use Rattle.hc_bits.specs.Bits.{bit_of}
use Rattle.hc_machine.proofs.Pairs.{clip_read, clip_none, read_off}
use Rattle.hc_machine.proofs.logical.read_one.Goals as goal
use Rattle.hc_machine.proofs.logical.read_one.Goals.{else-fmmu-via-then-fmmu+else-start-stop, else-fmmu-via-else-fmmu}

pub returns-then-start-stop : goal.returns-then-start-stop
returns-then-start-stop c =
    let a = c.args in
    clip_read a.fmmu.now (bit_of a.memory.now) a.bytes.now _ a.from (8 * length a.bytes.now) _ _ c.max-start.ensures c.min-stop.ensures c.if-start-stop.true c.if-fmmu.true c.copy_bits.ensures

pub returns-else-fmmu : goal.returns-else-fmmu
returns-else-fmmu c = λ k h.
    let a = c.args in
    elim c.else-fmmu.branch [
      | else-fmmu-via-then-fmmu+else-start-stop w ↦
          sym (clip_none a.fmmu.now (bit_of a.memory.now) a.from (8 * length a.bytes.now) _ _ k (bit_of a.bytes.now k) c.max-start.ensures c.min-stop.ensures w.if-start-stop.false h)
      | else-fmmu-via-else-fmmu w ↦ sym (read_off a.fmmu.now (bit_of a.memory.now) (a.from + k) (bit_of a.bytes.now k) w.if-fmmu.false)
    ]

use Rattle.std.proofs.Common.{◌*◌, length, sym}
use Rattle.hc_bits.specs.Bits.{bit_of}
use Rattle.hc_machine.proofs.Pairs.{clip_write, clip_no_write, write_off}
use Rattle.hc_machine.proofs.logical.write_one.Goals as goal
use Rattle.hc_machine.proofs.logical.write_one.Goals.{else-fmmu-via-then-fmmu+else-start-stop, else-fmmu-via-else-fmmu}

pub returns-then-start-stop : goal.returns-then-start-stop
returns-then-start-stop c =
    let a = c.args in
    clip_write a.fmmu.now (bit_of a.bytes.now) a.memory.now _ a.from (8 * length a.bytes.now) _ _ c.max-start.ensures c.min-stop.ensures c.if-start-stop.true c.if-fmmu.true c.copy_bits.ensures

pub returns-else-fmmu : goal.returns-else-fmmu
returns-else-fmmu c = λ m.
    let a = c.args in
    elim c.else-fmmu.branch [
      | else-fmmu-via-then-fmmu+else-start-stop w ↦
          sym (clip_no_write a.fmmu.now (bit_of a.bytes.now) a.from (8 * length a.bytes.now) _ _ m (bit_of a.memory.now m) c.max-start.ensures c.min-stop.ensures w.if-start-stop.false)
      | else-fmmu-via-else-fmmu w ↦ sym (write_off a.fmmu.now (bit_of a.bytes.now) a.from (8 * length a.bytes.now) m (bit_of a.memory.now m) w.if-fmmu.false)
    ]

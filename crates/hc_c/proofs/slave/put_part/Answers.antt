use Rattle.std.proofs.Common.{◌≡◌, ◌+◌, ◌-◌, length, refl, arith}
use Rattle.hc_frames.proofs.lemmas.Opening.{drop_twice}
use Rattle.hc_c.proofs.slave.put_part.Goals as goal

pub returns : goal.returns
returns c =
    let a = c.args in
    let count : a.at + length a.part.now - a.at ≡ length a.part.now = omega arith in
    rw (count, c.copy_from_slice.ensures.after, drop_twice a.at (length a.part.now) a.bytes.now) refl

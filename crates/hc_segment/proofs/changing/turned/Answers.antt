use Rattle.std.proofs.Common.{◌≡◌, ◌+◌, ◌-◌, min, length, arith}
use Rattle.hc_segment.proofs.Turning as turning
use Rattle.hc_segment.proofs.changing.turned.Goals as goal

pub returns : goal.returns
returns c =
    let ms = c.args.machines.items in
    let moved = c.append-moved.ensures.items in
    let first = c.rotate_left.ensures in
    let second = c.truncate.ensures in
    let ok = c.args.machines.ok.0 in
    let from = c.min-front.ensures in
    let to = c.min-back.ensures in
    let front : c.min-front.result ≡ min c.args.position (length ms) = omega (arith, from, c.len.ensures, ok) in
    let back : c.min-back.result ≡ min (c.args.position + c.args.gone) (length ms) = omega (arith, to, c.len-2.ensures, ok) in
    let count : c.len-3.result - c.min-back.result ≡ length ms - c.min-back.result = omega (arith, c.len-3.ensures, ok) in
    let succeeds = c.append-moved.ensures.succeeds (omega (arith, front, back, count, ok, c.requires.room, first.len, first.capacity, second.len, second.capacity)) in
    turning.turned ms c.args.coming.items c.rotate_left.new.self.items c.truncate.new.self.items c.append-moved.new.self.items c.rotate_left-2.new.self.items c.args.position c.args.gone _ _ _
    front back count first.items second.items (rw succeeds at moved) c.rotate_left-2.ensures.items

use Rattle.std.proofs.Common.{◌-◌, arith, drop, length, take}
use Rattle.std.proofs.lemmas.List.{length-drop, length-take}
use Rattle.hc_places.specs.Table.{VariableRow}
use Rattle.hc_places.proofs.Shifted.{Widened, placed-wide}
use Rattle.hc_places.proofs.middle.make_place.Goals as goal

pub widen-requires-clause-room : goal.widen-requires-clause-room
widen-requires-clause-room c = grind arith

pub returns-then-old-new : goal.returns-then-old-new
returns-then-old-new c =
    let old = c.args.high - c.args.low in
    let new = c.args.new.now in
    let more = take (length new - old) (drop old new) in
    let rest = length-drop old new in
    let size = length-take (length new - old) (drop old new) in
    let wide : Widened {X = VariableRow} c.args.rows.now.items c.widen.new.rows.items c.args.high (length more) =
    record { size = c.widen.ensures.size; front = c.widen.ensures.front; after_it = c.widen.ensures.after_it } in
    let made = placed-wide c.args.rows.now.items c.widen.new.rows.items c.args.low c.args.high (length new) (length more) c.requires.order c.requires.bound (omega (arith, rest, size, c.if-old-new.true)) wide in
    record { size = made.size; front = made.front; after_it = made.after_it }

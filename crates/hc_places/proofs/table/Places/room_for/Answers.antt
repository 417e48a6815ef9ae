use Rattle.std.proofs.Common.{ap, length, arith}
use Rattle.hc_places.specs.Table.{Table}
use Rattle.hc_places.proofs.Roomy.{merged-few}
use Rattle.hc_places.proofs.table.Places.room_for.Goals as goal

pub returns-clause-room : goal.returns-clause-room
returns-clause-room c =
    let few = merged-few c.args.swap.now.change.rows c.args.self.now.variables in
    let changed = ap length c.changes-changed.ensures.rows in
    let rows = ap (λ (t : Table). length t.variables) c.self.view_is in
    omega (arith, few, changed, rows, c.room_size.ensures, c.in_ok-room.ensures.exact)

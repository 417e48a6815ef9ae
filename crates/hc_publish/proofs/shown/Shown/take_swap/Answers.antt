use Rattle.std.proofs.Common.{◌≡◌, ◌∙◌, ap, subst, sym}
use Rattle.hc_places.specs.Swap.{KeepRows}
use Rattle.hc_places.specs.Table.{Table}
use Rattle.hc_publish.specs.Shown.{answered_in}
use Rattle.hc_publish.specs.ChangesSince.{table_shown}
use Rattle.hc_publish.proofs.Taken.{shows-swapped}
use Rattle.hc_publish.proofs.shown.Shown.take_swap.Goals as goal

pub returns-in_err-room-clause-succeeds : goal.returns-in_err-room-clause-succeeds
returns-in_err-room-clause-succeeds c stays =
    let table : c.self.inside.places ≡ table_shown c.args.self.now = c.self.invariant.table_is ∙ ap table_shown c.self.view_is in
    let none = c.room_for.ensures.without (subst (λ (t : Table). KeepRows t.variables c.args.swap.now.change.rows) (sym table) stays) in
    let was = c.in_err-room.was in
    cc

pub invariant_of-self : goal.invariant_of-self
invariant_of-self c =
    let copy = c.self.inside in
    rw (c.add_swap.ensures, c.carry_out.ensures, c.saturating_add-self-inside.ensures)
    (shows-swapped (answered_in copy) copy.places copy.epoch copy.inputs c.clear.new.self c.args.swap.now c.self.invariant c.clear.ensures)

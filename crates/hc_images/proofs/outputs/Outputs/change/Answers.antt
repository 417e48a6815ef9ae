use Rattle.std.proofs.Common.{◌≡◌, subst, sym, true}
use Rattle.hc_images.specs.Moves.{Moves, moved_table}
use Rattle.hc_images.specs.Packed.{Carries, HasSizes, HoldsOutputValues, Packed}
use Rattle.hc_images.specs.Pieces.{carried_bit}
use Rattle.hc_images.specs.Values.{kept_values}
use Rattle.hc_images.proofs.Carrying.{carried-ones}
use Rattle.hc_images.proofs.Outcomes.{are-whole}
use Rattle.hc_images.proofs.outputs.Outputs.change.Goals as goal

pub invariant_of-self : goal.invariant_of-self
invariant_of-self c =
    let moved = c.moves.inside.moved in
    are-whole (moved_table moved) c.carry.new.rows.items c.carry-2.new.rows.items c.carry.ensures.all c.carry-2.ensures.all c.carry.ensures.sizes
    (subst (λ (m : Moves). HasSizes (moved_table m) c.carry-2.new.rows.items) c.carry.ensures.same c.carry-2.ensures.sizes)

pub returns : goal.returns
returns c = λ value before.
    let moved = c.moves.inside.moved in
    let is : moved ≡ c.args.moves = c.moves.view_is in
    let held = subst (λ (m : Moves). HoldsOutputValues m.before value c.args.self.now) (sym is) before in
    let sent = subst (λ (p : Packed). Carries moved.before value p.sent) (sym c.self.view_is) held.sent in
    let masks = subst (λ (p : Packed). Carries moved.before (λ variable k. 1) p.masks) (sym c.self.view_is) held.masks in
    let last = subst (λ (m : Moves). Carries m.before (λ variable k. 1) c.self.inside.masks.items → Carries (moved_table m) (carried_bit m.before (λ variable k. 1) true) c.carry-2.new.rows.items)
    c.carry.ensures.same (c.carry-2.ensures.carried (λ variable k. 1)) masks in
    subst (λ (m : Moves). HoldsOutputValues (moved_table m) (kept_values m.before value) (record { sent = c.carry.new.rows.items; masks = c.carry-2.new.rows.items })) is
    (record {
      sent = c.carry.ensures.carried value sent;
      masks = carried-ones moved.before (moved_table moved) c.carry-2.new.rows.items last;
    })

use Rattle.std.proofs.Common.{◌<◌, ◌∙◌, ℕ, ap, replicate, subst, sym}
use Rattle.hc_images.specs.Packed.{length_in}
use Rattle.hc_images.proofs.Growing.{next-added}
use Rattle.hc_images.proofs.rows.push_room.Goals as goal

pub loop-number-preserved : goal.loop-number-preserved
loop-number-preserved c =
    let n = c.loop-number.number in
    let size = length_in c.args.places.now in
    let table = c.args.table.now in
    let long = c.length_of.ensures.length in
    next-added n size c.args.task table c.args.room.now.items c.loop-number.room.items c.push.new.self.items c.in_ok-zeros.zeros c.loop-number.invariant c.in_ok-push.ensures.items
    (λ longer. c.in_ok-zeros.ensures ∙ ap (λ (m : ℕ). replicate m 0) (c.growth-size.ensures (subst (λ (m : ℕ). size c.args.task n < m) (sym long) longer) ∙ long))

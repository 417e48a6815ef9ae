use Rattle.hc_images.proofs.Outcomes.{are-whole, blank-carries, blank-sizes}
use Rattle.hc_images.proofs.outputs.Outputs.new.Goals as goal

pub invariant_of-result : goal.invariant_of-result
invariant_of-result c =
    let blank = c.in_ok-sent.ensures in
    are-whole c.args.places.now c.in_ok-sent.sent.items c.make_masks.new.rows.items blank.all c.make_masks.ensures.all
    (blank-sizes c.args.places.now c.in_ok-sent.sent.items blank) c.make_masks.ensures.carries.sizes

pub returns : goal.returns
returns c = record { sent = blank-carries c.args.places.now c.in_ok-sent.sent.items c.in_ok-sent.ensures; masks = c.make_masks.ensures.carries }

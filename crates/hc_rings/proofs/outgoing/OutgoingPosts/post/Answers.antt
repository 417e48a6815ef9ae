use Rattle.std.proofs.Common.{[], ◌∷◌, ◌++◌, ◌∙◌, arith, ap, length}
use Rattle.std.proofs.lemmas.List.{length-append}
use Rattle.rtrb.specs.Ring.{sent}
use Rattle.hc_rings.specs.declared.item.Item.TheVariants.{Buffer}
use Rattle.hc_rings.specs.Items.{is_open}
use Rattle.hc_rings.proofs.Items.{is_open_post}
use Rattle.hc_rings.proofs.outgoing.OutgoingPosts.post.Goals as goal

pub invariant_of-self-2 : goal.invariant_of-self-2
invariant_of-self-2 c =
    let before = sent c.args.self.now.ring in
    let post = Buffer c.args.buffer ∷ [] in
    let grown = c.push_reserved.ensures.sent.0 ∙ ap (λ items. items ++ post) c.slots.ensures.looked.1 in
    record {
      not_ended = ap is_open grown ∙ is_open_post before c.args.buffer c.args.self.now.not_ended;
      place_for_end = omega arith;
      places = omega (arith, ap length grown, length-append before post);
      five = c.push_reserved.ensures.ring.1 ∙ (c.slots.ensures.looked.0.1 ∙ c.args.self.now.five);
    }

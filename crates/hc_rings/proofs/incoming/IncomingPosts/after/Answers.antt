use Rattle.std.proofs.Common.{◌≡◌, ◌+◌, ◌∙◌, sym, ap, length, arith}
use Rattle.rtrb.specs.Ring.{received, known_items}
use Rattle.hc_rings.specs.Items.{posts_of}
use Rattle.hc_rings.proofs.Items.{posts_of_append, posts_of_prefix, came_same, known_posts, known_none}
use Rattle.hc_rings.proofs.incoming.IncomingPosts.after.Goals as goal

pub invariant_of-self : goal.invariant_of-self
invariant_of-self c =
    let came = came_same _ _ _ c.slots_after-items.ensures.looked.1 c.args.self.now.came in
    record {
      places = omega arith;
      came = came;
      nothing_after = known_none _ _ _ _ came c.slots_after-items.ensures.fifo c.args.end.now.ended;
    }

pub returns-else-self-clause-known : goal.returns-else-self-clause-known
returns-else-self-clause-known c = posts_of_prefix _ _ c.slots_after-items.ensures.looked.2

pub returns-else-self-clause-split : goal.returns-else-self-clause-split
returns-else-self-clause-split c =
    sym (posts_of_append (received c.slots_after-items.new.self) (known_items c.slots_after-items.new.self)) ∙ ap posts_of c.slots_after-items.ensures.fifo

pub returns-else-self-clause-count : goal.returns-else-self-clause-count
returns-else-self-clause-count c =
    let known = known_items c.slots_after-items.new.self in
    let came = came_same _ _ _ c.slots_after-items.ensures.looked.1 c.args.self.now.came in
    let one : length (posts_of known) + 1 ≡ length known = known_posts _ _ _ _ c.if-self.false came c.slots_after-items.ensures.fifo c.args.end.now.ended in
    (omega (arith, one, c.slots_after-items.ensures.value), omega (arith, one, c.slots_after-items.ensures.value, c.slots_after-items.new.self.counts, c.args.self.now.places, c.slots_after-items.ensures.looked.0.1))

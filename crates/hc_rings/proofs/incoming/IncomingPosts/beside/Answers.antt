use Rattle.std.proofs.Common.{◌≡◌, ◌≤◌, ◌++◌, ◌∙◌, true, false, sym, ap, length, arith}
use Rattle.std.proofs.lemmas.List.{length-append}
use Rattle.rtrb.specs.Ring.{received, known_items}
use Rattle.hc_rings.specs.Items.{posts_of, is_open}
use Rattle.hc_rings.proofs.Items.{posts_of_append, posts_of_prefix, length_posts_of, is_open_before, is_open_after, came_same, none_ended}
use Rattle.hc_rings.proofs.Prefixes.{prefix_trans}
use Rattle.hc_rings.proofs.incoming.IncomingPosts.beside.Goals as goal

pub invariant_of-self : goal.invariant_of-self
invariant_of-self c =
    let items = received c.slots_beside-2.new.self in
    let known = known_items c.slots_beside-2.new.self in
    let same = c.slots_beside-2.ensures.looked.1 ∙ c.slots_beside.ensures.consumer.1 in
    let came = came_same (received c.args.self.now.ring) items c.args.self.now.ended same c.args.self.now.came in
    let all = c.slots_beside-2.ensures.fifo ∙ (c.slots_beside-2.ensures.producer.1 ∙ c.slots_beside.ensures.looked.1) in
    let none_yet : is_open (items ++ known) ≡ true = ap is_open all ∙ c.args.outgoing.now.not_ended in
    let not_ended : c.args.self.now.ended ≡ false = none_ended items c.args.self.now.ended came (is_open_before items known none_yet) in
    record {
      places = omega arith;
      came = came;
      nothing_after = λ (ended : c.args.self.now.ended ≡ true). absurd (cc);
    }

pub returns-clause-known : goal.returns-clause-known
returns-clause-known c = posts_of_prefix _ _ (prefix_trans _ _ _ c.slots_beside.ensures.consumer.2 c.slots_beside-2.ensures.looked.2)

pub returns-clause-split : goal.returns-clause-split
returns-clause-split c =
    sym (posts_of_append (received c.slots_beside-2.new.self) (known_items c.slots_beside-2.new.self)) ∙ ap posts_of c.slots_beside-2.ensures.fifo

pub returns-clause-places : goal.returns-clause-places
returns-clause-places c =
    let items = received c.slots_beside-2.new.self in
    let known = known_items c.slots_beside-2.new.self in
    let all = c.slots_beside-2.ensures.fifo ∙ (c.slots_beside-2.ensures.producer.1 ∙ c.slots_beside.ensures.looked.1) in
    let none_yet : is_open (items ++ known) ≡ true = ap is_open all ∙ c.args.outgoing.now.not_ended in
    let posts = length_posts_of known (is_open_after items known none_yet) in
    omega (
      arith,
      posts,
      c.slots_beside.ensures.all_free,
      c.slots_beside.ensures.value,
      c.slots_beside.ensures.looked.0.1,
      c.args.outgoing.now.five,
      c.slots_beside-2.ensures.producer.2,
      ap length c.slots_beside-2.ensures.fifo,
      ap length c.slots_beside-2.ensures.producer.1,
      length-append items known,
      ap length c.slots_beside-2.ensures.looked.1,
    )

pub returns-clause-count : goal.returns-clause-count
returns-clause-count c =
    let items = received c.slots_beside-2.new.self in
    let known = known_items c.slots_beside-2.new.self in
    let all = c.slots_beside-2.ensures.fifo ∙ (c.slots_beside-2.ensures.producer.1 ∙ c.slots_beside.ensures.looked.1) in
    let none_yet : is_open (items ++ known) ≡ true = ap is_open all ∙ c.args.outgoing.now.not_ended in
    let few : length known ≤ 5 = omega (
      arith,
      c.slots_beside-2.new.self.counts,
      c.args.self.now.places,
      c.slots_beside-2.ensures.looked.0.1,
      c.slots_beside.ensures.consumer.0.1,
    ) in
    (c.slots_beside-2.ensures.value ∙ sym (length_posts_of known (is_open_after items known none_yet)), omega (arith, few))

use Rattle.std.proofs.Common.{rules, ◌∙◌}
use Rattle.hc_rings.proofs.Prefixes.{prefix_trans, prefix_gathered}
use Rattle.hc_rings.specs.Ends.{came_out}
use Rattle.hc_rings.specs.Items.{all_but}
use Rattle.hc_rings.proofs.Whole.{ended_is, none_taken}
use Rattle.hc_rings.proofs.posts.PostReceiver.look_for_end.Goals as goal

pub loop-self-preserved : goal.loop-self-preserved
loop-self-preserved c =
    let self = c.loop-self.self in
    record {
      ring = search rules;
      taken_same = (λ t. all_but (c.push_back_reserved.ensures.items t) (c.in-Some.ensures.some t))
          ∙ (none_taken (came_out self.posts) self.rest.items c.in-Some.buffer self.in_order ∙ c.loop-self.invariant.taken_same);
      none_lost = prefix_trans _ _ _ c.loop-self.invariant.none_lost (prefix_gathered _ _ _ _ _ c.push_back_reserved.ensures.items c.in-Some.ensures.first);
      end_stays = λ posts all.
          let before = c.loop-self.invariant.end_stays posts all in
          (c.next.ensures.ended (ended_is _ posts _ self.posts.came before)).1 ∙ before;
      same_back = c.loop-self.invariant.same_back;
    }

pub returns-in_default-clause-again : goal.returns-in_default-clause-again
returns-in_default-clause-again c = λ posts all.
    let before = c.loop-self.invariant.end_stays posts all in
    (c.next.ensures.ended (ended_is _ posts _ c.loop-self.self.posts.came before)).1 ∙ before

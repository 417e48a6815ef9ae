use Rattle.std.proofs.Common.{rules, ◌≡◌, ◌++◌, List, ap, subst, ◌∙◌}
use Rattle.std.specs.Option.{option_to_list}
use Rattle.hc_rings.specs.Post.{Post}
use Rattle.hc_rings.specs.Ends.{came_out}
use Rattle.hc_rings.specs.Items.{all_but}
use Rattle.hc_rings.proofs.Whole.{ended_is, still_split}
use Rattle.hc_rings.proofs.posts.PostReceiver.take.Goals as goal

pub invariant_of-self : goal.invariant_of-self
invariant_of-self c =
    let all = came_out c.args.self.now.posts in let rest = c.pop_front.new.self.items in
    let popped = c.pop_front.ensures.items ∙ ap (λ o. option_to_list o ++ rest) c.in-Some.is in record {
      four = search rules;
      room = search rules;
      in_order = still_split all rest c.in-Some.buffer (subst (λ (last : List Post). all_but last all ++ last ≡ all) popped c.args.self.now.in_order);
    }

pub returns-clause-end : goal.returns-clause-end
returns-clause-end c = λ posts all. (c.next.ensures.ended (ended_is _ posts _ c.args.self.now.posts.came all)).1 ∙ all

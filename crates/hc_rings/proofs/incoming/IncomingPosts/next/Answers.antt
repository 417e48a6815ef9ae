use Rattle.std.proofs.Common.{◌≡◌, true, ap, ◌∙◌, arith}
use Rattle.hc_rings.specs.Items.{posts_of}
use Rattle.hc_rings.proofs.Items.{posts_of_post, known_post, came_post, came_end, posts_of_end, shut_by_end, known_before_end}
use Rattle.hc_rings.proofs.incoming.IncomingPosts.next.Goals as goal

pub invariant_of-self : goal.invariant_of-self
invariant_of-self c = record {
  places = omega arith;
  came = came_post _ _ _ _ _ c.if-self.false c.args.self.now.came c.in-Ok-Buffer.ensures.ok.0 c.in-Ok-Buffer.field-0-is;
  nothing_after = λ (ended : c.args.self.now.ended ≡ true). absurd (cc);
}

pub unreachable-requires : goal.unreachable-requires
unreachable-requires c = shut_by_end _ _ _ c.in-Ok-End.ensures.ok.0 c.in-Ok-End.field-0-is c.in_default.ensures.ok.2

pub invariant_of-self-in-Ok-End : goal.invariant_of-self-in-Ok-End
invariant_of-self-in-Ok-End c = record {
  places = omega arith;
  came = came_end _ _ _ _ c.if-self.false c.args.self.now.came (c.in-Err-pop.ensures.empty.0 ∙ c.in-Ok-End.ensures.ok.0) c.in-Ok-End.field-0-is;
  nothing_after = λ _. c.in-Err-pop.ensures.empty.1;
}

pub returns-in-Ok-Buffer-clause-some : goal.returns-in-Ok-Buffer-clause-some
returns-in-Ok-Buffer-clause-some c = posts_of_post _ _ _ _ c.in-Ok-Buffer.ensures.ok.0 c.in-Ok-Buffer.field-0-is

pub returns-in-Ok-Buffer-clause-first : goal.returns-in-Ok-Buffer-clause-first
returns-in-Ok-Buffer-clause-first c = known_post _ _ _ _ c.in-Ok-Buffer.ensures.ok.1 c.in-Ok-Buffer.field-0-is

pub returns-in-Err-pop-clause-none : goal.returns-in-Err-pop-clause-none
returns-in-Err-pop-clause-none c = ap posts_of c.in-Err-pop.ensures.empty.0 ∙ posts_of_end _ _ _ c.in-Ok-End.ensures.ok.0 c.in-Ok-End.field-0-is

pub returns-in-Err-pop-clause-none_known : goal.returns-in-Err-pop-clause-none_known
returns-in-Err-pop-clause-none_known c =
    (known_before_end _ _ _ c.in-Ok-End.ensures.ok.1 c.in-Ok-End.field-0-is c.in-Err-pop.ensures.succeeds, ap posts_of c.in-Err-pop.ensures.empty.1)

use Rattle.std.proofs.Common.{rules, length, ap, sym, ◌∙◌}
use Rattle.hc_mail.specs.Contents.{counted}
use Rattle.hc_mail.proofs.Seats.{learns}
use Rattle.hc_mail.proofs.Moves.{is_posed}
use Rattle.hc_mail.proofs.taker.Taker.learn.Goals as goal

pub join_seat-requires : goal.join_seat-requires
join_seat-requires g c = (search rules, search rules, search rules, search rules, learns g.T.Content.kind _ _ _ _ _)

pub invariant_of-self : goal.invariant_of-self
invariant_of-self g c = let kind = g.T.Content.kind in let now = c.join_seat.ensures.2 in let it = c.self.invariant in record {
  seated = c.join_seat.ensures.0 ∙ it.seated;
  sized = it.sized;
  small = it.small;
  looks = is_posed kind _ _ _ _ (ap (λ m. m.0.role) now ∙ ap (λ s. s.me.0.role) it.looks) (ap (λ m. m.1) now ∙ ap (λ s. s.me.1) it.looks);
  counts = it.counts ∙ ap (λ m. counted (length m.0.seen)) (sym now);
}

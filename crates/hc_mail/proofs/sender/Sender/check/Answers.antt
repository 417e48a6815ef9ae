use Rattle.std.proofs.Common.{rules, ap, ◌∙◌}
use Rattle.hc_mail.specs.Rule.{in_hand}
use Rattle.hc_mail.proofs.Seats.{learns}
use Rattle.hc_mail.proofs.Moves.{confirms, is_posed}
use Rattle.hc_mail.proofs.sender.Sender.check.Goals as goal

pub join_seat-requires : goal.join_seat-requires
join_seat-requires g c = (search rules, search rules, search rules, search rules, learns g.T.Content.kind _ _ _ _ _)

pub load-requires : goal.load-requires
load-requires g c = (search rules, search rules, confirms g.T.Content.kind _ _ _ _ _ (ap (λ m. m.0.role) c.join_seat.ensures.2 ∙ ap (λ s. s.me.0.role) c.self.invariant.sends))

pub invariant_of-self : goal.invariant_of-self
invariant_of-self g c = let kind = g.T.Content.kind in let same = c.load.ensures.2.0 in let now = c.join_seat.ensures.2 in let it = c.self.invariant in record {
  seated = c.load.ensures.0 ∙ (c.join_seat.ensures.0 ∙ it.seated);
  sized = it.sized;
  roomy = ap (λ m. kind.room (in_hand kind m.1).content) same ∙ (ap (λ m. kind.room (in_hand kind m.1).content) now ∙ it.roomy);
  small = it.small;
  counts = search rules;
  sends = is_posed kind _ _ _ _ (ap (λ m. m.0.role) same ∙ (ap (λ m. m.0.role) now ∙ ap (λ s. s.me.0.role) it.sends)) (ap (λ m. m.1) same ∙ (ap (λ m. m.1) now ∙ ap (λ s. s.me.1) it.sends));
}

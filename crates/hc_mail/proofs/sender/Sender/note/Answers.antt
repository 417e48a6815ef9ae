use Rattle.std.proofs.Common.{rules, ap, length, ◌∙◌}
use Rattle.hc_mail.specs.Contents.{counted}
use Rattle.hc_mail.specs.Rule.{in_hand}
use Rattle.hc_mail.proofs.Seats.{notes}
use Rattle.hc_mail.proofs.Moves.{is_posed}
use Rattle.hc_mail.proofs.sender.Sender.note.Goals as goal

pub split_seat-place-requires : goal.split_seat-place-requires
split_seat-place-requires g c = (search rules, search rules, notes g.T.Content.kind _ _ _)

pub invariant_of-self : goal.invariant_of-self
invariant_of-self g c = let kind = g.T.Content.kind in let now = c.split_seat-place.ensures.2 in let it = c.self.invariant in record {
  seated = c.split_seat-place.ensures.0 ∙ it.seated;
  sized = it.sized;
  roomy = ap (λ m. kind.room (in_hand kind m.1).content) now ∙ it.roomy;
  small = it.small;
  counts = search rules;
  sends = is_posed kind _ _ _ _ (ap (λ m. m.0.role) now ∙ ap (λ s. s.me.0.role) it.sends) (ap (λ m. m.1) now ∙ ap (λ s. s.me.1) it.sends);
}

use Rattle.std.proofs.Common.{rules, ◌≡◌, length, ◌∷◌, arith, ap, sym, ◌∙◌}
use Rattle.std.specs.Arc.{arc_value}
use Rattle.atomic_table.specs.Table.{rest}
use Rattle.hc_mail.specs.declared.letter.Letter.{Letter}
use Rattle.hc_mail.specs.Contents.{Room, counted, newest}
use Rattle.hc_mail.proofs.Seats.{parts}
use Rattle.hc_mail.proofs.Moves.{enters, waits, is_posed}
use Rattle.hc_mail.proofs.opening.open.Goals as goal

pub split_seat-second-requires : goal.split_seat-second-requires
split_seat-second-requires g c = (search rules, search rules, parts g.T.Content.kind _ _ _ (ap (λ m. m.0.role) c.in_ok-mail.ensures.me))

pub load-requires : goal.load-requires
load-requires g c = let now = c.split_seat-second.ensures.2 in
    (search rules, search rules, enters g.T.Content.kind _ _ _ _ (ap (λ m. m.0.role) now) (ap (λ m. m.1) now ∙ ap (λ m. m.1) c.in_ok-mail.ensures.me))

pub load-requires-2 : goal.load-requires-2
load-requires-2 g c = let now = c.split_seat-second.ensures.4 in (search rules, search rules, waits g.T.Content.kind _ _ _ _ (ap (λ m. m.0.role) now) (ap (λ m. m.1) now))

pub slot_mut-requires : goal.slot_mut-requires
slot_mut-requires g c = let now = c.load.ensures.2 in (search rules, (now.0, ap (λ m. m.1) now.1 ∙ ap (λ m. (0, now.0) ∷ rest m.1) (sym now.1)))

pub invariant_of-sender : goal.invariant_of-sender
invariant_of-sender g c = let now = c.load.ensures.2.1 in let kind = g.T.Content.kind in record {
  seated = search rules;
  sized = search rules;
  roomy = ap (λ (letter : Letter g.row.T.Denot). kind.room letter.content) c.in_ok-own.ensures ∙ ap (λ room. kind.room (kind.blank room)) (sym c.in_ok-mail.ensures.key);
  small = omega arith;
  counts = sym (ap (λ m. counted (length m.0.seen)) now ∙ (ap (λ m. counted (length m.0.seen)) c.split_seat-second.ensures.2 ∙ ap (λ m. counted (length m.0.seen)) c.in_ok-mail.ensures.me));
  sends = is_posed kind _ _ _ _ (ap (λ m. m.0.role) now) (ap (λ m. (0, c.in_ok-own.own) ∷ rest m.1) now);
}

pub invariant_of-taker : goal.invariant_of-taker
invariant_of-taker g c = let now = c.load-2.ensures.2.1 in let kind = g.T.Content.kind in
    let none = ap (λ m. m.0.seen) now ∙ (ap (λ m. m.0.seen) c.split_seat-second.ensures.4 ∙ ap (λ m. m.0.seen) c.in_ok-mail.ensures.me) in record {
      seated = search rules;
      sized = search rules;
      small = omega arith;
      counts = sym (ap (λ seen. counted (length seen)) none);
      looks = is_posed kind _ _ _ _ (ap (λ m. m.0.role) now) (ap (λ m. m.1) now);
    }

pub invariant_of-receiver : goal.invariant_of-receiver
invariant_of-receiver g c = let now = c.load-2.ensures.2.1 in let kind = g.T.Content.kind in
    let none = ap (λ m. m.0.seen) now ∙ (ap (λ m. m.0.seen) c.split_seat-second.ensures.4 ∙ ap (λ m. m.0.seen) c.in_ok-mail.ensures.me) in
    let key : (arc_value c.in_ok-other.other).shared.key ≡ (c.args.bytes, c.args.datagrams) = search rules in
    (c.in_ok-shown.ensures ∙ (λ t. newest kind (sym key t) (sym none t)), ap kind.room c.in_ok-shown.ensures ∙ ap (λ (room : Room). kind.room (kind.blank room)) (sym key))

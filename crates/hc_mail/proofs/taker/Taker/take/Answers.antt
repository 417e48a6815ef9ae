use Rattle.std.proofs.Common.{rules, ℕ, List, ◌∷◌, ◌%◌, ◌≤◌, length, arith, ap, sym, ◌∙◌}
use Rattle.atomic_table.specs.Table.{rest}
use Rattle.hc_mail.specs.declared.letter.Letter.{Letter}
use Rattle.hc_mail.specs.declared.table.Role.TheVariants.{Takes}
use Rattle.std.specs.Arc.{arc_value}
use Rattle.hc_mail.specs.Contents.{counted, newest}
use Rattle.hc_mail.specs.Rule.{in_hand, slot_in}
use Rattle.hc_mail.specs.Ends.{Place, ReceiverEnd}
use Rattle.hc_mail.proofs.Lists.{comes_out, last_of_some}
use Rattle.hc_mail.proofs.Moves.{finds, takes_newer, is_posed}
use Rattle.hc_mail.proofs.taker.Taker.take.Goals as goal

pub load-requires : goal.load-requires
load-requires g c = let was = c.self.invariant.looks in (search rules, search rules, finds g.T.Content.kind _ _ _ _ _ _ (ap (λ s. s.me.0.role) was) (ap (λ s. s.me.1) was))

pub invariant_of-self : goal.invariant_of-self
invariant_of-self g c = let kind = g.T.Content.kind in let it = c.self.invariant in let same = (c.load.ensures.2.0 c.if-load-lt4.true).0 in let was = it.looks in record {
  seated = c.load.ensures.0 ∙ it.seated;
  sized = it.sized;
  small = it.small;
  counts = it.counts ∙ ap (λ m. counted (length m.0.seen)) (sym same);
  looks = is_posed kind _ _ _ _ (ap (λ m. m.0.role) same ∙ ap (λ s. s.me.0.role) was) (ap (λ m. m.1) same ∙ ap (λ s. s.me.1) was);
}

pub slot_mut-requires : goal.slot_mut-requires
slot_mut-requires g c =
    let kind = g.T.Content.kind in let it = c.self.invariant in let newer = c.load.ensures.2.1 c.if-load-lt4.false in let idle = in_hand kind c.self.inside.seat.me.1 in
    let hand = ap (λ m. m.1) newer ∙ ap (λ s. s.me.1) it.looks in
    (search rules, (idle, hand ∙ ap (λ (others : List (ℕ × Letter g.row.T.Denot)). (c.self.inside.slot, idle) ∷ others) (sym (ap rest hand))))

pub swap-word-requires : goal.swap-word-requires
swap-word-requires g c =
    let kind = g.T.Content.kind in let was = c.self.invariant.looks in let newer = c.load.ensures.2.1 c.if-load-lt4.false in
    let letter : Letter g.row.T.Denot = record { number = c.slot_mut.result.now.number; content = c.exchange.new.content } in (
      search rules,
      search rules,
      takes_newer kind _ _ _ _ _ letter (ap (λ m. m.0.role) newer ∙ ap (λ (s : Place g.row.T.Denot). Takes (slot_in s.me.1)) was)
          (ap (λ m. (c.self.inside.slot, letter) ∷ rest m.1) newer ∙ ap (λ (s : Place g.row.T.Denot). (c.self.inside.slot, letter) ∷ rest s.me.1) was)
          (ap kind.room c.exchange.ensures.given ∙ (c.requires ∙ ap (λ (end : ReceiverEnd g.row.T.Denot). kind.room (kind.blank end.room)) (sym c.self.view_is) ∙ ap (λ table. kind.room (kind.blank table.shared.key)) (sym c.deref.ensures))),
    )

pub slot_mut-letter-requires : goal.slot_mut-letter-requires
slot_mut-letter-requires g c = let got = c.swap-word.ensures.2 in
    (search rules, (got.2, ap (λ m. m.1) got.8 ∙ ap (λ m. (c.swap-word.result % 4, got.2) ∷ rest m.1) (sym got.8)))

pub returns-clause-newest : goal.returns-clause-newest
returns-clause-newest g c =
    let kind = g.T.Content.kind in let got = c.swap-word.ensures.2 in let longer = got.5 in let key = (arc_value c.self.inside.mail).shared.key in
    let back = comes_out kind _ _ _ _ _ got.2 _ (ap (λ m. m.1) got.8) c.slot_mut-letter.ensures.value in
    let some : 1 ≤ length got.1 = omega (arith, longer) in λ _.
    c.exchange-2.ensures.taken ∙ (ap (λ (letter : Letter g.row.T.Denot). letter.content) (back ∙ got.6)
    ∙ (last_of_some (kind.blank got.0) (kind.blank key) got.1 some ∙ ap (λ m. newest kind key m.0.seen) (sym got.8)))

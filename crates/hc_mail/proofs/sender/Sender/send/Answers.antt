use Rattle.std.proofs.Common.{rules, [], ◌∷◌, ◌++◌, ◌+◌, ◌%◌, ◌^◌, length, arith, ap, sym, ◌∙◌}
use Rattle.atomic_table.specs.Table.{rest}
use Rattle.hc_mail.specs.declared.letter.Letter.{Letter}
use Rattle.hc_mail.specs.Contents.{counted}
use Rattle.hc_mail.specs.Ends.{Place, SenderEnd, reported, seen}
use Rattle.hc_mail.specs.Rule.{in_hand}
use Rattle.hc_mail.proofs.Lists.{count_one_more}
use Rattle.hc_mail.proofs.Moves.{has_slot, sends, is_posed}
use Rattle.hc_mail.proofs.sender.Sender.send.Goals as goal

pub slot_mut-requires : goal.slot_mut-requires
slot_mut-requires g c = (search rules, (in_hand g.T.Content.kind c.self.inside.seat.me.1, has_slot g.T.Content.kind _ _ _ c.self.invariant.sends))

pub swap-word-requires : goal.swap-word-requires
swap-word-requires g c =
    let kind = g.T.Content.kind in let it = c.self.invariant in let inside = c.self.inside in
    let letter : Letter g.row.T.Denot = record { number = (inside.count + 1) % 2 ^ 64; content = c.slot_mut.result.now.content } in (
      search rules,
      search rules,
      sends kind _ _ _ _ inside.slot letter (ap (λ (s : Place g.row.T.Denot). s.me.0.role) it.sends) (ap (λ (s : Place g.row.T.Denot). (inside.slot, letter) ∷ rest s.me.1) it.sends)
          (sym (ap (λ hand. kind.room (in_hand kind hand).content) c.slot_mut.ensures.value) ∙ (it.roomy ∙ ap (λ table. kind.room (kind.blank table.shared.key)) (sym c.deref.ensures))) (count_one_more _ _ _ it.counts),
    )

pub invariant_of-self : goal.invariant_of-self
invariant_of-self g c = let kind = g.T.Content.kind in let it = c.self.invariant in let got = c.swap-word.ensures.2 in record {
  seated = c.swap-word.ensures.0 ∙ it.seated;
  sized = it.sized;
  roomy = ap (λ m. kind.room (in_hand kind m.1).content) got.2 ∙ (got.1 ∙ (sym (ap (λ hand. kind.room (in_hand kind hand).content) c.slot_mut.ensures.value) ∙ it.roomy));
  small = omega arith;
  counts = count_one_more _ _ _ it.counts ∙ sym (ap (λ m. counted (length m.0.seen)) got.2);
  sends = is_posed kind _ _ _ got.0 (ap (λ m. m.0.role) got.2) (ap (λ m. m.1) got.2);
}

pub returns-clause-number : goal.returns-clause-number
returns-clause-number g c = let got = c.swap-word.ensures.2 in count_one_more _ _ _ c.self.invariant.counts ∙ sym (ap (λ m. counted (length m.0.seen)) got.2)

pub returns-clause-sent : goal.returns-clause-sent
returns-clause-sent g c = let kind = g.T.Content.kind in let got = c.swap-word.ensures.2 in
    ap (λ m. m.0.seen) got.2
    ∙ (ap (λ hand. seen c.self.inside.seat ++ (in_hand kind hand).content ∷ []) (sym c.slot_mut.ensures.value) ∙ ap (λ (end : SenderEnd g.row.T.Denot). seen end.place ++ end.own ∷ []) c.self.view_is)

pub returns-clause-table : goal.returns-clause-table
returns-clause-table g c = let got = c.swap-word.ensures.2 in let was = c.self.view_is in (
  c.swap-word.ensures.0 ∙ ap (λ (end : SenderEnd g.row.T.Denot). end.place.table_id) was,
  ap (λ m. m.0.reported) got.2 ∙ ap (λ (end : SenderEnd g.row.T.Denot). reported end.place) was,
)

pub returns-clause-room : goal.returns-clause-room
returns-clause-room g c = let kind = g.T.Content.kind in let got = c.swap-word.ensures.2 in
    ap (λ m. kind.room (in_hand kind m.1).content) got.2
    ∙ (got.1 ∙ (sym (ap (λ hand. kind.room (in_hand kind hand).content) c.slot_mut.ensures.value) ∙ ap (λ (end : SenderEnd g.row.T.Denot). kind.room end.own) c.self.view_is))

use Rattle.std.proofs.Common.{◌++◌, [], ◌∷◌, All, List, length, refl, sym, ap, subst, arith}
use Rattle.std.proofs.lemmas.List.Elements.{All-append, All-cons, All-nil}
use mathlib.Core.List.{IsPrefix}
use Rattle.hc_rings.specs.declared.posts.PostReceiver.{PostReceiver}
use Rattle.hc_rings.specs.declared.posts.PostSender.{PostSender}
use Rattle.hc_rings.specs.Post.{Post, post_count}
use Rattle.hc_rings.specs.Ring.{posted}
use Rattle.hc_conductor.specs.Openings.{AreEnds, IsUnused}
use Rattle.hc_conductor.specs.Together.{EachRing, LostNoBuffer}
use Rattle.hc_conductor.proofs.Ends.{each-more, ends-more}
use Rattle.hc_conductor.proofs.opening.rings.Goals as goal

pub loop-init : goal.loop-init
loop-init c = record {
  senders = omega (arith, c.in_ok-senders.ensures.len);
  receivers = omega (arith, c.in_ok-receivers.ensures.len);
  room = omega (arith, c.in_ok-senders.ensures.capacity);
  place = omega (arith, c.in_ok-receivers.ensures.capacity);
  ends = subst (λ (ss : List PostSender). AreEnds ss c.in_ok-receivers.receivers.items) (sym c.in_ok-senders.ensures.items) (subst (λ (rs : List PostReceiver). AreEnds [] rs) (sym c.in_ok-receivers.ensures.items) tt);
  unused = subst (All IsUnused) (sym c.in_ok-senders.ensures.items) (All-nil IsUnused);
  whole = subst (λ (ss : List PostSender). EachRing LostNoBuffer ss c.in_ok-receivers.receivers.items) (sym c.in_ok-senders.ensures.items)
      (subst (λ (rs : List PostReceiver). EachRing LostNoBuffer [] rs) (sym c.in_ok-receivers.ensures.items) tt);
}

pub loop-preserved : goal.loop-preserved
loop-preserved c =
    let i = c.loop.invariant in
    let s = c.in_ok-sender.sender in
    let r = c.in_ok-sender.receiver in
    let unused : IsUnused s = (c.in_ok-sender.ensures.sender.0, c.in_ok-sender.ensures.sender.2, omega (arith, ap length c.in_ok-sender.ensures.sender.0, c.in_ok-sender.ensures.sender.1, ap post_count c.in_ok-sender.ensures.sender.2)) in
    let whole : LostNoBuffer s r = record {
      ends = c.in_ok-sender.ensures.ends;
      each = unused.2;
      back = omega (arith, c.in_ok-sender.ensures.receiver.2, ap length c.in_ok-sender.ensures.receiver.0);
      order = subst (λ (posts : List Post). IsPrefix posts (posted s)) (sym c.in_ok-sender.ensures.receiver.0) (posted s, refl);
    } in
    record {
      senders = omega (arith, c.push_reserved.ensures.len, i.senders);
      receivers = omega (arith, c.push_reserved-in-loop.ensures.len, i.receivers);
      room = omega (arith, c.push_reserved.ensures.capacity, i.room);
      place = omega (arith, c.push_reserved-in-loop.ensures.capacity, i.place);
      ends =
          subst (λ (ss : List PostSender). AreEnds ss c.push_reserved-in-loop.new.self.items) (sym c.push_reserved.ensures.items)
          (subst (λ (rs : List PostReceiver). AreEnds (c.loop.senders.items ++ s ∷ []) rs) (sym c.push_reserved-in-loop.ensures.items)
          (ends-more c.loop.senders.items c.loop.receivers.items s r i.ends c.in_ok-sender.ensures.ends));
      unused = subst (All IsUnused) (sym c.push_reserved.ensures.items) (All-append IsUnused c.loop.senders.items (s ∷ []) i.unused (All-cons IsUnused s [] unused (All-nil IsUnused)));
      whole =
          subst (λ (ss : List PostSender). EachRing LostNoBuffer ss c.push_reserved-in-loop.new.self.items) (sym c.push_reserved.ensures.items)
          (subst (λ (rs : List PostReceiver). EachRing LostNoBuffer (c.loop.senders.items ++ s ∷ []) rs) (sym c.push_reserved-in-loop.ensures.items)
          (each-more LostNoBuffer c.loop.senders.items c.loop.receivers.items s r i.whole whole));
    }

-- The ends of a ring stay the same ones.
use Rattle.std.proofs.Common.{refl, sym, ◌∙◌}
use Rattle.hc_rings.specs.Ring.{ArePostEnds, SameReceiver, SameSender}
use Rattle.hc_rings.specs.declared.posts.PostSender.{PostSender}
use Rattle.hc_rings.specs.declared.posts.PostReceiver.{PostReceiver}

pub receiver-same : (r : PostReceiver) → SameReceiver r r
receiver-same r = (((refl, refl, refl, refl), refl), ((refl, refl, refl, refl), refl))

-- and the two ends of a ring stay its ends
pub ends-still : (s s' : PostSender) (r r' : PostReceiver) → ArePostEnds s r → SameSender s s' → SameReceiver r r' → ArePostEnds s' r'
ends-still s s' r r' ends sender receiver =
    let posts = ends.0 in let s-posts = sender.0.0 in let r-posts = receiver.0.0 in
    let spares = ends.1 in let s-spares = sender.1.0 in let r-spares = receiver.1.0 in (
      (
        r-posts.0 ∙ (posts.0 ∙ sym s-posts.0),
        r-posts.1 ∙ (posts.1 ∙ sym s-posts.1),
        r-posts.2 ∙ (posts.2 ∙ sym s-posts.2),
        r-posts.3 ∙ (posts.3 ∙ sym s-posts.3),
      ),
      (
        s-spares.0 ∙ (spares.0 ∙ sym r-spares.0),
        s-spares.1 ∙ (spares.1 ∙ sym r-spares.1),
        s-spares.2 ∙ (spares.2 ∙ sym r-spares.2),
        s-spares.3 ∙ (spares.3 ∙ sym r-spares.3),
      ),
    )

pub sender-same : (s : PostSender) → SameSender s s
sender-same s = (((refl, refl, refl, refl), refl), ((refl, refl, refl, refl), refl))

pub sender-still : (a b c : PostSender) → SameSender a b → SameSender b c → SameSender a c
sender-still a b c first second =
    let posts = first.0.0 in let posts' = second.0.0 in let spares = first.1.0 in let spares' = second.1.0 in (
      ((posts'.0 ∙ posts.0, posts'.1 ∙ posts.1, posts'.2 ∙ posts.2, posts'.3 ∙ posts.3), second.0.1 ∙ first.0.1),
      ((spares'.0 ∙ spares.0, spares'.1 ∙ spares.1, spares'.2 ∙ spares.2, spares'.3 ∙ spares.3), second.1.1 ∙ first.1.1),
    )

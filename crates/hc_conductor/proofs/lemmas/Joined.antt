-- Rings whose ends stay joined, whatever a conductor takes at the one end and a seat does at the other.
use Rattle.std.proofs.Common.{ℕ, List, [], ◌∷◌, length, ap, arith}
use Rattle.std.proofs.lemmas.List.{length-append}
use Rattle.hc_rings.specs.declared.posts.PostReceiver.{PostReceiver}
use Rattle.hc_rings.specs.declared.posts.PostSender.{PostSender}
use Rattle.hc_rings.specs.Post.{Post}
use Rattle.hc_rings.specs.Ring.{taken}
use Rattle.hc_rings.proofs.lemmas.Same.{ends-still, sender-same}
use Rattle.hc_conductor.specs.Taking.{AreTaken, AreTakenFrom}
use Rattle.hc_conductor.specs.Together.{AreJoined, EachRing, LostNoBuffer}

-- a ring that lost no buffer
pub whole-joined : (ss : List PostSender) (rs : List PostReceiver) → EachRing LostNoBuffer ss rs → EachRing AreJoined ss rs
whole-joined [] [] each = tt
whole-joined (s ∷ ss) (r ∷ rs) each =
    let back = each.0.back in
    (record { ends = each.0.ends; each = each.0.each; back = omega (arith, back) }, whole-joined ss rs each.1)
whole-joined [] (r ∷ rs) each = absurd each
whole-joined (s ∷ ss) [] each = absurd each

-- posts are taken
ring-taken-joined : (most : ℕ) (s : PostSender) (r r' : PostReceiver) (posts : List Post) → AreJoined s r → AreTakenFrom most r r' posts → AreJoined s r'
ring-taken-joined most s r r' posts is came =
    let back = is.back in
    let more = came.no_more in
    record {
      ends = ends-still s s r r' is.ends (sender-same s) came.ring;
      each = is.each;
      back = omega (arith, back, more, ap length came.taken, length-append (taken r) posts);
    }

pub taken-joined : (ss : List PostSender) (rs rs' : List PostReceiver) (posts : List (List Post)) → EachRing AreJoined ss rs → AreTaken rs rs' posts → EachRing AreJoined ss rs'
taken-joined [] [] [] posts each came = tt
taken-joined (s ∷ ss) (r ∷ rs) (r' ∷ rs') (ps ∷ posts) each came = (ring-taken-joined _ s r r' ps each.0 came.0, taken-joined ss rs rs' posts each.1 came.1)
taken-joined [] [] (r' ∷ rs') posts each came = absurd came
taken-joined [] (r ∷ rs) rs' posts each came = absurd each
taken-joined (s ∷ ss) [] rs' posts each came = absurd each
taken-joined (s ∷ ss) (r ∷ rs) [] posts each came = absurd came
taken-joined (s ∷ ss) (r ∷ rs) (r' ∷ rs') [] each came = absurd came

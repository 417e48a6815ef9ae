-- Rings of posts by their two ends.
use Rattle.std.proofs.Common.{List, [], ◌∷◌, ◌++◌}
use Rattle.hc_rings.specs.Ring.{ArePostEnds}
use Rattle.hc_rings.specs.declared.posts.PostReceiver.{PostReceiver}
use Rattle.hc_rings.specs.declared.posts.PostSender.{PostSender}
use Rattle.hc_conductor.specs.Openings.{AreEnds}
use Rattle.hc_conductor.specs.Together.{EachRing}

-- one ring more
pub ends-more : (ss : List PostSender) (rs : List PostReceiver) (s : PostSender) (r : PostReceiver) → AreEnds ss rs → ArePostEnds s r → AreEnds (ss ++ s ∷ []) (rs ++ r ∷ [])
ends-more [] [] s r ends one = (one, tt)
ends-more (s' ∷ ss) (r' ∷ rs) s r ends one = (ends.0, ends-more ss rs s r ends.1 one)
ends-more [] (r' ∷ rs) s r ends one = absurd ends
ends-more (s' ∷ ss) [] s r ends one = absurd ends

pub each-more : (P : PostSender → PostReceiver → Type 0) (ss : List PostSender) (rs : List PostReceiver) (s : PostSender) (r : PostReceiver) → EachRing P ss rs → P s r → EachRing P (ss ++ s ∷ []) (rs ++ r ∷ [])
each-more P [] [] s r each one = (one, tt)
each-more P (s' ∷ ss) (r' ∷ rs) s r each one = (each.0, each-more P ss rs s r each.1 one)
each-more P [] (r' ∷ rs) s r each one = absurd each
each-more P (s' ∷ ss) [] s r each one = absurd each

-- A conductor and all its seats in one thread: the posts between them are known.
use Rattle.std.specs.Prelude.{◌≡◌, ◌+◌, ◌≤◌, List, [], ◌∷◌, drop, length}
use mathlib.Core.List.{IsPrefix}
use Rattle.hc_rings.specs.declared.posts.TheConstants.{POSTS_WAITING, SPARE_BUFFERS}
use Rattle.hc_rings.specs.declared.posts.PostReceiver.{PostReceiver}
use Rattle.hc_rings.specs.declared.posts.PostSender.{PostSender}
use Rattle.hc_rings.specs.Post.{Post, post_count}
use Rattle.hc_rings.specs.Ring.{ArePostEnds, PostsEach, given_back, held, known_places, known_spares, left, posted, spare_places, taken}

-- the posts that wait to be taken, the oldest first
abbrev pub waiting_between : PostSender → PostReceiver → List Post
waiting_between s r = drop (length (taken r)) (posted s)

-- the posts of each ring that wait to be taken
abbrev pub posts_waiting : List PostSender → List PostReceiver → List (List Post)
posts_waiting [] rs = []
posts_waiting (s ∷ ss) [] = []
posts_waiting (s ∷ ss) (r ∷ rs) = waiting_between s r ∷ posts_waiting ss rs

-- the two ends of one ring, with seat and conductor: each buffer that was handed out was posted or is held, and no more came back than the first four and those that were taken
pub record AreJoined (s : PostSender) (r : PostReceiver) : Type 0 where
  pub ends : ArePostEnds s r
  pub each : PostsEach s
  pub back : length (given_back r) ≤ SPARE_BUFFERS + length (taken r)

-- the two ends of one ring that lost no buffer: each that was handed out was posted or is held, and each that was taken came back
pub record LostNoBuffer (s : PostSender) (r : PostReceiver) : Type 0 where
  pub ends : ArePostEnds s r
  pub each : PostsEach s
  pub back : length (given_back r) ≡ SPARE_BUFFERS + length (taken r)
  pub order : IsPrefix (taken r) (posted s)

-- each end of a ring knows what the other did: the taken posts are the first of those that were made, and those that wait are
-- known to be left; each buffer that came back is known, and so is each place
pub record KnowAll (s : PostSender) (r : PostReceiver) : Type 0 where
  pub joined : AreJoined s r
  pub order : IsPrefix (taken r) (posted s)
  pub left_are : left r ≡ waiting_between s r
  pub spares : known_spares s + post_count (held s) + length (left r) + length (taken r) ≡ length (given_back r)
  pub places : POSTS_WAITING + 1 ≤ known_places s + length (left r)
  pub room : length (left r) ≤ spare_places r

-- the two ends of rings, one by one
abbrev pub EachRing : (PostSender → PostReceiver → Type 0) → List PostSender → List PostReceiver → Type 0
EachRing P [] [] = Unit {0}
EachRing P (s ∷ ss) (r ∷ rs) = P s r × EachRing P ss rs
EachRing P ss rs = ⊥

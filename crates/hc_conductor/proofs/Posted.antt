-- Rings whose ends look at each other; in one ring one post more waits.
use Rattle.std.proofs.Common.{◌≡◌, ℕ, zero, suc, ◌<◌, ◌≤◌, List, [], ◌∷◌, ◌++◌, length, get_or, set, drop, refl, sym, ap, ◌∙◌, arith, append_assoc}
use Rattle.std.proofs.lemmas.List.{drop-append-le, length-append}
use Rattle.hc_rings.specs.declared.posts.PostReceiver.{PostReceiver}
use Rattle.hc_rings.specs.declared.posts.PostSender.{PostSender}
use Rattle.hc_rings.specs.Post.{Post}
use Rattle.hc_rings.specs.Ring.{PostsEach, SameSender, posted, taken}
use Rattle.hc_rings.proofs.lemmas.Same.{ends-still, receiver-same}
use Rattle.hc_conductor.specs.Together.{EachRing, LostNoBuffer, KnowAll, posts_waiting, waiting_between}
use Rattle.hc_conductor.specs.Posting.{with_post}

-- the ring of a task, where all is known and no buffer was lost
pub record KnownAt (ss : List PostSender) (rs : List PostReceiver) (i : ℕ) (d : PostSender) : Type 0 where
  pub ring : PostReceiver
  pub know : KnowAll (get_or ss i d) ring
  pub whole : LostNoBuffer (get_or ss i d) ring
  pub waits : get_or (posts_waiting ss rs) i [] ≡ waiting_between (get_or ss i d) ring

pub known-at : (ss : List PostSender) (rs : List PostReceiver) (i : ℕ) (d : PostSender) → EachRing KnowAll ss rs → EachRing LostNoBuffer ss rs → i < length ss → KnownAt ss rs i d
known-at [] rs i d each all low = absurd (omega arith)
known-at (s ∷ ss) [] i d each all low = absurd each
known-at (s ∷ ss) (r ∷ rs) zero d each all low = record { ring = r; know = each.0; whole = all.0; waits = refl }
known-at (s ∷ ss) (r ∷ rs) (suc i) d each all low =
    let rest = known-at ss rs i d each.1 all.1 (omega arith) in
    record { ring = rest.ring; know = rest.know; whole = rest.whole; waits = rest.waits }

-- one post more
pub record PostsOne (s t : PostSender) (post : Post) : Type 0 where
  pub sender : SameSender s t
  pub one : posted t ≡ posted s ++ post ∷ []
  pub each : PostsEach s → PostsEach t

ring-posted : (s t : PostSender) (r : PostReceiver) (post : Post) → LostNoBuffer s r → PostsOne s t post → LostNoBuffer t r
ring-posted s t r post is one = record {
  ends = ends-still s t r r is.ends one.sender (receiver-same r);
  each = one.each is.each;
  back = is.back;
  order = (is.order.0 ++ post ∷ [], sym (append_assoc (taken r) is.order.0 (post ∷ [])) ∙ (ap (λ ps. ps ++ post ∷ []) is.order.1 ∙ sym one.one));
}

ring-waits : (s t : PostSender) (r : PostReceiver) (post : Post) → LostNoBuffer s r → PostsOne s t post → waiting_between t r ≡ waiting_between s r ++ post ∷ []
ring-waits s t r post is one =
    let long : length (taken r) ≤ length (posted s) = omega (arith, ap length is.order.1, length-append (taken r) is.order.0) in
    ap (drop (length (taken r))) one.one ∙ drop-append-le (length (taken r)) (posted s) (post ∷ []) long

-- the rings after a post of a task
pub record PostedAt (ss : List PostSender) (rs : List PostReceiver) (i : ℕ) (t : PostSender) (post : Post) : Type 0 where
  pub whole : EachRing LostNoBuffer (set ss i t) rs
  pub waiting : posts_waiting (set ss i t) rs ≡ with_post i post (posts_waiting ss rs)

pub posted-at : (ss : List PostSender) (rs : List PostReceiver) (i : ℕ) (d t : PostSender) (post : Post) → EachRing LostNoBuffer ss rs → i < length ss → PostsOne (get_or ss i d) t post → PostedAt ss rs i t post
posted-at [] rs i d t post each low one = absurd (omega arith)
posted-at (s ∷ ss) [] i d t post each low one = absurd each
posted-at (s ∷ ss) (r ∷ rs) zero d t post each low one = record {
  whole = (ring-posted s t r post each.0 one, each.1);
  waiting = ap (λ (ps : List Post). ps ∷ posts_waiting ss rs) (ring-waits s t r post each.0 one);
}
posted-at (s ∷ ss) (r ∷ rs) (suc i) d t post each low one =
    let rest = posted-at ss rs i d t post each.1 (omega arith) one in
    record { whole = (each.0, rest.whole); waiting = ap (λ (pss : List (List Post)). waiting_between s r ∷ pss) rest.waiting }

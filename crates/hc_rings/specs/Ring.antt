-- The model of the two ends of a ring of posts: the posts that were posted, those that were taken, and those that are left.
use Rattle.std.specs.Prelude.{◌≡◌, ◌+◌, ◌-◌, ◌⊎◌, ℕ, List, ◌++◌, length, true, Option, Some, None}
use Rattle.rtrb.specs.Ring.{sent, received, known_free, known_items, IsPair, SameProducer, SameConsumer}
use Rattle.hc_rings.specs.Post.{Post, post_count}
use Rattle.hc_rings.specs.Items.{all_but, items_of}
use Rattle.hc_rings.specs.Ends.{put_in, came_out, known_ahead}
use Rattle.hc_rings.specs.declared.posts.TheConstants.{POSTS_WAITING, SPARE_BUFFERS}
use Rattle.hc_rings.specs.declared.posts.PostSender.{PostSender}
use Rattle.hc_rings.specs.declared.posts.PostReceiver.{PostReceiver}

-- every post that the sender has posted, oldest first
abbrev pub posted : PostSender → List Post
posted s = put_in s.posts

-- the number of posts that the sender knows a place for, with the place of the end that it leaves
abbrev pub known_places : PostSender → ℕ
known_places s = known_free s.posts.ring

-- the number of spare buffers that the sender knows of
abbrev pub known_spares : PostSender → ℕ
known_spares s = length (known_items s.spares.ring)

-- the number of buffers that were handed out to be filled
abbrev pub handed_out : PostSender → ℕ
handed_out s = length (received s.spares.ring)

-- the post that the sender holds a buffer for, as it is in it
abbrev pub held : PostSender → Option Post
held s = s.held

-- the sender now holds this post, in the buffer that it held before or in one that was handed out to it
abbrev pub HoldsThisPost : PostSender → PostSender → Post → Type 0
HoldsThisPost old new post = (held new ≡ Some post) × (handed_out new + post_count (held old) ≡ handed_out old + 1)

-- each buffer that was handed out was posted or is held: so it is as long as `buffer` is unused
abbrev pub PostsEach : PostSender → Type 0
PostsEach s = handed_out s ≡ length (posted s) + post_count (held s)

-- the number of its buffers that the sender has seen come back: those that were handed out or are spare, without the four of
-- the opening
abbrev pub seen_back : PostSender → ℕ
seen_back s = (handed_out s + known_spares s) - SPARE_BUFFERS

-- the number of its posts that the sender has seen taken out of the ring: each leaves a place
abbrev pub seen_taken : PostSender → ℕ
seen_taken s = (known_places s + length (posted s)) - (POSTS_WAITING + 1)

-- all of its posts but four were taken, as far as it has seen: their buffers came back, or they are out of the ring
abbrev pub FourWait : PostSender → Type 0
FourWait s = (length (posted s) ≡ seen_back s + SPARE_BUFFERS) ⊎ (length (posted s) ≡ seen_taken s + POSTS_WAITING)

-- every post that the receiver has taken, oldest first: all that came out of the ring but those that wait in `rest`
abbrev pub taken : PostReceiver → List Post
taken r = all_but r.rest.items (came_out r.posts)

-- the posts that the receiver knows to be left, oldest first: the next that it takes
abbrev pub left : PostReceiver → List Post
left r = r.rest.items ++ known_ahead r.posts

-- the end came out of the ring after these posts: nothing else came, and nothing follows the end
abbrev pub EndCameAfter : PostReceiver → List Post → Type 0
EndCameAfter r posts = received r.posts.ring ≡ items_of posts true

-- the two ends of one ring of posts, with the ring of the spare buffers that go back
abbrev pub ArePostEnds : PostSender → PostReceiver → Type 0
ArePostEnds s r = IsPair s.posts.ring r.posts.ring × IsPair r.spares s.spares.ring

-- every buffer that the receiver has given back, after the spares that the ring was made with
abbrev pub given_back : PostReceiver → List Post
given_back r = sent r.spares

-- the number of buffers to give back that the receiver knows a place for
abbrev pub spare_places : PostReceiver → ℕ
spare_places r = known_free r.spares

-- two senders are one end of the same two rings
abbrev pub SameSender : PostSender → PostSender → Type 0
SameSender old new = SameProducer old.posts.ring new.posts.ring × SameConsumer old.spares.ring new.spares.ring

-- both are the receiving end of one ring, of its posts and of its spare buffers, with as many places; what went through may differ
abbrev pub SameReceiver : PostReceiver → PostReceiver → Type 0
SameReceiver old new = SameConsumer old.posts.ring new.posts.ring × SameProducer old.spares new.spares

-- the sender is as it was before, but for the post that it now holds
abbrev pub HoldsPost : PostSender → PostSender → Post → Type 0
HoldsPost old new post = SameSender old new × (posted new ≡ posted old) × HoldsThisPost old new post × (PostsEach old → PostsEach new)

-- the sender is as it was before, and it holds nothing
abbrev pub HoldsNothing : PostSender → PostSender → Type 0
HoldsNothing old new = SameSender old new × (posted new ≡ posted old) × (handed_out new ≡ handed_out old) × (held old ≡ None) × (held new ≡ None)

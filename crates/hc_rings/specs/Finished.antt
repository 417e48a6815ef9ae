-- The model of the end that a sender leaves as it finishes.
use Rattle.std.specs.Prelude.{List}
use Rattle.rtrb.specs.Ring.{all_sent, IsFinishedOf}
use Rattle.hc_rings.specs.Post.{Post}
use Rattle.hc_rings.specs.Items.{posts_of}
use Rattle.hc_rings.specs.declared.posts.PostReceiver.{PostReceiver}
use Rattle.hc_rings.specs.declared.posts.finishing.PostsEnd.{PostsEnd}

-- every post that the sender ever posted, oldest first
abbrev pub all_posted : PostsEnd → List Post
all_posted end = posts_of (all_sent end.items)

-- the end of the receiver's own ring
abbrev pub IsEndOf : PostsEnd → PostReceiver → Type 0
IsEndOf end r = IsFinishedOf end.items r.posts.ring

-- Laws that follow from the definitions.
use Rattle.std.specs.Prelude.{◌≡◌, ℕ, List, ◌++◌, length}
use Rattle.hc_rings.specs.Post.{Post, overwritten}
use Rattle.hc_rings.specs.Ring.{taken, left, EndCameAfter}
use Rattle.hc_rings.specs.declared.posts.PostReceiver.{PostReceiver}

-- if the end came after some posts, those that were taken, followed by those that are left, are these posts
abbrev pub TakenThenLeftIsPosted : Type 0
TakenThenLeftIsPosted = (r : PostReceiver) (posts : List Post) → EndCameAfter r posts → taken r ++ left r ≡ posts

-- as many bytes as there are, written over all of them, are what then is there
abbrev pub WrittenBytesAreThere : Type 0
WrittenBytesAreThere = (bytes written : List ℕ) → length written ≡ length bytes → overwritten bytes written ≡ written

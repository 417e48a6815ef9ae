-- A ring whose end came.
use Rattle.std.proofs.Common.{◌≡◌, List, ◌++◌, ◌∙◌}
use Rattle.rtrb.specs.Ring.{received}
use Rattle.hc_rings.specs.Post.{Post}
use Rattle.hc_rings.specs.Ring.{taken, left, EndCameAfter}
use Rattle.hc_rings.specs.declared.posts.PostReceiver.{PostReceiver}
use Rattle.hc_rings.proofs.Whole.{ended_is, posts_are, whole}

-- what was taken, followed by what is left, is what the end came after
pub taken_then_left : (r : PostReceiver) (posts : List Post) → EndCameAfter r posts → taken r ++ left r ≡ posts
taken_then_left r posts all =
    let items = received r.posts.ring in
    let none = r.posts.nothing_after (ended_is items posts r.posts.ended r.posts.came all) in
    whole (taken r) r.rest.items _ _ r.in_order none ∙ posts_are items posts all

use Rattle.std.proofs.Common.{◌≡◌, ◌-◌, List}
use Rattle.hc_rings.specs.Post.{Post}
use mathlib.Core.List.{IsPrefix}
use Rattle.std.specs.VecDeque.{deque_len}
use Rattle.hc_rings.specs.Ring.{taken, left, given_back, EndCameAfter, SameReceiver}
use Rattle.hc_rings.proofs.posts.PostReceiver.look_for_end.Given as goal

abbrev pub invariant-loop-self : goal.invariant-loop-self
invariant-loop-self l = record {
  ring : SameReceiver l.fn.self l.self;
  taken_same : taken l.self ≡ taken l.fn.self;
  none_lost : IsPrefix (left l.fn.self) (left l.self);
  end_stays : (posts : List Post) → EndCameAfter l.fn.self posts → EndCameAfter l.self posts;
  same_back : given_back l.self ≡ given_back l.fn.self;
}

abbrev pub decreases-loop-self : goal.decreases-loop-self
decreases-loop-self l = 5 - deque_len l.self.rest

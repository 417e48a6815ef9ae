-- Outputs that a seat holds and posts.
use Rattle.std.specs.Prelude.{◌≡◌, ℕ, List, Result}
use Rattle.std.specs.Borrow.{Lends, LendsSoOk, MutBor, Fml, Array, u8}
use Rattle.hc_rings.specs.declared.posts.sending.NoSpare.{NoSpare}
use Rattle.hc_rings.specs.Lending.{held_written}
use Rattle.hc_rings.specs.Post.{Post, blank_post, post_with_written}
use Rattle.hc_rings.specs.Ring.{HoldsNothing, HoldsPost}
use Rattle.hc_conductor.specs.declared.seat.TaskSeat.{TaskSeat}
use Rattle.hc_conductor.specs.contracts.seat.TaskSeat as seat
use Rattle.hc_conductor.specs.Seats.{seat_epoch, sender, outputs_size}

-- zeros for the epoch that was viewed last, as many as the task has output bytes in it
abbrev pub blank_outputs : TaskSeat → Post
blank_outputs s = blank_post (seat_epoch s) (outputs_size s)

-- the seat is unchanged, except for its posts
abbrev pub SameSeat : TaskSeat → TaskSeat → Type 0
SameSeat s t = t.viewer ≡ s.viewer

-- the seat, with the borrower's bytes in place of the outputs that it holds
abbrev pub SeatLendsHeld : MutBor TaskSeat → MutBor (List ℕ) → Fml
SeatLendsHeld s lent = Lends seat.the_row (Array u8 0) s lent (λ written. record s.now { posts = held_written (sender s.now) written })

-- the seat holds this post, and has made none
abbrev pub HoldsOutputs : TaskSeat → TaskSeat → Post → Type 0
HoldsOutputs s t post = SameSeat s t × HoldsPost (sender s) (sender t) post

-- the seat holds no post, and has made none
abbrev pub HoldsNone : TaskSeat → TaskSeat → Type 0
HoldsNone s t = SameSeat s t × HoldsNothing (sender s) (sender t)

-- the seat holds the borrower's bytes, written over zeros, for the epoch that was viewed last; or it holds none
abbrev pub SeatLendsOutputs : MutBor TaskSeat → Result (MutBor (List ℕ)) NoSpare → Fml
SeatLendsOutputs s lent = LendsSoOk seat.the_row (Array u8 0) s lent (λ n written. HoldsOutputs s.now n (post_with_written (blank_outputs s.now) written)) (HoldsNone s.now)

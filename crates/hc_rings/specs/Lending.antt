-- The final state of a lender, once the loan of a buffer or of bytes is over.
use Rattle.std.specs.Prelude.{ℕ, List, Option, Some, Result}
use Rattle.std.specs.Option.{option_map}
use Rattle.std.specs.Borrow.{Lends, LendsSoOk, MutBor, Fml, Array, u8}
use Rattle.std.specs.contracts.option.Option as option
use Rattle.hc_rings.specs.Post.{Post, blank_post, overwritten, post_with_written}
use Rattle.hc_rings.specs.Ring.{HoldsPost, HoldsNothing}
use Rattle.hc_rings.specs.declared.posts.sending.NoSpare.{NoSpare}
use Rattle.hc_rings.specs.contracts.post_buffer.PostBuffer as buffer
use Rattle.hc_rings.specs.contracts.frames.frame_box.FrameBox as frame
use Rattle.hc_rings.specs.contracts.posts.PostSender as sender
use Rattle.hc_rings.specs.declared.posts.PostSender.{PostSender}

-- the post, with what was left written over its bytes
abbrev pub LendsPost : MutBor Post → MutBor (List ℕ) → Fml
LendsPost post lent = Lends buffer.the_row (Array u8 0) post lent (post_with_written post.now)

-- the frame, with what was left written over its bytes
abbrev pub LendsFrame : MutBor (List ℕ) → MutBor (List ℕ) → Fml
LendsFrame bytes lent = Lends frame.the_row (Array u8 0) bytes lent (overwritten bytes.now)

-- the buffer that is there, as it was left
abbrev pub LendsBuffer : MutBor (Option Post) → MutBor Post → Fml
LendsBuffer place lent = Lends (option.the_row buffer.the_row) buffer.the_row place lent (λ post. Some post)

-- the buffer that is there, with what was left written over its bytes
abbrev pub LendsBytes : MutBor (Option Post) → MutBor (List ℕ) → Fml
LendsBytes place lent = Lends (option.the_row buffer.the_row) (Array u8 0) place lent (λ written. option_map (λ post. post_with_written post written) place.now)

-- the sender with these written over the bytes of the buffer that it holds, if any
abbrev pub held_written : PostSender → List ℕ → PostSender
held_written s written = record s { held = option_map (λ post. post_with_written post written) s.held }

-- the sender, whose buffer for the next post has what was left written over its bytes
abbrev pub LendsHeld : MutBor PostSender → MutBor (List ℕ) → Fml
LendsHeld s lent = Lends sender.the_row (Array u8 0) s lent (held_written s.now)

-- the sender, which holds a post for this epoch with the bytes that were left written over `size` zeros. If none was held and
-- no spare was found, it is as it was before
abbrev pub LendsOutputs : MutBor PostSender → ℕ → ℕ → Result (MutBor (List ℕ)) NoSpare → Fml
LendsOutputs s epoch size lent = LendsSoOk sender.the_row (Array u8 0) s lent (λ n written. HoldsPost s.now n (post_with_written (blank_post epoch size) written)) (HoldsNothing s.now)

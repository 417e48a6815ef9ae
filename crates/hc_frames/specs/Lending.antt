-- The slice after a data part was lent of it.
use Rattle.std.specs.Prelude.{ℕ, Bool, List, [], ◌∷◌, ◌++◌, drop, Result}
use Rattle.std.specs.Borrow.{Lends, LendsIfOk, MutBor, Fml, Array, u8}
use Rattle.hc_frames.specs.declared.building.Room.{Room}
use Rattle.hc_frames.specs.FrameText.{sent_datagram_text, frame_text, lrw}
use Rattle.hc_frames.specs.Sizes.{frame_size}

-- the datagram with the data that were left in the part
abbrev pub LendsData : MutBor (List ℕ) → ℕ → ℕ → Bool → MutBor (List ℕ) → Fml
LendsData out serial address more part = Lends (Array u8 0) (Array u8 0) out part (λ bytes. sent_datagram_text serial more (lrw address bytes))

-- the frame with the data that were left in the part, and after it the old bytes
abbrev pub with_frame : List ℕ → ℕ → ℕ → ℕ → List ℕ → List ℕ
with_frame out serial address size bytes = frame_text serial (lrw address bytes ∷ []) ++ drop (frame_size size) out

-- after the loan of the data part the slice has the frame with the data that were left in the part, and after it the old bytes
-- (`with_frame`)
abbrev pub LendsFrameData : MutBor (List ℕ) → ℕ → ℕ → ℕ → MutBor (List ℕ) → Fml
LendsFrameData out serial address size part = Lends (Array u8 0) (Array u8 0) out part (with_frame out.now serial address size)

-- after the loan the slice has the frame with the data that were left in the part, if the slice was long enough; otherwise its
-- old bytes
abbrev pub LendsFrameIfOk : MutBor (List ℕ) → ℕ → ℕ → ℕ → Result (MutBor (List ℕ)) Room → Fml
LendsFrameIfOk out serial address size part = LendsIfOk (Array u8 0) (Array u8 0) out part (with_frame out.now serial address size) out.now

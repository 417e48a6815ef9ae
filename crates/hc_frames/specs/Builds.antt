-- Builders of whole frames, and the slice that they write.
use Rattle.std.specs.Prelude.{ℕ, ◌≡◌, ◌<◌, ◌↔◌, List, ◌++◌, length, drop, Result, IsErr, OnOk, OnErr, IfOk, IfErr}
use Rattle.hc_frames.specs.declared.building.Room.{Room}

-- a builder fails exactly if the slice is shorter than the frame: it returns the size needed, and the slice is unchanged;
-- otherwise it returns the frame's size, and the frame stands before the rest of the slice
pub record Builds (old new : List ℕ) (result : Result ℕ Room) (text : List ℕ) (size : ℕ) : Type 0 where
  pub short : IsErr result ↔ (length old < size)
  pub needed : IfErr result (λ room. room.0 ≡ size)
  pub unchanged : OnErr result (new ≡ old)
  pub counted : IfOk result (λ bytes. bytes ≡ size)
  pub written : OnOk result (new ≡ text ++ drop size old)

-- Datagrams whose data parts are still to be lent.
use Rattle.std.specs.Prelude.{ℕ, ◌≡◌, List, [], ◌∷◌, ◌++◌, drop, map}
use Rattle.hc_frames.specs.FrameText.{sent_datagrams_text, blank_lrw}
use Rattle.hc_frames.specs.Sizes.{datagrams_size}

-- the datagrams are before the rest, with data of zeros
abbrev pub AreOpen : ℕ → List (ℕ × ℕ) → List ℕ → Type 0
AreOpen serial ds rest = rest ≡ sent_datagrams_text serial (map blank_lrw ds) ++ drop (datagrams_size ds) rest

-- the data bytes of the next datagram
abbrev pub first_size : List (ℕ × ℕ) → ℕ
first_size [] = 0
first_size (d ∷ ds) = d.1

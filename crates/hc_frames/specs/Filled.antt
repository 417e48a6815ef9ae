-- The frame that remains after all loans of an opened frame.
use Rattle.std.specs.Prelude.{ℕ, ◌≡◌, List, [], ◌∷◌, ◌++◌, length}
use Rattle.hc_frames.specs.FrameText.{Datagram, sent_datagram_text, frame_head, frame_text, padding, lrw}
use Rattle.hc_frames.specs.Handing.{more_follow}
use Rattle.hc_frames.specs.Sizes.{datagrams_size}

-- each part has its datagram's number of data bytes
abbrev pub FitsParts : List (ℕ × ℕ) → List (List ℕ) → Type 0
FitsParts [] [] = Unit {0}
FitsParts [] (part ∷ parts) = ⊥
FitsParts (d ∷ ds) [] = ⊥
FitsParts (d ∷ ds) (part ∷ parts) = (length part ≡ d.1) × FitsParts ds parts

-- the datagrams with these data
abbrev pub datagrams_filled : List (ℕ × ℕ) → List (List ℕ) → List Datagram
datagrams_filled [] parts = []
datagrams_filled (d ∷ ds) [] = []
datagrams_filled (d ∷ ds) (part ∷ parts) = lrw d.0 part ∷ datagrams_filled ds parts

-- the bytes that the loans leave, one before the other, and before these bytes
abbrev pub handed_back : ℕ → List (ℕ × ℕ) → List (List ℕ) → List ℕ → List ℕ
handed_back serial [] parts after_it = after_it
handed_back serial (d ∷ ds) [] after_it = after_it
handed_back serial (d ∷ ds) (part ∷ parts) after_it = sent_datagram_text serial (more_follow (d ∷ ds)) (lrw d.0 part) ++ handed_back serial ds parts after_it

-- the bytes after the head are those of the whole frame of the datagrams with their data
abbrev pub FilledFrame : Type 0
FilledFrame =
    (serial : ℕ) (ds : List (ℕ × ℕ)) (parts : List (List ℕ)) (tail : List ℕ) → FitsParts ds parts
    → frame_head serial (datagrams_size ds) ++ handed_back serial ds parts (padding (datagrams_size ds) ++ tail) ≡ frame_text serial (datagrams_filled ds parts) ++ tail

-- The spelling, cut round the data part.
use Rattle.std.proofs.Common.{◌≡◌, ℕ, ◌+◌, ◌%◌, Bool, false, List, [], ◌∷◌, ◌++◌, length, ap, ◌∙◌, append_assoc, arith, length-append}
use Rattle.hc_frames.specs.declared.commands.Command.TheVariants.{Lrw}
use Rattle.hc_frames.specs.FrameText.{datagram_head, sent_datagram_text, frame_head, frame_text, padding, lrw}

-- what is before the data depends on their number alone
pub datagram_cut : (serial address size : ℕ) (more : Bool) (bytes : List ℕ) → length bytes ≡ size
    → sent_datagram_text serial more (lrw address bytes) ≡ datagram_head (serial % 256) Lrw address size more ++ (bytes ++ 0 ∷ 0 ∷ [])
datagram_cut serial address size more bytes e =
    ap (λ (n : ℕ). datagram_head (serial % 256) Lrw address n more ++ bytes ++ 0 ∷ 0 ∷ []) e
    ∙ append_assoc (datagram_head (serial % 256) Lrw address size more) bytes (0 ∷ 0 ∷ [])

pub datagram_length : (serial address size : ℕ) (more : Bool) (bytes : List ℕ) → length bytes ≡ size → length (sent_datagram_text serial more (lrw address bytes)) ≡ 12 + size
datagram_length serial address size more bytes e =
    ap length (datagram_cut serial address size more bytes e) ∙ omega (arith, length-append bytes (0 ∷ 0 ∷ []))

-- the bytes of a frame of one datagram before its data, and those after them
abbrev pub frame_front : ℕ → ℕ → ℕ → List ℕ
frame_front serial address size = frame_head serial (12 + size) ++ datagram_head (serial % 256) Lrw address size false

abbrev pub frame_back : ℕ → List ℕ
frame_back size = 0 ∷ 0 ∷ [] ++ padding (12 + size)

regrouped : (a b bytes c d tail : List ℕ) → ((a ++ (b ++ (bytes ++ c))) ++ d) ++ tail ≡ (a ++ b) ++ (bytes ++ ((c ++ d) ++ tail))
regrouped a b bytes c d tail = simp append_assoc

pub frame_cut : (serial address size : ℕ) (bytes tail : List ℕ) → length bytes ≡ size
    → frame_text serial (lrw address bytes ∷ []) ++ tail ≡ frame_front serial address size ++ (bytes ++ (frame_back size ++ tail))
frame_cut serial address size bytes tail e =
    ap (λ (n : ℕ). frame_head serial n ++ sent_datagram_text serial false (lrw address bytes) ++ padding n ++ tail) (datagram_length serial address size false bytes e)
    ∙ ap (λ (text : List ℕ). frame_head serial (12 + size) ++ text ++ padding (12 + size) ++ tail) (datagram_cut serial address size false bytes e)
    ∙ regrouped (frame_head serial (12 + size)) (datagram_head (serial % 256) Lrw address size false) bytes (0 ∷ 0 ∷ []) (padding (12 + size)) tail

-- How long the texts of datagrams and frames are, and how they are joined.
use Rattle.std.proofs.Common.{◌≡◌, ℕ, ◌+◌, ◌-◌, ◌%◌, Bool, true, false, List, [], ◌∷◌, ◌++◌, length, map, refl, sym, ap, ◌∙◌, append_assoc, arith, length-append, zero-add}
use Rattle.std.specs.List.{flat_map}
use Rattle.std.specs.Int.{w16, to_le_bytes}
use Rattle.std.proofs.lemmas.List.{length-replicate}
use Rattle.std.proofs.lemmas.List.Sums.{sum_by-cons}
use Rattle.hc_frames.specs.declared.limits.TheConstants.{LEAST_FRAME}
use Rattle.hc_frames.specs.FrameText.{WireDatagram, Datagram, carried_head, carried_text, carried_texts, sent_datagrams_text, frame_head, frame_text, padding, sent_on_wire}
use Rattle.hc_frames.specs.Sizes.{frame_bytes, text_size}

-- the ten bytes before the data, the data, and what is after them
pub carried-cut : (serial : ℕ) (more : Bool) (d : WireDatagram) (after_it : List ℕ)
    → carried_text serial more d ++ after_it ≡ carried_head (serial % 256) d.command d.address (length d.bytes) more d.interrupt ++ (d.bytes ++ (to_le_bytes w16 d.counter ++ after_it))
carried-cut serial more d after_it = simp append_assoc

pub length-carried_text : (serial : ℕ) (more : Bool) (d : WireDatagram) → length (carried_text serial more d) ≡ 12 + length d.bytes
length-carried_text serial more d =
    ap length (append_assoc (carried_head (serial % 256) d.command d.address (length d.bytes) more d.interrupt) d.bytes (to_le_bytes w16 d.counter))
    ∙ omega (arith, length-append d.bytes (to_le_bytes w16 d.counter))

pub length-carried_texts : (serial : ℕ) (ds : List WireDatagram) → length (carried_texts serial ds) ≡ text_size ds
length-carried_texts serial [] = refl
length-carried_texts serial (d ∷ []) = length-carried_text serial false d ∙ sym (zero-add (12 + length d.bytes))
length-carried_texts serial (d ∷ e ∷ ds) =
    length-append (carried_text serial true d) (carried_texts serial (e ∷ ds))
    ∙ ap (λ (n : ℕ). n + length (carried_texts serial (e ∷ ds))) (length-carried_text serial true d)
    ∙ ap (λ (n : ℕ). 12 + length d.bytes + n) (length-carried_texts serial (e ∷ ds))
    ∙ sym (sum_by-cons (λ (x : WireDatagram). 12 + length x.bytes) d (e ∷ ds))

-- more follow each of the first ones
pub carried_texts-append : (serial : ℕ) (ds : List WireDatagram) (e : WireDatagram) (es : List WireDatagram)
    → carried_texts serial (ds ++ e ∷ es) ≡ flat_map (carried_text serial true) ds ++ carried_texts serial (e ∷ es)
carried_texts-append serial [] e es = refl
carried_texts-append serial (d ∷ []) e es = sym (append_assoc (carried_text serial true d) [] (carried_texts serial (e ∷ es)))
carried_texts-append serial (d ∷ c ∷ ds) e es =
    ap (λ (xs : List ℕ). carried_text serial true d ++ xs) (carried_texts-append serial (c ∷ ds) e es)
    ∙ sym (append_assoc (carried_text serial true d) (flat_map (carried_text serial true) (c ∷ ds)) (carried_texts serial (e ∷ es)))

-- a frame text has as many bytes as its datagrams ask for, and the least frame's at least
pub length-frame_text : (serial : ℕ) (ds : List Datagram) → length (frame_text serial ds) ≡ frame_bytes (text_size (map sent_on_wire ds))
length-frame_text serial ds =
    let size : ℕ = length (sent_datagrams_text serial ds) in
    let front : List ℕ = frame_head serial size in
    length-append (front ++ sent_datagrams_text serial ds) (padding size)
    ∙ ap (λ (n : ℕ). n + length (padding size)) (length-append front (sent_datagrams_text serial ds))
    ∙ ap (λ (n : ℕ). 16 + size + n) (length-replicate (LEAST_FRAME - (16 + size)) 0)
    ∙ padded size
    ∙ ap frame_bytes (length-carried_texts serial (map sent_on_wire ds))
  where
    padded : (n : ℕ) → 16 + n + (LEAST_FRAME - (16 + n)) ≡ frame_bytes n
    padded n = omega arith

-- The loans of an opened frame leave the frame of its datagrams with their data.
use Rattle.std.proofs.Common.{◌≡◌, ℕ, ◌+◌, true, false, List, [], ◌∷◌, ◌++◌, length, refl, sym, ap, ◌∙◌, append_assoc, length-append, zero-add}
use Rattle.std.proofs.lemmas.List.Sums.{sum_by-cons}
use Rattle.hc_frames.specs.Filled.{FitsParts, FilledFrame, datagrams_filled, handed_back}
use Rattle.hc_frames.specs.FrameText.{sent_datagram_text, sent_datagrams_text, frame_head, padding, lrw}
use Rattle.hc_frames.specs.Sizes.{datagrams_size}
use Rattle.hc_frames.proofs.Spelled.{datagram_length}

texts_back : (serial : ℕ) (ds : List (ℕ × ℕ)) (parts : List (List ℕ)) (after_it : List ℕ) → FitsParts ds parts → handed_back serial ds parts after_it ≡ sent_datagrams_text serial (datagrams_filled ds parts) ++ after_it
texts_back serial [] [] after_it fits = refl
texts_back serial [] (part ∷ parts) after_it fits = absurd fits
texts_back serial (d ∷ ds) [] after_it fits = absurd fits
texts_back serial (d ∷ []) (part ∷ []) after_it fits = refl
texts_back serial (d ∷ []) (part ∷ other ∷ parts) after_it fits = absurd fits.1
texts_back serial (d ∷ e ∷ ds) (part ∷ []) after_it fits = absurd fits.1
texts_back serial (d ∷ e ∷ ds) (part ∷ other ∷ parts) after_it fits =
    let first : List ℕ = sent_datagram_text serial true (lrw d.0 part) in
    ap (λ (xs : List ℕ). first ++ xs) (texts_back serial (e ∷ ds) (other ∷ parts) after_it fits.1)
    ∙ sym (append_assoc first (sent_datagrams_text serial (datagrams_filled (e ∷ ds) (other ∷ parts))) after_it)

texts_length : (serial : ℕ) (ds : List (ℕ × ℕ)) (parts : List (List ℕ)) → FitsParts ds parts → length (sent_datagrams_text serial (datagrams_filled ds parts)) ≡ datagrams_size ds
texts_length serial [] [] fits = refl
texts_length serial [] (part ∷ parts) fits = absurd fits
texts_length serial (d ∷ ds) [] fits = absurd fits
texts_length serial (d ∷ []) (part ∷ []) fits = datagram_length serial d.0 d.1 false part fits.0 ∙ sym (zero-add (12 + d.1))
texts_length serial (d ∷ []) (part ∷ other ∷ parts) fits = absurd fits.1
texts_length serial (d ∷ e ∷ ds) (part ∷ []) fits = absurd fits.1
texts_length serial (d ∷ e ∷ ds) (part ∷ other ∷ parts) fits =
    let others : List ℕ = sent_datagrams_text serial (datagrams_filled (e ∷ ds) (other ∷ parts)) in
    length-append (sent_datagram_text serial true (lrw d.0 part)) others
    ∙ ap (λ (n : ℕ). n + length others) (datagram_length serial d.0 d.1 true part fits.0)
    ∙ ap (λ (n : ℕ). 12 + d.1 + n) (texts_length serial (e ∷ ds) (other ∷ parts) fits.1)
    ∙ sym (sum_by-cons (λ (x : ℕ × ℕ). 12 + x.1) d (e ∷ ds))

regrouped : (a b c tail : List ℕ) → a ++ (b ++ (c ++ tail)) ≡ ((a ++ b) ++ c) ++ tail
regrouped a b c tail = simp append_assoc

pub filled_frame : FilledFrame
filled_frame serial ds parts tail fits =
    let texts : List ℕ = sent_datagrams_text serial (datagrams_filled ds parts) in
    ap (λ (xs : List ℕ). frame_head serial (datagrams_size ds) ++ xs) (texts_back serial ds parts (padding (datagrams_size ds) ++ tail) fits)
    ∙ regrouped (frame_head serial (datagrams_size ds)) texts (padding (datagrams_size ds)) tail
    ∙ ap (λ (n : ℕ). frame_head serial n ++ texts ++ padding n ++ tail) (sym (texts_length serial ds parts fits))

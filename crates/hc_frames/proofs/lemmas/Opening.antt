-- What is open after the datagrams that were handed out.
use Rattle.std.proofs.Common.{◌≡◌, ℕ, zero, suc, not, ◌+◌, ◌<◌, ◌≤◌, Bool, true, false, List, [], ◌∷◌, ◌++◌, length, take, drop, replicate, map, refl, sym, ap, ◌∙◌, append_assoc, arith, length-append, append-nil, zero-add}
use lib.Dec.{T, eqb}
use Rattle.std.proofs.Math.Seq.{drop-append_seam}
use Rattle.std.proofs.lemmas.List.{length-replicate, length-take, take_at}
use Rattle.std.proofs.lemmas.List.Sums.{sum_by-cons}
use Rattle.std.proofs.lemmas.Grind.{common_steps}
use Rattle.hc_frames.specs.FrameText.{sent_datagram_text, sent_datagrams_text, frame_head, frame_text, padding, blank_lrw, lrw}
use Rattle.hc_frames.specs.Handing.{first_address, more_follow}
use Rattle.hc_frames.specs.OpenDatagrams.{AreOpen, first_size}
use Rattle.hc_frames.specs.Sizes.{datagrams_size}
use Rattle.hc_frames.proofs.Spelled.{datagram_length}

pub drop_front : (front back : List ℕ) (n : ℕ) → length front ≡ n → drop n (front ++ back) ≡ back
drop_front front back n e = ap (λ (k : ℕ). drop k (front ++ back)) (sym e) ∙ drop-append_seam front back

pub drop_twice : (m n : ℕ) (xs : List ℕ) → drop n (drop m xs) ≡ drop (m + n) xs
drop_twice m n xs = grind (arith, common_steps)

blank_length : (serial : ℕ) (more : Bool) (d : ℕ × ℕ) → length (sent_datagram_text serial more (blank_lrw d)) ≡ 12 + d.1
blank_length serial more d = datagram_length serial d.0 d.1 more (replicate d.1 0) (length-replicate d.1 0)

-- the others are open where the first was cut off
open_others : (serial : ℕ) (ds : List (ℕ × ℕ)) (rest : List ℕ) → AreOpen serial ds rest
    → let after_it : List ℕ = drop (12 + first_size ds) rest in 0 < length ds → AreOpen serial (drop 1 ds) after_it
open_others serial [] rest e some = absurd (omega arith)
open_others serial (d ∷ []) rest e some = refl
open_others serial (d ∷ f ∷ ds) rest e some =
    let first : List ℕ = sent_datagram_text serial true (blank_lrw d) in
    let others : List ℕ = sent_datagrams_text serial (map blank_lrw (f ∷ ds)) in
    let tail : List ℕ = drop (datagrams_size (d ∷ f ∷ ds)) rest in
    ap (drop (12 + d.1)) (e ∙ append_assoc first others tail)
    ∙ drop_front first (others ++ tail) (12 + d.1) (blank_length serial true d)
    ∙ ap (λ (n : ℕ). others ++ drop n rest) (sum_by-cons (λ (x : ℕ × ℕ). 12 + x.1) d (f ∷ ds))
    ∙ ap (λ (t : List ℕ). others ++ t) (sym (drop_twice (12 + d.1) (datagrams_size (f ∷ ds)) rest))

blank_lengths : (serial : ℕ) (ds : List (ℕ × ℕ)) → length (sent_datagrams_text serial (map blank_lrw ds)) ≡ datagrams_size ds
blank_lengths serial [] = refl
blank_lengths serial (d ∷ []) = blank_length serial false d ∙ sym (zero-add (12 + d.1))
blank_lengths serial (d ∷ f ∷ ds) =
    length-append (sent_datagram_text serial true (blank_lrw d)) (sent_datagrams_text serial (map blank_lrw (f ∷ ds)))
    ∙ ap (λ (n : ℕ). n + length (sent_datagrams_text serial (map blank_lrw (f ∷ ds)))) (blank_length serial true d)
    ∙ ap (λ (n : ℕ). 12 + d.1 + n) (blank_lengths serial (f ∷ ds))
    ∙ sym (sum_by-cons (λ (x : ℕ × ℕ). 12 + x.1) d (f ∷ ds))

regrouped : (a b c tail : List ℕ) → ((a ++ b) ++ c) ++ tail ≡ a ++ ((b ++ c) ++ tail)
regrouped a b c tail = simp append_assoc

-- what is after the first sixteen bytes of a frame with data of zeros
pub frame_rest : (serial : ℕ) (ds : List (ℕ × ℕ)) (tail whole : List ℕ) → whole ≡ frame_text serial (map blank_lrw ds) ++ tail
    → drop 16 whole ≡ sent_datagrams_text serial (map blank_lrw ds) ++ padding (datagrams_size ds) ++ tail
frame_rest serial ds tail whole e =
    let texts : List ℕ = sent_datagrams_text serial (map blank_lrw ds) in
    ap (drop 16) (e ∙ ap (λ (n : ℕ). frame_head serial n ++ texts ++ padding n ++ tail) (blank_lengths serial ds) ∙ regrouped (frame_head serial (datagrams_size ds)) texts (padding (datagrams_size ds)) tail)

-- so the datagrams are open there
pub frame_opens : (serial : ℕ) (ds : List (ℕ × ℕ)) (tail rest : List ℕ) → rest ≡ sent_datagrams_text serial (map blank_lrw ds) ++ padding (datagrams_size ds) ++ tail
    → AreOpen serial ds rest
frame_opens serial ds tail rest e =
    let texts : List ℕ = sent_datagrams_text serial (map blank_lrw ds) in
    let after_it : List ℕ = padding (datagrams_size ds) ++ tail in
    let cut : rest ≡ texts ++ after_it = e ∙ append_assoc texts (padding (datagrams_size ds)) tail in
    cut ∙ ap (λ (xs : List ℕ). texts ++ xs) (sym (ap (drop (datagrams_size ds)) cut ∙ drop_front texts after_it (datagrams_size ds) (blank_lengths serial ds)))

-- the first datagram, and what is after it, in the words of a loan
pub first_text : (serial : ℕ) (ds : List (ℕ × ℕ)) (rest : List ℕ) → AreOpen serial ds rest → 0 < length ds
    → take (12 + first_size ds) rest ≡ sent_datagram_text serial (more_follow ds) (lrw (first_address ds) (replicate (first_size ds) 0))
first_text serial [] rest e some = absurd (omega arith)
first_text serial (d ∷ []) rest e some =
    ap (take (12 + d.1)) e ∙ take_at (sent_datagram_text serial false (blank_lrw d)) (drop (datagrams_size (d ∷ [])) rest) (12 + d.1) (blank_length serial false d)
first_text serial (d ∷ f ∷ ds) rest e some =
    let first : List ℕ = sent_datagram_text serial true (blank_lrw d) in
    let others : List ℕ = sent_datagrams_text serial (map blank_lrw (f ∷ ds)) in
    let tail : List ℕ = drop (datagrams_size (d ∷ f ∷ ds)) rest in
    ap (take (12 + d.1)) (e ∙ append_assoc first others tail) ∙ take_at first (others ++ tail) (12 + d.1) (blank_length serial true d)

pub first_fits : (serial : ℕ) (ds : List (ℕ × ℕ)) (rest : List ℕ) → AreOpen serial ds rest → 0 < length ds → 12 + first_size ds ≤ length rest
first_fits serial ds rest e some =
    let text : length (take (12 + first_size ds) rest) ≡ 12 + first_size ds = ap length (first_text serial ds rest e some) ∙ datagram_length serial (first_address ds) (first_size ds) (more_follow ds) (replicate (first_size ds) 0) (length-replicate (first_size ds) 0) in
    omega (arith, length-take (12 + first_size ds) rest)

pub none_left : (ds : List (ℕ × ℕ)) → length ds ≡ 0 → ds ≡ []
none_left [] e = refl
none_left (d ∷ ds) e = absurd (omega arith)

pub some_left : (n : ℕ) → T (not (eqb n 0)) → 0 < n
some_left zero t = absurd t
some_left (suc n) t = omega arith

-- the same, where the list that is left and the rest are known by equations
pub open_rest : (serial : ℕ) (ds : List (ℕ × ℕ)) (rest : List ℕ) (es : List (ℕ × ℕ)) (after_it : List ℕ) → AreOpen serial ds rest → 0 < length ds
    → es ≡ drop 1 ds → after_it ≡ drop (12 + first_size ds) rest → AreOpen serial es after_it
open_rest serial ds rest es after_it e some left said =
    said ∙ open_others serial ds rest e some
    ∙ ap (λ (xs : List (ℕ × ℕ)). sent_datagrams_text serial (map blank_lrw xs) ++ drop (datagrams_size xs) (drop (12 + first_size ds) rest)) (sym left)
    ∙ ap (λ (ys : List ℕ). sent_datagrams_text serial (map blank_lrw es) ++ drop (datagrams_size es) ys) (sym said)

-- a frame with data of zeros, cut after its first sixteen bytes
pub head_cut : (serial : ℕ) (ds : List (ℕ × ℕ)) (tail whole : List ℕ) → whole ≡ frame_text serial (map blank_lrw ds) ++ tail → whole ≡ frame_head serial (datagrams_size ds) ++ (drop 16 whole ++ [])
head_cut serial ds tail whole e =
    let texts : List ℕ = sent_datagrams_text serial (map blank_lrw ds) in
    let front : List ℕ = frame_head serial (datagrams_size ds) in
    let cut : whole ≡ front ++ ((texts ++ padding (datagrams_size ds)) ++ tail) = e ∙ ap (λ (n : ℕ). frame_head serial n ++ texts ++ padding n ++ tail) (blank_lengths serial ds) ∙ regrouped front texts (padding (datagrams_size ds)) tail in
    cut ∙ ap (λ (xs : List ℕ). front ++ xs) (sym (ap (drop 16) cut) ∙ sym (append-nil (drop 16 whole)))

-- Machines to whose memory is written.
use Rattle.std.proofs.Common.{◌≡◌, ◌<◌, ◌≤◌, ◌-◌, ℕ, zero, suc, List, [], ◌∷◌, ◌++◌, length, get_or, map, take, drop, refl, sym, ap, subst, ◌∙◌, arith}
use Rattle.std.proofs.Math.ListN.{set}
use Rattle.std.proofs.Math.Seq.{take-append_seam}
use Rattle.hc_machine.specs.Memory.{with_part}
use Rattle.hc_segment.specs.Line.{all_machines}
use Rattle.hc_segment.specs.Cutting.{AreSegmentSizes}
use Rattle.hc_segment.specs.Machines.{poked}
use Rattle.hc_segment.proofs.lemmas.Counts.{poked-count}

-- as many elements, written over all of them, are what is there
pub overwritten-whole : {A : Type 0} (old new : List A) → length new ≡ length old → take (length old) (new ++ drop (length new) old) ≡ new
overwritten-whole old new same = ap (λ n. take n (new ++ drop (length new) old)) (sym same) ∙ take-append_seam new (drop (length new) old)

pub poked-set : (ms : List (List ℕ)) (i at : ℕ) (part m : List ℕ) → i < length ms → m ≡ get_or ms i m → set ms i (with_part at part m) ≡ poked i at part ms
poked-set [] i at part m within is = absurd (omega arith)
poked-set (x ∷ ms) zero at part m within is = ap (λ (b : List ℕ). with_part at part b ∷ ms) is
poked-set (x ∷ ms) (suc i) at part m within is = ap (λ (rest : List (List ℕ)). x ∷ rest) (poked-set ms i at part m (omega arith) is)

-- it is one of the first, or one of the others
pub poked-front : (a b : List (List ℕ)) (i at : ℕ) (part : List ℕ) → i < length a → poked i at part (a ++ b) ≡ poked i at part a ++ b
poked-front [] b i at part within = absurd (omega arith)
poked-front (x ∷ a) b zero at part within = refl
poked-front (x ∷ a) b (suc i) at part within = ap (λ (rest : List (List ℕ)). x ∷ rest) (poked-front a b i at part (omega arith))

pub poked-back : (a b : List (List ℕ)) (i at : ℕ) (part : List ℕ) → length a ≤ i → poked i at part (a ++ b) ≡ a ++ poked (i - length a) at part b
poked-back [] b i at part after_it = let e : i - 0 ≡ i = omega arith in ap (λ (n : ℕ). poked n at part b) (sym e)
poked-back (x ∷ a) b zero at part after_it = absurd (omega arith)
poked-back (x ∷ a) b (suc i) at part after_it =
    let e : suc i - suc (length a) ≡ i - length a = omega arith in
    ap (λ (rest : List (List ℕ)). x ∷ rest) (poked-back a b i at part (omega arith) ∙ ap (λ (n : ℕ). a ++ poked n at part b) (sym e))

-- segments with as many machines, written over all of them
pub unchanged-count : (items new : List (List (List ℕ))) (count len : ℕ) → count ≡ length (all_machines items) → len ≡ length items → length new ≡ length items
    → length (all_machines new) ≡ length (all_machines items) → count ≡ length (all_machines (take len (new ++ drop (length new) items)))
unchanged-count items new count len counted whole many same =
    counted
    ∙ sym same
    ∙ ap (λ (ss : List (List (List ℕ))). length (all_machines ss)) (sym (overwritten-whole items new many))
    ∙ ap (λ (n : ℕ). length (all_machines (take n (new ++ drop (length new) items)))) (sym whole)

-- they are cut as before
pub unchanged-cut : (items new : List (List (List ℕ))) (count len : ℕ) → AreSegmentSizes count (map (length {A = List ℕ}) items) → len ≡ length items → length new ≡ length items
    → map (length {A = List ℕ}) new ≡ map (length {A = List ℕ}) items → AreSegmentSizes count (map (length {A = List ℕ}) (take len (new ++ drop (length new) items)))
unchanged-cut items new count len cut whole many same =
    subst (AreSegmentSizes count)
    (sym same
    ∙ ap (λ (ss : List (List (List ℕ))). map (length {A = List ℕ}) ss) (sym (overwritten-whole items new many))
    ∙ ap (λ (n : ℕ). map (length {A = List ℕ}) (take n (new ++ drop (length new) items))) (sym whole))
    cut

-- Frames added at the end, and machines added at the end.
use Rattle.std.proofs.Common.{◌≡◌, false, ℕ, zero, suc, ◌+◌, ◌<◌, List, [], ◌∷◌, ◌++◌, length, take, drop, get_or, set, refl, ap, ap₂, sym, ◌∙◌, arith}
use Rattle.std.specs.Prelude.{is_none}
use Rattle.hc_frames.specs.Arrived.{fault_in}
use Rattle.hc_machine.specs.Frames.{frame_after, memory_after}
use Rattle.hc_machine.proofs.lemmas.Passed.{frame-stays, memory-stays}
use Rattle.hc_segment.specs.Line.{frame_through, frames_through, machines_after, machines_after_frame}

abbrev pub Machines : Type 0
Machines = List (List ℕ)

machines_after-append : (s : Machines) (fs gs : List (List ℕ)) → machines_after s (fs ++ gs) ≡ machines_after (machines_after s fs) gs
machines_after-append s [] gs = refl
machines_after-append s (f ∷ fs) gs = machines_after-append (machines_after_frame s f) fs gs

frames_through-append : (s : Machines) (fs gs : List (List ℕ)) → frames_through s (fs ++ gs) ≡ frames_through s fs ++ frames_through (machines_after s fs) gs
frames_through-append s [] gs = refl
frames_through-append s (f ∷ fs) gs = ap (λ (rest : List (List ℕ)). frame_through s f ∷ rest) (frames_through-append (machines_after_frame s f) fs gs)

-- one more frame
pub more-frames : (s t : Machines) (fs fs' out out' : List (List ℕ)) (f g : List ℕ) → out ≡ frames_through s fs → t ≡ machines_after s fs → g ≡ frame_through t f
    → out' ≡ out ++ g ∷ [] → fs' ≡ fs ++ f ∷ [] → out' ≡ frames_through s fs'
more-frames s t fs fs' out out' f g a b c d e =
    let same : frame_through t f ≡ frame_through (machines_after s fs) f = ap (λ (z : Machines). frame_through z f) b in
    d ∙ ap₂ (λ (x : List (List ℕ)) (y : List ℕ). x ++ y ∷ []) a (c ∙ same) ∙ sym (frames_through-append s fs (f ∷ [])) ∙ sym (ap (frames_through s) e)

pub more-machines : (s t t' : Machines) (fs fs' : List (List ℕ)) (f : List ℕ) → t ≡ machines_after s fs → t' ≡ machines_after_frame t f → fs' ≡ fs ++ f ∷ [] → t' ≡ machines_after s fs'
more-machines s t t' fs fs' f a b e = b ∙ ap (λ (z : Machines). machines_after_frame z f) a ∙ sym (machines_after-append s fs (f ∷ [])) ∙ sym (ap (machines_after s) e)

-- the machines when the frame has met the first i of them
abbrev pub met : ℕ → Machines → List ℕ → Machines
met i ms f = machines_after_frame (take i ms) f ++ drop i ms

meets-next : (i : ℕ) (ms : Machines) (f x : List ℕ) → i < length ms → x ≡ get_or ms i x → set (met i ms f) i (memory_after x (frame_through (take i ms) f)) ≡ met (suc i) ms f
meets-next i [] f x low is = absurd (omega arith)
meets-next zero (m ∷ ms) f x low is = ap (λ (y : List ℕ). memory_after y f ∷ ms) is
meets-next (suc i) (m ∷ ms) f x low is = ap (λ (rest : Machines). memory_after m f ∷ rest) (meets-next i ms (frame_after m f) x (omega arith) is)

not-met : (i : ℕ) (ms : Machines) (f d : List ℕ) → i < length ms → get_or (met i ms f) i d ≡ get_or ms i d
not-met i [] f d low = absurd (omega arith)
not-met zero (m ∷ ms) f d low = refl
not-met (suc i) (m ∷ ms) f d low = not-met i ms (frame_after m f) d (omega arith)

passes-next : (i : ℕ) (ms : Machines) (f x : List ℕ) → i < length ms → x ≡ get_or ms i x → frame_after x (frame_through (take i ms) f) ≡ frame_through (take (suc i) ms) f
passes-next i [] f x low is = absurd (omega arith)
passes-next zero (m ∷ ms) f x low is = ap (λ (y : List ℕ). frame_after y f) is
passes-next (suc i) (m ∷ ms) f x low is = passes-next i ms (frame_after m f) x (omega arith) is

pub one-more : (i : ℕ) (ms now : Machines) (f g h x new : List ℕ) → i < length ms → now ≡ met i ms f → g ≡ frame_through (take i ms) f → x ≡ get_or now i x
    → new ≡ memory_after x g → h ≡ frame_after x g → (set now i new ≡ met (i + 1) ms f) × (h ≡ frame_through (take (i + 1) ms) f)
one-more i ms now f g h x new low is_now is_g is_x is_new is_h =
    let next : suc i ≡ i + 1 = omega arith in
    let here : x ≡ get_or ms i x = is_x ∙ ap (λ (s : Machines). get_or s i x) is_now ∙ not-met i ms f x low in (
      ap₂ (λ (s : Machines) (y : List ℕ). set s i y) is_now (is_new ∙ ap (memory_after x) is_g) ∙ meets-next i ms f x low here ∙ ap (λ (n : ℕ). met n ms f) next,
      is_h ∙ ap (frame_after x) is_g ∙ passes-next i ms f x low here ∙ ap (λ (n : ℕ). frame_through (take n ms) f) next,
    )

pub frame_through-append : (a b : Machines) (f : List ℕ) → frame_through (a ++ b) f ≡ frame_through b (frame_through a f)
frame_through-append [] b f = refl
frame_through-append (m ∷ a) b f = frame_through-append a b (frame_after m f)

pub machines_after_frame-append : (a b : Machines) (f : List ℕ) → machines_after_frame (a ++ b) f ≡ machines_after_frame a f ++ machines_after_frame b (frame_through a f)
machines_after_frame-append [] b f = refl
machines_after_frame-append (m ∷ a) b f = ap (λ (rest : Machines). memory_after m f ∷ rest) (machines_after_frame-append a b (frame_after m f))

-- a frame that isn't read passes, and the machines stay
pub unread-passes : (ms : Machines) (f : List ℕ) → is_none (fault_in f) ≡ false → (f ≡ frame_through ms f) × (ms ≡ machines_after_frame ms f)
unread-passes [] f faulty = (refl, refl)
unread-passes (m ∷ ms) f faulty =
    let stays : f ≡ frame_after m f = frame-stays m f faulty in
    let others = unread-passes ms f faulty in (
      others.0 ∙ ap (frame_through ms) stays,
      ap₂ (λ (x : List ℕ) (xs : Machines). x ∷ xs) (memory-stays m f faulty) (others.1 ∙ ap (machines_after_frame ms) stays),
    )

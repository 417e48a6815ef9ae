-- Frames one after another: made, and passed through machines.
use Rattle.std.proofs.Common.{◌≡◌, ℕ, zero, suc, ◌+◌, ◌<◌, ◌∙◌, List, [], ◌∷◌, ◌++◌, length, take, drop, get_or, set, refl, ap, ap₂, arith}
use Rattle.hc_segment.specs.Line.{frame_through, frames_through, machines_after, machines_after_frame}

-- the frames; the first i went through the machines
abbrev pub gone : ℕ → List (List ℕ) → List (List ℕ) → List (List ℕ)
gone i machines frames = frames_through machines (take i frames) ++ drop i frames

gone-next : (i : ℕ) (machines frames now machines' : List (List ℕ)) (f : List ℕ) → i < length frames → f ≡ get_or now i f → now ≡ gone i machines frames → machines' ≡ machines_after machines (take i frames)
    → (set now i (frame_through machines' f) ≡ gone (suc i) machines frames) × (machines_after_frame machines' f ≡ machines_after machines (take (suc i) frames))
gone-next i machines [] now machines' f low is is_now is_left = absurd (omega arith)
gone-next zero machines (g ∷ frames) now machines' f low is is_now is_left =
    let own : f ≡ g = is ∙ ap (λ (xs : List (List ℕ)). get_or xs 0 f) is_now in (
      ap₂ (λ (ms : List (List ℕ)) (x : List ℕ). set now 0 (frame_through ms x)) is_left own ∙ ap (λ (xs : List (List ℕ)). set xs 0 (frame_through machines g)) is_now,
      ap₂ (λ (ms : List (List ℕ)) (x : List ℕ). machines_after_frame ms x) is_left own,
    )
gone-next (suc i) machines (g ∷ frames) now machines' f low is is_now is_left =
    let next = machines_after_frame machines g in
    let here : f ≡ get_or (gone i next frames) i f = is ∙ ap (λ (xs : List (List ℕ)). get_or xs (suc i) f) is_now in
    let rest = gone-next i next frames (gone i next frames) machines' f (omega arith) here refl is_left in
    (ap (λ (xs : List (List ℕ)). set xs (suc i) (frame_through machines' f)) is_now ∙ ap (λ (xs : List (List ℕ)). frame_through machines g ∷ xs) rest.0, rest.1)

pub gone-more : (i : ℕ) (machines frames now machines' : List (List ℕ)) (f : List ℕ) → i < length frames → f ≡ get_or now i f → now ≡ gone i machines frames → machines' ≡ machines_after machines (take i frames)
    → (set now i (frame_through machines' f) ≡ gone (i + 1) machines frames) × (machines_after_frame machines' f ≡ machines_after machines (take (i + 1) frames))
gone-more i machines frames now machines' f low is is_now is_left =
    let one : suc i ≡ i + 1 = omega arith in
    let next = gone-next i machines frames now machines' f low is is_now is_left in
    (next.0 ∙ ap (λ (k : ℕ). gone k machines frames) one, next.1 ∙ ap (λ (k : ℕ). machines_after machines (take k frames)) one)

-- What goes from thread to thread.
use Rattle.std.proofs.Common.{◌≡◌, ℕ, List, [], ◌∷◌, ◌++◌, length, length-append, get_or, set, ap, ap₂, sym, ◌∙◌, arith}
use Rattle.std.proofs.lemmas.List.{append-nil}
use Rattle.hc_segment.specs.Line.{all_machines, frames_through, line_after, line_frames, machines_after}
use Rattle.hc_segment.proofs.Lines.{length-frames, line_frames-joined}
use Rattle.hc_segment.proofs.Passing.{Machines}

-- of two parts the first is all where it is as long
whole : (xs ys zs : List (List ℕ)) → xs ++ ys ≡ zs → length xs ≡ length zs → xs ≡ zs
whole xs [] zs e n = sym (append-nil xs) ∙ e
whole xs (y ∷ ys) zs e n = absurd (omega (arith, length-append xs (y ∷ ys), ap length e))

-- all that the first segment sent was taken after it
pub handed-on : (s : Machines) (count : ℕ) (got sent got2 known : List (List ℕ)) → length got ≡ count → sent ≡ frames_through s got → length got2 ≡ count → got2 ++ known ≡ sent → got2 ≡ frames_through s got
handed-on s count got sent got2 known a b c d = whole got2 known (frames_through s got) (d ∙ b) (c ∙ sym a ∙ sym (length-frames s got))

pub line-sent : (s : Machines) (rest : List Machines) (got got2 sent2 : List (List ℕ)) → got2 ≡ frames_through s got → sent2 ≡ line_frames rest got2 → sent2 ≡ line_frames (s ∷ rest) got
line-sent s rest got got2 sent2 a b = b ∙ ap (line_frames rest) a

pub line-left : (s s' : Machines) (rest rest' : List Machines) (got got2 : List (List ℕ)) → s' ≡ machines_after s got → got2 ≡ frames_through s got → rest' ≡ line_after rest got2
    → s' ∷ rest' ≡ line_after (s ∷ rest) got
line-left s s' rest rest' got got2 a b c = ap₂ (λ (x : Machines) (xs : List Machines). x ∷ xs) a (c ∙ ap (line_after rest) b)

pub only-one : (xs : List Machines) (x : Machines) → length xs ≡ 1 → x ≡ get_or xs 0 x → xs ≡ x ∷ []
only-one [] x n e = absurd (omega arith)
only-one (y ∷ []) x n e = ap (λ (z : Machines). z ∷ []) (sym e)
only-one (y ∷ z ∷ xs) x n e = absurd (omega arith)

pub set-one : (xs ys : List Machines) (x y : Machines) → xs ≡ x ∷ [] → set xs 0 y ++ ys ≡ y ∷ ys
set-one xs ys x y e = ap (λ (zs : List Machines). set zs 0 y ++ ys) e

-- all frames were taken by the first segment, and all that the last one sent came out
pub all-out : (line : List Machines) (count : ℕ) (got known frames sent out left : List (List ℕ)) → got ++ known ≡ frames → length got ≡ count → count ≡ length frames
    → sent ≡ line_frames line got → out ++ left ≡ sent → length out ≡ count → (out ≡ frames_through (all_machines line) frames) × (got ≡ frames)
all-out line count got known frames sent out left a b c d e f =
    let all : got ≡ frames = whole got known frames a (b ∙ c) in
    let sent_is : sent ≡ frames_through (all_machines line) frames = d ∙ ap (line_frames line) all ∙ line_frames-joined line frames in
    (whole out left (frames_through (all_machines line) frames) (e ∙ sent_is) (f ∙ c ∙ sym (length-frames (all_machines line) frames)), all)

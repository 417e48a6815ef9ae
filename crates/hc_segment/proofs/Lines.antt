-- A line of segments is one segment of all their machines.
use Rattle.std.proofs.Common.{◌≡◌, ℕ, suc, List, [], ◌∷◌, ◌++◌, length, map, refl, ap, ap₂, sym, ◌∙◌, arith}
use Rattle.hc_machine.specs.Frames.{frame_after}
use Rattle.hc_segment.specs.Line.{all_machines, frame_through, frames_through, line_after, line_frames, machines_after, machines_after_frame}
use Rattle.hc_segment.proofs.Passing.{Machines, frame_through-append, machines_after_frame-append}

pub frames_through-both : (a b : Machines) (fs : List (List ℕ)) → frames_through (a ++ b) fs ≡ frames_through b (frames_through a fs)
frames_through-both a b [] = refl
frames_through-both a b (f ∷ fs) =
    ap₂ (λ (g : List ℕ) (s : Machines). g ∷ frames_through s fs) (frame_through-append a b f) (machines_after_frame-append a b f)
    ∙ ap (λ (rest : List (List ℕ)). frame_through b (frame_through a f) ∷ rest) (frames_through-both (machines_after_frame a f) (machines_after_frame b (frame_through a f)) fs)

pub machines_after-both : (a b : Machines) (fs : List (List ℕ)) → machines_after (a ++ b) fs ≡ machines_after a fs ++ machines_after b (frames_through a fs)
machines_after-both a b [] = refl
machines_after-both a b (f ∷ fs) =
    ap (λ (s : Machines). machines_after s fs) (machines_after_frame-append a b f) ∙ machines_after-both (machines_after_frame a f) (machines_after_frame b (frame_through a f)) fs

frames_through-none : (fs : List (List ℕ)) → fs ≡ frames_through [] fs
frames_through-none [] = refl
frames_through-none (f ∷ fs) = ap (λ (rest : List (List ℕ)). f ∷ rest) (frames_through-none fs)

machines_after-none : (fs : List (List ℕ)) → [] ≡ machines_after [] fs
machines_after-none [] = refl
machines_after-none (f ∷ fs) = machines_after-none fs

pub line_frames-joined : (line : List Machines) (fs : List (List ℕ)) → line_frames line fs ≡ frames_through (all_machines line) fs
line_frames-joined [] fs = frames_through-none fs
line_frames-joined (s ∷ line) fs = line_frames-joined line (frames_through s fs) ∙ sym (frames_through-both s (all_machines line) fs)

pub line_after-joined : (line : List Machines) (fs : List (List ℕ)) → all_machines (line_after line fs) ≡ machines_after (all_machines line) fs
line_after-joined [] fs = machines_after-none fs
line_after-joined (s ∷ line) fs =
    ap (λ (rest : Machines). machines_after s fs ++ rest) (line_after-joined line (frames_through s fs)) ∙ sym (machines_after-both s (all_machines line) fs)

length-after_frame : (s : Machines) (f : List ℕ) → length (machines_after_frame s f) ≡ length s
length-after_frame [] f = refl
length-after_frame (m ∷ s) f = ap suc (length-after_frame s (frame_after m f))

length-after : (s : Machines) (fs : List (List ℕ)) → length (machines_after s fs) ≡ length s
length-after s [] = refl
length-after s (f ∷ fs) = length-after (machines_after_frame s f) fs ∙ length-after_frame s f

pub line_after-lengths : (line : List Machines) (fs : List (List ℕ)) → map length (line_after line fs) ≡ map length line
line_after-lengths [] fs = refl
line_after-lengths (s ∷ line) fs = ap₂ (λ (n : ℕ) (ns : List ℕ). n ∷ ns) (length-after s fs) (line_after-lengths line (frames_through s fs))

pub length-frames : (s : Machines) (fs : List (List ℕ)) → length (frames_through s fs) ≡ length fs
length-frames s [] = refl
length-frames s (f ∷ fs) = ap suc (length-frames (machines_after_frame s f) fs)

-- of no segment the frames come back
pub none-pass : (line : List Machines) (fs : List (List ℕ)) → length line ≡ 0 → (fs ≡ frames_through (all_machines line) fs) × (all_machines line ≡ machines_after (all_machines line) fs)
none-pass [] fs none = (frames_through-none fs, machines_after-none fs)
none-pass (s ∷ line) fs none = absurd (omega arith)

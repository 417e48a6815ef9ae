-- A sending's frame after machines is a returned text of it.
use Rattle.std.proofs.Common.{◌≡◌, ℕ, List, [], ◌∷◌, ◌++◌, length, map, All}
use Rattle.std.proofs.lemmas.List.Elements.{All-head, All-tail}
use Rattle.hc_frames.specs.FrameText.{WireDatagram, Datagram, frame_text, sent_on_wire}
use Rattle.hc_frames.specs.Laws.{CanBeCarried}
use Rattle.hc_frames.specs.Returned.{IsReturned}
use Rattle.hc_frames.proofs.lemmas.Returns.{sent-returned}
use Rattle.hc_machine.specs.Frames.{all_served, frame_after}
use Rattle.hc_machine.proofs.lemmas.Returned.{returned-passes}
use Rattle.hc_segment.specs.Laws.{SentTextsComeBack}
use Rattle.hc_segment.specs.Line.{frame_through}
use Rattle.hc_segment.proofs.Passing.{Machines}

-- after each machine a returned text is one
through : (ms : Machines) (serial : ℕ) (ds : List Datagram) (parts : List WireDatagram) (bytes : List ℕ) → All (λ m. length m ≡ 12288) ms → IsReturned serial ds parts bytes → CanBeCarried serial parts
    → (parts' : List WireDatagram) × IsReturned serial ds parts' (frame_through ms bytes) × CanBeCarried serial parts'
through [] serial ds parts bytes long back can = (parts, back, can)
through (m ∷ ms) serial ds parts bytes long back can =
    let step = returned-passes m (All-head (λ (x : List ℕ). length x ≡ 12288) m ms long) serial ds parts bytes back can in
    through ms serial ds (all_served m parts) (frame_after m bytes) (All-tail (λ (x : List ℕ). length x ≡ 12288) m ms long) step.0 step.1

pub sent-through : SentTextsComeBack
sent-through ms serial ds after_it long can = through ms serial ds (map sent_on_wire ds) (frame_text serial ds ++ after_it) long (sent-returned serial ds after_it) can

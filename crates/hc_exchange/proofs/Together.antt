-- A frame of several datagrams does to the machines of a line what frames of one of them each do, in the same order.
use Rattle.std.proofs.Common.{◌≡◌, ℕ, ◌+◌, ◌^◌, ◌<◌, ◌≤◌, List, [], ◌∷◌, length, map, append-nil, is_none, None, cond, refl, sym, ap, ◌∙◌, subst, arith}
use Rattle.std.specs.Prelude.{All}
use Rattle.std.proofs.lemmas.List.Elements.{All-nil, All-cons, All-head, All-tail}
use Rattle.std.proofs.lemmas.List.Sums.{sum_by-cons}
use Rattle.hc_registers.specs.Blocks.{LineBlock}
use Rattle.hc_frames.specs.Arrived.{Reading, fault_in, reading_of}
use Rattle.hc_frames.specs.FrameText.{WireDatagram, Datagram, frame_text, sent_on_wire}
use Rattle.hc_frames.specs.Laws.{CanBeCarried}
use Rattle.hc_frames.specs.Returned.{FitsLine, IsReturned}
use Rattle.hc_frames.specs.Sizes.{text_size}
use Rattle.hc_frames.proofs.lemmas.Returns.{returned-read, sent-returned}
use Rattle.hc_machine.specs.Commands.{memory_after_datagram, served}
use Rattle.hc_machine.specs.Frames.{all_served, frame_after, memory_after, memory_after_datagrams}
use Rattle.hc_machine.proofs.lemmas.Returned.{returned-passes}
use Rattle.hc_machine.proofs.lemmas.Sizes.{length-unchanged}
use Rattle.hc_segment.specs.Line.{machines_after, machines_after_frame}
use Rattle.hc_exchange.specs.TogetherLaws.{JointFramesProgramAlike}
use Rattle.hc_exchange.specs.Writing.{block_datagram, write_frames}

abbrev AreMachines : List (List ℕ) → Type 0
AreMachines machines = All (λ memory. length memory ≡ 12288) machines

-- the machines of a line after a datagram, and after datagrams one after another

abbrev one_after : List (List ℕ) → WireDatagram → List (List ℕ)
one_after [] d = []
one_after (memory ∷ machines) d = memory_after_datagram memory d ∷ one_after machines (served memory d)

abbrev many_after : List (List ℕ) → List WireDatagram → List (List ℕ)
many_after machines [] = machines
many_after machines (d ∷ ds) = many_after (one_after machines d) ds

none_after : (ds : List WireDatagram) → many_after [] ds ≡ []
none_after [] = refl
none_after (d ∷ ds) = none_after ds

-- the first machine meets them as they are, the others as it passes them on
first_after : (memory : List ℕ) (machines : List (List ℕ)) (ds : List WireDatagram) → many_after (memory ∷ machines) ds ≡ memory_after_datagrams memory ds ∷ many_after machines (all_served memory ds)
first_after memory machines [] = refl
first_after memory machines (d ∷ ds) = first_after (memory_after_datagram memory d) (one_after machines (served memory d)) ds

one_keeps : (machines : List (List ℕ)) (d : WireDatagram) → AreMachines machines → AreMachines (one_after machines d)
one_keeps [] d all = All-nil (λ (memory : List ℕ). length memory ≡ 12288)
one_keeps (memory ∷ machines) d all =
    All-cons (λ (m : List ℕ). length m ≡ 12288) (memory_after_datagram memory d) (one_after machines (served memory d))
    (length-unchanged memory d (All-head (λ (m : List ℕ). length m ≡ 12288) memory machines all)) (one_keeps machines (served memory d) (All-tail (λ (m : List ℕ). length m ≡ 12288) memory machines all))

-- a frame that comes to them with datagrams leaves them as these do

read_after : (memory frame : List ℕ) (serial : ℕ) (parts : List WireDatagram) → fault_in frame ≡ None → reading_of frame ≡ record { serial = serial; parts = parts } → memory_after memory frame ≡ memory_after_datagrams memory parts
unfolding memory_after
read_after memory frame serial parts none read =
    ap (λ fault. cond (is_none fault) (memory_after_datagrams memory (reading_of frame).parts) memory) none ∙ ap (λ (reading : Reading). memory_after_datagrams memory reading.parts) read

frame_after_frame : (machines : List (List ℕ)) (serial : ℕ) (ds : List Datagram) (parts : List WireDatagram) (frame : List ℕ) → AreMachines machines → IsReturned serial ds parts frame → CanBeCarried serial parts
    → machines_after_frame machines frame ≡ many_after machines parts
frame_after_frame [] serial ds parts frame all back can = sym (none_after parts)
frame_after_frame (memory ∷ machines) serial ds parts frame all back can =
    let long = All-head (λ (m : List ℕ). length m ≡ 12288) memory machines all in
    let read = returned-read serial ds parts frame back can in
    let next = returned-passes memory long serial ds parts frame back can in
    ap (λ first. first ∷ machines_after_frame machines (frame_after memory frame)) (read_after memory frame serial parts read.0 read.1)
    ∙ ap (λ rest. memory_after_datagrams memory parts ∷ rest)
    (frame_after_frame machines serial ds (all_served memory parts) (frame_after memory frame) (All-tail (λ (m : List ℕ). length m ≡ 12288) memory machines all) next.0 next.1)
    ∙ sym (first_after memory machines parts)

sent_after : (machines : List (List ℕ)) (serial : ℕ) (ds : List Datagram) → AreMachines machines → CanBeCarried serial (map sent_on_wire ds) → machines_after_frame machines (frame_text serial ds) ≡ many_after machines (map sent_on_wire ds)
sent_after machines serial ds all can =
    frame_after_frame machines serial ds (map sent_on_wire ds) (frame_text serial ds) all (subst (IsReturned serial ds (map sent_on_wire ds)) (append-nil (frame_text serial ds)) (sent-returned serial ds [])) can

-- so do frames of one of them each

one_low : (first count : ℕ) → first + (count + 1) ≤ 2 ^ 40 → first < 2 ^ 40
one_low first count low = omega (arith, low)

rest_low : (first count : ℕ) → first + (count + 1) ≤ 2 ^ 40 → (first + 1) + count ≤ 2 ^ 40
rest_low first count low = omega (arith, low)

alone_within : (d : WireDatagram) → FitsLine d → text_size (d ∷ []) ≤ 1498
alone_within d fits = let sum = sum_by-cons (λ (x : WireDatagram). 12 + length x.bytes) d [] in let size : length d.bytes ≤ 1486 = fits.size in omega (arith, sum, size)

can_alone : (serial : ℕ) (d : WireDatagram) → serial < 2 ^ 40 → FitsLine d → CanBeCarried serial (d ∷ [])
can_alone serial d low fits = record { some = omega arith; low = low; fits = All-cons FitsLine d [] fits (All-nil FitsLine); within = alone_within d fits }

alone_after : (machines : List (List ℕ)) (first : ℕ) (blocks : List LineBlock) → AreMachines machines → All FitsLine (map sent_on_wire (map block_datagram blocks)) → first + length blocks ≤ 2 ^ 40
    → machines_after machines (write_frames first blocks) ≡ many_after machines (map sent_on_wire (map block_datagram blocks))
alone_after machines first [] all fits low = refl
alone_after machines first (block ∷ blocks) all fits low =
    let d = block_datagram block in
    let rest = map sent_on_wire (map block_datagram blocks) in
    let one = sent_after machines first (d ∷ []) all (can_alone first (sent_on_wire d) (one_low first (length blocks) (omega (arith, low))) (All-head FitsLine (sent_on_wire d) rest fits)) in
    ap (λ left. machines_after left (write_frames (first + 1) blocks)) one
    ∙ alone_after (one_after machines (sent_on_wire d)) (first + 1) blocks (one_keeps machines (sent_on_wire d) all) (All-tail FitsLine (sent_on_wire d) rest fits) (rest_low first (length blocks) (omega (arith, low)))

pub joint-alike : JointFramesProgramAlike
joint-alike machines serial first blocks all can low =
    sent_after machines serial (map block_datagram blocks) all can ∙ sym (alone_after machines first blocks all can.fits low)

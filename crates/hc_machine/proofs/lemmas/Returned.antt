-- A returned text of a sending is one of the same sending after a slave too.
use Rattle.std.proofs.Common.{◌≡◌, ℕ, ◌+◌, Bool, true, List, [], ◌∷◌, length, take, drop, replicate, is_none, refl, sym, ap, ◌∙◌, arith, subst}
use Rattle.std.specs.Prelude.{if◌then◌else◌, slice_index}
use Rattle.hc_frames.specs.declared.commands.Command.{Command}
use Rattle.hc_frames.specs.declared.commands.Command.TheVariants.{Aprd, Apwr, Fpwr, Lrw}
use Rattle.hc_frames.specs.Arrived.{Reading, datagram_bytes, fault_in, reading_of}
use Rattle.hc_frames.specs.FrameText.{WireDatagram, Datagram, carried_frame}
use Rattle.hc_frames.specs.Returned.{AllComeBack, ComesBack, KeepsAddress}
use Rattle.hc_frames.proofs.lemmas.Readings.{frame-read}
use Rattle.hc_machine.specs.Commands.{address_after, memory_after_datagram, served}
use Rattle.hc_machine.specs.Frames.{all_served, frame_after}
use Rattle.hc_machine.specs.Laws.{ReturnedTextsComeBack}
use Rattle.hc_machine.proofs.Alias.{length-unchanged}
use Rattle.hc_machine.proofs.lemmas.Passed.{are-carried, served-size}

-- a position is counted up in its low word alone
stays-address : (command : Command) (old new : ℕ) → KeepsAddress command old new → KeepsAddress command old (address_after command new)
stays-address Aprd old new same = omega arith
stays-address Apwr old new same = omega arith
stays-address Fpwr old new same = same
stays-address Lrw old new same = same

comes-back : (memory : List ℕ) (d : Datagram) (part : WireDatagram) → length memory ≡ 12288 → ComesBack d part → ComesBack d (served memory part)
unfolding served
comes-back memory d part long back =
    let unchanged : KeepsAddress d.command d.address (address_after d.command part.address) = stays-address d.command d.address part.address back.address in
    record {
      command = back.command;
      address = subst (λ (c : Command). KeepsAddress d.command d.address (address_after c part.address)) (sym back.command) unchanged;
      size = served-size memory part long ∙ back.size;
    }

all-back : (memory : List ℕ) (ds : List Datagram) (parts : List WireDatagram) → length memory ≡ 12288 → AllComeBack ds parts → AllComeBack ds (all_served memory parts)
all-back memory [] [] long back = back
all-back memory [] (part ∷ parts) long back = absurd back
all-back memory (d ∷ ds) [] long back = absurd back
all-back memory (d ∷ ds) (part ∷ parts) long back =
    (comes-back memory d part long back.0, all-back (memory_after_datagram memory part) ds parts (length-unchanged memory part long) back.1)

pub returned-passes : ReturnedTextsComeBack
unfolding frame_after
returned-passes memory long serial ds parts bytes back can =
    let read = frame-read (replicate 6 255) 2 serial parts back.text.0 refl can in
    let none : is_none (fault_in bytes) ≡ true = ap (λ (b : List ℕ). is_none (fault_in b)) back.text.1 ∙ ap is_none read.0 in
    let answer_given : reading_of bytes ≡ record { serial = serial; parts = parts } = ap reading_of back.text.1 ∙ read.1 in
    let destination : take 6 bytes ≡ replicate 6 255 = ap (take 6) back.text.1 in
    let first : slice_index bytes 6 ≡ 2 = ap (λ (b : List ℕ). slice_index b 6) back.text.1 in
    let after_it : List ℕ = drop (16 + datagram_bytes bytes) bytes in (
      record {
        back = all-back memory ds parts long back.back;
        text = (
          after_it,
          ap (λ (b : Bool). if b then carried_frame (take 6 bytes) (slice_index bytes 6) (reading_of bytes).serial (all_served memory (reading_of bytes).parts) after_it else bytes) none
              ∙ ap (λ (to : List ℕ). carried_frame to (slice_index bytes 6) (reading_of bytes).serial (all_served memory (reading_of bytes).parts) after_it) destination
              ∙ ap (λ (n : ℕ). carried_frame (replicate 6 255) n (reading_of bytes).serial (all_served memory (reading_of bytes).parts) after_it) first
              ∙ ap (λ (r : Reading). carried_frame (replicate 6 255) 2 r.serial (all_served memory r.parts) after_it) answer_given,
        );
      },
      are-carried memory serial parts long can,
    )

-- What a slave passes on: a frame that is read is read after it too, and another one stays.
use Rattle.std.proofs.Common.{◌≡◌, ℕ, ◌+◌, ◌^◌, ◌<◌, ◌≤◌, Bool, true, false, All, List, [], ◌∷◌, ◌++◌, length, take, drop, is_none, refl, sym, ap, ap₂, ◌∙◌, arith, length-append, length-take}
use Rattle.std.specs.Prelude.{if◌then◌else◌, slice_index}
use Rattle.std.proofs.lemmas.List.Elements.{All-cons, All-head, All-nil, All-tail}
use Rattle.std.proofs.lemmas.List.Sums.{sum_by-cons}
use Rattle.hc_frames.specs.declared.commands.Command.{Command}
use Rattle.hc_frames.specs.declared.commands.Command.TheVariants.{Aprd, Apwr, Fpwr, Lrw}
use Rattle.hc_frames.specs.Arrived.{datagram_bytes, fault_in, reading_of}
use Rattle.hc_frames.specs.FrameText.{WireDatagram, carried_frame, carried_texts, head_to}
use Rattle.hc_frames.specs.Laws.{CanBeCarried}
use Rattle.hc_frames.specs.Returned.{FitsLine}
use Rattle.hc_frames.specs.Sizes.{text_size}
use Rattle.hc_frames.proofs.lemmas.Readings.{frame-read}
use Rattle.hc_frames.proofs.lemmas.Spelling.{frame-carried}
use Rattle.hc_frames.proofs.lemmas.Texts.{length-carried_texts}
use Rattle.hc_machine.specs.Commands.{address_after, memory_after_datagram, served}
use Rattle.hc_machine.specs.Frames.{all_served, frame_after, memory_after}
use Rattle.hc_machine.specs.Laws.{ServedFramesAreRead, SizesStay}
use Rattle.hc_machine.proofs.Alias.{length-unchanged}
use Rattle.hc_machine.proofs.Framed.{head-long, no-fault, readable-long}
use Rattle.hc_machine.proofs.Served.{length-data}

pub frame-stays : (memory bytes : List ℕ) → is_none (fault_in bytes) ≡ false → bytes ≡ frame_after memory bytes
unfolding frame_after
frame-stays memory bytes faulty = rw faulty refl

pub memory-stays : (memory bytes : List ℕ) → is_none (fault_in bytes) ≡ false → memory ≡ memory_after memory bytes
unfolding memory_after
memory-stays memory bytes faulty = rw faulty refl

-- an address that goes on has as many bits
address-fits : (command : Command) (address : ℕ) → address < 2 ^ 32 → address_after command address < 2 ^ 32
address-fits Aprd address fits = omega arith
address-fits Apwr address fits = omega arith
address-fits Fpwr address fits = fits
address-fits Lrw address fits = fits

pub served-size : (memory : List ℕ) (d : WireDatagram) → length memory ≡ 12288 → length (served memory d).bytes ≡ length d.bytes
unfolding served
served-size memory d long = length-data d.command memory d.address d.bytes long

served-fits : (memory : List ℕ) (d : WireDatagram) → length memory ≡ 12288 → FitsLine d → FitsLine (served memory d)
unfolding served
served-fits memory d long fits =
    let size : length (served memory d).bytes ≡ length d.bytes = served-size memory d long in
    let filled : 1 ≤ length d.bytes = fits.filled in
    let most : length d.bytes ≤ 1486 = fits.size in
    record {
      address = address-fits d.command d.address fits.address;
      interrupt = fits.interrupt;
      counter = omega arith;
      filled = omega arith;
      size = omega arith;
    }

all-fit : (memory : List ℕ) (ds : List WireDatagram) → length memory ≡ 12288 → All FitsLine ds → All FitsLine (all_served memory ds)
all-fit memory [] long fits = All-nil FitsLine
all-fit memory (d ∷ ds) long fits =
    All-cons FitsLine (served memory d) (all_served (memory_after_datagram memory d) ds) (served-fits memory d long (All-head FitsLine d ds fits))
    (all-fit (memory_after_datagram memory d) ds (length-unchanged memory d long) (All-tail FitsLine d ds fits))

all-sizes : (memory : List ℕ) (ds : List WireDatagram) → length memory ≡ 12288 → text_size (all_served memory ds) ≡ text_size ds
all-sizes memory [] long = refl
all-sizes memory (d ∷ ds) long =
    sum_by-cons (λ (x : WireDatagram). 12 + length x.bytes) (served memory d) (all_served (memory_after_datagram memory d) ds)
    ∙ ap₂ (λ (m n : ℕ). 12 + m + n) (served-size memory d long) (all-sizes (memory_after_datagram memory d) ds (length-unchanged memory d long))
    ∙ sym (sum_by-cons (λ (x : WireDatagram). 12 + length x.bytes) d ds)

some-served : (memory : List ℕ) (ds : List WireDatagram) → 0 < length ds → 0 < length (all_served memory ds)
some-served memory [] some = some
some-served memory (d ∷ ds) some = omega arith

pub are-carried : (memory : List ℕ) (serial : ℕ) (ds : List WireDatagram) → length memory ≡ 12288 → CanBeCarried serial ds → CanBeCarried serial (all_served memory ds)
are-carried memory serial ds long can =
    let within : text_size ds ≤ 1498 = can.within in
    let same : text_size (all_served memory ds) ≡ text_size ds = all-sizes memory ds long in
    record {
      some = some-served memory ds can.some;
      low = can.low;
      fits = all-fit memory ds long can.fits;
      within = omega arith;
    }

-- a frame that is read is at least as long as its head
long-enough : (bytes : List ℕ) → is_none (fault_in bytes) ≡ true → 6 ≤ length bytes
long-enough bytes none = let long : 16 + datagram_bytes bytes ≤ length bytes = readable-long bytes none in omega arith

pub served-read : ServedFramesAreRead
unfolding frame_after
served-read memory frame long bytes none =
    let can = (frame-carried frame bytes (no-fault _ none)).0 in
    let six : length (take 6 frame) ≡ 6 = let e = long-enough frame none in omega (arith, length-take 6 frame) in
    let carried : CanBeCarried (reading_of frame).serial (all_served memory (reading_of frame).parts) = are-carried memory (reading_of frame).serial (reading_of frame).parts long can in
    let after_it : List ℕ = drop (16 + datagram_bytes frame) frame in
    ap (λ (b : Bool). is_none (fault_in (if b then carried_frame (take 6 frame) (slice_index frame 6) (reading_of frame).serial (all_served memory (reading_of frame).parts) after_it else frame))) none
    ∙ ap is_none (frame-read (take 6 frame) (slice_index frame 6) (reading_of frame).serial (all_served memory (reading_of frame).parts) after_it six carried).0

frame-size : (destination : List ℕ) (first serial : ℕ) (ds : List WireDatagram) (after_it : List ℕ) → length destination ≡ 6
    → length (carried_frame destination first serial ds after_it) ≡ 16 + text_size ds + length after_it
frame-size destination first serial ds after_it six =
    let text : List ℕ = carried_texts serial ds in
    let head : List ℕ = head_to destination first serial (length text) in
    length-append (head ++ text) after_it
    ∙ ap (λ (n : ℕ). n + length after_it) (length-append head text ∙ ap₂ (λ (m n : ℕ). m + n) (head-long destination first serial (length text) six) (length-carried_texts serial ds))

size-stays : (memory frame : List ℕ) (readable : Bool) → length memory ≡ 12288 → All (λ b. b < 256) frame → is_none (fault_in frame) ≡ readable
    → length (if readable then carried_frame (take 6 frame) (slice_index frame 6) (reading_of frame).serial (all_served memory (reading_of frame).parts) (drop (16 + datagram_bytes frame) frame) else frame) ≡ length frame
size-stays memory frame false long bytes faulty = refl
size-stays memory frame true long bytes none =
    let six : length (take 6 frame) ≡ 6 = let e = long-enough frame none in omega (arith, length-take 6 frame) in
    let after_it : List ℕ = drop (16 + datagram_bytes frame) frame in
    let parts : List WireDatagram = (reading_of frame).parts in
    frame-size (take 6 frame) (slice_index frame 6) (reading_of frame).serial (all_served memory parts) after_it six
    ∙ ap (λ (n : ℕ). 16 + n + length after_it) (all-sizes memory parts long)
    ∙ sym (frame-size (take 6 frame) (slice_index frame 6) (reading_of frame).serial parts after_it six)
    ∙ sym (ap length (frame-carried frame bytes (no-fault _ none)).1)

pub sizes-stay : SizesStay
unfolding frame_after
sizes-stay memory long = (λ d. served-size memory d long, λ frame bytes. size-stays memory frame (is_none (fault_in frame)) long bytes refl)

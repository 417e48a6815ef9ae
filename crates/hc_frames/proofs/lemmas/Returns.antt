-- What comes back of a sending.
use Rattle.std.proofs.Common.{◌≡◌, ℕ, ◌+◌, ◌^◌, ◌<◌, ◌≤◌, All, List, [], ◌∷◌, ◌++◌, length, map, replicate, None, refl, sym, ap, ap₂, ◌∙◌, arith, append_assoc}
use Rattle.std.proofs.lemmas.List.Elements.{All-cons, All-head, All-nil, All-tail}
use Rattle.std.proofs.lemmas.List.Sums.{sum_by-cons}
use Rattle.hc_frames.specs.declared.commands.Command.{Command}
use Rattle.hc_frames.specs.declared.commands.Command.TheVariants.{Aprd, Apwr, Fpwr, Lrw}
use Rattle.hc_frames.specs.Arrived.{Reading, fault_in, reading_of}
use Rattle.hc_frames.specs.FrameText.{WireDatagram, Datagram, sent_datagrams_text, frame_head, padding, sent_on_wire}
use Rattle.hc_frames.specs.Laws.{BuiltFramesAreRead, CanBeCarried, FitsFields, FramesHaveOneReading, ReturnedFramesAreRead, SentFramesAreReturned}
use Rattle.hc_frames.specs.Returned.{AllAddressed, AllComeBack, ComesBack, FitsLine, IsAddressed, IsReturned, KeepsAddress}
use Rattle.hc_frames.specs.Sizes.{text_size}
use Rattle.hc_frames.proofs.lemmas.Readings.{frame-read}

same_commands : (ds : List Datagram) (parts : List WireDatagram) → AllComeBack ds parts → map (λ (part : WireDatagram). part.command) parts ≡ map (λ (d : Datagram). d.command) ds
same_commands [] [] back = refl
same_commands [] (part ∷ parts) back = absurd back
same_commands (d ∷ ds) [] back = absurd back
same_commands (d ∷ ds) (part ∷ parts) back =
    ap (λ (c : Command). c ∷ map (λ (p : WireDatagram). p.command) parts) back.0.command ∙ ap (λ (cs : List Command). d.command ∷ cs) (same_commands ds parts back.1)

same_sizes : (ds : List Datagram) (parts : List WireDatagram) → AllComeBack ds parts → map (λ (part : WireDatagram). length part.bytes) parts ≡ map (λ (d : Datagram). length d.bytes) ds
same_sizes [] [] back = refl
same_sizes [] (part ∷ parts) back = absurd back
same_sizes (d ∷ ds) [] back = absurd back
same_sizes (d ∷ ds) (part ∷ parts) back =
    ap (λ (n : ℕ). n ∷ map (λ (p : WireDatagram). length p.bytes) parts) back.0.size ∙ ap (λ (ns : List ℕ). length d.bytes ∷ ns) (same_sizes ds parts back.1)

same_address : (command : Command) (old new : ℕ) → IsAddressed command → KeepsAddress command old new → new ≡ old
same_address Aprd old new addressed unchanged = absurd addressed
same_address Apwr old new addressed unchanged = absurd addressed
same_address Fpwr old new addressed unchanged = unchanged
same_address Lrw old new addressed unchanged = unchanged

same_addresses : (ds : List Datagram) (parts : List WireDatagram) → AllComeBack ds parts → AllAddressed ds → map (λ (part : WireDatagram). part.address) parts ≡ map (λ (d : Datagram). d.address) ds
same_addresses [] [] back addressed = refl
same_addresses [] (part ∷ parts) back addressed = absurd back
same_addresses (d ∷ ds) [] back addressed = absurd back
same_addresses (d ∷ ds) (part ∷ parts) back addressed =
    ap (λ (n : ℕ). n ∷ map (λ (p : WireDatagram). p.address) parts) (same_address d.command d.address part.address addressed.0 back.0.address)
    ∙ ap (λ (ns : List ℕ). d.address ∷ ns) (same_addresses ds parts back.1 addressed.1)

-- a returned text whose parts can be carried is read
pub returned-read : (serial : ℕ) (ds : List Datagram) (parts : List WireDatagram) (bytes : List ℕ) → IsReturned serial ds parts bytes → CanBeCarried serial parts
    → (fault_in bytes ≡ None) × (reading_of bytes ≡ record { serial = serial; parts = parts })
    × (map (λ (part : WireDatagram). part.command) parts ≡ map (λ (d : Datagram). d.command) ds)
    × (map (λ (part : WireDatagram). length part.bytes) parts ≡ map (λ (d : Datagram). length d.bytes) ds)
    × (AllAddressed ds → map (λ (part : WireDatagram). part.address) parts ≡ map (λ (d : Datagram). d.address) ds)
returned-read serial ds parts bytes back can =
    let read = frame-read (replicate 6 255) 2 serial parts back.text.0 refl can in
    (ap fault_in back.text.1 ∙ read.0, ap reading_of back.text.1 ∙ read.1, same_commands ds parts back.back, same_sizes ds parts back.back, same_addresses ds parts back.back)

-- they can, where those of the sending could: they have as many bytes, and addresses of as many bits

address_fits : (command : Command) (old new : ℕ) → KeepsAddress command old new → old < 2 ^ 32 → new < 2 ^ 32
address_fits Aprd old new unchanged fits = omega arith
address_fits Apwr old new unchanged fits = omega arith
address_fits Fpwr old new unchanged fits = omega arith
address_fits Lrw old new unchanged fits = omega arith

part_fits : (d : Datagram) (part : WireDatagram) → ComesBack d part → FitsLine (sent_on_wire d) → FitsFields part → FitsLine part
part_fits d part back fits fields =
    let size : length part.bytes ≡ length d.bytes = back.size in
    let filled : 1 ≤ length d.bytes = fits.filled in
    let most : length d.bytes ≤ 1486 = fits.size in
    record {
      address = address_fits d.command d.address part.address back.address fits.address;
      interrupt = fields.interrupt;
      counter = fields.counter;
      filled = omega arith;
      size = omega arith;
    }

all_fit : (ds : List Datagram) (parts : List WireDatagram) → AllComeBack ds parts → All FitsLine (map sent_on_wire ds) → All FitsFields parts → All FitsLine parts
all_fit [] [] back fits fields = All-nil FitsLine
all_fit [] (part ∷ parts) back fits fields = absurd back
all_fit (d ∷ ds) [] back fits fields = absurd back
all_fit (d ∷ ds) (part ∷ parts) back fits fields =
    All-cons FitsLine part parts (part_fits d part back.0 (All-head FitsLine (sent_on_wire d) (map sent_on_wire ds) fits) (All-head FitsFields part parts fields))
    (all_fit ds parts back.1 (All-tail FitsLine (sent_on_wire d) (map sent_on_wire ds) fits) (All-tail FitsFields part parts fields))

same_text : (ds : List Datagram) (parts : List WireDatagram) → AllComeBack ds parts → text_size parts ≡ text_size (map sent_on_wire ds)
same_text [] [] back = refl
same_text [] (part ∷ parts) back = absurd back
same_text (d ∷ ds) [] back = absurd back
same_text (d ∷ ds) (part ∷ parts) back =
    sum_by-cons (λ (x : WireDatagram). 12 + length x.bytes) part parts
    ∙ ap₂ (λ (m n : ℕ). 12 + m + n) back.0.size (same_text ds parts back.1)
    ∙ sym (sum_by-cons (λ (x : WireDatagram). 12 + length x.bytes) (sent_on_wire d) (map sent_on_wire ds))

same_some : (ds : List Datagram) (parts : List WireDatagram) → AllComeBack ds parts → 0 < length (map sent_on_wire ds) → 0 < length parts
same_some [] [] back some = some
same_some [] (part ∷ parts) back some = absurd back
same_some (d ∷ ds) [] back some = absurd back
same_some (d ∷ ds) (part ∷ parts) back some = omega arith

returned-carried : (serial : ℕ) (ds : List Datagram) (parts : List WireDatagram) → CanBeCarried serial (map sent_on_wire ds) → AllComeBack ds parts → All FitsFields parts → CanBeCarried serial parts
returned-carried serial ds parts can back fields =
    let within : text_size (map sent_on_wire ds) ≤ 1498 = can.within in
    let same : text_size parts ≡ text_size (map sent_on_wire ds) = same_text ds parts back in
    record { some = same_some ds parts back can.some; low = can.low; fits = all_fit ds parts back can.fits fields; within = omega arith }

pub returned-sent : ReturnedFramesAreRead
returned-sent serial ds parts bytes can back fields = returned-read serial ds parts bytes back (returned-carried serial ds parts can back.back fields)

address_unchanged : (command : Command) (address : ℕ) → KeepsAddress command address address
address_unchanged Aprd address = refl
address_unchanged Apwr address = refl
address_unchanged Fpwr address = refl
address_unchanged Lrw address = refl

all_sent : (ds : List Datagram) → AllComeBack ds (map sent_on_wire ds)
all_sent [] = tt
all_sent (d ∷ ds) = (record { command = refl; address = address_unchanged d.command d.address; size = refl }, all_sent ds)

pub sent-returned : SentFramesAreReturned
sent-returned serial ds after_it =
    let text : List ℕ = sent_datagrams_text serial ds in
    record { back = all_sent ds; text = (padding (length text) ++ after_it, append_assoc (frame_head serial (length text) ++ text) (padding (length text)) after_it) }

pub built-read : BuiltFramesAreRead
built-read serial ds after_it can =
    let back = sent-returned serial ds after_it in
    let read = frame-read (replicate 6 255) 2 serial (map sent_on_wire ds) back.text.0 refl can in
    (ap fault_in back.text.1 ∙ read.0, ap reading_of back.text.1 ∙ read.1)

pub one-reading : FramesHaveOneReading
one-reading destination destination2 first first2 serial serial2 parts parts2 after_it after2 long long2 can can2 e =
    let read = frame-read destination first serial parts after_it long can in
    let read2 = frame-read destination2 first2 serial2 parts2 after2 long2 can2 in
    let same = sym read.1 ∙ ap reading_of e ∙ read2.1 in
    (ap (λ (r : Reading). r.serial) same, ap (λ (r : Reading). r.parts) same)

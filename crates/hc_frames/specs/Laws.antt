-- Laws of frames' bytes and their readings.
use Rattle.std.specs.Prelude.{◌≡◌, ℕ, ◌+◌, ◌^◌, ◌<◌, ◌≤◌, Bool, true, List, ◌∷◌, ◌++◌, length, take, drop, map, All, None, slice_index}
use Rattle.std.specs.List.{flat_map}
use Rattle.hc_frames.specs.declared.limits.TheConstants.{MAX_DATAGRAMS}
use Rattle.hc_frames.specs.Arrived.{datagram_bytes, fault_in, reading_of}
use Rattle.hc_frames.specs.FrameText.{WireDatagram, Datagram, blank_lrw, carried_frame, carried_text, carried_texts, sent_datagram_text, frame_text, has_more, lrw, sent_on_wire}
use Rattle.hc_frames.specs.Returned.{AllAddressed, FitsLine, IsReturned}
use Rattle.hc_frames.specs.Sizes.{frame_bytes, text_size}

-- a blank datagram with other data in place of its zeros is the datagram with these data
abbrev pub BlankDatagramsAreFilled : Type 0
BlankDatagramsAreFilled =
    (serial : ℕ) (more : Bool) (d : ℕ × ℕ) (bytes : List ℕ) → length bytes ≡ d.1
    → let blank = sent_datagram_text serial more (blank_lrw d) in take 10 blank ++ bytes ++ drop (10 + d.1) blank ≡ sent_datagram_text serial more (lrw d.0 bytes)

-- a frame with other data in place of a datagram's zeros is the frame with these data; they begin 26 bytes and the datagrams
-- before it after the frame's first byte
abbrev pub BlankFramesAreFilled : Type 0
BlankFramesAreFilled =
    (serial : ℕ) (before : List Datagram) (d : ℕ × ℕ) (after : List Datagram) (bytes : List ℕ) → length bytes ≡ d.1
    → let blank = frame_text serial (before ++ blank_lrw d ∷ after) in
    let at = 26 + text_size (map sent_on_wire before) in
    take at blank ++ bytes ++ drop (at + d.1) blank ≡ frame_text serial (before ++ lrw d.0 bytes ∷ after)

-- the bytes of two lists of datagrams in a row: those of the first list, each followed by more, then those of the second
abbrev pub TextsAreJoined : Type 0
TextsAreJoined =
    (serial : ℕ) (ds : List WireDatagram) (e : WireDatagram) (es : List WireDatagram)
    → carried_texts serial (ds ++ e ∷ es) ≡ flat_map (carried_text serial true) ds ++ carried_texts serial (e ∷ es)

-- a frame has the bytes of its head and its datagrams, and at least those of the shortest frame
abbrev pub FramesHaveTheirSize : Type 0
FramesHaveTheirSize = (serial : ℕ) (ds : List Datagram) → length (frame_text serial ds) ≡ frame_bytes (text_size (map sent_on_wire ds))

-- datagrams that a frame can carry: at least one, all within the bytes that a frame has for them, each with fields that fit
pub record CanBeCarried (serial : ℕ) (parts : List WireDatagram) : Type 0 where
  pub some : 0 < length parts
  pub low : serial < 2 ^ 40
  pub fits : All FitsLine parts
  pub within : text_size parts ≤ MAX_DATAGRAMS

-- a frame is read as it was written, for every destination of six bytes, every first source byte, and any bytes after it
abbrev pub CarriedFramesAreRead : Type 0
CarriedFramesAreRead =
    (destination : List ℕ) (first serial : ℕ) (parts : List WireDatagram) (after_it : List ℕ) → length destination ≡ 6 → CanBeCarried serial parts
    → let bytes = carried_frame destination first serial parts after_it in (fault_in bytes ≡ None) × (reading_of bytes ≡ record { serial = serial; parts = parts })

-- the interrupt field and the working counter that slaves leave fit 16 bits each
pub record FitsFields (part : WireDatagram) : Type 0 where
  pub interrupt : part.interrupt < 2 ^ 16
  pub counter : part.counter < 2 ^ 16

-- the returned bytes of a sending that a frame can carry are readable: they give the sending's serial, commands, numbers of
-- data bytes, and addresses of stations and process data, with the data and counters that came back
abbrev pub ReturnedFramesAreRead : Type 0
ReturnedFramesAreRead =
    (serial : ℕ) (ds : List Datagram) (parts : List WireDatagram) (bytes : List ℕ) → CanBeCarried serial (map sent_on_wire ds) → IsReturned serial ds parts bytes → All FitsFields parts
    → (fault_in bytes ≡ None) × (reading_of bytes ≡ record { serial = serial; parts = parts })
    × (map (λ (part : WireDatagram). part.command) parts ≡ map (λ (d : Datagram). d.command) ds)
    × (map (λ (part : WireDatagram). length part.bytes) parts ≡ map (λ (d : Datagram). length d.bytes) ds)
    × (AllAddressed ds → map (λ (part : WireDatagram). part.address) parts ≡ map (λ (d : Datagram). d.address) ds)

-- a frame as sent, followed by any bytes, is a returned frame of its sending
abbrev pub SentFramesAreReturned : Type 0
SentFramesAreReturned = (serial : ℕ) (ds : List Datagram) (after_it : List ℕ) → IsReturned serial ds (map sent_on_wire ds) (frame_text serial ds ++ after_it)

-- a frame as sent is read as it was built
abbrev pub BuiltFramesAreRead : Type 0
BuiltFramesAreRead =
    (serial : ℕ) (ds : List Datagram) (after_it : List ℕ) → CanBeCarried serial (map sent_on_wire ds)
    → let bytes = frame_text serial ds ++ after_it in (fault_in bytes ≡ None) × (reading_of bytes ≡ record { serial = serial; parts = map sent_on_wire ds })

-- a frame has one reading
abbrev pub FramesHaveOneReading : Type 0
FramesHaveOneReading =
    (destination destination2 : List ℕ) (first first2 serial serial2 : ℕ) (parts parts2 : List WireDatagram) (after_it after2 : List ℕ)
    → length destination ≡ 6 → length destination2 ≡ 6 → CanBeCarried serial parts → CanBeCarried serial2 parts2
    → carried_frame destination first serial parts after_it ≡ carried_frame destination2 first2 serial2 parts2 after2
    → (serial ≡ serial2) × (parts ≡ parts2)

-- a readable frame has the bytes of its content, with its own destination, first source byte and bytes after its datagrams
abbrev pub ReadableFramesAreCarried : Type 0
ReadableFramesAreCarried =
    (bytes : List ℕ) → All (λ b. b < 256) bytes → fault_in bytes ≡ None
    → CanBeCarried (reading_of bytes).serial (reading_of bytes).parts
    × (bytes ≡ carried_frame (take 6 bytes) (slice_index bytes 6) (reading_of bytes).serial (reading_of bytes).parts (drop (16 + datagram_bytes bytes) bytes))

-- a readable frame with another datagram of as many data bytes in place of one is read with that datagram, and otherwise as
-- before
abbrev pub PartsAreReplaced : Type 0
PartsAreReplaced =
    (bytes : List ℕ) → All (λ b. b < 256) bytes → fault_in bytes ≡ None
    → (before : List WireDatagram) (old : WireDatagram) (after : List WireDatagram) → (reading_of bytes).parts ≡ before ++ old ∷ after
    → (new : WireDatagram) → FitsLine new → length new.bytes ≡ length old.bytes
    → let start = 16 + text_size before in
    let changed = take start bytes ++ carried_text (reading_of bytes).serial (has_more after) new ++ drop (start + (12 + length old.bytes)) bytes in
    (fault_in changed ≡ None) × (reading_of changed ≡ record { serial = (reading_of bytes).serial; parts = before ++ new ∷ after })

-- The frames where tasks are sent: what they carry, their bytes, and their serials.
use Rattle.std.proofs.Common.{◌≡◌, ℕ, ◌+◌, Bool, true, false, cond, List, [], ◌∷◌, ◌++◌, length, map, refl, sym, ap, ◌∙◌, arith, append_assoc}
use Rattle.std.specs.Prelude.{All, sum_by}
use Rattle.std.specs.List.{flat_map, range_with_len}
use Rattle.std.proofs.lemmas.List.Elements.{All-nil, All-cons, All-head, All-tail}
use Rattle.std.proofs.lemmas.List.Sums.{sum_by-cons, sum_by_push}
use Rattle.hc_records.specs.Line.{Member}
use Rattle.hc_frames.specs.FrameText.{WireDatagram, sent_on_wire}
use Rattle.hc_frames.specs.Sizes.{frame_bytes, text_size}
use Rattle.hc_frames.proofs.lemmas.Texts.{length-frame_text}
use Rattle.hc_events.specs.Entries.{History}
use Rattle.hc_events.specs.Points.{line_of, next_serial}
use Rattle.hc_events.specs.Sendings.{Frame, Named, frame_of_one, framed, framed_after, has_room, frame_joined, line_data_length, sent_frame_size, task_datagrams}
use Rattle.hc_events.specs.Steps.{proposal, sent_datagram, sent_text}
use Rattle.hc_events.proofs.lemmas.SentBits.{sent-data}

-- in a row, the frames' datagrams are those that were framed

abbrev pub in_row : List Frame → List Named
in_row frames = flat_map (λ (frame : Frame). frame.datagrams) frames

row_either : (room : Bool) (frame : Frame) (rest other : List Frame) (all : List Named) → in_row rest ≡ all → frame.datagrams ++ in_row other ≡ all → in_row (cond room rest (frame ∷ other)) ≡ all
row_either true frame rest other all a b = a
row_either false frame rest other all a b = b

row_after : (line : List Member) (frame : Frame) (datagrams : List Named) → in_row (framed_after line frame datagrams) ≡ frame.datagrams ++ datagrams
row_after line frame [] = refl
row_after line frame (datagram ∷ datagrams) =
    let length = line_data_length line datagram in
    row_either (has_room frame.bytes length) frame (framed_after line (frame_joined frame datagram length) datagrams) (framed_after line (frame_of_one (frame.serial + 1) datagram length) datagrams)
    (frame.datagrams ++ datagram ∷ datagrams)
    (row_after line (frame_joined frame datagram length) datagrams ∙ append_assoc frame.datagrams (datagram ∷ []) datagrams)
    (ap (λ more. frame.datagrams ++ more) (row_after line (frame_of_one (frame.serial + 1) datagram length) datagrams))

pub row-of : (line : List Member) (serial : ℕ) (datagrams : List Named) → in_row (framed line serial datagrams) ≡ datagrams
row-of line serial [] = refl
row-of line serial (datagram ∷ datagrams) = row_after line (frame_of_one serial datagram (line_data_length line datagram)) datagrams

pub proposals-carry : (history : History) (tasks : List ℕ) → in_row (proposal history tasks) ≡ flat_map (task_datagrams (line_of history)) tasks
proposals-carry history tasks = row-of (line_of history) (next_serial history) (flat_map (task_datagrams (line_of history)) tasks)

-- a frame's bytes are its datagrams'

abbrev bytes_with : List Member → List Named → ℕ
bytes_with line names = sum_by (λ (named : Named). 12 + line_data_length line named) names

abbrev pub IsCounted : List Member → Frame → Type 0
IsCounted line frame = frame.bytes ≡ bytes_with line frame.datagrams

pub alone-counted : (line : List Member) (serial : ℕ) (datagram : Named) → IsCounted line (frame_of_one serial datagram (line_data_length line datagram))
alone-counted line serial datagram = let sum = sum_by-cons (λ (named : Named). 12 + line_data_length line named) datagram [] in omega arith

joined_counted : (line : List Member) (frame : Frame) (datagram : Named) → IsCounted line frame → IsCounted line (frame_joined frame datagram (line_data_length line datagram))
joined_counted line frame datagram counted =
    let sum = sum_by_push (λ (named : Named). 12 + line_data_length line named) frame.datagrams datagram in omega arith

counted_either : (line : List Member) (room : Bool) (frame : Frame) (rest other : List Frame) → All (IsCounted line) rest → IsCounted line frame → All (IsCounted line) other → All (IsCounted line) (cond room rest (frame ∷ other))
counted_either line true frame rest other a b c = a
counted_either line false frame rest other a b c = All-cons (IsCounted line) frame other b c

counted_after : (line : List Member) (frame : Frame) (datagrams : List Named) → IsCounted line frame → All (IsCounted line) (framed_after line frame datagrams)
counted_after line frame [] counted = All-cons (IsCounted line) frame [] counted (All-nil (IsCounted line))
counted_after line frame (datagram ∷ datagrams) counted =
    let length = line_data_length line datagram in
    counted_either line (has_room frame.bytes length) frame (framed_after line (frame_joined frame datagram length) datagrams) (framed_after line (frame_of_one (frame.serial + 1) datagram length) datagrams)
    (counted_after line (frame_joined frame datagram length) datagrams (joined_counted line frame datagram counted))
    counted
    (counted_after line (frame_of_one (frame.serial + 1) datagram length) datagrams (alone-counted line (frame.serial + 1) datagram))

pub frames-counted : (line : List Member) (serial : ℕ) (datagrams : List Named) → All (IsCounted line) (framed line serial datagrams)
frames-counted line serial [] = All-nil (IsCounted line)
frames-counted line serial (datagram ∷ datagrams) = counted_after line (frame_of_one serial datagram (line_data_length line datagram)) datagrams (alone-counted line serial datagram)

text-counted : (history : History) (names : List Named) → text_size (map sent_on_wire (map (sent_datagram history) names)) ≡ bytes_with (line_of history) names
text-counted history [] = refl
text-counted history (named ∷ names) =
    let size = (sent-data history named.0 named.1).size in
    let text = sum_by-cons (λ (d : WireDatagram). 12 + length d.bytes) (sent_on_wire (sent_datagram history named)) (map sent_on_wire (map (sent_datagram history) names)) in
    let sum = sum_by-cons (λ (n : Named). 12 + line_data_length (line_of history) n) named names in
    let rest = text-counted history names in
    omega arith

pub frame-sized : (history : History) (frame : Frame) → IsCounted (line_of history) frame → length (sent_text history frame) ≡ sent_frame_size frame
frame-sized history frame counted =
    length-frame_text frame.serial (map (sent_datagram history) frame.datagrams) ∙ ap frame_bytes (text-counted history frame.datagrams ∙ sym counted)

all_sized : (history : History) (frames : List Frame) → All (IsCounted (line_of history)) frames → All (λ (frame : Frame). length (sent_text history frame) ≡ sent_frame_size frame) frames
all_sized history [] all = All-nil (λ (frame : Frame). length (sent_text history frame) ≡ sent_frame_size frame)
all_sized history (frame ∷ frames) all =
    All-cons (λ (frame : Frame). length (sent_text history frame) ≡ sent_frame_size frame) frame frames
    (frame-sized history frame (All-head (IsCounted (line_of history)) frame frames all)) (all_sized history frames (All-tail (IsCounted (line_of history)) frame frames all))

pub frames-sized : (history : History) (tasks : List ℕ) → All (λ (frame : Frame). length (sent_text history frame) ≡ sent_frame_size frame) (proposal history tasks)
frames-sized history tasks =
    all_sized history (proposal history tasks) (frames-counted (line_of history) (next_serial history) (flat_map (task_datagrams (line_of history)) tasks))

-- their serials are the next ones, in order

abbrev pub Numbered : ℕ → List Frame → Type 0
Numbered serial frames = map (λ sending. sending.serial) frames ≡ range_with_len serial (length frames)

numbered_either : (room : Bool) (sending : Frame) (rest other : List Frame) → Numbered sending.serial rest → Numbered (sending.serial + 1) other → Numbered sending.serial (cond room rest (sending ∷ other))
numbered_either true sending rest other a b = a
numbered_either false sending rest other a b = ap (λ serials. sending.serial ∷ serials) b

numbered_after : (line : List Member) (sending : Frame) (datagrams : List Named) → Numbered sending.serial (framed_after line sending datagrams)
numbered_after line sending [] = refl
numbered_after line sending (datagram ∷ datagrams) =
    numbered_either (has_room sending.bytes (line_data_length line datagram)) sending
    (framed_after line (frame_joined sending datagram (line_data_length line datagram)) datagrams)
    (framed_after line (frame_of_one (sending.serial + 1) datagram (line_data_length line datagram)) datagrams)
    (numbered_after line (frame_joined sending datagram (line_data_length line datagram)) datagrams)
    (numbered_after line (frame_of_one (sending.serial + 1) datagram (line_data_length line datagram)) datagrams)

numbered_frames : (line : List Member) (serial : ℕ) (datagrams : List Named) → Numbered serial (framed line serial datagrams)
numbered_frames line serial [] = refl
numbered_frames line serial (datagram ∷ datagrams) = numbered_after line (frame_of_one serial datagram (line_data_length line datagram)) datagrams

pub proposals-numbered : (history : History) (tasks : List ℕ) → Numbered (next_serial history) (proposal history tasks)
proposals-numbered history tasks = numbered_frames (line_of history) (next_serial history) (flat_map (task_datagrams (line_of history)) tasks)

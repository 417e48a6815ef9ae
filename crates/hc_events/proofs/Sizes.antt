-- The bytes of frames one after another, of a write, and of a preview.
use Rattle.std.proofs.Common.{◌≡◌, ℕ, ◌+◌, nat_lt, Bool, true, false, cond, ◌&&◌, List, [], ◌∷◌, length, map, refl, sym, ap, ◌∙◌, subst, arith, length-append, Some, None}
use Rattle.std.specs.Prelude.{All, sum_by}
use Rattle.std.specs.List.{flat_map}
use Rattle.std.proofs.lemmas.List.Elements.{All-head, All-tail}
use Rattle.std.proofs.lemmas.List.Sums.{sum_by-cons}
use Rattle.hc_records.specs.Image.{datagram_count, task_places}
use Rattle.hc_registers.specs.Blocks.{LineBlock}
use Rattle.hc_frames.specs.FrameText.{WireDatagram, block_write, sent_on_wire}
use Rattle.hc_frames.specs.Sizes.{frame_bytes}
use Rattle.hc_frames.proofs.lemmas.Texts.{length-frame_text}
use Rattle.hc_events.specs.Entries.{History}
use Rattle.hc_events.specs.Points.{line_of, next_serial}
use Rattle.hc_events.specs.Sendings.{Frame, frame_of_one, line_data_length, sent_frame_size}
use Rattle.hc_events.specs.Owed.{owed_blocks}
use Rattle.hc_events.specs.Steps.{has_serials, proposal, sent_text, write_text}
use Rattle.hc_events.specs.Calls.{frames_size, preview, write_size}
use Rattle.hc_events.specs.WriteFrames.{block_bytes, block_datagram, blocks_bytes, writes_size, writes_text}
use Rattle.hc_events.specs.CallLaws.{IsPreview}
use Rattle.hc_events.proofs.lemmas.Frames.{alone-counted, frame-sized, frames-sized}

abbrev IsSized : History → Frame → Type 0
IsSized history frame = length (sent_text history frame) ≡ sent_frame_size frame

all_filled : (history : History) (frames : List Frame) → All (IsSized history) frames → length (flat_map (sent_text history) frames) ≡ sum_by sent_frame_size frames
all_filled history [] sized = refl
all_filled history (frame ∷ frames) sized =
    let joined = length-append (sent_text history frame) (flat_map (sent_text history) frames) in
    let sum = sum_by-cons sent_frame_size frame frames in
    let first : length (sent_text history frame) ≡ sent_frame_size frame = All-head (IsSized history) frame frames sized in
    let others = all_filled history frames (All-tail (IsSized history) frame frames sized) in
    omega arith

pub frames-filled : (history : History) (tasks : List ℕ) → length (flat_map (sent_text history) (proposal history tasks)) ≡ frames_size history tasks
frames-filled history tasks = all_filled history (proposal history tasks) (frames-sized history tasks)

one_size : (block : LineBlock) → sum_by (λ (d : WireDatagram). 12 + length d.bytes) (sent_on_wire (block_write block.station block.block.register block.block.bytes) ∷ []) ≡ 12 + length block.block.bytes
one_size block =
    let sum = sum_by-cons (λ (d : WireDatagram). 12 + length d.bytes) (sent_on_wire (block_write block.station block.block.register block.block.bytes)) [] in
    omega arith

pub writes-filled : (history : History) (block : LineBlock) (rest : List LineBlock) → owed_blocks history ≡ block ∷ rest → length (write_text (next_serial history) block) ≡ write_size (owed_blocks history)
writes-filled history block rest owed =
    length-frame_text (next_serial history) (block_write block.station block.block.register block.block.bytes ∷ [])
    ∙ ap frame_bytes (one_size block) ∙ sym (ap write_size owed)

text_sizes : (blocks : List LineBlock) → sum_by (λ (d : WireDatagram). 12 + length d.bytes) (map sent_on_wire (map block_datagram blocks)) ≡ blocks_bytes blocks
text_sizes [] = refl
text_sizes (block ∷ blocks) =
    let sum = sum_by-cons (λ (d : WireDatagram). 12 + length d.bytes) (sent_on_wire (block_datagram block)) (map sent_on_wire (map block_datagram blocks)) in
    let sizes = sum_by-cons block_bytes block blocks in
    let rest = text_sizes blocks in
    omega arith

pub write-frames-filled : (serial : ℕ) (blocks : List LineBlock) → length (writes_text serial blocks) ≡ writes_size blocks
write-frames-filled serial blocks = length-frame_text serial (map block_datagram blocks) ∙ ap frame_bytes (text_sizes blocks)

is_preview : (history : History) (task d : ℕ) (frame : Frame) (can : Bool) → cond can (Some (frame_of_one (next_serial history) (task, d) (line_data_length (line_of history) (task, d)))) None ≡ Some frame → IsPreview history task d frame
is_preview history task d frame false e = cc
is_preview history task d frame true e =
    let one = frame_of_one (next_serial history) (task, d) (line_data_length (line_of history) (task, d)) in
    let same : one ≡ frame = cc in
    subst (IsPreview history task d) same
    (record { serial = refl; datagrams = refl; size = frame-sized history one (alone-counted (line_of history) (next_serial history) (task, d)) })

pub previews-are : (history : History) (task d : ℕ) (frame : Frame) → preview history task d ≡ Some frame → IsPreview history task d frame
previews-are history task d frame e = is_preview history task d frame (nat_lt d (datagram_count (task_places task (line_of history))) && has_serials history 1) e

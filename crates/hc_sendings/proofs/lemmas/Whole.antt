-- The frames where datagrams are sent: what they carry, and their bytes.
use Rattle.std.proofs.Common.{◌≡◌, ◌+◌, ◌<◌, ℕ, Bool, true, false, cond, List, [], ◌∷◌, arith, length, length-append, get_or}
use Rattle.std.specs.Prelude.{All, sum_by}
use Rattle.std.specs.List.{flat_map, range_with_len}
use Rattle.std.proofs.lemmas.List.Elements.{All-cons, All-head, All-map, All-nil, All-push, All-tail, All-weaker}
use Rattle.std.proofs.lemmas.List.FromFn.{get_or-range_with_len, length-range_with_len}
use Rattle.std.proofs.lemmas.List.Sums.{sum_by-cons, sum_by_push}
use Rattle.std.proofs.lemmas.Grind.{common_steps}
use Rattle.hc_records.specs.Line.{Member}
use Rattle.hc_records.specs.Image.{datagram_count, task_places}
use Rattle.hc_records.proofs.lemmas.Lists.{All-flat_map}
use Rattle.hc_events.specs.Accepted.{IsInLine}
use Rattle.hc_events.specs.Sendings.{Frame, Named, frame_of_one, framed, framed_after, has_room, frame_joined, line_data_length, sendings_of, task_datagrams}
use Rattle.hc_sendings.specs.Parts.{own_bytes}

-- a frame of datagrams, at least one, with their bytes
pub record IsWhole (line : List Member) (P : Named → Type 0) (frame : Frame) : Type 0 where
  pub counted : frame.bytes ≡ sum_by (own_bytes line) frame.datagrams
  pub some : 0 < length frame.datagrams
  pub own : All P frame.datagrams

alone-whole : (line : List Member) (P : Named → Type 0) (serial : ℕ) (datagram : Named) → P datagram → IsWhole line P (frame_of_one serial datagram (line_data_length line datagram))
alone-whole line P serial datagram own = record {
  counted = let sum = sum_by-cons (own_bytes line) datagram [] in omega arith;
  some = omega arith;
  own = All-cons P datagram [] own (All-nil P);
}

joined-whole : (line : List Member) (P : Named → Type 0) (frame : Frame) (datagram : Named) → P datagram → IsWhole line P frame → IsWhole line P (frame_joined frame datagram (line_data_length line datagram))
joined-whole line P frame datagram own whole = record {
  counted = let sum = sum_by_push (own_bytes line) frame.datagrams datagram in omega (arith, whole.counted);
  some = grind (arith, length-append);
  own = All-push P frame.datagrams datagram whole.own own;
}

whole-either : (line : List Member) (P : Named → Type 0) (room : Bool) (frame : Frame) (rest other : List Frame) → All (IsWhole line P) rest → IsWhole line P frame → All (IsWhole line P) other
    → All (IsWhole line P) (cond room rest (frame ∷ other))
whole-either line P true frame rest other a b c = a
whole-either line P false frame rest other a b c = All-cons (IsWhole line P) frame other b c

whole-after_it : (line : List Member) (P : Named → Type 0) (frame : Frame) (datagrams : List Named) → IsWhole line P frame → All P datagrams → All (IsWhole line P) (framed_after line frame datagrams)
whole-after_it line P frame [] whole own = All-cons (IsWhole line P) frame [] whole (All-nil (IsWhole line P))
whole-after_it line P frame (datagram ∷ datagrams) whole own =
    let length = line_data_length line datagram in
    let first = All-head P datagram datagrams own in
    let others = All-tail P datagram datagrams own in
    whole-either line P (has_room frame.bytes length) frame (framed_after line (frame_joined frame datagram length) datagrams) (framed_after line (frame_of_one (frame.serial + 1) datagram length) datagrams)
    (whole-after_it line P (frame_joined frame datagram length) datagrams (joined-whole line P frame datagram first whole) others)
    whole
    (whole-after_it line P (frame_of_one (frame.serial + 1) datagram length) datagrams (alone-whole line P (frame.serial + 1) datagram first) others)

-- what holds of each datagram holds of those of the frames
pub whole-frames : (line : List Member) (P : Named → Type 0) (serial : ℕ) (datagrams : List Named) → All P datagrams → All (IsWhole line P) (framed line serial datagrams)
whole-frames line P serial [] own = All-nil (IsWhole line P)
whole-frames line P serial (datagram ∷ datagrams) own =
    whole-after_it line P (frame_of_one serial datagram (line_data_length line datagram)) datagrams (alone-whole line P serial datagram (All-head P datagram datagrams own)) (All-tail P datagram datagrams own)

-- the datagrams of tasks are in the line
numbers-below : (count : ℕ) → All (λ d. d < count) (range_with_len 0 count)
numbers-below count i d within = grind (arith, common_steps, length-range_with_len, get_or-range_with_len)

task-is_placed : (line : List Member) (task : ℕ) → All (IsInLine line) (task_datagrams line task)
task-is_placed line task =
    All-map (IsInLine line) (λ d. (task, d)) (range_with_len 0 (datagram_count (task_places task line))) (numbers-below (datagram_count (task_places task line)))

pub frames-are_placed : (line : List Member) (serial : ℕ) (tasks : List ℕ) → All (λ (frame : Frame). All (IsInLine line) frame.datagrams) (sendings_of line serial tasks)
frames-are_placed line serial tasks =
    All-weaker (IsWhole line (IsInLine line)) (λ (frame : Frame). All (IsInLine line) frame.datagrams) (λ frame whole. whole.own) (sendings_of line serial tasks)
    (whole-frames line (IsInLine line) serial (flat_map (task_datagrams line) tasks) (All-flat_map (IsInLine line) (task_datagrams line) tasks (λ i d within. task-is_placed line (get_or tasks i d))))

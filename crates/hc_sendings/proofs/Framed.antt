-- One more datagram after the frames.
use Rattle.std.proofs.Common.{◌≡◌, ◌∙◌, ◌+◌, ◌-◌, ◌≤◌, ℕ, Bool, true, false, cond, List, [], ◌∷◌, ◌++◌, length, get_or, set, take, refl, sym, ap, arith, append_assoc, length-append, map}
use Rattle.std.specs.Prelude.{Option, Some, None, IfSome}
use Rattle.std.specs.List.{range_with_len}
use Rattle.std.proofs.Math.Seq.{get_or-append_seam}
use Rattle.std.proofs.lemmas.List.{append-nil, get_or-set_same, length-set, take-append-le, take-set, take_all, take_more}
use Rattle.std.proofs.lemmas.Option.{get_or_from_slice_get, slice_get-get_or, slice_get_within}
use Rattle.std.proofs.lemmas.List.FromFn.{map-range_with_len_more}
use Rattle.hc_records.specs.Line.{Member}
use Rattle.hc_events.specs.Sendings.{Frame, Named, frame_of_one, framed_after, has_room, frame_joined, line_data_length}
use Rattle.hc_sendings.specs.Framing.{closed, done_by, framed_from, last_with, open_in}

-- ---- frames, the last one open

pub open-at : (frames : List Frame) (frame : Frame) → 1 ≤ length frames → frame ≡ get_or frames (length frames - 1) frame → open_in frames ≡ Some frame
open-at frames frame some is = slice_get-get_or frames (length frames - 1) frame (omega (arith, some)) ∙ ap (λ (f : Frame). Some f) (sym is)

closed-open : (frames : List Frame) (frame : Frame) → open_in frames ≡ Some frame → closed frames ++ frame ∷ [] ≡ frames
closed-open frames frame is =
    let inside = slice_get_within frames (length frames - 1) frame is in
    let last : length frames - 1 + 1 ≡ length frames = omega (arith, inside) in
    ap (λ (f : Frame). closed frames ++ f ∷ []) (sym (get_or_from_slice_get frames (length frames - 1) frame frame is))
    ∙ sym (take_more frames (length frames - 1) frame inside)
    ∙ ap (λ (n : ℕ). take n frames) last ∙ take_all (length frames) frames (omega arith)

closed-push : (frames : List Frame) (frame : Frame) → closed (frames ++ frame ∷ []) ≡ frames
closed-push frames frame =
    let long = length-append frames (frame ∷ []) in
    ap (λ (n : ℕ). take n (frames ++ frame ∷ [])) (omega (arith, long)) ∙ take-append-le (length frames) frames (frame ∷ []) (omega arith) ∙ take_all (length frames) frames (omega arith)

open-push : (frames : List Frame) (frame : Frame) → open_in (frames ++ frame ∷ []) ≡ Some frame
open-push frames frame =
    let long = length-append frames (frame ∷ []) in
    let last : length (frames ++ frame ∷ []) - 1 ≡ length frames = omega (arith, long) in
    open-at (frames ++ frame ∷ []) frame (omega (arith, long)) (sym (ap (λ (n : ℕ). get_or (frames ++ frame ∷ []) n frame) last ∙ get_or-append_seam frames frame [] frame))

-- none is open before the first

-- the open one has room

by-room : (frames : List Frame) (last frame : Frame) (serial bytes : ℕ) (datagram : Named) (room : Bool) → room ≡ true → frame ≡ frame_joined last datagram bytes
    → (closed frames ≡ closed frames ++ cond room [] (last ∷ [])) × (Some frame ≡ Some (cond room (frame_joined last datagram bytes) (frame_of_one (last.serial + 1) datagram bytes)))
by-room frames last frame serial bytes datagram true room is = (sym (append-nil (closed frames)), ap (λ (f : Frame). Some f) is)
by-room frames last frame serial bytes datagram false room is = cc

pub set-joined : (frames : List Frame) (last frame : Frame) (serial bytes : ℕ) (datagram : Named) → open_in frames ≡ Some last → has_room last.bytes bytes ≡ true → frame ≡ frame_joined last datagram bytes
    → (closed (set frames (length frames - 1) frame) ≡ closed frames ++ done_by (open_in frames) bytes)
    × (open_in (set frames (length frames - 1) frame) ≡ Some (last_with serial (open_in frames) datagram bytes))
set-joined frames last frame serial bytes datagram here room is =
    let at = length frames - 1 in
    let inside = slice_get_within frames at last here in
    let long = length-set frames at frame in
    let end : length (set frames at frame) - 1 ≡ at = omega (arith, long) in
    let both = by-room frames last frame serial bytes datagram (has_room last.bytes bytes) room is in
    let stay = ap (λ (n : ℕ). take n (set frames at frame)) end ∙ take-set frames at frame in
    let lent = open-at (set frames at frame) frame (omega (arith, long, inside)) (sym (ap (λ (n : ℕ). get_or (set frames at frame) n frame) end ∙ get_or-set_same frames at frame frame inside)) in
    rw here (stay ∙ both.0, lent ∙ both.1)

-- or it is done

by-full : (frames : List Frame) (last frame : Frame) (bytes : ℕ) (datagram : Named) (room : Bool) → room ≡ false → closed frames ++ last ∷ [] ≡ frames → frame ≡ frame_of_one (last.serial + 1) datagram bytes
    → (frames ≡ closed frames ++ cond room [] (last ∷ [])) × (Some frame ≡ Some (cond room (frame_joined last datagram bytes) (frame_of_one (last.serial + 1) datagram bytes)))
by-full frames last frame bytes datagram true room whole is = cc
by-full frames last frame bytes datagram false room whole is = (sym whole, ap (λ (f : Frame). Some f) is)

pub push-next : (frames : List Frame) (last frame : Frame) (serial bytes : ℕ) (datagram : Named) → open_in frames ≡ Some last → has_room last.bytes bytes ≡ false → frame ≡ frame_of_one (last.serial + 1) datagram bytes
    → (closed (frames ++ frame ∷ []) ≡ closed frames ++ done_by (open_in frames) bytes) × (open_in (frames ++ frame ∷ []) ≡ Some (last_with serial (open_in frames) datagram bytes))
push-next frames last frame serial bytes datagram here room is =
    let both = by-full frames last frame bytes datagram (has_room last.bytes bytes) room (closed-open frames last here) is in
    rw here (closed-push frames frame ∙ both.0, open-push frames frame ∙ both.1)

-- after all datagrams they are all frames

whole-by : (line : List Member) (serial : ℕ) (frames : List Frame) (last : Option Frame) → open_in frames ≡ last → closed frames ++ framed_from line serial last [] ≡ frames
whole-by line serial [] None none = refl
whole-by line serial (frame ∷ frames) None none =
    let some = slice_get-get_or (frame ∷ frames) (length (frame ∷ frames) - 1) frame (omega arith) in
    cc
whole-by line serial frames (Some last) here = closed-open frames last here

pub whole-of : (line : List Member) (serial : ℕ) (frames : List Frame) → closed frames ++ framed_from line serial (open_in frames) [] ≡ frames
whole-of line serial frames = whole-by line serial frames (open_in frames) refl

-- ---- one more datagram

either-room : (room : Bool) (line : List Member) (frame longer next : Frame) (rest : List Named)
    → cond room [] (frame ∷ []) ++ framed_after line (cond room longer next) rest ≡ cond room (framed_after line longer rest) (frame ∷ framed_after line next rest)
either-room true line frame longer next rest = refl
either-room false line frame longer next rest = refl

-- it comes first of what is left
framed-first : (line : List Member) (serial : ℕ) (last : Option Frame) (datagram : Named) (rest : List Named)
    → done_by last (line_data_length line datagram) ++ framed_from line serial (Some (last_with serial last datagram (line_data_length line datagram))) rest ≡ framed_from line serial last (datagram ∷ rest)
framed-first line serial None datagram rest = refl
framed-first line serial (Some frame) datagram rest =
    let length = line_data_length line datagram in
    either-room (has_room frame.bytes length) line frame (frame_joined frame datagram length) (frame_of_one (frame.serial + 1) datagram length) rest

-- the frames so far and the remaining ones, after a datagram more
pub framed-more : (line : List Member) (serial : ℕ) (done : List Frame) (last : Option Frame) (datagram : Named) (bytes : ℕ) (rest : List Named) → bytes ≡ line_data_length line datagram
    → (done ++ done_by last bytes) ++ framed_from line serial (Some (last_with serial last datagram bytes)) rest ≡ done ++ framed_from line serial last (datagram ∷ rest)
framed-more line serial done last datagram bytes rest is =
    append_assoc done (done_by last bytes) (framed_from line serial (Some (last_with serial last datagram bytes)) rest)
    ∙ ap (λ n. done ++ (done_by last n ++ framed_from line serial (Some (last_with serial last datagram n)) rest)) is
    ∙ ap (λ frames. done ++ frames) (framed-first line serial last datagram rest)

-- the numbers of a task's datagrams, one more
pub numbers-more : (task number : ℕ) (rest : List Named)
    → map (λ d. (task, d)) (range_with_len 0 number) ++ (task, number) ∷ rest ≡ map (λ d. (task, d)) (range_with_len 0 (number + 1)) ++ rest
numbers-more task number rest =
    sym (append_assoc (map (λ d. (task, d)) (range_with_len 0 number)) ((task, number) ∷ []) rest)
    ∙ ap (λ names. names ++ rest) (sym (map-range_with_len_more (λ d. (task, d)) 0 number number (omega arith)))

either-serial : (room : Bool) (frame : Frame) (datagram : Named) (length bound : ℕ) → frame.serial ≤ bound
    → (cond room (frame_joined frame datagram length) (frame_of_one (frame.serial + 1) datagram length)).serial ≤ bound + 1
either-serial true frame datagram length bound low = omega (arith, low)
either-serial false frame datagram length bound low = omega (arith, low)

-- a datagram takes one serial at most
pub serial-more : (serial : ℕ) (last : Option Frame) (datagram : Named) (length bound : ℕ) → serial ≤ bound → IfSome last (λ frame. frame.serial ≤ bound)
    → (last_with serial last datagram length).serial ≤ bound + 1
serial-more serial None datagram length bound low held = omega (arith, low)
serial-more serial (Some frame) datagram length bound low held = either-serial (has_room frame.bytes length) frame datagram length bound held

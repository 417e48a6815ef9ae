-- The stored frames stay those that the record awaits after frames of tasks.
use Rattle.std.proofs.Common.{◌≡◌, ◌≢◌, ℕ, ◌+◌, ◌<◌, Bool, true, false, cond, List, [], ◌∷◌, ◌++◌, filter, map, refl, sym, ap, subst, arith}
use Rattle.std.specs.Prelude.{All, AllPairs}
use Rattle.std.specs.List.{list_any}
use Rattle.std.proofs.lemmas.List.Elements.{All-nil, All-cons, All-append, All-filter, All-head, All-map, All-tail, All-weaker}
use Rattle.std.proofs.lemmas.List.Kept.{AllPairs-cons, AllPairs-filter}
use Rattle.hc_records.specs.Line.{Member}
use Rattle.hc_records.proofs.lemmas.Lists.{AllPairs-append, AllPairs-map, AllPairs-nil}
use Rattle.hc_events.specs.Accepted.{IsInLine}
use Rattle.hc_events.specs.Entries.{History, Sent}
use Rattle.hc_events.specs.Points.{line_of, next_serial}
use Rattle.hc_events.specs.Sendings.{Frame, Named, frame_of_one, framed, framed_after, has_room, frame_joined, line_data_length}
use Rattle.hc_events.proofs.lemmas.Once.{below_more}
use Rattle.hc_sendings.specs.Waiting as waiting
use Rattle.hc_sendings.specs.Waiting.{AwaitedFrame, AwaitedWrite, AwaitedDatagram, Waiting, all_writes, as_sent, is_still_awaited, sent, with_again}
use Rattle.hc_sendings.specs.Judging.{found_write}
use Rattle.hc_sendings.proofs.lemmas.Resent.{due-sent, sent-frames}
use Rattle.hc_sendings.specs.History.{KeepsAwaited}

-- a frame that carries something

pub record HasFirst (frame : Frame) : Type 0 where
  pub first : Named
  pub others : List Named
  pub some : frame.datagrams ≡ first ∷ others

abbrev IsPlaced : List Member → AwaitedFrame → Type 0
IsPlaced line frame = All (λ carried. IsInLine line carried.datagram) frame.datagrams

-- the parts of what is kept

push_one : {X : Type 0} (P : X → Type 0) (xs : List X) (x : X) → All P xs → P x → All P (xs ++ x ∷ [])
push_one P xs x all one = All-append P xs (x ∷ []) all (All-cons P x [] one (All-nil P))

again_is_placed : (line : List Member) (frame : List Named) (carried : List AwaitedDatagram) → All (λ one. IsInLine line one.datagram) carried → All (λ one. IsInLine line one.datagram) (map (waiting.sent_again frame) carried)
again_is_placed line frame carried all = All-map (λ (one : AwaitedDatagram). IsInLine line one.datagram) (waiting.sent_again frame) carried all

new_is_placed : (line : List Member) (frame : List Named) → All (IsInLine line) frame → All (λ one. IsInLine line one.datagram) (map waiting.just_sent frame)
new_is_placed line frame all = All-map (λ (one : AwaitedDatagram). IsInLine line one.datagram) waiting.just_sent frame all

last_below : (m n : ℕ) → m ≡ n → m < n + 1
last_below m n same = omega arith

new_awaited : (frame : Frame) → HasFirst frame → is_still_awaited (as_sent frame) ≡ true
new_awaited frame some = ap (λ (datagrams : List Named). list_any (λ (one : AwaitedDatagram). one.last_sent) (map waiting.just_sent datagrams)) some.some

unchanged_frames : (P : AwaitedFrame → Type 0) (again : List Named) (frames : List AwaitedFrame) (last : AwaitedFrame) → All (λ frame. P (with_again again frame)) frames → P last
    → All P (filter is_still_awaited (map (with_again again) frames) ++ last ∷ [])
unchanged_frames P again frames last all one =
    push_one P (filter is_still_awaited (map (with_again again) frames)) last (All-filter is_still_awaited P (map (with_again again) frames) (All-map P (with_again again) frames all)) one

-- one frame

pub waits-sent : (history : History) (stored : Waiting) (frame : Frame) → frame.serial ≡ next_serial history → HasFirst frame → All (IsInLine (line_of history)) frame.datagrams
    → KeepsAwaited history stored → KeepsAwaited (Sent frame.datagrams ∷ history) (sent stored frame)
waits-sent history stored frame number some are_placed waits =
    let ascends : AwaitedFrame → AwaitedFrame → Type 0 = λ a b. a.serial < b.serial in
    let back : (P : List AwaitedFrame → Type 0) → P (filter is_still_awaited (map (with_again frame.datagrams) stored.frames) ++ as_sent frame ∷ []) → P (sent stored frame).frames =
    λ P holds. subst P (sym (sent-frames frame stored.frames (new_awaited frame some))) holds in
    let below : All (λ (f : AwaitedFrame). f.serial < frame.serial) stored.frames = subst (λ n. All (λ (f : AwaitedFrame). f.serial < n) stored.frames) (sym number) waits.below in
    record {
      due = λ serial. due-sent history frame some.first some.others stored serial (found_write serial stored) number some.some waits below refl;
      ascend = back (AllPairs ascends) (AllPairs-append ascends (filter is_still_awaited (map (with_again frame.datagrams) stored.frames)) (as_sent frame ∷ [])
          (AllPairs-filter ascends is_still_awaited (map (with_again frame.datagrams) stored.frames) (AllPairs-map ascends (with_again frame.datagrams) stored.frames waits.ascend))
          (AllPairs-cons ascends (as_sent frame) [] (All-nil (ascends (as_sent frame))) (AllPairs-nil ascends))
          (All-filter is_still_awaited (λ (f : AwaitedFrame). All (ascends f) (as_sent frame ∷ [])) (map (with_again frame.datagrams) stored.frames)
          (All-map (λ (f : AwaitedFrame). All (ascends f) (as_sent frame ∷ [])) (with_again frame.datagrams) stored.frames
          (All-weaker (λ (f : AwaitedFrame). f.serial < frame.serial) (λ (f : AwaitedFrame). All (ascends (with_again frame.datagrams f)) (as_sent frame ∷ []))
          (λ f less. All-cons (ascends (with_again frame.datagrams f)) (as_sent frame) [] less (All-nil (ascends (with_again frame.datagrams f)))) stored.frames below))));
      below = back (All (λ (f : AwaitedFrame). f.serial < next_serial history + 1)) (unchanged_frames (λ f. f.serial < next_serial history + 1) frame.datagrams stored.frames (as_sent frame)
          (All-weaker (λ (f : AwaitedFrame). f.serial < next_serial history) (λ (f : AwaitedFrame). f.serial < next_serial history + 1) (λ f less. below_more f.serial (next_serial history) less) stored.frames waits.below)
          (last_below frame.serial (next_serial history) number));
      in_line = back (All (IsPlaced (line_of history))) (unchanged_frames (IsPlaced (line_of history)) frame.datagrams stored.frames (as_sent frame)
          (All-weaker (IsPlaced (line_of history)) (λ (f : AwaitedFrame). IsPlaced (line_of history) (with_again frame.datagrams f)) (λ f all. again_is_placed (line_of history) frame.datagrams f.datagrams all) stored.frames waits.in_line)
          (new_is_placed (line_of history) frame.datagrams are_placed));
      in_order = waits.in_order;
      distinct = waits.distinct;
      first = waits.first;
      given = All-weaker (λ (write : AwaitedWrite). write.serial < next_serial history) (λ (write : AwaitedWrite). write.serial < next_serial history + 1) (λ write less. below_more write.serial (next_serial history) less) (all_writes stored) waits.given;
      apart = apart_all (λ write. back (All (λ (f : AwaitedFrame). f.serial ≢ write.serial))) (all_writes stored) waits.given waits.apart;
      forgotten = waits.forgotten;
    }
  where
    apart_all : ((write : AwaitedWrite) → All (λ (f : AwaitedFrame). f.serial ≢ write.serial) (filter is_still_awaited (map (with_again frame.datagrams) stored.frames) ++ as_sent frame ∷ []) → All (λ (f : AwaitedFrame). f.serial ≢ write.serial) (sent stored frame).frames)
        → (writes : List AwaitedWrite) → All (λ (write : AwaitedWrite). write.serial < next_serial history) writes
        → All (λ (write : AwaitedWrite). All (λ (f : AwaitedFrame). f.serial ≢ write.serial) stored.frames) writes
        → All (λ (write : AwaitedWrite). All (λ (f : AwaitedFrame). f.serial ≢ write.serial) (sent stored frame).frames) writes
    apart_all back [] given apart = All-nil (λ (write : AwaitedWrite). All (λ (f : AwaitedFrame). f.serial ≢ write.serial) (sent stored frame).frames)
    apart_all back (write ∷ writes) given apart =
        let less : write.serial < next_serial history = All-head (λ (w : AwaitedWrite). w.serial < next_serial history) write writes given in
        All-cons (λ (w : AwaitedWrite). All (λ (f : AwaitedFrame). f.serial ≢ w.serial) (sent stored frame).frames) write writes
        (back write (unchanged_frames (λ f. f.serial ≢ write.serial) frame.datagrams stored.frames (as_sent frame)
        (All-head (λ (w : AwaitedWrite). All (λ (f : AwaitedFrame). f.serial ≢ w.serial) stored.frames) write writes apart)
        (λ same. omega (arith, less, same, number))))
        (apart_all back writes (All-tail (λ (w : AwaitedWrite). w.serial < next_serial history) write writes given)
        (All-tail (λ (w : AwaitedWrite). All (λ (f : AwaitedFrame). f.serial ≢ w.serial) stored.frames) write writes apart))

-- each frame of a proposal carries something

abbrev pub AllFirst : List Frame → Type 0
AllFirst frames = All HasFirst frames

first_either : (room : Bool) (frame : Frame) (rest other : List Frame) → AllFirst rest → HasFirst frame → AllFirst other → AllFirst (cond room rest (frame ∷ other))
first_either true frame rest other a b c = a
first_either false frame rest other a b c = All-cons HasFirst frame other b c

first_after : (line : List Member) (frame : Frame) (datagrams : List Named) → HasFirst frame → AllFirst (framed_after line frame datagrams)
first_after line frame [] some = All-cons HasFirst frame [] some (All-nil HasFirst)
first_after line frame (datagram ∷ datagrams) some =
    let length = line_data_length line datagram in
    first_either (has_room frame.bytes length) frame (framed_after line (frame_joined frame datagram length) datagrams) (framed_after line (frame_of_one (frame.serial + 1) datagram length) datagrams)
    (first_after line (frame_joined frame datagram length) datagrams (record { first = some.first; others = some.others ++ datagram ∷ []; some = ap (λ (names : List Named). names ++ datagram ∷ []) some.some }))
    some
    (first_after line (frame_of_one (frame.serial + 1) datagram length) datagrams (record { first = datagram; others = []; some = refl }))

pub frames-first : (line : List Member) (serial : ℕ) (datagrams : List Named) → AllFirst (framed line serial datagrams)
frames-first line serial [] = All-nil HasFirst
frames-first line serial (datagram ∷ datagrams) =
    first_after line (frame_of_one serial datagram (line_data_length line datagram)) datagrams (record { first = datagram; others = []; some = refl })

-- Under which serials the frames of an accepted event are found, and so a write.
use Rattle.std.proofs.Common.{◌≡◌, ℕ, ◌+◌, Bool, true, false, ◌&&◌, List, [], ◌∷◌, ◌++◌, length, map, refl, sym, ap, ◌∙◌, subst, append_assoc, Option, Some, None, ◌<◌, arith}
use Rattle.std.specs.Prelude.{All, IsNone}
use Rattle.std.specs.List.{list_all, list_any, range_with_len}
use Rattle.std.proofs.lemmas.List.Elements.{All-nil, All-cons, All-head, All-tail}
use Rattle.hc_records.specs.Line.{Member}
use Rattle.hc_records.specs.Lists.{lowest}
use Rattle.hc_registers.specs.Blocks.{LineBlock}
use Rattle.hc_events.specs.declared.faults.CoreFault.{CoreFault}
use Rattle.hc_events.specs.declared.answer.Answer.{Answer}
use Rattle.hc_events.specs.declared.answer.Answer.TheVariants as answer
use Rattle.hc_events.specs.Entries.{HistoryEntry, History, Opened, Edited, Posted, Sent, Wrote, Came, Forgot, Cleared, Unplugged}
use Rattle.hc_events.specs.Points.{line_of, next_serial}
use Rattle.hc_events.specs.Sendings.{Frame}
use Rattle.hc_events.specs.Heads.{data_heads}
use Rattle.hc_events.specs.Answering.{sending_of}
use Rattle.hc_events.specs.Owed.{owed_blocks}
use Rattle.hc_events.specs.ReadyLaws.{AreReadySent}
use Rattle.hc_events.specs.Steps.{unless_fault, proposal, ready_faults, sent_text, task_faults, unless, with_sent, with_write, write_faults, sent_write_answer, writes_answer, with_writes}
use Rattle.hc_events.specs.SendingLaws.{AreSent, IsFound, BlockIsWritten, is_frame, is_opening, BlocksAreWritten}
use Rattle.hc_events.proofs.lemmas.Frames.{proposals-numbered}
use Rattle.hc_events.proofs.lemmas.Placing.{found-under}
use Rattle.hc_events.specs.WriteFrames.{frame_blocks}
use Rattle.hc_events.proofs.lemmas.BlockSizes.{frame-holds}

-- frames are found under their own serials

-- what was sent after a record
record Adds (history after : History) : Type 0 where
  since : List HistoryEntry
  is : after ≡ since ++ history
  frames : list_all is_frame since ≡ true

and_then : (x y z : Bool) → (x && y) ≡ true → (y ≡ true → z ≡ true) → (x && z) ≡ true
and_then true y z e k = k e
and_then false y z e k = e

frames_joined : (first second : List HistoryEntry) → list_all is_frame first ≡ true → list_all is_frame second ≡ true → list_all is_frame (first ++ second) ≡ true
frames_joined [] second a b = b
frames_joined (entry ∷ first) second a b = and_then (is_frame entry) (list_all is_frame first) (list_all is_frame (first ++ second)) a (λ rest. frames_joined first second rest b)

adds : (history : History) (frames : List Frame) → Adds history (with_sent history frames)
adds history [] = record { since = []; is = refl; frames = refl }
adds history (frame ∷ frames) =
    let more = adds (Sent frame.datagrams ∷ history) frames in
    record {
      since = more.since ++ Sent frame.datagrams ∷ [];
      is = more.is ∙ sym (append_assoc more.since (Sent frame.datagrams ∷ []) history);
      frames = frames_joined more.since (Sent frame.datagrams ∷ []) more.frames refl;
    }

none_opened : (since : List HistoryEntry) → list_all is_frame since ≡ true → list_any is_opening since ≡ false
none_opened [] e = refl
none_opened (Sent frame ∷ since) e = none_opened since e
none_opened (Opened groups ∷ since) e = cc
none_opened (Edited edit ∷ since) e = cc
none_opened (Posted task bytes ∷ since) e = cc
none_opened (Forgot station ∷ since) e = cc
none_opened (Cleared station ∷ since) e = cc
none_opened (Unplugged station ∷ since) e = cc
none_opened (Wrote blocks ∷ since) e = cc
none_opened (Came arrival ∷ since) e = cc

-- a frame with this line's heads, found with nothing but frames since
abbrev IsFoundIn : List Member → History → Frame → Type 0
IsFoundIn line after frame = (since : List HistoryEntry) × (sending_of after frame.serial ≡ Some (record { heads = data_heads line frame.datagrams; since = since })) × (list_all is_frame since ≡ true)

first_number : (frame : Frame) (rest : List ℕ) (serial : ℕ) (more : List ℕ) → frame.serial ∷ rest ≡ serial ∷ more → (frame.serial ≡ serial) × (rest ≡ more)
first_number frame rest serial more e = (cc, cc)

found_all : (line : List Member) (history : History) (frames : List Frame) → line_of history ≡ line → map (λ (frame : Frame). frame.serial) frames ≡ range_with_len (next_serial history) (length frames) → All (IsFoundIn line (with_sent history frames)) frames
found_all line history [] same numbered = All-nil (IsFoundIn line history)
found_all line history (frame ∷ frames) same numbered =
    let next = Sent frame.datagrams ∷ history in
    let first = first_number frame (map (λ (f : Frame). f.serial) frames) (next_serial history) (range_with_len (next_serial history + 1) (length frames)) numbered in
    let more = adds next frames in
    All-cons (IsFoundIn line (with_sent next frames)) frame frames (
      more.since,
      ap (λ after. sending_of after frame.serial) more.is
          ∙ ap (sending_of (more.since ++ next)) first.0
          ∙ found-under more.since history (Sent frame.datagrams) refl (none_opened more.since more.frames)
          ∙ ap (λ members. Some (record { heads = data_heads members frame.datagrams; since = more.since })) same,
      more.frames,
    )
    (found_all line next frames same first.1)

are_found : (history after : History) (frames : List Frame) → All (IsFoundIn (line_of history) after) frames → All (IsFound history after) frames
are_found history after [] all = All-nil (IsFound history after)
are_found history after (frame ∷ frames) all =
    let first = All-head (IsFoundIn (line_of history) after) frame frames all in
    All-cons (IsFound history after) frame frames (record { since = first.0; found = first.1; frames = first.2 })
    (are_found history after frames (All-tail (IsFoundIn (line_of history) after) frame frames all))

found_unless : (history next : History) (refused : Option CoreFault) (frames : List Frame) → IsNone refused → All (IsFound history next) frames → All (IsFound history (unless_fault refused history next)) frames
found_unless history next None frames none all = all
found_unless history next (Some fault) frames none all = cc

answered_next : (refused : Option CoreFault) (answer_given : Answer) → IsNone refused → unless refused answer_given ≡ answer_given
answered_next None answer_given none = refl
answered_next (Some fault) answer_given none = cc

pub frames-found : (history : History) (tasks : List ℕ) → IsNone (lowest (task_faults history tasks)) → AreSent history tasks
frames-found history tasks none = record {
  answer = answered_next (lowest (task_faults history tasks)) (answer.Sent (map (sent_text history) (proposal history tasks))) none;
  found = found_unless history (with_sent history (proposal history tasks)) (lowest (task_faults history tasks)) (proposal history tasks) none
      (are_found history (with_sent history (proposal history tasks)) (proposal history tasks) (found_all (line_of history) history (proposal history tasks) refl (proposals-numbered history tasks)));
}

pub ready-found : (history : History) (tasks : List ℕ) → IsNone (lowest (ready_faults history tasks)) → AreReadySent history tasks
ready-found history tasks none = record {
  answer = answered_next (lowest (ready_faults history tasks)) (answer.Sent (map (sent_text history) (proposal history tasks))) none;
  found = found_unless history (with_sent history (proposal history tasks)) (lowest (ready_faults history tasks)) (proposal history tasks) none
      (are_found history (with_sent history (proposal history tasks)) (proposal history tasks) (found_all (line_of history) history (proposal history tasks) refl (proposals-numbered history tasks)));
}

-- and so is a write

pub unchanged_next : (history next : History) (refused : Option CoreFault) → IsNone refused → unless_fault refused history next ≡ next
unchanged_next history next None none = refl
unchanged_next history next (Some fault) none = cc

written_by : (history : History) (blocks : List LineBlock) → owed_blocks history ≡ blocks → IsNone (lowest (write_faults history blocks)) → BlockIsWritten history
written_by history [] owed none = cc
written_by history (block ∷ rest) owed none =
    let accepted : IsNone (lowest (write_faults history (owed_blocks history))) = subst (λ blocks. IsNone (lowest (write_faults history blocks))) (sym owed) none in
    record {
      block = block;
      rest = rest;
      first = owed;
      answer = answered_next (lowest (write_faults history (owed_blocks history))) (sent_write_answer (next_serial history) (owed_blocks history)) accepted
          ∙ ap (sent_write_answer (next_serial history)) owed;
      found = ap (λ after. sending_of after (next_serial history))
          (unchanged_next history (with_write history (owed_blocks history)) (lowest (write_faults history (owed_blocks history))) accepted ∙ ap (with_write history) owed)
          ∙ found-under [] history (Wrote (block ∷ [])) refl refl;
    }

pub writes-found : (history : History) → IsNone (lowest (write_faults history (owed_blocks history))) → BlockIsWritten history
writes-found history none = written_by history (owed_blocks history) refl none

-- and so is a frame of several writes

some_owed : (history : History) (blocks : List LineBlock) → IsNone (lowest (write_faults history blocks)) → 0 < length blocks
some_owed history [] none = cc
some_owed history (block ∷ blocks) none = omega arith

pub frame-some : (history : History) → IsNone (lowest (write_faults history (owed_blocks history))) → 0 < length (frame_blocks (owed_blocks history))
frame-some history none = frame-holds history (some_owed history (owed_blocks history) none)

pub written_next : (history : History) (blocks : List LineBlock) → 0 < length blocks → with_writes history blocks ≡ Wrote blocks ∷ history
written_next history [] some = absurd (omega arith)
written_next history (block ∷ blocks) some = refl

pub write-frames-found : (history : History) → IsNone (lowest (write_faults history (owed_blocks history))) → BlocksAreWritten history
write-frames-found history none =
    let blocks = frame_blocks (owed_blocks history) in
    let some = frame-some history none in
    record {
      some = some;
      answer = answered_next (lowest (write_faults history (owed_blocks history))) (writes_answer (next_serial history) blocks) none;
      found = ap (λ after. sending_of after (next_serial history)) (unchanged_next history (with_writes history blocks) (lowest (write_faults history (owed_blocks history))) none ∙ written_next history blocks some)
          ∙ found-under [] history (Wrote blocks) refl refl;
    }

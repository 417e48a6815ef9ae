-- The awaited frames of a core stay those that the record awaits after frames of tasks.
use Rattle.std.proofs.Common.{◌≡◌, ℕ, ◌+◌, List, [], ◌∷◌, length, map, refl, sym, subst}
use Rattle.std.specs.Prelude.{All}
use Rattle.std.specs.List.{flat_map, range_with_len}
use Rattle.std.proofs.lemmas.List.Elements.{All-head, All-tail}
use Rattle.hc_records.specs.Line.{Member}
use Rattle.hc_events.specs.Accepted.{IsInLine}
use Rattle.hc_events.specs.Entries.{History, Sent}
use Rattle.hc_events.specs.Points.{line_of, next_serial, state_of}
use Rattle.hc_events.specs.Sendings.{Frame, task_datagrams}
use Rattle.hc_events.specs.Steps.{proposal, with_sent}
use Rattle.hc_events.proofs.lemmas.Accepted.{proposal-is_placed}
use Rattle.hc_events.proofs.lemmas.Frames.{proposals-numbered}
use Rattle.hc_sendings.specs.History.{KeepsAwaited}
use Rattle.hc_sendings.specs.Waiting.{all_sent, all_writes, AwaitedWrite, sent, Waiting}
use Rattle.hc_sendings.proofs.lemmas.Sent.{HasFirst, frames-first, waits-sent}
use Rattle.hc_core.specs.Waits.{Waits}
use Rattle.hc_core.specs.Chosen.{IsAwaitedAt}

-- frames one after another

pub first-number : (frame : Frame) (rest : List ℕ) (serial : ℕ) (more : List ℕ) → frame.serial ∷ rest ≡ serial ∷ more → (frame.serial ≡ serial) × (rest ≡ more)
first-number frame rest serial more e = (cc, cc)

frames_wait : (frames : List Frame) (history : History) (unchanged : Waiting) (line : List Member) → line_of history ≡ line → map (λ (frame : Frame). frame.serial) frames ≡ range_with_len (next_serial history) (length frames)
    → All HasFirst frames → All (λ frame. All (IsInLine line) frame.datagrams) frames → KeepsAwaited history unchanged → KeepsAwaited (with_sent history frames) (all_sent unchanged frames)
frames_wait [] history unchanged line same numbers some are_placed waits = waits
frames_wait (frame ∷ frames) history unchanged line same numbers some are_placed waits =
    let first = first-number frame (map (λ (f : Frame). f.serial) frames) (next_serial history) (range_with_len (next_serial history + 1) (length frames)) numbers in
    frames_wait frames (Sent frame.datagrams ∷ history) (sent unchanged frame) line same first.1 (All-tail HasFirst frame frames some)
    (All-tail (λ (f : Frame). All (IsInLine line) f.datagrams) frame frames are_placed)
    (waits-sent history unchanged frame first.0 (All-head HasFirst frame frames some)
    (subst (λ members. All (IsInLine members) frame.datagrams) (sym same) (All-head (λ (f : Frame). All (IsInLine line) f.datagrams) frame frames are_placed))
    waits)

-- frames of tasks leave the writes that are awaited, and the line

same_writes : (frames : List Frame) (unchanged : Waiting) → all_writes (all_sent unchanged frames) ≡ all_writes unchanged
same_writes [] unchanged = refl
same_writes (frame ∷ frames) unchanged = same_writes frames (sent unchanged frame)

same_state : (frames : List Frame) (history : History) → state_of (with_sent history frames) ≡ state_of history
same_state [] history = refl
same_state (frame ∷ frames) history = same_state frames (Sent frame.datagrams ∷ history)

pub waits-all_sent : (history : History) (unchanged : Waiting) (tasks : List ℕ) → Waits history unchanged → Waits (with_sent history (proposal history tasks)) (all_sent unchanged (proposal history tasks))
waits-all_sent history unchanged tasks waits =
    let frames = proposal history tasks in
    record {
      awaits = frames_wait frames history unchanged (line_of history) refl (proposals-numbered history tasks)
          (frames-first (line_of history) (next_serial history) (flat_map (task_datagrams (line_of history)) tasks)) (proposal-is_placed history tasks) waits.awaits;
      placed = subst (λ writes. All (λ write. All (IsAwaitedAt (state_of (with_sent history frames))) write.blocks) writes) (sym (same_writes frames unchanged))
          (subst (λ state. All (λ (write : AwaitedWrite). All (IsAwaitedAt state) write.blocks) (all_writes unchanged)) (sym (same_state frames history)) waits.placed);
    }

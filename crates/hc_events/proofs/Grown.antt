-- Events add updates after those that there are.
use Rattle.std.proofs.Common.{◌≡◌, ℕ, Bool, true, false, cond, List, [], ◌∷◌, ◌++◌, map, refl, sym, ap, ◌∙◌, append_assoc, append-nil, Option, Some, None}
use Rattle.std.specs.Prelude.{Result, Ok, Err}
use Rattle.hc_records.specs.Lists.{lowest}
use Rattle.hc_registers.specs.Blocks.{LineBlock}
use Rattle.hc_frames.specs.declared.reading.faults.FrameFault.{FrameFault}
use Rattle.hc_events.specs.declared.faults.CoreFault.{CoreFault}
use Rattle.hc_events.specs.Arrivals.{Arrival, arrival_in}
use Rattle.hc_events.specs.Entries.{History, Edited, Posted, Sent, Forgot, Cleared, Unplugged}
use Rattle.hc_events.specs.Sendings.{Frame}
use Rattle.hc_events.specs.Images.{new_answer_by}
use Rattle.hc_events.specs.Changes.{Update, Swapped, Answered, updates_of}
use Rattle.hc_events.specs.Owed.{is_in_line, owed_blocks}
use Rattle.hc_events.specs.UnderWay.{further_blocks}
use Rattle.hc_events.specs.Ready.{with_cleared}
use Rattle.hc_events.specs.Steps.{Step, Edits, Posts, PostsSteady, SendsTasks, SendsWrite, Arrives, Reads, Forgets, SendsReady, Clears, Unplugs, unless_fault, edit_refused, clear_faults, forget_faults, ready_faults, unplug_faults, post_faults, post_steady_faults, proposal, task_faults, with_sent, write_faults, with_write, with_arrival, entries_after, entries_after_all, SendsFurther, SendsWrites, further_faults, with_writes}
use Rattle.hc_events.specs.UpdatesLaws.{Grows}
use Rattle.hc_events.specs.WriteFrames.{frame_blocks}

same : (updates : List Update) → Grows updates updates
same updates = record { more = []; joined = sym (append-nil updates) }

after_it : (old middle new : List Update) → Grows old middle → Grows middle new → Grows old new
after_it old middle new first second = record {
  more = first.more ++ second.more;
  joined = second.joined ∙ ap (λ updates. updates ++ second.more) first.joined ∙ append_assoc old first.more second.more;
}

grows_if : (old : List Update) (refused : Option CoreFault) (history next : History) → Grows old (updates_of history) → Grows old (updates_of next) → Grows old (updates_of (unless_fault refused history next))
grows_if old None history next before after = after
grows_if old (Some fault) history next before after = before

sent_same : (history : History) (frames : List Frame) → updates_of (with_sent history frames) ≡ updates_of history
sent_same history [] = refl
sent_same history (frame ∷ frames) = sent_same (Sent frame.datagrams ∷ history) frames

grows_sent : (history : History) (frames : List Frame) → Grows (updates_of history) (updates_of (with_sent history frames))
grows_sent history frames = record { more = []; joined = sent_same history frames ∙ sym (append-nil (updates_of history)) }

grows_write : (history : History) (blocks : List LineBlock) → Grows (updates_of history) (updates_of (with_write history blocks))
grows_write history [] = same (updates_of history)
grows_write history (block ∷ blocks) = same (updates_of history)

grows_writes : (history : History) (blocks : List LineBlock) → Grows (updates_of history) (updates_of (with_writes history blocks))
grows_writes history [] = same (updates_of history)
grows_writes history (block ∷ blocks) = same (updates_of history)

grows_arrival : (history : History) (read : Result Arrival FrameFault) → Grows (updates_of history) (updates_of (with_arrival history read))
grows_arrival history (Err fault) = same (updates_of history)
grows_arrival history (Ok arrival) = record { more = map Answered (new_answer_by history arrival); joined = refl }

grows_either : (old : List Update) (b : Bool) (x y : History) → Grows old (updates_of x) → Grows old (updates_of y) → Grows old (updates_of (cond b x y))
grows_either old true x y a b = a
grows_either old false x y a b = b

grows_cleared : (history : History) (station : ℕ) → Grows (updates_of history) (updates_of (with_cleared history station))
grows_cleared history station =
    grows_either (updates_of history) (is_in_line history station) (Cleared station ∷ Forgot station ∷ history) (Cleared station ∷ history) (same (updates_of history)) (same (updates_of history))

grows_after : (history : History) (step : Step) → Grows (updates_of history) (updates_of (entries_after history step))
grows_after history (Edits edit) =
    grows_if (updates_of history) (edit_refused history edit) history (Edited edit ∷ history) (same (updates_of history)) (record { more = Swapped edit ∷ []; joined = refl })
grows_after history (Posts task epoch bytes) =
    grows_if (updates_of history) (lowest (post_faults history task epoch bytes)) history (Posted task bytes ∷ history) (same (updates_of history)) (same (updates_of history))
grows_after history (PostsSteady task epoch bytes) =
    grows_if (updates_of history) (lowest (post_steady_faults history task epoch bytes)) history (Posted task bytes ∷ history) (same (updates_of history)) (same (updates_of history))
grows_after history (SendsTasks tasks) =
    grows_if (updates_of history) (lowest (task_faults history tasks)) history (with_sent history (proposal history tasks)) (same (updates_of history)) (grows_sent history (proposal history tasks))
grows_after history SendsWrite =
    grows_if (updates_of history) (lowest (write_faults history (owed_blocks history))) history (with_write history (owed_blocks history)) (same (updates_of history)) (grows_write history (owed_blocks history))
grows_after history SendsWrites =
    grows_if (updates_of history) (lowest (write_faults history (owed_blocks history))) history (with_writes history (frame_blocks (owed_blocks history))) (same (updates_of history))
    (grows_writes history (frame_blocks (owed_blocks history)))
grows_after history (Arrives bytes) = grows_arrival history (arrival_in bytes)
grows_after history (Reads task) = same (updates_of history)
grows_after history (Forgets station) =
    grows_if (updates_of history) (lowest (forget_faults history station)) history (Forgot station ∷ history) (same (updates_of history)) (same (updates_of history))
grows_after history (SendsReady tasks) =
    grows_if (updates_of history) (lowest (ready_faults history tasks)) history (with_sent history (proposal history tasks)) (same (updates_of history)) (grows_sent history (proposal history tasks))
grows_after history (Clears station) =
    grows_if (updates_of history) (lowest (clear_faults history station)) history (with_cleared history station) (same (updates_of history)) (grows_cleared history station)
grows_after history (Unplugs station) =
    grows_if (updates_of history) (lowest (unplug_faults history station)) history (Unplugged station ∷ history) (same (updates_of history)) (same (updates_of history))
grows_after history SendsFurther =
    grows_if (updates_of history) (lowest (further_faults history)) history (with_writes history (frame_blocks (further_blocks history))) (same (updates_of history))
    (grows_writes history (frame_blocks (further_blocks history)))

pub updates-grow : (history : History) (steps : List Step) → Grows (updates_of history) (updates_of (entries_after_all history steps))
updates-grow history [] = same (updates_of history)
updates-grow history (step ∷ steps) =
    after_it (updates_of history) (updates_of (entries_after history step)) (updates_of (entries_after_all (entries_after history step) steps)) (grows_after history step) (updates-grow (entries_after history step) steps)

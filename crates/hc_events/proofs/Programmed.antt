-- Events that don't send ready tasks send each frame of tasks while nothing is owed.
use Rattle.std.proofs.Common.{◌≡◌, ◌==◌, ◌&&◌, Bool, true, false, cond, List, [], ◌∷◌, length, refl, ap, ◌∙◌, Option, Some, None}
use Rattle.std.specs.Prelude.{Result, Ok, Err}
use Rattle.std.specs.List.{list_any}
use Rattle.std.proofs.lemmas.Bool.{or_parts}
use Rattle.hc_records.specs.declared.records.Group.{Group}
use Rattle.hc_records.specs.Lists.{lowest}
use Rattle.hc_registers.specs.Blocks.{LineBlock}
use Rattle.hc_frames.specs.declared.reading.faults.FrameFault.{FrameFault}
use Rattle.hc_events.specs.declared.faults.CoreFault.{CoreFault}
use Rattle.hc_events.specs.Accepted.{just_opened}
use Rattle.hc_events.specs.AnswerLaws.{sends_ready, sent_programmed}
use Rattle.hc_events.specs.Arrivals.{Arrival, arrival_in}
use Rattle.hc_events.specs.Entries.{History, Edited, Posted, Sent, Forgot, Cleared, Unplugged}
use Rattle.hc_events.specs.Owed.{is_in_line, owed_blocks}
use Rattle.hc_events.specs.UnderWay.{further_blocks}
use Rattle.hc_events.specs.Ready.{with_cleared}
use Rattle.hc_events.specs.Sendings.{Frame}
use Rattle.hc_events.specs.Steps.{Step, Edits, Posts, PostsSteady, SendsTasks, SendsWrite, SendsWrites, Arrives, Reads, Forgets, SendsReady, Clears, Unplugs, SendsFurther, clear_faults, edit_refused, entries_after, entries_after_all, forget_faults, further_faults, post_faults, post_steady_faults, proposal, task_faults, unless_fault, unplug_faults, with_arrival, with_sent, with_write, with_writes, write_faults}
use Rattle.hc_events.specs.WriteFrames.{frame_blocks}
use Rattle.hc_events.proofs.lemmas.Accepted.{nothing_owed}

abbrev IsProgrammed : History → Type 0
IsProgrammed history = sent_programmed history ≡ true

if_accepted : (refused : Option CoreFault) (history next : History) → (refused ≡ None → IsProgrammed next) → IsProgrammed history → IsProgrammed (unless_fault refused history next)
if_accepted None history next then' before = then' refl
if_accepted (Some fault) history next then' before = before

either : (b : Bool) (x y : History) → IsProgrammed x → IsProgrammed y → IsProgrammed (cond b x y)
either true x y a b = a
either false x y a b = b

sent_so : (history : History) (frames : List Frame) → owed_blocks history ≡ [] → IsProgrammed history → IsProgrammed (with_sent history frames)
sent_so history [] none before = before
sent_so history (frame ∷ frames) none before =
    sent_so (Sent frame.datagrams ∷ history) frames none (ap (λ blocks. (length blocks == 0) && sent_programmed history) none ∙ before)

wrote_so : (history : History) (blocks : List LineBlock) → IsProgrammed history → IsProgrammed (with_write history blocks)
wrote_so history [] before = before
wrote_so history (block ∷ blocks) before = before

wrote_several : (history : History) (blocks : List LineBlock) → IsProgrammed history → IsProgrammed (with_writes history blocks)
wrote_several history [] before = before
wrote_several history (block ∷ blocks) before = before

came_so : (history : History) (read : Result Arrival FrameFault) → IsProgrammed history → IsProgrammed (with_arrival history read)
came_so history (Err fault) before = before
came_so history (Ok arrival) before = before

one_step : (history : History) (step : Step) → sends_ready step ≡ false → IsProgrammed history → IsProgrammed (entries_after history step)
one_step history (Edits edit) other before = if_accepted (edit_refused history edit) history (Edited edit ∷ history) (λ e. before) before
one_step history (Posts task epoch bytes) other before = if_accepted (lowest (post_faults history task epoch bytes)) history (Posted task bytes ∷ history) (λ e. before) before
one_step history (PostsSteady task epoch bytes) other before =
    if_accepted (lowest (post_steady_faults history task epoch bytes)) history (Posted task bytes ∷ history) (λ e. before) before
one_step history (SendsTasks tasks) other before =
    if_accepted (lowest (task_faults history tasks)) history (with_sent history (proposal history tasks)) (λ e. sent_so history (proposal history tasks) (nothing_owed history tasks e) before) before
one_step history SendsWrite other before =
    if_accepted (lowest (write_faults history (owed_blocks history))) history (with_write history (owed_blocks history)) (λ e. wrote_so history (owed_blocks history) before) before
one_step history SendsWrites other before =
    if_accepted (lowest (write_faults history (owed_blocks history))) history (with_writes history (frame_blocks (owed_blocks history))) (λ e. wrote_several history (frame_blocks (owed_blocks history)) before) before
one_step history (Arrives bytes) other before = came_so history (arrival_in bytes) before
one_step history (Reads task) other before = before
one_step history (Forgets station) other before = if_accepted (lowest (forget_faults history station)) history (Forgot station ∷ history) (λ e. before) before
one_step history (SendsReady tasks) other before = cc
one_step history (Clears station) other before =
    if_accepted (lowest (clear_faults history station)) history (with_cleared history station) (λ e. either (is_in_line history station) (Cleared station ∷ Forgot station ∷ history) (Cleared station ∷ history) before before) before
one_step history (Unplugs station) other before = if_accepted (lowest (unplug_faults history station)) history (Unplugged station ∷ history) (λ e. before) before
one_step history SendsFurther other before =
    if_accepted (lowest (further_faults history)) history (with_writes history (frame_blocks (further_blocks history))) (λ e. wrote_several history (frame_blocks (further_blocks history)) before) before

all_steps : (history : History) (steps : List Step) → list_any sends_ready steps ≡ false → IsProgrammed history → IsProgrammed (entries_after_all history steps)
all_steps history [] other before = before
all_steps history (step ∷ steps) other before =
    let parts = or_parts (sends_ready step) (list_any sends_ready steps) other in
    all_steps (entries_after history step) steps parts.1 (one_step history step parts.0 before)

pub tasks-programmed : (groups : List Group) (steps : List Step) → list_any sends_ready steps ≡ false → IsProgrammed (entries_after_all (just_opened groups) steps)
tasks-programmed groups steps other = all_steps (just_opened groups) steps other refl

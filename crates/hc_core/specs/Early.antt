-- The faults that are judged before memory is allocated (this project's profile).
use Rattle.std.specs.Prelude.{◌≡◌, ℕ, ◌∷◌, Bool, IfSome, List, Option, length, map, option_map}
use Rattle.std.specs.List.{list_any}
use Rattle.hc_records.specs.Lists.{lowest}
use Rattle.hc_frames.specs.Arrived.{fault_in}
use Rattle.hc_groups.specs.Edits.{own_fault}
use Rattle.hc_events.specs.declared.answer.Answer.{Answer}
use Rattle.hc_events.specs.declared.answer.Answer.TheVariants as answer
use Rattle.hc_events.specs.declared.faults.CoreFault.{CoreFault}
use Rattle.hc_events.specs.declared.faults.CoreFault.TheVariants.{NoSuchTask}
use Rattle.hc_events.specs.Entries.{History}
use Rattle.hc_events.specs.Faults.{edit_refusal, frame_refusal}
use Rattle.hc_events.specs.Owed.{owed_blocks}
use Rattle.hc_events.specs.Points.{state_of}
use Rattle.hc_events.specs.Steps.{Step, Edits, Posts, PostsSteady, SendsTasks, SendsWrite, SendsWrites, Arrives, Reads, Forgets, SendsReady, Clears, Unplugs, SendsFurther, clear_faults, forget_faults, further_faults, is_no_task, post_faults, post_steady_faults, read_faults, unplug_faults, wait_fault, write_faults}
use Rattle.hc_sendings.specs.Refusals.{early_faults}

-- the faults of ready tasks before any frame is planned, in order: `NoSuchTask` if a number is no task's, then `Waits` of the
-- first of them that waits
abbrev pub early_ready_faults : History → List ℕ → List (Bool × CoreFault)
early_ready_faults history tasks = (list_any is_no_task tasks, NoSuchTask) ∷ map (wait_fault history) tasks

-- the fault of an event that is judged before memory is allocated. For an edit it is the one that the edit has by itself; for
-- tasks, that there is no such task, that blocks are owed, or that one waits; for any other event each fault that it has
abbrev pub early_fault : History → Step → Option CoreFault
early_fault history (Edits edit) = option_map edit_refusal (own_fault (state_of history).groups edit)
early_fault history (Posts task epoch bytes) = lowest (post_faults history task epoch bytes)
early_fault history (PostsSteady task epoch bytes) = lowest (post_steady_faults history task epoch bytes)
early_fault history (SendsTasks tasks) = lowest (early_faults (length (owed_blocks history)) tasks)
early_fault history SendsWrite = lowest (write_faults history (owed_blocks history))
early_fault history SendsWrites = lowest (write_faults history (owed_blocks history))
early_fault history (Arrives bytes) = option_map frame_refusal (fault_in bytes)
early_fault history (Reads task) = lowest (read_faults task)
early_fault history (Forgets station) = lowest (forget_faults history station)
early_fault history (SendsReady tasks) = lowest (early_ready_faults history tasks)
early_fault history (Clears station) = lowest (clear_faults history station)
early_fault history (Unplugs station) = lowest (unplug_faults history station)
early_fault history SendsFurther = lowest (further_faults history)

-- the answer to an event with such a fault is the refusal with it
abbrev pub ShowsEarly : History → Step → Answer → Type 0
ShowsEarly history step returned = IfSome (early_fault history step) (λ fault. returned ≡ answer.Refused fault)

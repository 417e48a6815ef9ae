-- The command `show`: the frame of a datagram that would be sent next.
use Rattle.std.specs.Prelude.{ℕ, nat_lt, if◌then◌else◌, List, Option, Some, None, codes}
use Rattle.hc_records.specs.declared.limits.TheConstants.{TASKS}
use Rattle.hc_events.specs.declared.faults.CoreFault.TheVariants.{NoSuchTask}
use Rattle.hc_events.specs.Calls.{preview}
use Rattle.hc_events.specs.Entries.{History}
use Rattle.hc_events.specs.Sendings.{Frame}
use Rattle.hc_events.specs.Steps.{sent_text}
use Rattle.hc_program.specs.Frames.{shown_line}
use Rattle.hc_program.specs.Refusals.{refusal_text}

-- a frame with its own serial, and the values that its datagram's output variables have now
unfoldable pub frame_or_none : History → Option Frame → List ℕ
frame_or_none history None = codes "none\n"
frame_or_none history (Some frame) = shown_line frame.serial (sent_text history frame)

-- the printed text of `show`, whether or not blocks are owed; a task over 7 is refused
unfoldable pub show_text : History → ℕ → ℕ → List ℕ
show_text history task number =
    if nat_lt task TASKS then frame_or_none history (preview history task number) else refusal_text NoSuchTask

-- The printed text of the core's answers.
use Rattle.std.specs.Prelude.{ℕ, ◌+◌, List, [], ◌∷◌, ◌++◌, Option, Some, None, codes}
use Rattle.std.specs.List.{flat_map}
use Rattle.std.specs.Fmt.{decimal}
use Rattle.hc_text.specs.Printing.{hex_bytes}
use Rattle.hc_events.specs.declared.answer.Answer.{Answer}
use Rattle.hc_events.specs.declared.answer.Answer.TheVariants as answer
use Rattle.hc_events.specs.declared.answer.Outcome.{Outcome}
use Rattle.hc_events.specs.declared.answer.Outcome.TheVariants as outcome
use Rattle.hc_events.specs.Entries.{History}
use Rattle.hc_events.specs.Points.{next_serial}
use Rattle.hc_events.specs.Steps.{Step, answer_to}
use Rattle.hc_program.specs.Frames.{sent_line}
use Rattle.hc_program.specs.Refusals.{refusal_text}

-- the line of an accepted edit: the epoch that it begins, the spans recut, and the moved blocks
unfoldable pub report_text : ℕ → ℕ → ℕ → List ℕ
report_text epoch recut moved =
    codes "epoch "
    ++ decimal epoch
    ++ codes " recut "
    ++ decimal recut
    ++ codes " moved "
    ++ decimal moved
    ++ codes "\n"

-- the lines of frames that are sent: the first has this serial and each later one the next
abbrev pub sent_lines : ℕ → List (List ℕ) → List ℕ
sent_lines serial [] = []
sent_lines serial (frame ∷ frames) = sent_line serial frame ++ sent_lines (serial + 1) frames

-- the lines of frames that are sent, or the line `no frame` if there is no frame
abbrev pub frames_text : ℕ → List (List ℕ) → List ℕ
frames_text serial [] = codes "no frame\n"
frames_text serial (frame ∷ frames) = sent_lines serial (frame ∷ frames)

-- two numbers at the end of a line
abbrev pub pair_text : ℕ → ℕ → List ℕ
pair_text first second = decimal first ++ codes " " ++ decimal second ++ codes "\n"

-- the text of an arrival's outcome for a datagram: its inputs by task and number, the expected counter and the one that came, or stale. The program writes each
-- register block in a frame of its own, so the outcome of a block among others has no text
unfoldable pub outcome_text : Outcome → List ℕ
outcome_text (outcome.Inputs task datagram) = codes "inputs " ++ pair_text task datagram
outcome_text (outcome.WrongCount expected got) = codes "wrong count " ++ pair_text expected got
outcome_text outcome.Stale = codes "stale\n"
outcome_text outcome.Done = []
outcome_text outcome.Missed = []

-- the data of a datagram, or none
abbrev pub data_text : Option (List ℕ) → List ℕ
data_text None = codes "none"
data_text (Some bytes) = hex_bytes bytes

-- the line `slot D HEX` of a datagram's number and its data, or `slot D none` if there are no data
unfoldable pub slot_text : ℕ → Option (List ℕ) → List ℕ
slot_text number slot = codes "slot " ++ decimal number ++ codes " " ++ data_text slot ++ codes "\n"

-- the slot lines of a task's datagrams, from this number on
abbrev pub slots_text : ℕ → List (Option (List ℕ)) → List ℕ
slots_text number [] = []
slots_text number (slot ∷ slots) = slot_text number slot ++ slots_text (number + 1) slots

-- the text of a read: the line `epoch E`, then the slots of the task's datagrams in order
unfoldable pub image_text : ℕ → List (Option (List ℕ)) → List ℕ
image_text epoch slots = codes "epoch " ++ decimal epoch ++ codes "\n" ++ slots_text 0 slots

-- the text of an answer; of frames that it sends the first has this serial. The program forgets, clears and unplugs no slave, and writes each register block in
-- a frame of its own, so the answers to those have no text
abbrev pub answer_text : ℕ → Answer → List ℕ
answer_text serial (answer.Edited epoch recut moved) = report_text epoch recut moved
answer_text serial answer.Posted = codes "posted\n"
answer_text serial (answer.Sent frames) = frames_text serial frames
answer_text serial (answer.WriteSent frame) = sent_line serial frame
answer_text serial (answer.WritesSent frame) = []
answer_text serial (answer.Answered outcomes) = flat_map outcome_text outcomes
answer_text serial answer.WriteDone = codes "write done\n"
answer_text serial answer.WriteMissed = codes "write missed\n"
answer_text serial (answer.Written outcomes) = []
answer_text serial answer.Stale = codes "stale\n"
answer_text serial (answer.Image epoch slots) = image_text epoch slots
answer_text serial answer.Forgotten = []
answer_text serial answer.Cleared = []
answer_text serial answer.Unplugged = []
answer_text serial (answer.Refused fault) = refusal_text fault

-- the text of an event: the answer to it, its frames having the next serials
unfoldable pub event_text : History → Step → List ℕ
event_text history step = answer_text (next_serial history) (answer_to history step)

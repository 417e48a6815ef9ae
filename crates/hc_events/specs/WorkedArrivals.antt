-- Worked arrivals, computed by the definitions: a wrong definition fails here.
use Rattle.std.specs.Prelude.{◌≡◌, [], ◌∷◌, ◌++◌, map, replicate, take, Some, None, refl}
use Rattle.hc_bits.specs.Bits.{bit_of, number_of}
use Rattle.hc_frames.specs.declared.commands.Command.TheVariants.{Fpwr}
use Rattle.hc_frames.specs.Arrived.{starts_within}
use Rattle.hc_events.specs.declared.answer.Answer.TheVariants as answer
use Rattle.hc_events.specs.declared.answer.Outcome.TheVariants.{Inputs}
use Rattle.hc_events.specs.declared.faults.CoreFault.TheVariants.{BadLength, Short}
use Rattle.hc_events.specs.Arrivals.{Part}
use Rattle.hc_events.specs.Entries.{HistoryEntry, History, Sent}
use Rattle.hc_events.specs.Points.{next_serial}
use Rattle.hc_events.specs.Steps.{SendsTasks, Arrives, Reads, answer_to, answers_to, entries_after}
use Rattle.hc_events.specs.WorkedAxis.{back, data_back, head_of, inputs_back, posted, sent_once, written}

-- A frame with the serial of a sending and another command or address, though of the same length, answers nothing and uses up nothing.

abbrev part_back : Part
part_back = data_back 0x01000000 (0x02 ∷ 0x34 ∷ 0x0a ∷ []) 3

foreign_frames : answers_to sent_once (
    back 4 (record part_back { command = Fpwr } ∷ [])
    ∷ back 4 (record part_back { address = 0x01000800 } ∷ [])
    ∷ back 4 (record part_back { address = 0x02000000 } ∷ [])
    ∷ Reads 0
    ∷ back 4 (part_back ∷ [])
    ∷ Reads 0
    ∷ [])
    ≡ answer.Stale
    ∷ answer.Stale
    ∷ answer.Stale
    ∷ answer.Image 0 (None ∷ [])
    ∷ answer.Answered (Inputs 0 0 ∷ [])
    ∷ answer.Image 0 (Some (0x02 ∷ 0x34 ∷ 0x0a ∷ []) ∷ [])
    ∷ []
unfolding bit_of number_of starts_within
foreign_frames = refl

-- The very bytes of an answer answer nothing before the sending, and answer it afterwards; the serial of alias reads and station writes is no sending's.

too_early : answers_to posted (
    Arrives inputs_back
    ∷ SendsTasks (0 ∷ [])
    ∷ back 0xffffffffff (part_back ∷ [])
    ∷ Arrives inputs_back
    ∷ Arrives inputs_back
    ∷ [])
    ≡ answer.Stale
    ∷ answer.Sent ((head_of 4 0x0f ++ 0x0c ∷ 0x04 ∷ 0 ∷ 0 ∷ 0 ∷ 0x01 ∷ 0x03 ∷ 0 ∷ 0 ∷ 0 ∷ 0x02 ∷ replicate 33 0) ∷ [])
    ∷ answer.Stale
    ∷ answer.Answered (Inputs 0 0 ∷ [])
    ∷ answer.Stale
    ∷ []
unfolding bit_of number_of starts_within
too_early = refl

-- The index is the serial's low byte: a frame with the index of the awaited one and another serial answers nothing.

abbrev task_sent : HistoryEntry
task_sent = Sent ((0, 0) ∷ [])

sent_entry : entries_after written (SendsTasks (0 ∷ [])) ≡ task_sent ∷ written
unfolding bit_of number_of starts_within
sent_entry = refl

abbrev later : History
later = replicate 257 task_sent ++ written

last_serial : next_serial later ≡ 261
unfolding bit_of number_of starts_within
last_serial = refl

same_index : map (answer_to later) (
    back 4 (data_back 0x01000000 (0 ∷ 0x34 ∷ 0x0a ∷ []) 3 ∷ [])
    ∷ back 260 (data_back 0x01000000 (0 ∷ 0x34 ∷ 0x0a ∷ []) 3 ∷ [])
    ∷ back 261 (data_back 0x01000000 (0 ∷ 0x34 ∷ 0x0a ∷ []) 3 ∷ [])
    ∷ [])
    ≡ answer.Stale ∷ answer.Answered (Inputs 0 0 ∷ []) ∷ answer.Stale ∷ []
unfolding bit_of number_of starts_within
same_index = refl

-- A frame that cannot be read is refused by the first fault that it has, and leaves the record as it was.

unreadable : map (answer_to sent_once) (Arrives [] ∷ Arrives (take 27 inputs_back) ∷ Arrives (take 30 inputs_back) ∷ [])
    ≡ answer.Refused Short ∷ answer.Refused Short ∷ answer.Refused BadLength ∷ []
unfolding bit_of number_of starts_within
unreadable = refl

unreadable_leaves : entries_after sent_once (Arrives (take 30 inputs_back)) ≡ sent_once
unfolding bit_of number_of starts_within
unreadable_leaves = refl

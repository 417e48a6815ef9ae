-- Worked records of further frames of register writes, sent while earlier ones are under way, computed by the definitions: a wrong definition fails here.
use Rattle.std.specs.Prelude.{◌≡◌, ℕ, List, [], ◌∷◌, ◌++◌, length, map, refl, Some, None}
use Rattle.hc_bits.specs.Bits.{bit_of, number_of}
use Rattle.hc_records.specs.Lists.{lowest}
use Rattle.hc_records.specs.declared.edit.Edit.TheVariants.{Remap}
use Rattle.hc_frames.specs.Arrived.{starts_within}
use Rattle.hc_events.specs.declared.answer.Answer.TheVariants as answer
use Rattle.hc_events.specs.declared.answer.Outcome.TheVariants.{Done, Missed}
use Rattle.hc_events.specs.declared.faults.CoreFault.TheVariants.{NothingOwed, Room, UnderWay}
use Rattle.hc_events.specs.Calls.{further_into_faults}
use Rattle.hc_events.specs.Entries.{History}
use Rattle.hc_events.specs.Steps.{Step, Edits, Forgets, SendsFurther, SendsWrite, SendsWrites, answers_to, entries_after_all}
use Rattle.hc_events.specs.UnderWay.{further_blocks}
use Rattle.hc_events.specs.WorkedAxis.{back, head_of, opened, write_back, written, written_at}
use Rattle.hc_events.specs.WorkedWrites.{input_sync, output_sync, sync_write}
use Rattle.hc_events.specs.WorkedWriteFrames.{all_four, four_back, three_back, three_datagrams, three_writes}

-- The axis' first block is under way in frame 0. A further frame carries the three others; then all four are under way, and nothing further can be sent.

abbrev two_frames : List Step
two_frames = SendsWrite ∷ SendsFurther ∷ []

abbrev both_under_way : History
both_under_way = entries_after_all opened two_frames

two_are_sent : answers_to opened (two_frames ++ SendsFurther ∷ [])
    ≡ answer.WriteSent (sync_write 0 0x10 output_sync)
    ∷ answer.WritesSent (three_writes 1)
    ∷ answer.Refused UnderWay
    ∷ []
unfolding bit_of number_of starts_within
two_are_sent = refl

-- Both are answered, in the order in which they were sent; then nothing is owed.

in_order : answers_to both_under_way (write_back 0 0x0810 8 1 ∷ three_back 1 1 1 1 ∷ SendsFurther ∷ [])
    ≡ answer.WriteDone ∷ answer.Written (Done ∷ Done ∷ Done ∷ []) ∷ answer.Refused NothingOwed ∷ []
unfolding bit_of number_of starts_within
in_order = refl

-- The later one is answered first: the earlier one stays under way, and its answer counts.

in_reverse : answers_to both_under_way (three_back 1 1 1 1 ∷ SendsFurther ∷ write_back 0 0x0810 8 1 ∷ SendsFurther ∷ [])
    ≡ answer.Written (Done ∷ Done ∷ Done ∷ []) ∷ answer.Refused UnderWay ∷ answer.WriteDone ∷ answer.Refused NothingOwed ∷ []
unfolding bit_of number_of starts_within
in_reverse = refl

-- The first frame is lost, and its block is sent again. A late answer to the lost frame is stale, and says nothing of the block.

one_lost : answers_to both_under_way (three_back 1 1 1 1 ∷ SendsWrites ∷ write_back 0 0x0810 8 1 ∷ SendsFurther ∷ write_back 2 0x0810 8 1 ∷ SendsFurther ∷ [])
    ≡ answer.Written (Done ∷ Done ∷ Done ∷ [])
    ∷ answer.WriteSent (sync_write 2 0x10 output_sync)
    ∷ answer.Stale
    ∷ answer.Refused UnderWay
    ∷ answer.WriteDone
    ∷ answer.Refused NothingOwed
    ∷ []
unfolding bit_of number_of starts_within
one_lost = refl

-- A block that came back with another counter is under way no longer: a further frame sends it again, beside the one that is under way.

one_missed : answers_to both_under_way (three_back 1 1 0 1 ∷ SendsFurther ∷ write_back 0 0x0810 8 1 ∷ write_back 2 0x0818 8 1 ∷ SendsFurther ∷ [])
    ≡ answer.Written (Done ∷ Missed ∷ Done ∷ [])
    ∷ answer.WriteSent (sync_write 2 0x18 input_sync)
    ∷ answer.WriteDone
    ∷ answer.WriteDone
    ∷ answer.Refused NothingOwed
    ∷ []
unfolding bit_of number_of starts_within
one_missed = refl

-- All four blocks are sent again in one frame, as they are owed: both older frames are stale then.

abbrev four_writes : ℕ → List ℕ
four_writes serial =
    head_of serial 0x60 ++ 0x05 ∷ serial ∷ 0xe9 ∷ 0x03 ∷ 0x10 ∷ 0x08 ∷ 0x08 ∷ 0x80 ∷ 0 ∷ 0 ∷ output_sync ++ 0 ∷ 0 ∷ three_datagrams serial

abbrev four_of_axis : ℕ → Step
four_of_axis serial =
    back serial (written_at 1001 0x0810 8 1 ∷ written_at 1001 0x0600 16 1 ∷ written_at 1001 0x0818 8 1 ∷ written_at 1001 0x0610 16 1 ∷ [])

all_again : answers_to both_under_way (SendsWrites ∷ three_back 1 1 1 1 ∷ write_back 0 0x0810 8 1 ∷ four_of_axis 2 ∷ [])
    ≡ answer.WritesSent (four_writes 2) ∷ answer.Stale ∷ answer.Stale ∷ answer.Written (Done ∷ Done ∷ Done ∷ Done ∷ []) ∷ []
unfolding bit_of number_of starts_within
all_again = refl

-- A further frame is the frame of the first owed blocks if nothing is under way.

at_first : answers_to opened (SendsFurther ∷ four_of_axis 0 ∷ SendsFurther ∷ [])
    ≡ answer.WritesSent (four_writes 0) ∷ answer.Written (Done ∷ Done ∷ Done ∷ Done ∷ []) ∷ answer.Refused NothingOwed ∷ []
unfolding bit_of number_of starts_within
at_first = refl

-- the number of blocks that a further frame could carry: at the opening, with one and with two frames under way, after an edit,
-- which leaves nothing under way, and after the answers to both

further_counts : map (λ history. length (further_blocks history)) (
    opened
    ∷ entries_after_all opened (SendsWrite ∷ [])
    ∷ both_under_way
    ∷ entries_after_all both_under_way (Edits (Remap 1001 0 (0x1600 ∷ [])) ∷ [])
    ∷ entries_after_all both_under_way (three_back 1 1 1 1 ∷ write_back 0 0x0810 8 1 ∷ [])
    ∷ [])
    ≡ 4 ∷ 3 ∷ 0 ∷ 4 ∷ 0 ∷ []
unfolding bit_of number_of starts_within
further_counts = refl

-- Of two slaves one is forgotten while the frame of all four blocks is under way. A further frame writes its two blocks, and starts over: the older frame is stale, and the blocks of the other slave are sent again.

abbrev one_forgotten : List Step
one_forgotten = Forgets 1001 ∷ SendsFurther ∷ []

abbrev two_back : ℕ → ℕ → Step
two_back station serial = back serial (written_at station 0x0810 8 1 ∷ written_at station 0x0600 16 1 ∷ [])

forgotten_and_over : answers_to (entries_after_all all_four one_forgotten) (four_back 0 ∷ two_back 1001 1 ∷ [])
    ≡ answer.Stale ∷ answer.Written (Done ∷ Done ∷ []) ∷ []
unfolding bit_of number_of starts_within
forgotten_and_over = refl

others_again : answers_to (entries_after_all all_four (one_forgotten ++ SendsFurther ∷ [])) (two_back 1002 2 ∷ two_back 1001 1 ∷ SendsFurther ∷ [])
    ≡ answer.Written (Done ∷ Done ∷ []) ∷ answer.Written (Done ∷ Done ∷ []) ∷ answer.Refused NothingOwed ∷ []
unfolding bit_of number_of starts_within
others_again = refl

-- the number of blocks that a further frame could carry: with the frame of four under way, with one slave forgotten, after the
-- frame that starts over, and after one more

forgotten_counts : map (λ history. length (further_blocks history)) (
    all_four
    ∷ entries_after_all all_four (Forgets 1001 ∷ [])
    ∷ entries_after_all all_four one_forgotten
    ∷ entries_after_all all_four (one_forgotten ++ SendsFurther ∷ [])
    ∷ [])
    ≡ 0 ∷ 2 ∷ 2 ∷ 0 ∷ []
unfolding bit_of number_of starts_within
forgotten_counts = refl

-- A slice that is a byte too short is refused with the bytes that the whole frame needs, but only if there is no other fault.

short_slices : map (λ bytes. lowest (further_into_faults (entries_after_all opened (SendsWrite ∷ [])) bytes)) (0 ∷ 91 ∷ 92 ∷ []) ≡ Some (Room 92) ∷ Some (Room 92) ∷ None ∷ []
unfolding bit_of number_of starts_within
short_slices = refl

none_further : map (λ history. lowest (further_into_faults history 0)) (both_under_way ∷ written ∷ []) ≡ Some UnderWay ∷ Some NothingOwed ∷ []
unfolding bit_of number_of starts_within
none_further = refl

-- Worked records of several register writes in one frame, computed by the definitions: a wrong definition fails here.
use Rattle.std.specs.Prelude.{◌≡◌, ℕ, suc, zero, List, [], ◌∷◌, ◌++◌, length, map, replicate, refl, Some, None}
use Rattle.hc_bits.specs.Bits.{bit_of, number_of}
use Rattle.hc_records.specs.declared.records.Dir.TheVariants.{Out}
use Rattle.hc_records.specs.declared.records.Slave.{Slave}
use Rattle.hc_records.specs.Lists.{lowest}
use Rattle.hc_registers.specs.Blocks.{LineBlock}
use Rattle.hc_frames.specs.Arrived.{starts_within}
use Rattle.hc_events.specs.declared.answer.Answer.TheVariants as answer
use Rattle.hc_events.specs.declared.answer.Outcome.TheVariants.{Done, Missed, Stale}
use Rattle.hc_events.specs.declared.faults.CoreFault.TheVariants.{NothingOwed, Room, Unprogrammed}
use Rattle.hc_events.specs.Arrivals.{Part}
use Rattle.hc_events.specs.Calls.{write_all_into_faults}
use Rattle.hc_events.specs.Entries.{History, Opened}
use Rattle.hc_events.specs.Steps.{Step, Forgets, SendsTasks, SendsWrite, SendsWrites, answer_to, answers_to, entries_after_all}
use Rattle.hc_events.specs.WorkedAxis.{area_of, back, head_of, opened, owed_count, write_back, written, written_at}
use Rattle.hc_events.specs.WorkedWrites.{fmmu_write, input_fmmu, input_sync, output_fmmu, sync_write}
use Rattle.hc_events.specs.WriteFrames.{frame_blocks}

-- The first of the axis' four blocks is written by itself; the frame after that carries the three others, one datagram after another, and each but the last says that more follow.

abbrev one_written : History
one_written = entries_after_all opened (SendsWrite ∷ write_back 0 0x0810 8 1 ∷ [])

abbrev pub three_datagrams : ℕ → List ℕ
three_datagrams serial =
    0x05 ∷ serial ∷ 0xe9 ∷ 0x03 ∷ 0x00 ∷ 0x06 ∷ 0x10 ∷ 0x80 ∷ 0 ∷ 0 ∷ output_fmmu
    ++ 0 ∷ 0 ∷ 0x05 ∷ serial ∷ 0xe9 ∷ 0x03 ∷ 0x18 ∷ 0x08 ∷ 0x08 ∷ 0x80 ∷ 0 ∷ 0 ∷ input_sync
    ++ 0 ∷ 0 ∷ 0x05 ∷ serial ∷ 0xe9 ∷ 0x03 ∷ 0x10 ∷ 0x06 ∷ 0x10 ∷ 0x00 ∷ 0 ∷ 0 ∷ input_fmmu
    ++ 0 ∷ 0 ∷ []

abbrev pub three_writes : ℕ → List ℕ
three_writes serial = head_of serial 0x4c ++ three_datagrams serial

three_in_one_frame : answer_to one_written SendsWrites ≡ answer.WritesSent (three_writes 1)
unfolding bit_of number_of starts_within
three_in_one_frame = refl

-- the three blocks as they come back with these working counters
abbrev three_parts : ℕ → ℕ → ℕ → List Part
three_parts first second third = written_at 1001 0x0600 16 first ∷ written_at 1001 0x0818 8 second ∷ written_at 1001 0x0610 16 third ∷ []

abbrev pub three_back : ℕ → ℕ → ℕ → ℕ → Step
three_back serial first second third = back serial (three_parts first second third)

-- Each block is done by its own counter, and after that nothing is owed; the frame is answered once.

all_done : answers_to one_written (SendsWrites ∷ three_back 1 1 1 1 ∷ three_back 1 1 1 1 ∷ SendsWrites ∷ SendsWrite ∷ [])
    ≡ answer.WritesSent (three_writes 1)
    ∷ answer.Written (Done ∷ Done ∷ Done ∷ [])
    ∷ answer.Stale
    ∷ answer.Refused NothingOwed
    ∷ answer.Refused NothingOwed
    ∷ []
unfolding bit_of number_of starts_within
all_done = refl

-- A block that came back with another counter stays owed, and so the next frame has one block alone, as its single write has.

one_missed : answers_to one_written (SendsWrites ∷ three_back 1 1 0 1 ∷ SendsWrites ∷ write_back 2 0x0818 8 2 ∷ SendsWrites ∷ write_back 3 0x0818 8 1 ∷ SendsWrites ∷ [])
    ≡ answer.WritesSent (three_writes 1)
    ∷ answer.Written (Done ∷ Missed ∷ Done ∷ [])
    ∷ answer.WriteSent (sync_write 2 0x18 input_sync)
    ∷ answer.WriteMissed
    ∷ answer.WriteSent (sync_write 3 0x18 input_sync)
    ∷ answer.WriteDone
    ∷ answer.Refused NothingOwed
    ∷ []
unfolding bit_of number_of starts_within
one_missed = refl

-- Until it is answered the same blocks are sent again; then the older frame says nothing any more.

sent_again : answers_to one_written (SendsWrites ∷ SendsWrites ∷ three_back 1 1 1 1 ∷ three_back 2 0 0 0 ∷ SendsWrites ∷ three_back 3 1 1 1 ∷ [])
    ≡ answer.WritesSent (three_writes 1)
    ∷ answer.WritesSent (three_writes 2)
    ∷ answer.Stale
    ∷ answer.Written (Missed ∷ Missed ∷ Missed ∷ [])
    ∷ answer.WritesSent (three_writes 3)
    ∷ answer.Written (Done ∷ Done ∷ Done ∷ [])
    ∷ []
unfolding bit_of number_of starts_within
sent_again = refl

-- A single write after the frame takes its block out of the frame, and leaves the others.

one_beside : answers_to one_written (SendsWrites ∷ SendsWrite ∷ three_back 1 1 1 1 ∷ SendsTasks [] ∷ write_back 2 0x0600 16 1 ∷ SendsWrite ∷ [])
    ≡ answer.WritesSent (three_writes 1)
    ∷ answer.WriteSent (fmmu_write 2 0x00 output_fmmu)
    ∷ answer.Written (Stale ∷ Done ∷ Done ∷ [])
    ∷ answer.Refused (Unprogrammed 1)
    ∷ answer.WriteDone
    ∷ answer.Refused NothingOwed
    ∷ []
unfolding bit_of number_of starts_within
one_beside = refl

-- A frame with a datagram less, or with two of them in another order, answers nothing and uses up nothing.

other_frames : answers_to one_written (
    SendsWrites
    ∷ back 1 (written_at 1001 0x0600 16 1 ∷ written_at 1001 0x0818 8 1 ∷ [])
    ∷ back 1 (written_at 1001 0x0818 8 1 ∷ written_at 1001 0x0600 16 1 ∷ written_at 1001 0x0610 16 1 ∷ [])
    ∷ three_back 1 1 1 1
    ∷ [])
    ≡ answer.WritesSent (three_writes 1) ∷ answer.Stale ∷ answer.Stale ∷ answer.Written (Done ∷ Done ∷ Done ∷ []) ∷ []
unfolding bit_of number_of starts_within
other_frames = refl

-- Of two slaves with two blocks each one is forgotten while the frame of all four is under way: its blocks confirm nothing, those of the other do.

abbrev byte_slave : ℕ → ℕ → Slave
byte_slave station variable = record { station = station; areas = area_of 2 Out 0x1100 0x1600 variable 8 ∷ [] }

abbrev pub two_slaves : History
two_slaves = Opened (record { alias = 0; slaves = byte_slave 1001 1 ∷ byte_slave 1002 2 ∷ [] } ∷ []) ∷ []

abbrev pub four_back : ℕ → Step
four_back serial = back serial (written_at 1001 0x0810 8 1 ∷ written_at 1001 0x0600 16 1 ∷ written_at 1002 0x0810 8 1 ∷ written_at 1002 0x0600 16 1 ∷ [])

abbrev pub all_four : History
all_four = entries_after_all two_slaves (SendsWrites ∷ [])

forgotten_in_between : answers_to all_four (Forgets 1001 ∷ four_back 0 ∷ [])
    ≡ answer.Forgotten ∷ answer.Written (Stale ∷ Stale ∷ Done ∷ Done ∷ []) ∷ []
unfolding bit_of number_of starts_within
forgotten_in_between = refl

-- A write after that starts over: then the frame from before says nothing of the other slave either.

started_over : answers_to (entries_after_all all_four (Forgets 1002 ∷ SendsWrite ∷ [])) (four_back 0 ∷ write_back 1 0x0810 8 1 ∷ [])
    ≡ answer.Stale ∷ answer.WriteDone ∷ []
unfolding bit_of number_of starts_within
started_over = refl

-- the number of owed blocks: at the opening, with the frame of all under way, after its answer, and after its answer with one
-- slave forgotten before

owed_counts : map owed_count (
    two_slaves
    ∷ all_four
    ∷ entries_after_all all_four (four_back 0 ∷ [])
    ∷ entries_after_all all_four (Forgets 1001 ∷ four_back 0 ∷ [])
    ∷ [])
    ≡ 4 ∷ 4 ∷ 0 ∷ 2 ∷ []
unfolding bit_of number_of starts_within
owed_counts = refl

-- A slice that is a byte too short is refused with the bytes that the whole frame needs, whatever would fit, but only if there
-- is no other fault.

short_slices : map (λ bytes. lowest (write_all_into_faults one_written bytes)) (0 ∷ 60 ∷ 91 ∷ 92 ∷ []) ≡ Some (Room 92) ∷ Some (Room 92) ∷ Some (Room 92) ∷ None ∷ []
unfolding bit_of number_of starts_within
short_slices = refl

nothing_to_write : lowest (write_all_into_faults written 0) ≡ Some NothingOwed
unfolding bit_of number_of starts_within
nothing_to_write = refl

-- A frame holds 74 blocks of 8 bytes, and 62 if blocks of 8 and 16 bytes take turns, so that 104 of them take two frames.

abbrev block_of : ℕ → LineBlock
block_of size = record { station = 1001; number = 0; block = record { register = 0x0600; bytes = replicate size 0 } }

abbrev pairs : ℕ → List LineBlock
pairs zero = []
pairs (suc n) = block_of 8 ∷ block_of 16 ∷ pairs n

held : map (λ blocks. length (frame_blocks blocks)) (replicate 75 (block_of 8) ∷ pairs 52 ∷ pairs 21 ∷ []) ≡ 74 ∷ 62 ∷ 42 ∷ []
held = refl

-- Worked records of register writes, computed by the definitions: a wrong definition fails here.
use Rattle.std.specs.Prelude.{◌≡◌, ℕ, List, [], ◌∷◌, ◌++◌, replicate, refl}
use Rattle.hc_bits.specs.Bits.{bit_of, number_of}
use Rattle.hc_records.specs.declared.edit.Edit.TheVariants.{Remap}
use Rattle.hc_frames.specs.declared.commands.Command.TheVariants.{Apwr, Lrw}
use Rattle.hc_frames.specs.Arrived.{starts_within}
use Rattle.hc_events.specs.declared.answer.Answer.TheVariants as answer
use Rattle.hc_events.specs.declared.faults.CoreFault.TheVariants.{NothingOwed, Unprogrammed}
use Rattle.hc_events.specs.Entries.{History}
use Rattle.hc_events.specs.Steps.{Step, Edits, SendsTasks, SendsWrite, answers_to, entries_after, entries_after_all}
use Rattle.hc_events.specs.WorkedAxis.{back, head_of, opened, owed_count, write_back, written, written_at}

-- the frames that write a sync manager's block and an FMMU's

abbrev pub sync_write : ℕ → ℕ → List ℕ → List ℕ
sync_write serial register bytes =
    head_of serial 0x14 ++ 0x05 ∷ serial ∷ 0xe9 ∷ 0x03 ∷ register ∷ 0x08 ∷ 0x08 ∷ 0 ∷ 0 ∷ 0 ∷ bytes ++ replicate 26 0

abbrev pub fmmu_write : ℕ → ℕ → List ℕ → List ℕ
fmmu_write serial register bytes =
    head_of serial 0x1c ++ 0x05 ∷ serial ∷ 0xe9 ∷ 0x03 ∷ register ∷ 0x06 ∷ 0x10 ∷ 0 ∷ 0 ∷ 0 ∷ bytes ++ replicate 18 0

abbrev pub output_fmmu : List ℕ
output_fmmu =
    0x00 ∷ 0x00 ∷ 0x00 ∷ 0x01 ∷ 0x01 ∷ 0x00 ∷ 0x00 ∷ 0x01 ∷ 0x00 ∷ 0x11 ∷ 0x00 ∷ 0x02 ∷ 0x01 ∷ 0x00 ∷ 0x00 ∷ 0x00 ∷ []

abbrev pub input_fmmu : List ℕ
input_fmmu =
    0x01 ∷ 0x00 ∷ 0x00 ∷ 0x01 ∷ 0x02 ∷ 0x00 ∷ 0x00 ∷ 0x03 ∷ 0x80 ∷ 0x11 ∷ 0x00 ∷ 0x01 ∷ 0x01 ∷ 0x00 ∷ 0x00 ∷ 0x00 ∷ []

abbrev pub output_sync : List ℕ
output_sync = 0x00 ∷ 0x11 ∷ 0x01 ∷ 0x00 ∷ 0x64 ∷ 0x00 ∷ 0x01 ∷ 0x00 ∷ []

abbrev pub input_sync : List ℕ
input_sync = 0x80 ∷ 0x11 ∷ 0x02 ∷ 0x00 ∷ 0x20 ∷ 0x00 ∷ 0x01 ∷ 0x00 ∷ []

-- the number of owed blocks before each of these events, and after the last one
abbrev owed_along : History → List Step → List ℕ
owed_along history [] = owed_count history ∷ []
owed_along history (step ∷ steps) = owed_count history ∷ owed_along (entries_after history step) steps

-- The four blocks of a slave are written, the first owed one each time, and no task is sent before the last is confirmed.

abbrev up_to_the_last : List Step
up_to_the_last =
    SendsWrite ∷ write_back 0 0x0810 8 1
    ∷ SendsWrite ∷ write_back 1 0x0600 16 1
    ∷ SendsWrite ∷ write_back 2 0x0818 8 1
    ∷ SendsWrite ∷ []

four_blocks : answers_to opened (up_to_the_last ++ SendsTasks (0 ∷ []) ∷ write_back 3 0x0610 16 1 ∷ SendsWrite ∷ [])
    ≡ answer.WriteSent (sync_write 0 0x10 output_sync) ∷ answer.WriteDone
    ∷ answer.WriteSent (fmmu_write 1 0x00 output_fmmu) ∷ answer.WriteDone
    ∷ answer.WriteSent (sync_write 2 0x18 input_sync) ∷ answer.WriteDone
    ∷ answer.WriteSent (fmmu_write 3 0x10 input_fmmu)
    ∷ answer.Refused (Unprogrammed 1)
    ∷ answer.WriteDone
    ∷ answer.Refused NothingOwed
    ∷ []
unfolding bit_of number_of starts_within
four_blocks = refl

owed_less_and_less : owed_along opened up_to_the_last ≡ 4 ∷ 4 ∷ 3 ∷ 3 ∷ 2 ∷ 2 ∷ 1 ∷ 1 ∷ []
unfolding bit_of number_of starts_within
owed_less_and_less = refl

-- The owed block is written again until an answer confirms it; an answer to an older write of it does not.

abbrev before_the_last : History
before_the_last = entries_after_all opened up_to_the_last

abbrev again_and_again : List Step
again_and_again =
    write_back 3 0x0610 16 0
    ∷ SendsWrite
    ∷ SendsWrite
    ∷ write_back 4 0x0610 16 1
    ∷ write_back 5 0x0610 16 1
    ∷ []

confirmed_at_last : answers_to before_the_last (again_and_again ++ SendsWrite ∷ [])
    ≡ answer.WriteMissed
    ∷ answer.WriteSent (fmmu_write 4 0x10 input_fmmu)
    ∷ answer.WriteSent (fmmu_write 5 0x10 input_fmmu)
    ∷ answer.Stale
    ∷ answer.WriteDone
    ∷ answer.Refused NothingOwed
    ∷ []
unfolding bit_of number_of starts_within
confirmed_at_last = refl

owed_until_then : owed_along before_the_last again_and_again ≡ 1 ∷ 1 ∷ 1 ∷ 1 ∷ 1 ∷ 0 ∷ []
unfolding bit_of number_of starts_within
owed_until_then = refl

-- a write is answered once: the frame that came back with another counter than 1 uses the answer up

missed_for_good : answers_to before_the_last (write_back 3 0x0610 16 2 ∷ write_back 3 0x0610 16 1 ∷ []) ≡ answer.WriteMissed ∷ answer.Stale ∷ []
unfolding bit_of number_of starts_within
missed_for_good = refl

-- A frame with the write's serial and another command, station, register or length answers nothing and uses up nothing.

other_writes : answers_to before_the_last (
    back 3 (record (written_at 1001 0x0610 16 1) { command = Apwr } ∷ [])
    ∷ back 3 (record (written_at 1001 0x0610 16 1) { command = Lrw } ∷ [])
    ∷ back 3 (written_at 1002 0x0610 16 1 ∷ [])
    ∷ write_back 3 0x0600 16 1
    ∷ write_back 3 0x0610 8 1
    ∷ write_back 3 0x0610 16 1
    ∷ [])
    ≡ answer.Stale ∷ answer.Stale ∷ answer.Stale ∷ answer.Stale ∷ answer.Stale ∷ answer.WriteDone ∷ []
unfolding bit_of number_of starts_within
other_writes = refl

-- From the sending of a write on nothing is known of its block, though an older write of it was confirmed with the very bytes that the line has again.

abbrev no_inputs_for_a_while : List Step
no_inputs_for_a_while =
    Edits (Remap 1001 1 [])
    ∷ SendsWrite
    ∷ Edits (Remap 1001 1 (0x1a00 ∷ []))
    ∷ write_back 4 0x0818 8 1
    ∷ SendsWrite
    ∷ write_back 5 0x0818 8 1
    ∷ []

write_under_way : answers_to written no_inputs_for_a_while
    ≡ answer.Edited 1 1 2
    ∷ answer.WriteSent (sync_write 4 0x18 (0x80 ∷ 0x11 ∷ 0x00 ∷ 0x00 ∷ 0x20 ∷ 0x00 ∷ 0x00 ∷ 0x00 ∷ []))
    ∷ answer.Edited 2 1 2
    ∷ answer.Stale
    ∷ answer.WriteSent (sync_write 5 0x18 input_sync)
    ∷ answer.WriteDone
    ∷ []
unfolding bit_of number_of starts_within
write_under_way = refl

owed_under_way : owed_along written no_inputs_for_a_while ≡ 0 ∷ 2 ∷ 2 ∷ 1 ∷ 1 ∷ 1 ∷ 0 ∷ []
unfolding bit_of number_of starts_within
owed_under_way = refl

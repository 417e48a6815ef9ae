-- Worked histories in which a slave is forgotten, computed by the definitions: a wrong definition fails here.
use Rattle.std.specs.Prelude.{◌≡◌, ℕ, List, [], ◌∷◌, ◌++◌, map, replicate, refl, Some}
use Rattle.hc_bits.specs.Bits.{bit_of, number_of}
use Rattle.hc_frames.specs.Arrived.{starts_within}
use Rattle.hc_events.specs.declared.answer.Answer.TheVariants as answer
use Rattle.hc_events.specs.declared.answer.Outcome.TheVariants.{Inputs}
use Rattle.hc_events.specs.declared.faults.CoreFault.TheVariants.{UnknownStation, Unprogrammed}
use Rattle.hc_events.specs.Entries.{History}
use Rattle.hc_events.specs.Faults.{core_fault_number}
use Rattle.hc_events.specs.Steps.{Step, Forgets, Posts, Reads, SendsTasks, SendsWrite, answers_to, entries_after, entries_after_all, forget_faults}
use Rattle.hc_events.specs.WorkedAxis.{back, data_back, head_of, owed_count, write_back, written}

-- The axis is forgotten while its frame is under way: the frame is answered as before and its data are read, but no task is sent before the four blocks are written again. A write that is under way when the axis
-- is forgotten once more confirms nothing.

abbrev with_a_frame : List Step
with_a_frame =
    Posts 0 0 (2 ∷ [])
    ∷ SendsTasks (0 ∷ [])
    ∷ Forgets 1002
    ∷ Forgets 1001
    ∷ back 4 (data_back 0x01000000 (0x02 ∷ 0x34 ∷ 0x0a ∷ []) 3 ∷ [])
    ∷ Reads 0
    ∷ SendsTasks (0 ∷ [])
    ∷ SendsWrite
    ∷ Forgets 1001
    ∷ write_back 5 0x0810 8 1
    ∷ SendsTasks (0 ∷ [])
    ∷ []

forgotten_axis : answers_to written with_a_frame
    ≡ answer.Posted
    ∷ answer.Sent ((head_of 4 0x0f ++ 0x0c ∷ 0x04 ∷ 0 ∷ 0 ∷ 0 ∷ 0x01 ∷ 0x03 ∷ 0 ∷ 0 ∷ 0 ∷ 0x02 ∷ replicate 33 0) ∷ [])
    ∷ answer.Refused UnknownStation
    ∷ answer.Forgotten
    ∷ answer.Answered (Inputs 0 0 ∷ [])
    ∷ answer.Image 0 (Some (0x02 ∷ 0x34 ∷ 0x0a ∷ []) ∷ [])
    ∷ answer.Refused (Unprogrammed 4)
    ∷ answer.WriteSent (head_of 5 0x14 ++ 0x05 ∷ 0x05 ∷ 0xe9 ∷ 0x03 ∷ 0x10 ∷ 0x08 ∷ 0x08 ∷ 0 ∷ 0 ∷ 0 ∷ 0x00 ∷ 0x11 ∷ 0x01 ∷ 0x00 ∷ 0x64 ∷ 0x00 ∷ 0x01 ∷ 0x00 ∷ replicate 26 0)
    ∷ answer.Forgotten
    ∷ answer.Stale
    ∷ answer.Refused (Unprogrammed 4)
    ∷ []
unfolding bit_of number_of starts_within
forgotten_axis = refl

-- the number of owed blocks before the slave is forgotten, after that, after a write of the first one, and after its answer

abbrev written_anew : History
written_anew = entries_after_all written (Forgets 1001 ∷ SendsWrite ∷ [])

owed_anew : owed_count written ∷ owed_count (entries_after written (Forgets 1001)) ∷ owed_count written_anew ∷ owed_count (entries_after written_anew (write_back 4 0x0810 8 1)) ∷ [] ≡ 0 ∷ 4 ∷ 4 ∷ 3 ∷ []
unfolding bit_of number_of starts_within
owed_anew = refl

-- the order in which forgetting a slave is refused, by the numbers of the faults
forget_order : (history : History) (station : ℕ) → map (λ judged. core_fault_number judged.1) (forget_faults history station) ≡ 5 ∷ 6 ∷ []
forget_order history station = refl

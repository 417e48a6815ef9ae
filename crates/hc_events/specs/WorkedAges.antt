-- Worked histories of the serials of data, computed by the definitions: a wrong definition fails here.
use Rattle.std.specs.Prelude.{◌≡◌, ℕ, List, [], ◌∷◌, refl, Option, Some, None}
use Rattle.hc_bits.specs.Bits.{bit_of, number_of}
use Rattle.hc_frames.specs.Arrived.{starts_within}
use Rattle.hc_events.specs.Ages.{data_serial}
use Rattle.hc_events.specs.Entries.{History}
use Rattle.hc_events.specs.Steps.{Step, SendsTasks, entries_after}
use Rattle.hc_events.specs.WorkedAxis.{back, data_back, to_task_1, written}

-- the frame with a serial comes back with a working counter
abbrev answer_to_frame : ℕ → ℕ → Step
answer_to_frame serial counter = back serial (data_back 0x01000000 (0x00 ∷ 0x34 ∷ 0x0a ∷ []) counter ∷ [])

-- the serial of the datagram's data before each of these events, and after the last one
abbrev serials_along : History → List Step → List (Option ℕ)
serials_along history [] = data_serial history 0 0 ∷ []
serials_along history (step ∷ steps) = data_serial history 0 0 ∷ serials_along (entries_after history step) steps

-- The data have the serial of the frame whose answer brought them: 4 at first. Frame 5 is late, and frame 6 comes back with another counter, so the data stay those of 4; the late answer to 5 changes nothing. The answer to 7
-- brings newer ones, and an edit leaves none.

serial_of_data :
    serials_along written (
    SendsTasks (0 ∷ [])
    ∷ answer_to_frame 4 3
    ∷ SendsTasks (0 ∷ [])
    ∷ SendsTasks (0 ∷ [])
    ∷ answer_to_frame 6 1
    ∷ answer_to_frame 5 3
    ∷ SendsTasks (0 ∷ [])
    ∷ answer_to_frame 7 3
    ∷ to_task_1
    ∷ [])
    ≡ None ∷ None ∷ Some 4 ∷ Some 4 ∷ Some 4 ∷ Some 4 ∷ Some 4 ∷ Some 4 ∷ Some 7 ∷ None ∷ []
unfolding bit_of number_of starts_within
serial_of_data = refl

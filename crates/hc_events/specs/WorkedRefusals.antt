-- Worked refusals, computed by the definitions: a wrong definition fails here.
use Rattle.std.specs.Prelude.{◌≡◌, ℕ, Bool, true, false, List, [], ◌∷◌, map, Some, None, refl}
use Rattle.hc_bits.specs.Bits.{bit_of, number_of}
use Rattle.hc_frames.specs.Arrived.{starts_within}
use Rattle.hc_records.specs.Lists.{lowest}
use Rattle.hc_registers.specs.Blocks.{LineBlock}
use Rattle.hc_events.specs.declared.answer.Answer.TheVariants as answer
use Rattle.hc_events.specs.declared.faults.CoreFault.{CoreFault}
use Rattle.hc_events.specs.declared.faults.CoreFault.TheVariants.{NoSuchTask, NothingOwed, PostLength, Room, StalePost, Unprogrammed}
use Rattle.hc_events.specs.Entries.{History}
use Rattle.hc_events.specs.Faults.{core_fault_number}
use Rattle.hc_events.specs.Calls.{send_into_faults, write_into_faults}
use Rattle.hc_events.specs.Steps.{Posts, SendsTasks, Reads, answers_to, post_faults, serials_left, task_faults, write_faults}
use Rattle.hc_events.specs.WorkedAxis.{opened, written}

-- The first of several refusals is the answer: no such task, another epoch, another length.

refused_posts : answers_to written (
    Posts 8 1 (2 ∷ 0 ∷ [])
    ∷ Posts 8 0 (2 ∷ [])
    ∷ Posts 0 1 (2 ∷ 0 ∷ [])
    ∷ Posts 0 1 (2 ∷ [])
    ∷ Posts 0 0 (2 ∷ 0 ∷ [])
    ∷ [])
    ≡ answer.Refused NoSuchTask
    ∷ answer.Refused NoSuchTask
    ∷ answer.Refused StalePost
    ∷ answer.Refused StalePost
    ∷ answer.Refused PostLength
    ∷ []
unfolding bit_of number_of starts_within
refused_posts = refl

-- While blocks are owed no task is sent, also one without datagrams; but a task that does not exist is refused as such, beside
-- others too.

refused_sendings : answers_to opened (
    SendsTasks (8 ∷ [])
    ∷ SendsTasks (0 ∷ 8 ∷ [])
    ∷ SendsTasks (0 ∷ [])
    ∷ SendsTasks (5 ∷ [])
    ∷ Reads 8
    ∷ [])
    ≡ answer.Refused NoSuchTask
    ∷ answer.Refused NoSuchTask
    ∷ answer.Refused (Unprogrammed 4)
    ∷ answer.Refused (Unprogrammed 4)
    ∷ answer.Refused NoSuchTask
    ∷ []
unfolding bit_of number_of starts_within
refused_sendings = refl

-- The order of all refusals, by their numbers.

abbrev numbers : List (Bool × CoreFault) → List ℕ
numbers faults = map (λ judged. core_fault_number judged.1) faults

post_order : (history : History) (task epoch : ℕ) (bytes : List ℕ) → numbers (post_faults history task epoch bytes) ≡ 8 ∷ 15 ∷ 16 ∷ []
post_order history task epoch bytes = refl

task_order : (history : History) (tasks : List ℕ) → numbers (task_faults history tasks) ≡ 8 ∷ 17 ∷ 19 ∷ []
task_order history tasks = refl

slice_order : (history : History) (tasks : List ℕ) (bytes : ℕ)
    → (numbers (send_into_faults history tasks bytes) ∷ numbers (write_into_faults history bytes) ∷ []) ≡ (8 ∷ 17 ∷ 19 ∷ 29 ∷ []) ∷ (18 ∷ 19 ∷ 29 ∷ []) ∷ []
slice_order history tasks bytes = refl

write_order : (history : History) (blocks : List LineBlock) → numbers (write_faults history blocks) ≡ 18 ∷ 19 ∷ []
write_order history blocks = refl

-- 1,099,511,627,774 is the last serial of a sending.

last_serial : map (serials_left 1099511627774) (0 ∷ 1 ∷ 2 ∷ []) ≡ true ∷ true ∷ false ∷ []
last_serial = refl

-- A slice that is a byte too short for the frames is refused with the bytes that they need, but only if there is no other
-- fault; no frame needs no byte.

short_slices : map (λ bytes. lowest (write_into_faults opened bytes)) (59 ∷ 60 ∷ []) ≡ Some (Room 60) ∷ None ∷ []
unfolding bit_of number_of starts_within
short_slices = refl

short_arenas : map (λ bytes. lowest (send_into_faults written (0 ∷ []) bytes)) (59 ∷ 60 ∷ []) ≡ Some (Room 60) ∷ None ∷ []
unfolding bit_of number_of starts_within
short_arenas = refl

refused_before : (lowest (write_into_faults written 0) ∷ lowest (send_into_faults opened (0 ∷ []) 0) ∷ lowest (send_into_faults written (5 ∷ []) 0) ∷ [])
    ≡ Some NothingOwed ∷ Some (Unprogrammed 4) ∷ None ∷ []
unfolding bit_of number_of starts_within
refused_before = refl

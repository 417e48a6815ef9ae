-- The command `program`: owed register blocks are written along the line, one after another.
use Rattle.std.specs.Prelude.{◌≡◌, ◌⊎◌, ℕ, zero, suc, ◌+◌, ◌-◌, Bool, true, false, if◌then◌else◌, List, [], ◌∷◌, ◌++◌, length, is_none, codes}
use Rattle.std.specs.Fmt.{decimal}
use Rattle.hc_frames.specs.declared.limits.TheConstants.{SETUP_SERIAL}
use Rattle.hc_records.specs.Lists.{lowest}
use Rattle.hc_events.specs.declared.answer.Answer.{Answer}
use Rattle.hc_events.specs.declared.answer.Answer.TheVariants as answer
use Rattle.hc_events.specs.Entries.{History}
use Rattle.hc_events.specs.Owed.{owed_blocks}
use Rattle.hc_events.specs.Points.{next_serial}
use Rattle.hc_events.specs.Steps.{SendsWrite, Arrives, answer_to, write_faults}
use Rattle.hc_segment.specs.Line.{frame_through}
use Rattle.hc_program.specs.Standings.{SessionState, passed, stepped}

-- a block is owed and a serial is left, so that a write can be sent
abbrev pub can_write : History → Bool
can_write history = is_none (lowest (write_faults history (owed_blocks history)))

-- the frame of an answer that sends a write
abbrev pub write_in : Answer → List ℕ
write_in (answer.WriteSent frame) = frame
write_in other = []

-- the frame of the write that is sent next
unfoldable pub write_frame : History → List ℕ
write_frame history = write_in (answer_to history SendsWrite)

-- the run once the next write is sent
abbrev pub write_sent : SessionState → SessionState
write_sent s = stepped s SendsWrite

-- the state once the frame of the next write went along the line
abbrev pub write_passed : SessionState → SessionState
write_passed s = passed (write_sent s) (write_frame s.history ∷ [])

-- the frame of the next write as it comes back
abbrev pub write_back : SessionState → List ℕ
write_back s = frame_through s.machines (write_frame s.history)

-- the state once the frame that came back was taken in
unfoldable pub block_programmed : SessionState → SessionState
block_programmed s = stepped (write_passed s) (Arrives (write_back s))

-- an answer states that a block was written
abbrev pub says_done : Answer → Bool
says_done answer.WriteDone = true
says_done other = false

-- the answer to the frame that comes back of the next write states that a block was written
unfoldable pub programming_is_done : SessionState → Bool
programming_is_done s = says_done (answer_to (write_sent s).history (Arrives (write_back s)))

-- one write: it is sent and done, or nothing is sent, or it is not done
abbrev pub WritesOnce : SessionState → Bool → SessionState → Type 0
WritesOnce s true next = (can_write s.history ≡ true) × (programming_is_done s ≡ true) × (next ≡ block_programmed s)
WritesOnce s false next = ((can_write s.history ≡ false) × (next ≡ s)) ⊎ ((can_write s.history ≡ true) × (programming_is_done s ≡ false) × (next ≡ block_programmed s))

-- the result of programming: the state of the run, and the number of blocks that were written
pub record Programmed : Type 0 where
  pub session_state : SessionState
  pub written : ℕ

-- the result of programming with a block more
abbrev pub one_block_more : Programmed → Programmed
one_block_more p = record { session_state = p.session_state; written = p.written + 1 }

-- a write that is sent, and the others after it unless it was missed
abbrev pub after_write : Bool → SessionState → Programmed → Programmed
after_write true next others = one_block_more others
after_write false next others = record { session_state = next; written = 0 }

-- at most this many writes, one after another, until nothing is owed or one is not done
unfoldable pub programmed_within : ℕ → SessionState → Programmed
programmed_within zero s = record { session_state = s; written = 0 }
programmed_within (suc most) s =
    if can_write s.history then after_write (programming_is_done s) (block_programmed s) (programmed_within most (block_programmed s))
    else record { session_state = s; written = 0 }

-- the number of serials that are left; each write takes one, so there are no more writes
abbrev pub serials_left_count : History → ℕ
serials_left_count history = SETUP_SERIAL - next_serial history

-- the result of all writes: no more than serials are left
unfoldable pub programmed : SessionState → Programmed
programmed s = programmed_within (serials_left_count s.history) s

-- the line `written N owed M`: the writes that were done, and the blocks that are owed then
abbrev pub programmed_text : ℕ → ℕ → List ℕ
programmed_text done owed = codes "written " ++ decimal done ++ codes " owed " ++ decimal owed ++ codes "\n"

-- the printed text of programming
unfoldable pub program_text : SessionState → List ℕ
program_text s = let p = programmed s in programmed_text p.written (length (owed_blocks p.session_state.history))

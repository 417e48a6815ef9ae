-- The bytes of a slice after register writes.
use Rattle.std.specs.Prelude.{◌≡◌, ◌⊎◌, ℕ, ◌==◌, if◌then◌else◌, Bool, List, ◌++◌, drop, length, take}
use Rattle.hc_registers.specs.Blocks.{LineBlock}
use Rattle.hc_events.specs.declared.answer.Answer.{Answer}
use Rattle.hc_events.specs.declared.answer.Answer.TheVariants as answer
use Rattle.hc_events.specs.declared.faults.CoreFault.{CoreFault}
use Rattle.hc_events.specs.declared.sending.TheConstants.{FRAME_BLOCKS}
use Rattle.hc_events.specs.Calls.{room_faults, write_size}
use Rattle.hc_events.specs.Entries.{History}
use Rattle.hc_events.specs.Owed.{owed_blocks}
use Rattle.hc_events.specs.Points.{next_serial}
use Rattle.hc_events.specs.Steps.{SendsFurther, SendsWrite, SendsWrites, answer_to, writes_answer, write_faults}
use Rattle.hc_events.specs.UnderWay.{further_blocks}
use Rattle.hc_events.specs.WriteFrames.{frame_blocks, writes_size, writes_text}
use Rattle.hc_core.specs.declared.writing.SentWrites.{SentWrites}

-- the slice holds the frame that writes the first owed block, which is the event's answer, followed by the bytes that the slice
-- had there
pub record HoldsWrite (history : History) (old new : List ℕ) (size : ℕ) : Type 0 where
  pub text : List ℕ
  pub answer : answer_to history SendsWrite ≡ answer.WriteSent text
  pub counted : size ≡ write_size (owed_blocks history)
  pub holds : new ≡ text ++ drop size old

-- the first owed blocks of one frame, at most `most`
abbrev pub first_blocks : ℕ → History → List LineBlock
first_blocks most history = take most (frame_blocks (owed_blocks history))

-- one block alone, or as many as a frame holds
abbrev pub IsMost : ℕ → Type 0
IsMost most = (most ≡ 1) ⊎ (most ≡ FRAME_BLOCKS)

-- the faults of writing these blocks into a slice of so many bytes: those of the event, then the fault of a slice that is too
-- short
abbrev pub first_into_faults : ℕ → History → ℕ → List (Bool × CoreFault)
first_into_faults most history bytes = write_faults history (owed_blocks history) ++ room_faults (writes_size (first_blocks most history)) bytes

-- the slice holds the frame that writes these blocks, followed by the bytes that the slice had there; the result is its size
-- and the number of its blocks
pub record HoldsBlocks (history : History) (blocks : List LineBlock) (old new : List ℕ) (sent : SentWrites) : Type 0 where
  pub size : sent.size ≡ writes_size blocks
  pub count : sent.blocks ≡ length blocks
  pub holds : new ≡ writes_text (next_serial history) blocks ++ drop sent.size old

-- the slice holds the frame of the first owed blocks, as many as a frame holds: the frame of the event's answer
pub record HoldsWrites (history : History) (old new : List ℕ) (sent : SentWrites) : Type 0 where
  pub answer : answer_to history SendsWrites ≡ writes_answer (next_serial history) (frame_blocks (owed_blocks history))
  pub blocks : HoldsBlocks history (frame_blocks (owed_blocks history)) old new sent

-- the slice holds the frame of the first owed blocks that are not under way, as many as a frame holds: the frame of the event's
-- answer
pub record HoldsFurther (history : History) (old new : List ℕ) (sent : SentWrites) : Type 0 where
  pub answer : answer_to history SendsFurther ≡ writes_answer (next_serial history) (frame_blocks (further_blocks history))
  pub blocks : HoldsBlocks history (frame_blocks (further_blocks history)) old new sent

-- the answer to a frame with this text and so many blocks: a single write's if it is one
abbrev pub sent_answer : List ℕ → ℕ → Answer
sent_answer text blocks = if blocks == 1 then answer.WriteSent text else answer.WritesSent text

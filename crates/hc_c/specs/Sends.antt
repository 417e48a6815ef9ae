-- Sendings into slices of the caller's.
use Rattle.std.specs.Prelude.{◌≡◌, ℕ, ◌+◌, ◌≤◌, ◌<◌, List, [], ◌∷◌, ◌++◌, length, drop, replicate, MatchOption, Option}
use Rattle.std.specs.List.{flat_map}
use Rattle.hc_records.specs.Lists.{lowest}
use Rattle.hc_events.specs.declared.faults.CoreFault.{CoreFault}
use Rattle.hc_events.specs.declared.faults.CoreFault.TheVariants as fault
use Rattle.hc_events.specs.Calls.{frames_size, preview, ready_into_faults}
use Rattle.hc_events.specs.Entries.{History}
use Rattle.hc_events.specs.Points.{next_serial}
use Rattle.hc_events.specs.Sendings.{Frame, sent_frame_size}
use Rattle.hc_events.specs.Steps.{proposal, sent_text}
use Rattle.hc_c.specs.declared.numbers.TheConstants.{DONE, ROOM, NOTHING}
use Rattle.hc_c.specs.declared.sending.Sent.{Sent}
use Rattle.hc_c.specs.declared.sending.SentFrame.{SentFrame}
use Rattle.hc_c.specs.declared.sending.WaitingTask.{WaitingTask}
use Rattle.hc_c.specs.Lists.{put_first}

-- the places of frames in a slice, one after another: the first begins at this byte, and each other one at the end of the one
-- before it
abbrev pub table_from : ℕ → List Frame → List SentFrame
table_from at [] = []
table_from at (frame ∷ frames) = record { offset = at; size = sent_frame_size frame } ∷ table_from (at + sent_frame_size frame) frames

-- a task waits: how many owed blocks and how many registers outside the line concern it
abbrev pub waiting_out : ℕ → ℕ → ℕ → WaitingTask
waiting_out task blocks outside = record { blocks = blocks; outside = outside; task = task; reserved = replicate 3 0 }

-- the C form of a sending that is done: its first serial, its bytes and its frames; no task waits
abbrev pub sent_out : ℕ → ℕ → ℕ → Sent
sent_out first size frames = record { first_serial = first; size = size; frames = frames; waits = waiting_out 0 0 0; reserved = 0 }

-- a sending of these tasks is written: the frames one after another before the rest of the slice; their places, as many as fit;
-- and the first serial, the bytes and the number of frames
pub record SendsFrames (history : History) (tasks before after : List ℕ) (table table' : List SentFrame) (sent : Sent) : Type 0 where
  pub reported : sent ≡ sent_out (next_serial history) (frames_size history tasks) (length (proposal history tasks))
  pub texts : after ≡ flat_map (sent_text history) (proposal history tasks) ++ drop (frames_size history tasks) before
  pub lie : table' ≡ put_first (table_from 0 (proposal history tasks)) table

-- the fault of sending ready tasks into a slice of this length, or none
abbrev pub send_refusal : History → List ℕ → ℕ → Option CoreFault
send_refusal history tasks room = lowest (ready_into_faults history tasks room)

-- if the fault is that a task waits, C gets the task, the owed blocks and the registers outside the line; the rest of its
-- struct is unchanged
pub record TellsWait (refusal : CoreFault) (before after : Sent) : Type 0 where
  pub fault : refusal ≡ fault.Waits after.waits.task after.waits.blocks after.waits.outside
  pub reserved : after.waits.reserved ≡ replicate 3 0
  pub rest : after ≡ record before { waits = after.waits }

-- a frame's length is written, and its bytes before the rest of the slice, if they fit
pub record GivesPreview (history : History) (frame : Frame) (number size : ℕ) (before after : List ℕ) : Type 0 where
  pub sized : size ≡ sent_frame_size frame
  pub number_of : (sent_frame_size frame ≤ length before → number ≡ DONE) × (length before < sent_frame_size frame → number ≡ ROOM)
  pub text : number ≡ DONE → after ≡ sent_text history frame ++ drop (sent_frame_size frame) before

-- the frame of a task's datagram is written; if there is none, the size is unchanged
abbrev pub AnswersPreview : History → ℕ → ℕ → ℕ → ℕ → ℕ → List ℕ → List ℕ → Type 0
AnswersPreview history task datagram number before after out out' =
    MatchOption (preview history task datagram) ((number ≡ NOTHING) × (after ≡ before)) (λ frame. GivesPreview history frame number after out out')

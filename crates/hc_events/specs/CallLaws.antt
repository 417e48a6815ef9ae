-- Laws of the bytes that the calls of a core need from the caller: the sizes are those of the texts.
use Rattle.std.specs.Prelude.{◌≡◌, ℕ, List, [], ◌∷◌, length, Some}
use Rattle.std.specs.List.{flat_map}
use Rattle.hc_registers.specs.Blocks.{LineBlock}
use Rattle.hc_events.specs.Entries.{History}
use Rattle.hc_events.specs.Points.{next_serial}
use Rattle.hc_events.specs.Sendings.{Frame, sent_frame_size}
use Rattle.hc_events.specs.Owed.{owed_blocks}
use Rattle.hc_events.specs.WriteFrames.{writes_size, writes_text}
use Rattle.hc_events.specs.Steps.{proposal, sent_text, write_text}
use Rattle.hc_events.specs.Calls.{frames_size, preview, write_size}

-- the texts of tasks' frames, one after another, have just the bytes that are asked for
abbrev pub FramesFillTheirBytes : Type 0
FramesFillTheirBytes = (history : History) (tasks : List ℕ) → length (flat_map (sent_text history) (proposal history tasks)) ≡ frames_size history tasks

-- the text that writes the first owed block has the bytes that are asked for
abbrev pub WritesFillTheirBytes : Type 0
WritesFillTheirBytes =
    (history : History) (block : LineBlock) (rest : List LineBlock) → owed_blocks history ≡ block ∷ rest
    → length (write_text (next_serial history) block) ≡ write_size (owed_blocks history)

-- the text of the frame that writes these blocks has the bytes that are asked for
abbrev pub WriteFramesFillTheirBytes : Type 0
WriteFramesFillTheirBytes = (serial : ℕ) (blocks : List LineBlock) → length (writes_text serial blocks) ≡ writes_size blocks

-- a preview is a frame of this datagram alone with the next serial, and it has the bytes of its text
pub record IsPreview (history : History) (task d : ℕ) (frame : Frame) : Type 0 where
  pub serial : frame.serial ≡ next_serial history
  pub datagrams : frame.datagrams ≡ (task, d) ∷ []
  pub size : length (sent_text history frame) ≡ sent_frame_size frame

-- `IsPreview` holds for any preview that a record has
abbrev pub PreviewsAreFrames : Type 0
PreviewsAreFrames = (history : History) (task d : ℕ) (frame : Frame) → preview history task d ≡ Some frame → IsPreview history task d frame

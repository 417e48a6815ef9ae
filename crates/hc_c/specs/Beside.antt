-- Frames beside those of the line, in C.
use Rattle.std.specs.Prelude.{◌≡◌, ℕ, ◌<◌, ◌≤◌, ◌*◌, ◌==◌, nat_le, ◌&&◌, Bool, true, List, [], ◌∷◌, ◌++◌, length, drop, slice_index, Result, Ok, Err}
use Rattle.hc_registers.specs.declared.registers.TheConstants.{FMMU_BLOCK_BYTES}
use Rattle.hc_frames.specs.declared.building.Room.{Room}
use Rattle.hc_frames.specs.declared.limits.TheConstants.{LEAST_FRAME, MOST_FMMUS, SETUP_SERIAL}
use Rattle.hc_frames.specs.FrameText.{Datagram, frame_text, fmmu_off}
use Rattle.hc_frames.specs.Sizes.{frame_size}
use Rattle.hc_c.specs.declared.beside.TheConstants.{SOURCE}
use Rattle.hc_c.specs.declared.numbers.TheConstants.{DONE, ROOM}

-- the length of a frame is written, and its bytes replace the front of the slice if they fit; otherwise the slice is unchanged
pub record GivesFrameOf (bytes : ℕ) (text : List ℕ) (number size : ℕ) (before after : List ℕ) : Type 0 where
  pub sized : size ≡ bytes
  pub done : bytes ≤ length before → (number ≡ DONE) × (after ≡ text ++ drop bytes before)
  pub short : length before < bytes → (number ≡ ROOM) × (after ≡ before)

-- the frame has the least length
abbrev pub GivesFrame : List ℕ → ℕ → ℕ → List ℕ → List ℕ → Type 0
GivesFrame = GivesFrameOf LEAST_FRAME

-- a slave may have this many FMMUs: 1 to 16
abbrev pub is_fmmu_count : ℕ → Bool
is_fmmu_count count = nat_le 1 count && nat_le count MOST_FMMUS

-- the frame of zeros to a number of a slave's FMMUs is written
abbrev pub GivesFmmuOff : ℕ → ℕ → ℕ → ℕ → List ℕ → List ℕ → Type 0
GivesFmmuOff station count = GivesFrameOf (frame_size (FMMU_BLOCK_BYTES * count)) (frame_text SETUP_SERIAL (fmmu_off station count ∷ []))

-- a frame was built, and its length is written; or the slice is too short, and the length needed is written
abbrev pub AnswersBuilt : Result ℕ Room → ℕ → ℕ → Type 0
AnswersBuilt (Ok bytes) number size = (number ≡ DONE) × (size ≡ bytes)
AnswersBuilt (Err room) number size = (number ≡ ROOM) × (size ≡ room.0)

-- the EtherType is 0x88A4, and the source address begins as in the library's frames
abbrev pub is_mine : List ℕ → Bool
is_mine frame =
    nat_le 14 (length frame)
    && ((slice_index frame 6 == SOURCE) && ((slice_index frame 12 == 0x88) && (slice_index frame 13 == 0xa4)))

-- each frame that is built has this EtherType and this source address, whatever its serial and its datagrams
abbrev pub BuiltIsMine : Type 0
BuiltIsMine = (serial : ℕ) (datagrams : List Datagram) → is_mine (frame_text serial datagrams) ≡ true

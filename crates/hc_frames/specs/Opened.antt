-- A frame whose data parts are lent one after another.
use Rattle.std.specs.Prelude.{ℕ, ◌≡◌, ◌+◌, List, ◌++◌, drop, map}
use Rattle.hc_frames.specs.declared.building.opened.Open.{Open}
use Rattle.hc_frames.specs.FrameText.{sent_datagrams_text, padding, blank_lrw}
use Rattle.hc_frames.specs.Sizes.{datagrams_size, frame_bytes}
use Rattle.hc_frames.specs.OpenDatagrams.{first_size}

-- the first datagram was lent, and the others are left
pub record HandsOutFirst (old new : Open) : Type 0 where
  pub serial : new.serial ≡ old.serial
  pub datagrams : new.datagrams.now ≡ drop 1 old.datagrams.now
  pub rest : new.rest.now ≡ drop (12 + first_size old.datagrams.now) old.rest.now

-- all datagrams are open, then padding and the old bytes after the frame
pub record OpensFrame (out : List ℕ) (serial : ℕ) (ds : List (ℕ × ℕ)) (frame : Open) : Type 0 where
  pub serial_is : frame.serial ≡ serial
  pub datagrams_are : frame.datagrams.now ≡ ds
  pub text : frame.rest.now ≡ sent_datagrams_text serial (map blank_lrw ds) ++ padding (datagrams_size ds) ++ drop (frame_bytes (datagrams_size ds)) out

-- The length of a frame in bytes.
use Rattle.std.specs.Prelude.{ℕ, ◌+◌, ◌<◌, ◌≤◌, max, List, length, All, sum_by}
use Rattle.hc_frames.specs.declared.limits.TheConstants.{LEAST_FRAME, MAX_ETHERCAT}
use Rattle.hc_frames.specs.FrameText.{WireDatagram}

-- all bytes of a frame with this many bytes of datagrams
abbrev pub frame_bytes : ℕ → ℕ
frame_bytes size = max LEAST_FRAME (16 + size)

-- all bytes of a frame of one datagram with this many data bytes
abbrev pub frame_size : ℕ → ℕ
frame_size data_size = frame_bytes (12 + data_size)

-- the bytes of datagrams that are given by address and number of data bytes
abbrev pub datagrams_size : List (ℕ × ℕ) → ℕ
datagrams_size ds = sum_by (λ d. 12 + d.1) ds

-- datagrams that may share a frame: at least one, each with data, all within the bytes that may follow the Ethernet header
pub record ShareFrame (ds : List (ℕ × ℕ)) : Type 0 where
  pub some : 0 < length ds
  pub filled : All (λ d. 1 ≤ d.1) ds
  pub within : 2 + datagrams_size ds ≤ MAX_ETHERCAT

-- the bytes of datagrams on the line
abbrev pub text_size : List WireDatagram → ℕ
text_size ds = sum_by (λ d. 12 + length d.bytes) ds

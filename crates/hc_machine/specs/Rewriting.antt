-- A datagram changed in its place.
use Rattle.std.specs.Prelude.{ℕ, ◌≡◌, ◌+◌, List, length, All}
use Rattle.std.specs.Int.{w16, w32, to_le_bytes}
use Rattle.hc_frames.specs.FrameText.{WireDatagram, carried_texts}
use Rattle.hc_frames.specs.Returned.{FitsLine}
use Rattle.hc_machine.specs.Frames.{memory_after_datagrams, all_served}
use Rattle.hc_machine.specs.Memory.{with_part}

-- a datagram's bytes with the address, the data and the working counter of another one of the same size
abbrev pub rewritten : List ℕ → WireDatagram → List ℕ
rewritten bytes d = with_part (10 + length d.bytes) (to_le_bytes w16 d.counter) (with_part 2 (to_le_bytes w32 d.address) (with_part 10 d.bytes bytes))

-- datagrams that fill these bytes are served, however they are spelled
abbrev pub ServesTexts : List ℕ → List ℕ → List ℕ → List ℕ → Type 0
ServesTexts memory memory' region region' =
    (serial : ℕ) (ds : List WireDatagram) → All FitsLine ds → region ≡ carried_texts serial ds
    → (region' ≡ carried_texts serial (all_served memory ds)) × (memory' ≡ memory_after_datagrams memory ds)

-- Indexes of frames.
use Rattle.std.proofs.Common.{◌≡◌, ℕ, ◌+◌, ◌%◌, List, [], ◌∷◌, refl, arith}
use Rattle.hc_frames.specs.FrameText.{Datagram, frame_text}
use Rattle.hc_events.specs.SendingLaws.{ComesAgain, index_in}

-- an index is the byte after the first datagram's command

index_is : (serial : ℕ) (d : Datagram) (ds : List Datagram) → index_in (frame_text serial (d ∷ ds)) ≡ serial % 256
index_is serial d [] = refl
index_is serial d (e ∷ ds) = refl

pub comes-again : (serial : ℕ) (d : Datagram) (ds : List Datagram) → ComesAgain serial d ds
comes-again serial d ds =
    let own = index_is serial d ds in
    record {
      index = own;
      again = λ e es. let other = index_is (serial + 256) e es in omega arith;
      before = λ later e es above below same. let other = index_is later e es in omega arith;
    }

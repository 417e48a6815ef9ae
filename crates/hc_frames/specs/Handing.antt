-- The bytes of an open frame after its next data part was lent.
use Rattle.std.specs.Prelude.{ℕ, Bool, true, false, List, [], ◌∷◌, ◌++◌, Option, Some, None, Result}
use Rattle.std.specs.Borrow.{follows_if, follows_both_if, name_if_ok, MutBor, Fml, GName, Array, u8}
use mathlib.Core.Option as maybe
use Rattle.hc_frames.specs.declared.building.opened.Open.{Open}
use Rattle.hc_frames.specs.FrameText.{sent_datagram_text, frame_head, lrw}
use Rattle.hc_frames.specs.Sizes.{datagrams_size}
use Rattle.hc_frames.specs.declared.building.Room.{Room}

-- the names of the lent part and of the bytes after its datagram
abbrev pub handed_names : Option (MutBor (List ℕ) × Open) → maybe.Option (GName × GName)
handed_names None = maybe.none
handed_names (Some pair) = maybe.some (pair.0.ghost_name, pair.1.rest.ghost_name)

-- the address of the first datagram, and whether others follow it
abbrev pub first_address : List (ℕ × ℕ) → ℕ
first_address [] = 0
first_address (d ∷ ds) = d.0

-- there are two datagrams or more: the first is followed by another
abbrev pub more_follow : List (ℕ × ℕ) → Bool
more_follow [] = false
more_follow (d ∷ []) = false
more_follow (d ∷ e ∷ ds) = true

-- the first datagram with the data that were left in its part, and after it the bytes that were left there; the old bytes if no
-- datagram is left
abbrev pub LendsNext : Open → Option (MutBor (List ℕ) × Open) → Fml
LendsNext frame result =
    follows_both_if (Array u8 0) (Array u8 0) (Array u8 0) frame.rest.ghost_name (handed_names result) (λ bytes after_it. sent_datagram_text frame.serial (more_follow frame.datagrams.now) (lrw (first_address frame.datagrams.now) bytes) ++ after_it) frame.rest.now

-- the frame's first sixteen bytes, and after them the bytes that were left there; the old bytes if the slice was too short
abbrev pub LendsOpen : MutBor (List ℕ) → ℕ → List (ℕ × ℕ) → Result Open Room → Fml
LendsOpen out serial ds result =
    follows_if (Array u8 0) (Array u8 0) out.ghost_name (name_if_ok (λ frame. frame.rest.ghost_name) result) (λ after_it. frame_head serial (datagrams_size ds) ++ after_it) out.now

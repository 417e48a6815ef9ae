-- The printed lines of frames.
use Rattle.std.specs.Prelude.{ℕ, List, [], ◌∷◌, ◌++◌, codes}
use Rattle.std.specs.List.{flat_map}
use Rattle.std.specs.Fmt.{decimal}
use Rattle.hc_text.specs.Printing.{hex_bytes}
use Rattle.hc_events.specs.Entries.{History}
use Rattle.hc_events.specs.Sendings.{Frame}
use Rattle.hc_events.specs.Steps.{sent_text}

-- the line of a frame: a word, its serial, and all its bytes
unfoldable pub frame_line : List ℕ → ℕ → List ℕ → List ℕ
frame_line word serial frame = word ++ decimal serial ++ codes ": " ++ hex_bytes frame ++ codes "\n"

-- the line of a frame that would be sent next, with its serial
abbrev pub shown_line : ℕ → List ℕ → List ℕ
shown_line serial frame = frame_line (codes "frame ") serial frame

-- the line of a frame that is sent, with its serial
abbrev pub sent_line : ℕ → List ℕ → List ℕ
sent_line serial frame = frame_line (codes "sent ") serial frame

-- the line of a frame that is proposed, with its own serial
abbrev pub proposed_line : History → Frame → List ℕ
proposed_line history frame = sent_line frame.serial (sent_text history frame)

-- the lines of proposed frames one after another, or the line `no frame` if there is no frame
abbrev pub proposed_text : History → List Frame → List ℕ
proposed_text history [] = codes "no frame\n"
proposed_text history (frame ∷ frames) = flat_map (proposed_line history) (frame ∷ frames)

-- The age of the data that a task reads: the sending that their answer answered (this project's profile).
use Rattle.std.specs.Prelude.{◌≡◌, ℕ, is_some, if◌then◌else◌, [], ◌∷◌, fold, Option, Some, None}
use Rattle.hc_events.specs.Entries.{History, Opened, Edited, Came}
use Rattle.hc_events.specs.Images.{NewAnswer, new_answer_by, is_for, slot_of}

-- the serial of a datagram's data once a good answer came to the sending with `serial`: that one if the answer is of this
-- datagram, otherwise the serial before it, if any
abbrev pub dated : ℕ → ℕ → ℕ → Option ℕ → NewAnswer → Option ℕ
dated serial task d so_far good = if is_for task d good then Some serial else so_far

-- the serial of the sending that a datagram's last good answer since the last accepted edit answered, or none
abbrev pub data_serial : History → ℕ → ℕ → Option ℕ
data_serial [] task d = None
data_serial (Opened groups ∷ history) task d = None
data_serial (Edited edit ∷ history) task d = None
data_serial (Came arrival ∷ history) task d = fold (dated arrival.serial task d) (data_serial history task d) (new_answer_by history arrival)
data_serial (entry ∷ history) task d = data_serial history task d

-- a datagram has a serial exactly if a task reads data of it
abbrev pub SerialsAreOfData : Type 0
SerialsAreOfData = (history : History) (task d : ℕ) → is_some (data_serial history task d) ≡ is_some (slot_of history task d)

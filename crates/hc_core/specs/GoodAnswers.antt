-- The good answers of an arrival, from its outcomes and its parts.
use Rattle.std.specs.Prelude.{Bool, true, false, List, [], ◌∷◌, ◌++◌, map}
use Rattle.hc_frames.specs.Arrived.{ArrivedDatagram}
use Rattle.hc_events.specs.declared.answer.Outcome.{Outcome}
use Rattle.hc_events.specs.declared.answer.Outcome.TheVariants.{Inputs, WrongCount, Stale, Done, Missed}
use Rattle.hc_events.specs.declared.change.Change.{Change}
use Rattle.hc_events.specs.declared.change.Change.TheVariants as change
use Rattle.hc_events.specs.Arrivals.{Part}
use Rattle.hc_events.specs.Images.{NewAnswer}

-- the good answer of a datagram, with the data that came back; none if the outcome is not inputs
abbrev pub good_of : Outcome → Part → List NewAnswer
good_of (Inputs task d) part = record { task = task; datagram = d; bytes = part.bytes } ∷ []
good_of (WrongCount expected got) part = []
good_of Stale part = []
good_of Done part = []
good_of Missed part = []

-- an outcome is a good answer
abbrev pub is_inputs : Outcome → Bool
is_inputs (Inputs task d) = true
is_inputs (WrongCount expected got) = false
is_inputs Stale = false
is_inputs Done = false
is_inputs Missed = false

-- the good answers of a frame, from its outcomes and parts side by side, in order
abbrev pub good_answers_in : List Outcome → List Part → List NewAnswer
good_answers_in [] parts = []
good_answers_in (outcome ∷ outcomes) [] = []
good_answers_in (outcome ∷ outcomes) (part ∷ parts) = good_of outcome part ++ good_answers_in outcomes parts

-- the change that a reader of the input images gets for a good answer
abbrev pub change_of : NewAnswer → Change
change_of good = change.Good good

-- the data of the datagrams that came back, without their places in the frame
abbrev pub parts_without_places : List ArrivedDatagram → List Part
parts_without_places placed = map (λ one. one.carried) placed

-- The walk over a frame's datagrams beside those that came back. Contracts inside the crate cite it.
use Rattle.std.specs.Prelude.{Bool, if◌then◌else◌, List, map, Option, Some, None}
use Rattle.std.specs.List.{zip}
use Rattle.hc_places.specs.declared.table.Datagram.{Datagram}
use Rattle.hc_frames.specs.declared.commands.Command.TheVariants.{Lrw}
use Rattle.hc_events.specs.declared.answer.Outcome.{Outcome}
use Rattle.hc_events.specs.Arrivals.{Part}
use Rattle.hc_events.specs.Answering.{has_heads}
use Rattle.hc_events.specs.Heads.{Head, item_of}
use Rattle.hc_events.specs.Sendings.{Named}
use Rattle.hc_events.specs.Steps.{outcome_for}
use Rattle.hc_sendings.specs.Judging.{Due, judge_due}

-- the head of a datagram, by its row in the line's table
abbrev pub head_of : Named → Datagram → Head
head_of named found =
    record { item = item_of named; command = Lrw; address = found.address; length = found.length; expected = found.expected }

-- the outcomes of a frame's datagrams, if all came back, each with its command, address and length; otherwise none
abbrev pub outcomes_in : List Due → List Part → Option (List Outcome)
outcomes_in due parts =
    if has_heads (map (λ one. one.head) due) parts then Some (map (λ pair. outcome_for (judge_due pair)) (zip due parts)) else None

-- the outcomes that were gathered, if all came back; otherwise none
abbrev pub whole_or_none : Bool → List Outcome → Option (List Outcome)
whole_or_none whole outcomes = if whole then Some outcomes else None

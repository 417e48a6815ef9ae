-- The answer to an arrival in two pieces: what it is as a whole, and a list of what it is for each datagram.
use Rattle.std.specs.Prelude.{List}
use Rattle.hc_events.specs.declared.answer.Answer.{Answer}
use Rattle.hc_events.specs.declared.answer.Answer.TheVariants as answer
use Rattle.hc_events.specs.declared.answer.Arrived.{Arrived}
use Rattle.hc_events.specs.declared.answer.Arrived.TheVariants as arrived
use Rattle.hc_events.specs.declared.answer.Outcome.{Outcome}

-- the answer of a kind of arrival with a list of outcomes: the list counts if frames of tasks or of several register writes are
-- answered
abbrev pub arrived_answer : Arrived → List Outcome → Answer
arrived_answer arrived.Answered outcomes = answer.Answered outcomes
arrived_answer arrived.WriteDone outcomes = answer.WriteDone
arrived_answer arrived.WriteMissed outcomes = answer.WriteMissed
arrived_answer arrived.Stale outcomes = answer.Stale
arrived_answer arrived.Written outcomes = answer.Written outcomes

use Rattle.std.proofs.Common.{◌≡◌, ◌≤◌, length, map, take, vec_capacity}
use Rattle.hc_events.specs.Steps.{step_of}
use Rattle.hc_core.specs.Serving.{MayAnswerAll}
use Rattle.hc_core.proofs.keeping.Core.serve_all.Given as goal

-- the events so far have their answers, and there is room for them
abbrev pub invariant-loop-event : goal.invariant-loop-event
invariant-loop-event l = record {
  answers : MayAnswerAll l.initial.self.history (map step_of (take l.event-index l.events)) l.answers.items l.self.history;
  taken : l.self.taken ≡ l.initial.self.taken;
  counted : length l.answers.items ≡ l.event-index;
  room : length l.events ≤ vec_capacity l.answers;
}

use Rattle.std.proofs.Common.{[], ◌∷◌}
use Rattle.std.proofs.lemmas.List.Elements.{All-cons, All-nil}
use Rattle.hc_events.specs.declared.event.Event.{Event}
use Rattle.hc_events.specs.Steps.{step_of}
use Rattle.hc_core.specs.Serving.{IsAsked}
use Rattle.worked_events.proofs.pieces.answers.Goals as goal

abbrev Asked : Event → Type 0
Asked event = IsAsked (step_of event)

pub run-requires : goal.run-requires
run-requires c = All-cons Asked c.args.first (c.args.second ∷ []) c.requires.first (All-cons Asked c.args.second [] c.requires.second (All-nil Asked))

use Rattle.std.proofs.Common.{sym, ◌∙◌, ap}
use Rattle.hc_events.specs.Changes.{updates_of}
use Rattle.hc_events.specs.Points.{opened_with, state_of}
use Rattle.hc_events.specs.Steps.{SendsTasks}
use Rattle.hc_conductor.proofs.Kept.{opened-after}
use Rattle.hc_conductor.proofs.conductor.Conductor.send_into.Goals as goal

pub invariant_of-self-2 : goal.invariant_of-self-2
invariant_of-self-2 c =
    let i = c.self.invariant in
    let after = sym c.in_ok-send_into.ensures.entries in
    record {
      groups = i.groups ∙ (sym (opened-after c.self.inside.core.history (SendsTasks c.args.tasks.now)) ∙ ap (λ s. opened_with s.history) after);
      legal = i.legal;
      updates = i.updates ∙ ap (λ s. updates_of s.taken) after;
      after_it = i.after_it ∙ ap (λ s. state_of s.taken) after;
      rings = i.rings;
    }

use Rattle.std.proofs.Common.{sym, ◌∙◌, ap}
use Rattle.hc_events.specs.Changes.{updates_of}
use Rattle.hc_events.specs.Points.{opened_with, state_of}
use Rattle.hc_conductor.proofs.Kept.{opened-sent}
use Rattle.hc_conductor.proofs.conductor.Conductor.commit.Goals as goal

pub invariant_of-self : goal.invariant_of-self
invariant_of-self c =
    let i = c.self.invariant in
    let after = sym c.commit.ensures in
    record {
      groups = i.groups ∙ (sym (opened-sent _ c.args.frames.now) ∙ ap (λ s. opened_with s.history) after);
      legal = i.legal;
      updates = i.updates ∙ ap (λ s. updates_of s.taken) after;
      after_it = i.after_it ∙ ap (λ s. state_of s.taken) after;
      rings = i.rings;
    }

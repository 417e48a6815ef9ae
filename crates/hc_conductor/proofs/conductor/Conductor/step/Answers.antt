use Rattle.std.proofs.Common.{sym, ◌∙◌, ap}
use Rattle.hc_events.specs.Changes.{updates_of}
use Rattle.hc_events.specs.Points.{state_of}
use Rattle.hc_conductor.proofs.Kept.{opened-answered}
use Rattle.hc_conductor.proofs.conductor.Conductor.step.Goals as goal

pub invariant_of-self : goal.invariant_of-self
invariant_of-self c =
    let i = c.self.invariant in
    let same = sym c.step.ensures.taken in
    record {
      groups = i.groups ∙ sym (opened-answered _ _ _ _ c.step.ensures.answer);
      legal = i.legal;
      updates = i.updates ∙ ap updates_of same;
      after_it = i.after_it ∙ ap state_of same;
      rings = i.rings;
    }

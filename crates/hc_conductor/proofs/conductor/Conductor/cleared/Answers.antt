use Rattle.std.proofs.Common.{sym, ◌∙◌, ap}
use Rattle.hc_events.specs.Changes.{updates_of}
use Rattle.hc_events.specs.Points.{state_of}
use Rattle.hc_conductor.proofs.Kept.{cleared-served}
use Rattle.hc_conductor.proofs.conductor.Conductor.cleared.Goals as goal

pub invariant_of-self : goal.invariant_of-self
invariant_of-self c =
    let i = c.self.invariant in
    let is = c.cleared.ensures in
    let same = cleared-served c.cleared.result c.self.inside.core c.cleared.new.self c.args.station is.entries is.unchanged in
    record {
      groups = i.groups ∙ sym same.0;
      legal = i.legal;
      updates = i.updates ∙ ap updates_of (sym same.1);
      after_it = i.after_it ∙ ap state_of (sym same.1);
      rings = i.rings;
    }

use Rattle.std.proofs.Common.{sym, ◌∙◌, ap}
use Rattle.hc_events.specs.Changes.{updates_of}
use Rattle.hc_events.specs.Points.{state_of}
use Rattle.hc_events.specs.Steps.{Arrives}
use Rattle.hc_conductor.specs.Conducting.{core_history}
use Rattle.hc_conductor.proofs.Kept.{opened-served, history-served}
use Rattle.hc_conductor.proofs.conductor.Conductor.arrive_into.Goals as goal

pub invariant_of-self : goal.invariant_of-self
invariant_of-self c =
    let i = c.self.invariant in
    let is = c.arrive_into.ensures in
    let same = opened-served c.arrive_into.result c.self.inside.core c.arrive_into.new.self (Arrives c.args.bytes.now) is.entries is.unchanged in
    record {
      groups = i.groups ∙ sym same.0;
      legal = i.legal;
      updates = i.updates ∙ ap updates_of (sym same.1);
      after_it = i.after_it ∙ ap state_of (sym same.1);
      rings = i.rings;
    }

pub returns-clause-entries : goal.returns-clause-entries
returns-clause-entries c =
    history-served c.arrive_into.result c.self.inside.core c.arrive_into.new.self (Arrives c.args.bytes.now) (core_history c.args.self.now) (ap core_history c.self.view_is) c.arrive_into.ensures.entries

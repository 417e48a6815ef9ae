use Rattle.std.proofs.Common.{ap, sym, ◌∙◌}
use Rattle.hc_events.specs.Images.{slot_of}
use Rattle.hc_events.specs.Steady.{steady_slot}
use Rattle.hc_core.specs.State.{CoreState}
use Rattle.hc_core.proofs.SteadyReads.{none-of, read-is}
use Rattle.hc_core.proofs.keeping.Core.data.Goals as goal

pub returns-then-not-is_present-clause-slot : goal.returns-then-not-is_present-clause-slot
returns-then-not-is_present-clause-slot c = λ low few.
    sym (none-of (slot_of c.args.self.now.history c.args.task c.args.number) (sym c.is_present.ensures ∙ c.if-not-is_present.true))

pub returns-clause-slot : goal.returns-clause-slot
returns-clause-slot c = λ low few.
    let task = c.args.task in
    let number = c.args.number in
    let is = c.self.invariant.slots task number low few in
    let view = ap (λ (state : CoreState). steady_slot state.history task number) c.self.view_is in
    let read = (read-is c.args.self.now.history task number (sym c.is_present.ensures ∙ c.if-not-is_present.false)).0 in
    cc (c.data.ensures, is, view, read)

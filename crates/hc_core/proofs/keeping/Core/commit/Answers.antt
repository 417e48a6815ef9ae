use Rattle.std.proofs.Common.{◌+◌, length, sym, subst}
use Rattle.hc_events.specs.Entries.{History}
use Rattle.hc_events.specs.Steps.{with_sent}
use Rattle.hc_sendings.specs.Waiting.{Waiting}
use Rattle.hc_core.specs.Records.{history_read}
use Rattle.hc_core.proofs.Commits.{agree-committed, proposal-after_it, proposal-named}
use Rattle.hc_core.specs.Agreement.{Agree, core_parts}
use Rattle.hc_core.specs.Proposed.{IsProposal}
use Rattle.hc_core.specs.State.{CoreState}
use Rattle.hc_core.proofs.keeping.Core.commit.Goals as goal

pub send-requires-clause-named : goal.send-requires-clause-named
send-requires-clause-named c =
    let inside = c.self.inside in
    let history = history_read inside.history in
    let is : IsProposal history c.args.frames.now = subst (λ (state : CoreState). IsProposal state.history c.args.frames.now) (sym c.self.view_is) c.requires in
    proposal-named (core_parts inside) history (history_read inside.taken.value) c.args.frames.now is c.self.invariant

pub send-requires-clause-after_it : goal.send-requires-clause-after_it
send-requires-clause-after_it c =
    let inside = c.self.inside in
    let history = history_read inside.history in
    let is : IsProposal history c.args.frames.now = subst (λ (state : CoreState). IsProposal state.history c.args.frames.now) (sym c.self.view_is) c.requires in
    proposal-after_it (core_parts inside) history (history_read inside.taken.value) c.args.frames.now is c.self.invariant

pub invariant_of-self : goal.invariant_of-self
invariant_of-self c =
    let inside = c.self.inside in
    let history = history_read inside.history in
    let taken = history_read inside.taken.value in
    let frames = c.args.frames.now in
    let is : IsProposal history frames = subst (λ (state : CoreState). IsProposal state.history frames) (sym c.self.view_is) c.requires in
    subst (λ (grows : History). Agree (record (core_parts inside) { awaited = c.send.new.self; serial = inside.serial + length frames }) grows taken) (sym c.sent_all.ensures)
    (subst (λ (waiting : Waiting). Agree (record (core_parts inside) { awaited = waiting; serial = inside.serial + length frames }) (with_sent history frames) taken) (sym c.send.ensures.sent)
    (agree-committed (core_parts inside) history taken frames is c.self.invariant))

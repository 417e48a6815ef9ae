use Rattle.std.proofs.Common.{◌≡◌, ◌≢◌, ◌∙◌, ap, subst, sym, Option, Some, None}
use Rattle.std.specs.Prelude.{All, IfErr, OnOk}
use Rattle.std.proofs.lemmas.Result.{err_from_is_err_and}
use Rattle.hc_records.specs.Line.{line}
use Rattle.hc_records.specs.Lists.{lowest}
use Rattle.hc_events.specs.declared.faults.CoreFault.{CoreFault}
use Rattle.hc_events.specs.declared.faults.CoreFault.TheVariants.{Memory}
use Rattle.hc_events.specs.Sendings.{sendings_of}
use Rattle.hc_events.specs.Steps.{ready_faults}
use Rattle.hc_sendings.specs.Refusals.{sending_faults}
use Rattle.hc_core.specs.Early.{early_ready_faults}
use Rattle.hc_core.specs.Records.{history_read}
use Rattle.hc_core.proofs.Fills.{on-proposed, pieces, ready-as, ready-faults}
use Rattle.hc_core.proofs.ReadyFaults.{early-refused}
use Rattle.hc_core.specs.Filled.{CanBeFilled}
use Rattle.hc_core.specs.Proposed.{IsProposal}
use Rattle.hc_core.specs.State.{CoreState}
use Rattle.hc_core.proofs.keeping.Core.propose_ready_into.Goals as goal

pub returns-in_err-refuse_unready-clause-refused : goal.returns-in_err-refuse_unready-clause-refused
returns-in_err-refuse_unready-clause-refused c =
    let p = err_from_is_err_and c.from_residual.result c.from_residual.ensures.1 in
    rw (p.1, p.2) (λ other. early-refused c.args.self.now.history c.args.tasks.now c.in_err-refuse_unready.field-0.0 c.in_err-refuse_unready.ensures.refused)

pub returns-clause-accepted : goal.returns-clause-accepted
returns-clause-accepted c =
    let history = history_read c.self.inside.history in
    let tasks = c.args.tasks.now in
    let early : lowest (early_ready_faults history tasks) ≡ None = subst (λ (state : CoreState). lowest (early_ready_faults state.history tasks) ≡ None) (sym c.self.view_is) c.in_ok-refuse_unready.ensures.passed in
    let faults = ready-faults history c.self.inside.plan c.self.inside.serial tasks c.self.invariant.state c.self.invariant.serial early
    ∙ ap (λ (state : CoreState). lowest (ready_faults state.history tasks)) c.self.view_is in
    subst (λ (found : Option CoreFault). OnOk c.propose_into.result (found ≡ None)) faults c.propose_into.ensures.accepted

pub returns-clause-refused : goal.returns-clause-refused
returns-clause-refused c =
    let history = history_read c.self.inside.history in
    let tasks = c.args.tasks.now in
    let early : lowest (early_ready_faults history tasks) ≡ None = subst (λ (state : CoreState). lowest (early_ready_faults state.history tasks) ≡ None) (sym c.self.view_is) c.in_ok-refuse_unready.ensures.passed in
    let faults = ready-faults history c.self.inside.plan c.self.inside.serial tasks c.self.invariant.state c.self.invariant.serial early
    ∙ ap (λ (state : CoreState). lowest (ready_faults state.history tasks)) c.self.view_is in
    subst (λ (found : Option CoreFault). IfErr c.propose_into.result (λ (fault : CoreFault). fault ≢ Memory → found ≡ Some fault)) faults c.propose_into.ensures.refused

pub returns-clause-present : goal.returns-clause-present
returns-clause-present c =
    let inside = c.self.inside in
    let history = history_read inside.history in
    let tasks = c.args.tasks.now in
    let frames = c.propose_into.new.frames.items in
    let early : lowest (early_ready_faults history tasks) ≡ None = subst (λ (state : CoreState). lowest (early_ready_faults state.history tasks) ≡ None) (sym c.self.view_is) c.in_ok-refuse_unready.ensures.passed in
    subst (λ (state : CoreState). OnOk c.propose_into.result (IsProposal state.history frames)) c.self.view_is
    (on-proposed (frames ≡ sendings_of (line inside.plan) inside.serial tasks) (lowest (sending_faults (line inside.plan) inside.serial 0 tasks) ≡ None) (IsProposal history frames) c.propose_into.result
    (λ is none. ready-as history inside.plan inside.serial tasks c.self.invariant.state c.self.invariant.serial c.requires early frames is none) c.propose_into.ensures.frames c.propose_into.ensures.accepted)

pub returns-clause-filled : goal.returns-clause-filled
returns-clause-filled c =
    let inside = c.self.inside in
    let history = history_read inside.history in
    let tasks = c.args.tasks.now in
    let frames = c.propose_into.new.frames.items in
    let early : lowest (early_ready_faults history tasks) ≡ None = subst (λ (state : CoreState). lowest (early_ready_faults state.history tasks) ≡ None) (sym c.self.view_is) c.in_ok-refuse_unready.ensures.passed in
    subst (λ (state : CoreState). OnOk c.propose_into.result (All (CanBeFilled state.history) frames)) c.self.view_is
    (on-proposed (frames ≡ sendings_of (line inside.plan) inside.serial tasks) (lowest (sending_faults (line inside.plan) inside.serial 0 tasks) ≡ None) (All (CanBeFilled history) frames) c.propose_into.result
    (λ is none. (pieces history frames (ready-as history inside.plan inside.serial tasks c.self.invariant.state c.self.invariant.serial c.requires early frames is none)).filled) c.propose_into.ensures.frames c.propose_into.ensures.accepted)

use Rattle.std.proofs.Common.{◌≡◌, ◌≢◌, ◌≤◌, ◌+◌, ◌∙◌, ℕ, ap, length, subst, Option, Some, None}
use Rattle.std.specs.Prelude.{All, Err, IfErr, IfSome, OnOk}
use Rattle.hc_records.specs.Line.{State, line}
use Rattle.hc_records.specs.Lists.{lowest}
use Rattle.hc_frames.specs.declared.limits.TheConstants.{SETUP_SERIAL}
use Rattle.hc_events.specs.declared.faults.CoreFault.{CoreFault}
use Rattle.hc_events.specs.declared.faults.CoreFault.TheVariants.{Memory}
use Rattle.hc_events.specs.Owed.{known_bytes, owed_blocks}
use Rattle.hc_events.specs.Points.{line_of, next_serial, state_of}
use Rattle.hc_events.specs.Sendings.{sendings_of}
use Rattle.hc_events.specs.Steps.{task_faults}
use Rattle.hc_sendings.specs.Refusals.{early_faults, sending_faults}
use Rattle.hc_core.specs.Records.{history_read}
use Rattle.hc_core.proofs.Fills.{few-frames, on-proposed, pieces, proposed-as}
use Rattle.hc_core.specs.Filled.{CanBeFilled}
use Rattle.hc_core.specs.Proposed.{IsProposal}
use Rattle.hc_core.specs.State.{CoreState}
use Rattle.hc_core.proofs.keeping.Core.propose_into.Goals as goal

pub returns-clause-accepted : goal.returns-clause-accepted
returns-clause-accepted c =
    let history = history_read c.self.inside.history in
    let tasks = c.args.tasks.now in
    let faults = ap (λ (state : State). lowest (sending_faults (line state) c.self.inside.serial c.count-owed.result tasks)) c.self.invariant.state
    ∙ ap (λ (n : ℕ). lowest (sending_faults (line_of history) n c.count-owed.result tasks)) c.self.invariant.serial
    ∙ ap (λ (n : ℕ). lowest (sending_faults (line_of history) (next_serial history) n tasks)) (c.count-owed.ensures (known_bytes history) (state_of history) (record { right = c.self.invariant.known; project = c.self.invariant.project }))
    ∙ ap (λ (state : CoreState). lowest (task_faults state.history tasks)) c.self.view_is in
    subst (λ (found : Option CoreFault). OnOk c.propose_into.result (found ≡ None)) faults c.propose_into.ensures.accepted

pub returns-clause-refused : goal.returns-clause-refused
returns-clause-refused c =
    let history = history_read c.self.inside.history in
    let tasks = c.args.tasks.now in
    let faults = ap (λ (state : State). lowest (sending_faults (line state) c.self.inside.serial c.count-owed.result tasks)) c.self.invariant.state
    ∙ ap (λ (n : ℕ). lowest (sending_faults (line_of history) n c.count-owed.result tasks)) c.self.invariant.serial
    ∙ ap (λ (n : ℕ). lowest (sending_faults (line_of history) (next_serial history) n tasks)) (c.count-owed.ensures (known_bytes history) (state_of history) (record { right = c.self.invariant.known; project = c.self.invariant.project }))
    ∙ ap (λ (state : CoreState). lowest (task_faults state.history tasks)) c.self.view_is in
    subst (λ (found : Option CoreFault). IfErr c.propose_into.result (λ (fault : CoreFault). fault ≢ Memory → found ≡ Some fault)) faults c.propose_into.ensures.refused

pub returns-clause-present : goal.returns-clause-present
returns-clause-present c =
    let inside = c.self.inside in
    let history = history_read inside.history in
    let tasks = c.args.tasks.now in
    let frames = c.propose_into.new.frames.items in
    let owed = c.count-owed.ensures (known_bytes history) (state_of history) (record { right = c.self.invariant.known; project = c.self.invariant.project }) in
    subst (λ (state : CoreState). OnOk c.propose_into.result (IsProposal state.history frames)) c.self.view_is
    (on-proposed (frames ≡ sendings_of (line inside.plan) inside.serial tasks) (lowest (sending_faults (line inside.plan) inside.serial c.count-owed.result tasks) ≡ None) (IsProposal history frames) c.propose_into.result
    (λ is none. proposed-as history inside.plan inside.serial c.count-owed.result tasks c.self.invariant.state c.self.invariant.serial owed c.requires frames is none) c.propose_into.ensures.frames c.propose_into.ensures.accepted)

pub returns-clause-filled : goal.returns-clause-filled
returns-clause-filled c =
    let inside = c.self.inside in
    let history = history_read inside.history in
    let tasks = c.args.tasks.now in
    let frames = c.propose_into.new.frames.items in
    let owed = c.count-owed.ensures (known_bytes history) (state_of history) (record { right = c.self.invariant.known; project = c.self.invariant.project }) in
    subst (λ (state : CoreState). OnOk c.propose_into.result (All (CanBeFilled state.history) frames)) c.self.view_is
    (on-proposed (frames ≡ sendings_of (line inside.plan) inside.serial tasks) (lowest (sending_faults (line inside.plan) inside.serial c.count-owed.result tasks) ≡ None) (All (CanBeFilled history) frames) c.propose_into.result
    (λ is none. (pieces history frames (proposed-as history inside.plan inside.serial c.count-owed.result tasks c.self.invariant.state c.self.invariant.serial owed c.requires frames is none)).filled) c.propose_into.ensures.frames c.propose_into.ensures.accepted)

pub returns-clause-few : goal.returns-clause-few
returns-clause-few c =
    let frames = c.propose_into.new.frames.items in
    on-proposed (c.self.inside.serial + length frames ≤ SETUP_SERIAL) (c.self.inside.serial + length frames ≤ SETUP_SERIAL) (length frames ≤ SETUP_SERIAL) c.propose_into.result
    (λ left same. few-frames c.self.inside.serial (length frames) SETUP_SERIAL left) c.propose_into.ensures.left c.propose_into.ensures.left

pub returns-clause-early : goal.returns-clause-early
returns-clause-early c =
    let history = history_read c.self.inside.history in
    let tasks = c.args.tasks.now in
    let owed = c.count-owed.ensures (known_bytes history) (state_of history) (record { right = c.self.invariant.known; project = c.self.invariant.project })
    ∙ ap (λ (state : CoreState). length (owed_blocks state.history)) c.self.view_is in
    subst (λ (n : ℕ). IfSome (lowest (early_faults n tasks)) (λ (fault : CoreFault). c.propose_into.result ≡ Err fault)) owed c.propose_into.ensures.early

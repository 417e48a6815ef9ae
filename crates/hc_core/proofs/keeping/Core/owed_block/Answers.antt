use Rattle.std.proofs.Common.{◌∙◌, ap, sym}
use Rattle.std.specs.Prelude.{slice_get}
use Rattle.hc_events.specs.Owed.{known_bytes, owed_blocks}
use Rattle.hc_events.specs.Points.{state_of}
use Rattle.hc_core.specs.Records.{history_read}
use Rattle.hc_core.specs.State.{CoreState}
use Rattle.hc_core.proofs.lemmas.BlockSizes.{owed-bytes}
use Rattle.hc_core.proofs.keeping.Core.owed_block.Goals as goal

pub returns-in_err-found-clause-block : goal.returns-in_err-found-clause-block
returns-in_err-found-clause-block c =
    let history = history_read c.self.inside.history in
    let none = c.in_err-found.ensures (known_bytes history) (state_of history) c.self.invariant.state (record { right = c.self.invariant.known; project = c.self.invariant.project }) in
    c.from_residual.ensures ∙ sym none ∙ ap (λ (state : CoreState). slice_get (owed_blocks state.history) c.args.index) c.self.view_is

pub returns-clause-block : goal.returns-clause-block
returns-clause-block c =
    let history = history_read c.self.inside.history in
    let found = c.in_ok-found.ensures (known_bytes history) (state_of history) c.self.invariant.state (record { right = c.self.invariant.known; project = c.self.invariant.project }) in
    sym found.is ∙ ap (λ (state : CoreState). slice_get (owed_blocks state.history) c.args.index) c.self.view_is

pub returns-clause-bytes : goal.returns-clause-bytes
returns-clause-bytes c =
    let history = history_read c.self.inside.history in
    let found = c.in_ok-found.ensures (known_bytes history) (state_of history) c.self.invariant.state (record { right = c.self.invariant.known; project = c.self.invariant.project }) in
    owed-bytes history c.args.index c.in_ok-found.found.block found.is

use Rattle.std.proofs.Common.{◌∷◌, ◌∙◌, ap, refl}
use Rattle.hc_records.specs.Edits.{state_after}
use Rattle.hc_events.specs.Entries.{Edited}
use Rattle.hc_events.specs.Points.{state_of}
use Rattle.hc_events.specs.Steps.{edit_answer}
use Rattle.hc_core.specs.Prepared.{CoreEdit}
use Rattle.hc_core.specs.State.{CoreState}
use Rattle.hc_core.proofs.Edits.{core_edit-here}
use Rattle.hc_core.proofs.keeping.Core.carry_out.Goals as goal

pub carry-requires : goal.carry-requires
carry-requires c =
    core_edit-here c.core_edit.inside.core.value c.args.self.now c.args.self.now c.args.core_edit c.core_edit.inside.planned c.core_edit.invariant.0 c.core_edit.view_is c.requires refl

pub returns-clause-answer : goal.returns-clause-answer
returns-clause-answer c =
    let old = state_of c.args.self.now.history in
    c.carry.ensures.answer ∙ ap (λ (one : CoreEdit). edit_answer old (state_after old one.edit.report.swap.edit)) c.core_edit.view_is

pub returns-clause-entries : goal.returns-clause-entries
returns-clause-entries c =
    let core = c.args.self.now in
    let after_it : CoreEdit → CoreState = λ one. record core { history = Edited one.edit.report.swap.edit ∷ core.history } in
    c.carry.ensures.entries ∙ ap after_it c.core_edit.view_is

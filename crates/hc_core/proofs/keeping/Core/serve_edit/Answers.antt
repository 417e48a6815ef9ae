use Rattle.std.proofs.Common.{◌≡◌, ◌∷◌, ap, sym, subst}
use Rattle.std.specs.Prelude.{Err}
use Rattle.hc_records.specs.declared.faults.EditFault.{EditFault}
use Rattle.hc_groups.specs.Edits.{own_fault}
use Rattle.hc_events.specs.declared.answer.Answer.{Answer}
use Rattle.hc_events.specs.declared.answer.Answer.TheVariants as answer
use Rattle.hc_events.specs.declared.faults.CoreFault.{CoreFault}
use Rattle.hc_events.specs.Calls.{MayAnswer}
use Rattle.hc_events.specs.Entries.{Edited}
use Rattle.hc_events.specs.Faults.{edit_refusal}
use Rattle.hc_events.specs.Points.{state_of}
use Rattle.hc_events.specs.Steps.{Edits}
use Rattle.hc_core.proofs.Serves.{edit-served, if-mapped, if-some, history-after, history-same, taken-same}
use Rattle.hc_core.specs.Early.{ShowsEarly}
use Rattle.hc_core.specs.Serving.{answer_of_edit}
use Rattle.hc_core.proofs.keeping.Core.serve_edit.Goals as goal

pub returns-clause-answer : goal.returns-clause-answer
returns-clause-answer c =
    let old = c.args.self.now in
    let new = c.edit.new.self in
    let is = c.edit.ensures in
    subst (λ (answer_given : Answer). MayAnswer old.history (Edits c.args.edit.now) answer_given new.history) (sym c.answer_of_edit.ensures)
    (edit-served old.history new.history c.args.edit.now c.edit.result is.answer is.accepted is.refused (history-after c.edit.result old new (Edited c.args.edit.now ∷ old.history) is.entries) (history-same c.edit.result old new is.unchanged))

pub returns-clause-taken : goal.returns-clause-taken
returns-clause-taken c =
    taken-same c.edit.result c.args.self.now c.edit.new.self (Edited c.args.edit.now ∷ c.args.self.now.history) c.edit.ensures.entries c.edit.ensures.unchanged

pub returns-clause-early : goal.returns-clause-early
returns-clause-early c =
    let history = c.args.self.now.history in
    let edit = c.args.edit.now in
    let own = own_fault (state_of history).groups edit in
    subst (ShowsEarly history (Edits edit)) (sym c.answer_of_edit.ensures)
    (if-mapped edit_refusal (λ (fault : CoreFault). answer_of_edit c.edit.result ≡ answer.Refused fault) own
    (if-some (λ (fault : EditFault). c.edit.result ≡ Err fault) (λ (fault : EditFault). answer_of_edit c.edit.result ≡ answer.Refused (edit_refusal fault)) own
    (λ fault is. ap answer_of_edit is) c.edit.ensures.own))

use Rattle.std.proofs.Common.{◌∷◌, ◌∙◌, ap, subst, sym}
use Rattle.hc_records.specs.declared.edit.Edit.{Edit}
use Rattle.hc_records.specs.Edits.{state_after}
use Rattle.hc_events.specs.Entries.{Edited}
use Rattle.hc_events.specs.Points.{state_of}
use Rattle.hc_events.specs.Steps.{edit_answer}
use Rattle.hc_core.specs.Prepared.{CanBeCarriedOut}
use Rattle.hc_core.specs.State.{CoreState}
use Rattle.hc_core.proofs.Edits.{accepted-own}
use Rattle.hc_core.proofs.keeping.Core.edit.Goals as goal

pub carry-requires : goal.carry-requires
carry-requires c = subst (λ (core : CoreState). CanBeCarriedOut core c.in_ok-planned.planned) (sym c.in_ok-planned.ensures.unchanged) c.in_ok-planned.ensures.planned

pub returns-clause-answer : goal.returns-clause-answer
returns-clause-answer c =
    let old = state_of c.args.self.now.history in
    c.carry.ensures.answer
    ∙ ap (λ (core : CoreState). edit_answer (state_of core.history) (state_after (state_of core.history) c.in_ok-planned.planned.edit.report.swap.edit)) c.in_ok-planned.ensures.unchanged
    ∙ ap (λ asked. edit_answer old (state_after old asked)) c.in_ok-planned.ensures.edit

pub returns-clause-entries : goal.returns-clause-entries
returns-clause-entries c =
    let after_it : Edit → CoreState → CoreState = λ one core. record core { history = Edited one ∷ core.history } in
    c.carry.ensures.entries ∙ ap (after_it c.in_ok-planned.planned.edit.report.swap.edit) c.in_ok-planned.ensures.unchanged ∙ ap (λ one. after_it one c.args.self.now) c.in_ok-planned.ensures.edit

pub returns-clause-own : goal.returns-clause-own
returns-clause-own c =
    let old = state_of c.args.self.now.history in
    accepted-own old c.args.edit.now (state_after old c.args.edit.now) _ c.in_ok-planned.ensures.accepted

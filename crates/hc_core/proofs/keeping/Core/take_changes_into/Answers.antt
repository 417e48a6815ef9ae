use Rattle.std.proofs.Common.{◌≡◌, [], ◌∙◌, List, ap, sym, subst}
use Rattle.hc_events.specs.declared.change.Change.{Change}
use Rattle.hc_events.specs.Changes.{SwapsLeadFrom}
use Rattle.hc_events.specs.Entries.{History}
use Rattle.hc_events.specs.Points.{state_of}
use Rattle.hc_events.proofs.lemmas.Changes.{legal-leads}
use Rattle.hc_core.specs.Records.{history_read}
use Rattle.hc_core.proofs.Update.{agree-taken}
use Rattle.hc_core.specs.Agreement.{Agree, core_parts}
use Rattle.hc_core.specs.Update.{ShowUpdates}
use Rattle.hc_core.specs.State.{CoreState}
use Rattle.hc_core.proofs.keeping.Core.take_changes_into.Goals as goal

pub invariant_of-self : goal.invariant_of-self
invariant_of-self c =
    let inside = c.self.inside in
    let history = history_read inside.history in
    let none : c.replace.new.dest.items ≡ [] = ap (λ vec. vec.items) c.replace.ensures.after ∙ c.clear.ensures.items in
    let now : history_read c.of.result.value ≡ history = ap history_read c.of.ensures in
    subst (λ (changes : List Change). Agree (record (core_parts inside) { changes = changes }) history (history_read c.of.result.value)) (sym none)
    (subst (λ (taken : History). Agree (record (core_parts inside) { changes = [] }) history taken) (sym now)
    (agree-taken (core_parts inside) history (history_read inside.taken.value) c.self.invariant))

pub returns-clause-updates : goal.returns-clause-updates
returns-clause-updates c =
    let inside = c.self.inside in
    let old = c.args.self.now in
    subst (λ (changes : List Change). ShowUpdates old.taken old.history changes) (sym (ap (λ vec. vec.items) c.replace.ensures.value))
    (subst (λ (state : CoreState). ShowUpdates state.taken state.history inside.changes.items) c.self.view_is c.self.invariant.shows)

pub returns-clause-lead : goal.returns-clause-lead
returns-clause-lead c =
    let inside = c.self.inside in
    subst (λ (changes : List Change). SwapsLeadFrom (state_of c.args.self.now.taken) changes) (sym (ap (λ vec. vec.items) c.replace.ensures.value))
    (subst (λ (state : CoreState). SwapsLeadFrom (state_of state.taken) inside.changes.items) c.self.view_is
    (legal-leads (state_of (history_read inside.taken.value)) inside.changes.items c.self.invariant.shows.legal))

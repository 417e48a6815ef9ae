use Rattle.std.proofs.Common.{◌≡◌, [], List, ap, sym, subst}
use Rattle.hc_events.specs.declared.change.Change.{Change}
use Rattle.hc_events.specs.Entries.{History}
use Rattle.hc_core.specs.Records.{history_read}
use Rattle.hc_core.proofs.Update.{agree-taken}
use Rattle.hc_core.specs.Agreement.{Agree, core_parts}
use Rattle.hc_core.proofs.keeping.Core.discard_changes.Goals as goal

pub invariant_of-self : goal.invariant_of-self
invariant_of-self c =
    let inside = c.self.inside in
    let history = history_read inside.history in
    let now : history_read c.of-now.result.value ≡ history = ap history_read c.of-now.ensures in
    subst (λ (changes : List Change). Agree (record (core_parts inside) { changes = changes }) history (history_read c.of-now.result.value)) (sym c.clear.ensures.items)
    (subst (λ (taken : History). Agree (record (core_parts inside) { changes = [] }) history taken) (sym now)
    (agree-taken (core_parts inside) history (history_read inside.taken.value) c.self.invariant))

use Rattle.std.proofs.Common.{◌≡◌, [], ◌++◌, sym, ◌∙◌, ap}
use Rattle.std.specs.Prelude.{reverse}
use Rattle.std.proofs.lemmas.List.{append-nil, reverse-reverse}
use Rattle.hc_events.specs.Changes.{updates_of}
use Rattle.hc_events.specs.Points.{opened_with, state_of}
use Rattle.hc_conductor.specs.Conducted.{conducting_in}
use Rattle.hc_conductor.specs.Conducting.{all_taken, conductor_origin, conductor_pending, conductor_published}
use Rattle.hc_conductor.proofs.Lists.{Says, says-more}
use Rattle.hc_conductor.proofs.conductor.Conductor.take_changes.Goals as goal

pub invariant_of-self : goal.invariant_of-self
invariant_of-self c =
    let i = c.self.invariant in
    let p = conducting_in c.self.inside in
    let more = c.take_changes_into-changes.result.items in
    let none : p.waiting ≡ [] = ap (λ s. s.waiting) c.self.view_is ∙ c.requires in
    let before : all_taken p ≡ conductor_published p ++ conductor_pending p = ap (λ w. conductor_published p ++ conductor_pending p ++ w) none ∙ append-nil (conductor_published p ++ conductor_pending p) in
    let turned : reverse c.reverse.new.self.items ≡ more = ap reverse c.reverse.ensures.items ∙ reverse-reverse more in
    let all = ap (λ w. conductor_published p ++ conductor_pending p ++ w) turned ∙ ap (λ w. w ++ more) (sym before) in
    let was : Says (conductor_origin p).groups p.core.taken (all_taken p) = record { legal = i.legal; updates = i.updates; after_it = i.after_it } in
    let now = says-more (conductor_origin p).groups p.core.taken p.core.history (all_taken p) more _ was c.take_changes_into-changes.ensures.updates all in
    let after = sym c.take_changes_into-changes.ensures.taken in
    record {
      groups = i.groups ∙ ap (λ s. opened_with s.history) after;
      legal = now.legal;
      updates = now.updates ∙ ap (λ s. updates_of s.taken) after;
      after_it = now.after_it ∙ ap (λ s. state_of s.taken) after;
      rings = i.rings;
    }

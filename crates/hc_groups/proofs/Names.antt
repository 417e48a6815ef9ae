-- The variables that the areas of declared slaves offer.
use Rattle.std.proofs.Common.{◌≡◌, ℕ, List, [], ◌∷◌, ◌++◌, refl, sym, ap, ◌∙◌, append_assoc}
use Rattle.std.specs.Prelude.{◌==◌}
use Rattle.std.specs.List.{list_any}
use Rattle.std.proofs.lemmas.Grind.{flat_map-append}
use Rattle.std.proofs.lemmas.List.Sorted.{list_any-IsPermutation}
use Rattle.hc_records.specs.declared.records.Declared.{Declared}
use Rattle.hc_records.specs.declared.records.Slave.{Slave}
use Rattle.hc_records.specs.Edits.{is_declared_variable}
use Rattle.hc_records.specs.Line.{groups_of}
use Rattle.hc_records.specs.Project.{area_names, slave_names, slaves_of}
use Rattle.hc_groups.specs.Index.{Index, IsIndexOf, variables}

-- those of a group, then those of the groups after it
pub variables-group : (declared : Declared) (groups : List Declared) → variables (declared ∷ groups) ≡ slave_names declared.group.slaves ++ variables groups
variables-group declared groups = flat_map-append (λ (slave : Slave). area_names slave.areas) declared.group.slaves (slaves_of (groups_of groups))

pub variables-append : (groups more : List Declared) → variables (groups ++ more) ≡ variables groups ++ variables more
variables-append [] more = refl
variables-append (declared ∷ groups) more =
    variables-group declared (groups ++ more)
    ∙ ap (λ (rest : List ℕ). slave_names declared.group.slaves ++ rest) (variables-append groups more)
    ∙ sym (append_assoc (slave_names declared.group.slaves) (variables groups) (variables more))
    ∙ ap (λ (front : List ℕ). front ++ variables more) (sym (variables-group declared groups))

-- one is offered where it is among the sorted ones
pub offered-is : (groups : List Declared) (index : Index) (variable : ℕ) → IsIndexOf groups index → list_any (λ other. other == variable) index.variables ≡ is_declared_variable groups variable
offered-is groups index variable is = sym (list_any-IsPermutation (λ other. other == variable) (variables groups) index.variables is.declared.variables)

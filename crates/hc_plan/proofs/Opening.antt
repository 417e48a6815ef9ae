-- The declared groups of a project at its opening.
use Rattle.std.proofs.Common.{◌≡◌, List, [], ◌∷◌, refl, ap, rules}
use Rattle.std.specs.Prelude.{None, map}
use Rattle.hc_records.specs.declared.records.Group.{Group}
use Rattle.hc_records.specs.declared.records.Declared.{Declared}
use Rattle.hc_records.specs.Line.{opened_group}
use Rattle.hc_records.specs.Project.{lowest_fault}

groups-opened : (groups : List Group) → map (λ declared. declared.group) (map opened_group groups) ≡ groups
groups-opened [] = refl
groups-opened (group ∷ groups) = ap (λ (rest : List Group). group ∷ rest) (groups-opened groups)

-- they are the project's groups, so no fault's condition holds of them
pub opened-project : (groups : List Group) (opened : List Declared) → opened ≡ map opened_group groups → lowest_fault groups ≡ None
    → lowest_fault (map (λ declared. declared.group) opened) ≡ None
opened-project groups opened is none = search (rules, groups-opened)

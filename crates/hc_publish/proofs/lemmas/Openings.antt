-- The plan of a project at its opening.
use Rattle.std.proofs.Common.{◌≡◌, List, [], ◌∷◌, refl, sym, ap}
use Rattle.hc_records.specs.declared.records.Group.{Group}
use Rattle.hc_records.specs.Line.{groups_of, opened}
use Rattle.hc_publish.specs.ChangesSince.{IsOpening}

pub opened-groups : (groups : List Group) → groups_of (opened groups).groups ≡ groups
opened-groups [] = refl
opened-groups (group ∷ groups) = ap (λ (rest : List Group). group ∷ rest) (opened-groups groups)

pub is-opening : (groups : List Group) → IsOpening (opened groups)
is-opening groups = ap opened (sym (opened-groups groups))

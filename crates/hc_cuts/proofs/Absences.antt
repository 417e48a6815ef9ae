-- The slaves of a group that isn't present.
use Rattle.std.specs.Prelude.{replicate}
use Rattle.std.proofs.Common.{◌≡◌, Bool, false, List, [], ◌∷◌, length, refl, ap, sym, ◌∙◌}
use Rattle.hc_records.specs.declared.records.Area.{Area}
use Rattle.hc_records.specs.declared.records.Slave.{Slave}
use Rattle.hc_cuts.specs.LineChange.{areas_if}

absent-areas : (slaves : List Slave) → replicate (length slaves) [] ≡ areas_if false slaves
absent-areas [] = refl
absent-areas (slave ∷ slaves) = ap (λ (rest : List (List Area)). [] ∷ rest) (absent-areas slaves)

pub none-present : (present : Bool) (slaves : List Slave) → present ≡ false → replicate (length slaves) [] ≡ areas_if present slaves
none-present present slaves absent = absent-areas slaves ∙ sym (ap (λ (p : Bool). areas_if p slaves) absent)

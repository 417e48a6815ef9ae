-- An edit that declares no group leaves each declared slave the variables that it offers.
use Rattle.std.proofs.Common.{◌≡◌, ℕ, zero, suc, Bool, false, List, [], ◌∷◌, ◌++◌, refl, ap, if◌then◌else◌, rules}
use Rattle.std.specs.Prelude.{map}
use Rattle.hc_records.specs.declared.edit.Edit.{Edit}
use Rattle.hc_records.specs.declared.records.Area.{Area}
use Rattle.hc_records.specs.declared.records.Declared.{Declared}
use Rattle.hc_records.specs.declared.records.Slave.{Slave}
use Rattle.hc_records.specs.Edits.{declares, groups_after, with_area, with_slaves}
use Rattle.hc_records.specs.Lists.{changed_at}
use Rattle.hc_records.specs.Project.{area_names, pdo_names}
use Rattle.hc_changes.specs.Rows.{variables_by_rank}

abbrev offered : Slave → List ℕ
offered slave = area_names slave.areas

abbrev group_variables : Declared → List (List ℕ)
group_variables declared = map offered declared.group.slaves

groups-same : (change : Declared → Declared) → ((declared : Declared) → group_variables (change declared) ≡ group_variables declared) → (groups : List Declared)
    → variables_by_rank (map change groups) ≡ variables_by_rank groups
groups-same change same [] = refl
groups-same change same (declared ∷ groups) = search (rules, groups-same change same groups)

presence-by : (here present : Bool) (declared : Declared) → group_variables (if here then record declared { present = present } else declared) ≡ group_variables declared
presence-by here present declared = search rules

areas-same : (change : Area → Area) → ((area : Area) → pdo_names (change area).offered ≡ pdo_names area.offered) → (index : ℕ) (areas : List Area)
    → area_names (changed_at index change areas) ≡ area_names areas
areas-same change same index [] = refl
areas-same change same zero (area ∷ areas) = ap (λ (own : List ℕ). own ++ area_names areas) (same area)
areas-same change same (suc index) (area ∷ areas) = ap (λ (rest : List ℕ). pdo_names area.offered ++ rest) (areas-same change same index areas)

slave-by : (here : Bool) (slave : Slave) (areas : List Area) → area_names areas ≡ area_names slave.areas
    → offered (if here then record slave { areas = areas } else slave) ≡ offered slave
slave-by here slave areas same = search rules

slaves-same : (change : Slave → Slave) → ((slave : Slave) → offered (change slave) ≡ offered slave) → (slaves : List Slave) → map offered (map change slaves) ≡ map offered slaves
slaves-same change same [] = refl
slaves-same change same (slave ∷ slaves) = search (rules, slaves-same change same slaves)

area-stays : (station index : ℕ) (change : Area → Area) → ((area : Area) → pdo_names (change area).offered ≡ pdo_names area.offered) → (groups : List Declared)
    → variables_by_rank (map (with_slaves (with_area station index change)) groups) ≡ variables_by_rank groups
area-stays station index change same = search (rules, groups-same, slaves-same, slave-by, areas-same)

pub edit-stays : (groups : List Declared) (edit : Edit) → declares edit ≡ false → variables_by_rank (groups_after groups edit) ≡ variables_by_rank groups
edit-stays groups edit changes = search (rules, groups-same, presence-by, area-stays)

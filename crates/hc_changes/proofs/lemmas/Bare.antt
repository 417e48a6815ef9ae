-- The parts of a slave that no edit of the declared groups changes: its station address, and all of each area but its assigned
-- PDOs and its task.
use Rattle.std.proofs.Common.{◌≡◌, ℕ, ◌==◌, zero, suc, Bool, true, false, cond, List, [], ◌∷◌, refl, ap, rules}
use Rattle.std.specs.Prelude.{map}
use Rattle.std.proofs.lemmas.List.{map-append}
use Rattle.hc_records.specs.declared.edit.Edit.{Edit}
use Rattle.hc_records.specs.declared.edit.Edit.TheVariants.{Connect, Disconnect, Remap, Move, Declare}
use Rattle.hc_records.specs.declared.records.Area.{Area}
use Rattle.hc_records.specs.declared.records.Declared.{Declared}
use Rattle.hc_records.specs.declared.records.Slave.{Slave}
use Rattle.hc_records.specs.Edits.{declares, groups_after, with_area, with_presence}
use Rattle.hc_records.specs.Lists.{changed_at}
use Rattle.hc_records.proofs.lemmas.Lines.{declared_slaves}

abbrev pub bare : Area → Area
bare area = record area { assigned = []; task = 0 }

abbrev pub bare_slave : Slave → ℕ × List Area
bare_slave slave = (slave.station, map bare slave.areas)

-- a change of areas that keeps what is bare

areas-unchanged : (n : ℕ) (change : Area → Area) → ((area : Area) → bare (change area) ≡ bare area) → (areas : List Area) → map bare (changed_at n change areas) ≡ map bare areas
areas-unchanged n change stays [] = refl
areas-unchanged zero change stays (area ∷ areas) = ap (λ (first : Area). first ∷ map bare areas) (stays area)
areas-unchanged (suc n) change stays (area ∷ areas) = ap (λ (rest : List Area). bare area ∷ rest) (areas-unchanged n change stays areas)

slave-by : (here : Bool) (slave : Slave) (areas : List Area) → map bare areas ≡ map bare slave.areas → bare_slave (cond here (record slave { areas = areas }) slave) ≡ bare_slave slave
slave-by here slave areas same = search rules

slave-unchanged : (station area : ℕ) (change : Area → Area) → ((a : Area) → bare (change a) ≡ bare a) → (slave : Slave) → bare_slave (with_area station area change slave) ≡ bare_slave slave
slave-unchanged station area change stays slave = slave-by (slave.station == station) slave (changed_at area change slave.areas) (areas-unchanged area change stays slave.areas)

slaves-unchanged : (change : Slave → Slave) → ((slave : Slave) → bare_slave (change slave) ≡ bare_slave slave) → (slaves : List Slave) → map bare_slave (map change slaves) ≡ map bare_slave slaves
slaves-unchanged change stays [] = refl
slaves-unchanged change stays (slave ∷ slaves) = search (rules, slaves-unchanged change stays slaves)

-- and of groups

abbrev KeepsBare : (Declared → Declared) → Type 0
KeepsBare change = (declared : Declared) → map bare_slave (change declared).group.slaves ≡ map bare_slave declared.group.slaves

presence-by : (here : Bool) (declared : Declared) (present : Bool) → map bare_slave (cond here (record declared { present = present }) declared).group.slaves ≡ map bare_slave declared.group.slaves
presence-by here declared present = search rules

groups-unchanged : (change : Declared → Declared) → KeepsBare change → (groups : List Declared) → map bare_slave (declared_slaves (map change groups)) ≡ map bare_slave (declared_slaves groups)
groups-unchanged change stays [] = refl
groups-unchanged change stays (declared ∷ groups) = search (rules, map-append, groups-unchanged change stays groups)

pub edit-stays : (groups : List Declared) (edit : Edit) → declares edit ≡ false → map bare_slave (declared_slaves (groups_after groups edit)) ≡ map bare_slave (declared_slaves groups)
edit-stays groups (Connect alias) changes = groups-unchanged (with_presence alias true) (λ declared. presence-by (declared.group.alias == alias) declared true) groups
edit-stays groups (Disconnect alias) changes = groups-unchanged (with_presence alias false) (λ declared. presence-by (declared.group.alias == alias) declared false) groups
edit-stays groups (Remap station area pdos) changes = search (rules, groups-unchanged, slaves-unchanged, slave-unchanged)
edit-stays groups (Move station area task) changes = search (rules, groups-unchanged, slaves-unchanged, slave-unchanged)
edit-stays groups (Declare group) changes = cc

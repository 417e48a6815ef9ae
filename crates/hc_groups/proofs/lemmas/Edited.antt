-- Edits that declare nothing leave the aliases, the station addresses, the offered variables and the number of each slave's areas as they are.
use Rattle.std.proofs.Common.{◌≡◌, ℕ, zero, suc, ◌+◌, ◌==◌, Bool, true, false, List, [], ◌∷◌, ◌++◌, length, take, refl, sym, ap, ◌∙◌, arith, if◌then◌else◌, rules}
use Rattle.std.specs.Prelude.{None, map, sum_by}
use Rattle.std.specs.List.{enumerate_from}
use Rattle.std.proofs.lemmas.List.{length-map}
use Rattle.std.proofs.lemmas.List.Sums.{sum_by-cons}
use Rattle.hc_records.specs.declared.edit.Edit.{Edit}
use Rattle.hc_records.specs.declared.edit.Edit.TheVariants.{Connect, Disconnect, Remap, Move, Declare}
use Rattle.hc_records.specs.declared.records.Area.{Area}
use Rattle.hc_records.specs.declared.records.Declared.{Declared}
use Rattle.hc_records.specs.declared.records.Pdo.{Pdo}
use Rattle.hc_records.specs.declared.records.Slave.{Slave}
use Rattle.hc_records.specs.Edits.{declares, groups_after, with_area, with_presence, with_slaves}
use Rattle.hc_records.specs.Line.{groups_of, present_slaves}
use Rattle.hc_records.specs.Lists.{changed_at}
use Rattle.hc_records.specs.Project.{area_names, lowest_fault, pdo_names, slave_names}
use Rattle.hc_groups.specs.Index.{BeginsWithLine, Index, IsIndexOf, IsIndexOfDeclared, alias_of, block_sum, block_sums, slave_block_count, declared_count, line_stations, owners_from, stations, variables}
use Rattle.hc_groups.proofs.Declaring.{addresses-group, addresses_from, own_addresses}
use Rattle.hc_groups.proofs.Names.{variables-group}
use Rattle.hc_groups.proofs.Summed.{sums-unchanged}

-- a change of a declared group keeps what never changes
record KeepsDeclared (change : Declared → Declared) : Type 0 where
  alias : (declared : Declared) → (change declared).group.alias ≡ declared.group.alias
  addresses : (rank : ℕ) (declared : Declared) → own_addresses rank (change declared).group.slaves ≡ own_addresses rank declared.group.slaves
  variables : (declared : Declared) → slave_names (change declared).group.slaves ≡ slave_names declared.group.slaves
  owners : (group : ℕ) (declared : Declared) → map (λ (slave : Slave). group) (change declared).group.slaves ≡ map (λ (slave : Slave). group) declared.group.slaves
  count : (declared : Declared) → declared_count (change declared) ≡ declared_count declared
  sums : (declared : Declared) → block_sums (change declared) ≡ block_sums declared

aliases-unchanged : (change : Declared → Declared) → KeepsDeclared change → (group : ℕ) (groups : List Declared) → map alias_of (enumerate_from group (map change groups)) ≡ map alias_of (enumerate_from group groups)
aliases-unchanged change stays group [] = refl
aliases-unchanged change stays group (declared ∷ groups) = search (rules, aliases-unchanged change stays (group + 1) groups)

addresses-unchanged : (change : Declared → Declared) → KeepsDeclared change → (rank : ℕ) (groups : List Declared) → addresses_from rank (map change groups) ≡ addresses_from rank groups
addresses-unchanged change stays rank [] = refl
addresses-unchanged change stays rank (declared ∷ groups) =
    let slaves = declared.group.slaves in
    let next = rank + length slaves in
    search (rules, addresses-group, addresses-unchanged change stays next groups)

variables-unchanged : (change : Declared → Declared) → KeepsDeclared change → (groups : List Declared) → variables (map change groups) ≡ variables groups
variables-unchanged change stays [] = refl
variables-unchanged change stays (declared ∷ groups) = search (rules, variables-group, variables-unchanged change stays groups)

owners-unchanged : (change : Declared → Declared) → KeepsDeclared change → (group : ℕ) (groups : List Declared) → owners_from group (map change groups) ≡ owners_from group groups
owners-unchanged change stays group [] = refl
owners-unchanged change stays group (declared ∷ groups) =
    ap (λ (own : List ℕ). own ++ owners_from (group + 1) (map change groups)) (stays.owners group declared)
    ∙ ap (λ (rest : List ℕ). map (λ (slave : Slave). group) declared.group.slaves ++ rest) (owners-unchanged change stays (group + 1) groups)

fronts-unchanged : (change : Declared → Declared) → KeepsDeclared change → (groups : List Declared) → map block_sums (map change groups) ≡ map block_sums groups
fronts-unchanged change stays [] = refl
fronts-unchanged change stays (declared ∷ groups) = search (rules, fronts-unchanged change stays groups)

declared-unchanged : (change : Declared → Declared) → KeepsDeclared change → (groups : List Declared) (index : Index) → IsIndexOfDeclared groups index → lowest_fault (groups_of (map change groups)) ≡ None
    → IsIndexOfDeclared (map change groups) index
declared-unchanged change stays groups index is none =
    search (rules, aliases-unchanged, addresses-unchanged, variables-unchanged, owners-unchanged, fronts-unchanged, sums-unchanged)

-- presence set

presence-stays : (alias : ℕ) (present : Bool) → KeepsDeclared (with_presence alias present)
presence-stays alias present = search rules

-- an area changed

same-count : (index : ℕ) (change : Area → Area) (areas : List Area) → length (changed_at index change areas) ≡ length areas
same-count index change [] = refl
same-count zero change (area ∷ areas) = refl
same-count (suc index) change (area ∷ areas) = ap suc (same-count index change areas)

same-names : (index : ℕ) (change : Area → Area) (areas : List Area) → ((area : Area) → (change area).offered ≡ area.offered) → area_names (changed_at index change areas) ≡ area_names areas
same-names index change [] stays = refl
same-names zero change (area ∷ areas) stays = ap (λ (offered : List Pdo). pdo_names offered ++ area_names areas) (stays area)
same-names (suc index) change (area ∷ areas) stays = ap (λ (rest : List ℕ). pdo_names area.offered ++ rest) (same-names index change areas stays)

record KeepsSlave (change : Slave → Slave) : Type 0 where
  station : (slave : Slave) → (change slave).station ≡ slave.station
  names : (slave : Slave) → area_names (change slave).areas ≡ area_names slave.areas
  blocks : (slave : Slave) → slave_block_count (change slave) ≡ slave_block_count slave

station-by : (here : Bool) (areas : List Area) (slave : Slave) → (if here then record slave { areas = areas } else slave).station ≡ slave.station
station-by here areas slave = search rules

names-by : (here : Bool) (areas : List Area) (slave : Slave) → area_names areas ≡ area_names slave.areas → area_names (if here then record slave { areas = areas } else slave).areas ≡ area_names slave.areas
names-by here areas slave same = search rules

blocks-by : (here : Bool) (areas : List Area) (slave : Slave) → length areas ≡ length slave.areas → slave_block_count (if here then record slave { areas = areas } else slave) ≡ slave_block_count slave
blocks-by here areas slave same = search rules

area-stays : (station area : ℕ) (change : Area → Area) → ((area : Area) → (change area).offered ≡ area.offered) → KeepsSlave (with_area station area change)
area-stays station area change offered =
    record {
      station = λ slave. station-by (slave.station == station) (changed_at area change slave.areas) slave;
      names = λ slave. names-by (slave.station == station) (changed_at area change slave.areas) slave (same-names area change slave.areas offered);
      blocks = λ slave. blocks-by (slave.station == station) (changed_at area change slave.areas) slave (same-count area change slave.areas);
    }

own-unchanged : (change : Slave → Slave) → KeepsSlave change → (rank : ℕ) (slaves : List Slave) → own_addresses rank (map change slaves) ≡ own_addresses rank slaves
own-unchanged change stays rank [] = refl
own-unchanged change stays rank (slave ∷ slaves) = search (rules, own-unchanged change stays (rank + 1) slaves)

names-unchanged : (change : Slave → Slave) → KeepsSlave change → (slaves : List Slave) → slave_names (map change slaves) ≡ slave_names slaves
names-unchanged change stays [] = refl
names-unchanged change stays (slave ∷ slaves) =
    ap (λ (own : List ℕ). own ++ slave_names (map change slaves)) (stays.names slave) ∙ ap (λ (rest : List ℕ). area_names slave.areas ++ rest) (names-unchanged change stays slaves)

numbers-unchanged : (change : Slave → Slave) (group : ℕ) (slaves : List Slave) → map (λ (slave : Slave). group) (map change slaves) ≡ map (λ (slave : Slave). group) slaves
numbers-unchanged change group [] = refl
numbers-unchanged change group (slave ∷ slaves) = ap (λ (rest : List ℕ). group ∷ rest) (numbers-unchanged change group slaves)

slaves-keep : (change : Slave → Slave) → KeepsSlave change → KeepsDeclared (with_slaves change)
slaves-keep change stays =
    record {
      alias = λ declared. refl;
      addresses = λ rank declared. own-unchanged change stays rank declared.group.slaves;
      variables = λ declared. names-unchanged change stays declared.group.slaves;
      owners = λ group declared. numbers-unchanged change group declared.group.slaves;
      count = λ declared. length-map declared.group.slaves change;
      sums = λ declared. sums-unchanged slave_block_count change stays.blocks 0 declared.group.slaves;
    }

area-change : (station area : ℕ) (change : Area → Area) → ((area : Area) → (change area).offered ≡ area.offered) → KeepsDeclared (with_slaves (with_area station area change))
area-change station area change offered = slaves-keep (with_area station area change) (area-stays station area change offered)

pub unchanged-declared :
    (groups : List Declared) (index : Index) (edit : Edit) → declares edit ≡ false → IsIndexOfDeclared groups index → lowest_fault (groups_of (groups_after groups edit)) ≡ None
    → IsIndexOfDeclared (groups_after groups edit) index
unchanged-declared groups index (Connect alias) same is none = declared-unchanged (with_presence alias true) (presence-stays alias true) groups index is none
unchanged-declared groups index (Disconnect alias) same is none = declared-unchanged (with_presence alias false) (presence-stays alias false) groups index is none
unchanged-declared groups index (Remap station area pdos) same is none =
    let change : Area → Area = λ a. record a { assigned = pdos } in
    declared-unchanged (with_slaves (with_area station area change)) (area-change station area change (λ a. refl)) groups index is none
unchanged-declared groups index (Move station area task) same is none =
    let change : Area → Area = λ a. record a { task = task } in
    declared-unchanged (with_slaves (with_area station area change)) (area-change station area change (λ a. refl)) groups index is none
unchanged-declared groups index (Declare group) declares is none = cc

-- where areas change alone, the line has as many slaves and blocks

sum-unchanged : (change : Slave → Slave) → KeepsSlave change → (slaves : List Slave) → block_sum (map change slaves) ≡ block_sum slaves
sum-unchanged change stays [] = refl
sum-unchanged change stays (slave ∷ slaves) = search (rules, sum_by-cons, sum-unchanged change stays slaves)

own-count : (change : Slave → Slave) (present : Bool) (slaves : List Slave) → length (if present then map change slaves else []) ≡ length (if present then slaves else [])
own-count change present slaves = search (rules, length-map)

own-blocks : (change : Slave → Slave) → KeepsSlave change → (present : Bool) (slaves : List Slave) → block_sum (if present then map change slaves else []) ≡ block_sum (if present then slaves else [])
own-blocks change stays present slaves = search (rules, sum-unchanged)

own-stations : (change : Slave → Slave) → KeepsSlave change → (slaves : List Slave) → stations (map change slaves) ≡ stations slaves
own-stations change stays [] = refl
own-stations change stays (slave ∷ slaves) = search (rules, own-stations change stays slaves)

present-stations : (change : Slave → Slave) → KeepsSlave change → (present : Bool) (slaves : List Slave) → stations (if present then map change slaves else []) ≡ stations (if present then slaves else [])
present-stations change stays present slaves = search (rules, own-stations)

stations-unchanged : (change : Slave → Slave) → KeepsSlave change → (groups : List Declared) → line_stations (map (with_slaves change) groups) ≡ line_stations groups
stations-unchanged change stays [] = refl
stations-unchanged change stays (declared ∷ groups) =
    ap (λ (own : List ℕ). own ++ line_stations (map (with_slaves change) groups)) (present-stations change stays declared.present declared.group.slaves)
    ∙ ap (λ (rest : List ℕ). stations (present_slaves declared) ++ rest) (stations-unchanged change stays groups)

counts-unchanged : (change : Slave → Slave) (groups : List Declared) → sum_by declared_count (map (with_slaves change) groups) ≡ sum_by declared_count groups
counts-unchanged change [] = refl
counts-unchanged change (declared ∷ groups) =
    let was = sum_by-cons declared_count declared groups in
    let is = sum_by-cons declared_count (with_slaves change declared) (map (with_slaves change) groups) in
    let own = length-map declared.group.slaves change in
    let rest = counts-unchanged change groups in
    omega (arith, was, is, own, rest)

line-unchanged : (change : Slave → Slave) → KeepsSlave change → (groups : List Declared) (list : List ℕ) → BeginsWithLine groups list → BeginsWithLine (map (with_slaves change) groups) list
line-unchanged change stays groups list begins =
    let same = stations-unchanged change stays groups in
    record {
      long = begins.long ∙ sym (counts-unchanged change groups);
      front = ap (λ (line : List ℕ). take (length line) list) same ∙ begins.front ∙ sym same;
    }

index-unchanged : (station area : ℕ) (change : Area → Area) → ((area : Area) → (change area).offered ≡ area.offered) → (groups : List Declared) (index : Index) → IsIndexOf groups index
    → lowest_fault (groups_of (map (with_slaves (with_area station area change)) groups)) ≡ None → IsIndexOf (map (with_slaves (with_area station area change)) groups) index
index-unchanged station area change offered groups index is none = search (rules, area-stays, declared-unchanged, area-change, sums-unchanged, own-count, own-blocks, line-unchanged)

pub remap-stays :
    (groups : List Declared) (index : Index) (station area : ℕ) (pdos : List ℕ) → IsIndexOf groups index → lowest_fault (groups_of (groups_after groups (Remap station area pdos))) ≡ None
    → IsIndexOf (groups_after groups (Remap station area pdos)) index
remap-stays groups index station area pdos is none =
    index-unchanged station area (λ a. record a { assigned = pdos }) (λ a. refl) groups index is none

pub move-stays :
    (groups : List Declared) (index : Index) (station area task : ℕ) → IsIndexOf groups index → lowest_fault (groups_of (groups_after groups (Move station area task))) ≡ None
    → IsIndexOf (groups_after groups (Move station area task)) index
move-stays groups index station area task is none =
    index-unchanged station area (λ a. record a { task = task }) (λ a. refl) groups index is none

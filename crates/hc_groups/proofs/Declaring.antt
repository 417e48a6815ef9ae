-- The addresses of the declared slaves, and the slaves of the line among them.
use Rattle.std.proofs.Common.{◌≡◌, ◌≢◌, ℕ, ◌+◌, ◌<◌, ◌≤◌, ◌==◌, ◌||◌, Bool, true, false, List, [], ◌∷◌, ◌++◌, length, refl, sym, ap, subst, if◌then◌else◌, rules}
use Rattle.std.specs.Prelude.{All, AllPairs, Contains, None, map}
use Rattle.std.specs.List.{list_any}
use Rattle.std.proofs.lemmas.List.{map-append}
use Rattle.std.proofs.lemmas.List.Elements.{All-map, All-nil, All-append, All-weaker, Contains-append_left, Contains-append_right}
use Rattle.std.proofs.lemmas.List.Folds.{list_any-append}
use Rattle.hc_records.specs.declared.records.Declared.{Declared}
use Rattle.hc_records.specs.declared.records.Slave.{Slave}
use Rattle.hc_records.specs.Edits.{has_station}
use Rattle.hc_records.specs.Line.{Member, groups_of, line_from, members_from, present_slaves}
use Rattle.hc_records.specs.Project.{lowest_fault}
use Rattle.hc_records.proofs.lemmas.Limits.{project-inside}
use Rattle.hc_records.proofs.lemmas.Lines.{RankWithin, declared_slaves, line-ascends, line-pairs, line-within}
use Rattle.hc_records.proofs.lemmas.Lists.{AllPairs-map}
use Rattle.hc_groups.specs.declared.addresses.Address.{Address}
use Rattle.hc_groups.proofs.IndexFound.{contains-map}
use Rattle.hc_groups.specs.Index.{address_of, addresses, all_present}

-- the addresses from a rank on
abbrev pub addresses_from : ℕ → List Declared → List Address
addresses_from rank groups = map address_of (line_from rank (all_present groups))

abbrev pub own_addresses : ℕ → List Slave → List Address
own_addresses rank slaves = map address_of (members_from rank slaves)

-- those of a group, then those of the groups after it
pub addresses-group : (rank : ℕ) (declared : Declared) (groups : List Declared)
    → addresses_from rank (declared ∷ groups) ≡ own_addresses rank declared.group.slaves ++ addresses_from (rank + length declared.group.slaves) groups
addresses-group rank declared groups = search (rules, map-append)

-- the address of each slave of the line is among them

own-among : (rank : ℕ) (slaves : List Slave) → All (λ member. Contains (own_addresses rank slaves) (address_of member)) (members_from rank slaves)
own-among rank slaves = contains-map address_of (members_from rank slaves)

present-among : (present : Bool) (rank : ℕ) (slaves : List Slave) (all : List Address) → All (λ member. Contains all (address_of member)) (members_from rank slaves)
    → All (λ member. Contains all (address_of member)) (members_from rank (if present then slaves else []))
present-among true rank slaves all own = own
present-among false rank slaves all own = All-nil (λ (member : Member). Contains all (address_of member))

among-from : (rank : ℕ) (groups : List Declared) → All (λ member. Contains (addresses_from rank groups) (address_of member)) (line_from rank groups)
among-from rank [] = All-nil (λ (member : Member). Contains [] (address_of member))
among-from rank (declared ∷ groups) =
    let slaves = declared.group.slaves in
    let next = rank + length slaves in
    let here = own_addresses rank slaves in
    let after_it = addresses_from next groups in
    subst (λ (all : List Address). All (λ member. Contains all (address_of member)) (line_from rank (declared ∷ groups))) (sym (addresses-group rank declared groups))
    (All-append (λ (member : Member). Contains (here ++ after_it) (address_of member)) (members_from rank (present_slaves declared)) (line_from next groups)
    (present-among declared.present rank slaves (here ++ after_it)
    (All-weaker (λ (member : Member). Contains here (address_of member)) (λ member. Contains (here ++ after_it) (address_of member))
    (λ member own. Contains-append_left here after_it (address_of member) own) (members_from rank slaves) (own-among rank slaves)))
    (All-weaker (λ (member : Member). Contains after_it (address_of member)) (λ member. Contains (here ++ after_it) (address_of member))
    (λ member own. Contains-append_right here after_it (address_of member) own) (line_from next groups) (among-from next groups)))

pub line-among : (groups : List Declared) → All (λ member. Contains (addresses groups) (address_of member)) (line_from 1 groups)
line-among groups = among-from 1 groups

-- each station address is once among them, and each rank

same-slaves : (groups : List Declared) → declared_slaves (all_present groups) ≡ declared_slaves groups
same-slaves [] = refl
same-slaves (declared ∷ groups) = ap (λ (rest : List Slave). declared.group.slaves ++ rest) (same-slaves groups)

pub addresses-distinct : (groups : List Declared) → lowest_fault (groups_of groups) ≡ None → AllPairs (λ a b. a.station ≢ b.station) (addresses groups)
addresses-distinct groups none =
    AllPairs-map (λ (a b : Address). a.station ≢ b.station) address_of (line_from 1 (all_present groups))
    (line-pairs (λ a b. a.station ≢ b.station) 1 (all_present groups)
    (subst (AllPairs (λ (a b : Slave). a.station ≢ b.station)) (sym (same-slaves groups)) (project-inside (groups_of groups) none).stations))

pub addresses-ranked : (groups : List Declared) → AllPairs (λ a b. a.rank < b.rank) (addresses groups)
addresses-ranked groups = AllPairs-map (λ (a b : Address). a.rank < b.rank) address_of (line_from 1 (all_present groups)) (line-ascends 1 (all_present groups))

pub addresses-some : (groups : List Declared) → All (λ address. 1 ≤ address.rank) (addresses groups)
addresses-some groups =
    let line = line_from 1 (all_present groups) in
    All-map (λ (a : Address). 1 ≤ a.rank) address_of line
    (All-weaker (RankWithin 1 (1 + length (declared_slaves (all_present groups)))) (λ member. 1 ≤ member.rank) (λ member within. within.0) line (line-within 1 (all_present groups)))

-- a station address that is declared is among them

own-any : (station rank : ℕ) (slaves : List Slave) → list_any (λ (address : Address). address.station == station) (own_addresses rank slaves) ≡ has_station station slaves
own-any station rank [] = refl
own-any station rank (slave ∷ slaves) = ap (λ (rest : Bool). (slave.station == station) || rest) (own-any station (rank + 1) slaves)

pub any-station : (station rank : ℕ) (groups : List Declared) → list_any (λ (address : Address). address.station == station) (addresses_from rank groups)
    ≡ list_any (λ (declared : Declared). has_station station declared.group.slaves) groups
any-station station rank [] = refl
any-station station rank (declared ∷ groups) =
    let slaves = declared.group.slaves in
    let next = rank + length slaves in
    search (rules, addresses-group, list_any-append, own-any, any-station station next groups)

-- Where the slave with a station address is declared, by an index.
use Rattle.std.proofs.Common.{◌≡◌, ◌≢◌, ℕ, zero, suc, ◌+◌, ◌<◌, true, false, List, [], ◌∷◌, get_or, take, Option, Some, None, refl, sym, ap, subst, ◌∙◌, arith, rules}
use Rattle.std.specs.Prelude.{All, AllPairs, Contains, option_and_then, option_map, position, slice_get, sum_by}
use Rattle.std.specs.Option.{option_map_or}
use Rattle.std.specs.List.{list_any}
use Rattle.std.proofs.lemmas.Bool.{eq-eqb}
use Rattle.std.proofs.lemmas.List.Elements.{All-map, All-weaker}
use Rattle.std.proofs.lemmas.List.Sums.{sum_by-cons}
use Rattle.std.proofs.lemmas.Option.{get_or_from_slice_get, slice_get-map, slice_get_within}
use Rattle.hc_records.specs.declared.records.Declared.{Declared}
use Rattle.hc_records.specs.declared.records.Slave.{Slave}
use Rattle.hc_records.specs.Line.{Member, groups_of, has_address, line_from}
use Rattle.hc_records.specs.Project.{lowest_fault}
use Rattle.hc_records.proofs.lemmas.Limits.{project-inside}
use Rattle.hc_records.proofs.lemmas.Lines.{declared_slaves}
use Rattle.hc_records.proofs.lemmas.Lists.{All-append_left, All-append_right, All-from_none, AllPairs-append_left, AllPairs-append_right, AllPairs-between, AllPairs-head, AllPairs-tail}
use Rattle.hc_groups.specs.declared.addresses.Address.{Address}
use Rattle.hc_groups.specs.Changes.{has_slave, place_at, station_place, slave_place, slaves_at}
use Rattle.hc_groups.specs.Index.{Index, IsDeclaredAt, IsIndexOf, address_of, addresses, all_present, declared_count, present_count}
use Rattle.hc_groups.proofs.Found.{IsFirstAt, position-first}
use Rattle.hc_groups.proofs.IndexFound.{any-none, any-some, contains-map, differs, only-one, position-none}
use Rattle.hc_groups.proofs.Indexes.{declared-is, ranked-apart}
use Rattle.hc_groups.proofs.Lines.{line-at, line-ranks}
use Rattle.hc_groups.proofs.Summed.{all-get, some-at}

abbrev AreApart : Slave → Slave → Type 0
AreApart a b = a.station ≢ b.station

-- a slave, as the first with its station address in its group, and its group as the first that has such a slave

not-same : (station : ℕ) (slave other : Slave) → slave.station ≡ station → other.station ≢ slave.station → has_address station other ≡ false
not-same station slave other is apart = differs other.station station (λ same. apart (same ∙ sym is))

first-slave : (station place : ℕ) (slave : Slave) (slaves : List Slave) → AllPairs AreApart slaves → slice_get slaves place ≡ Some slave → slave.station ≡ station → IsFirstAt (has_address station) place slaves
first-slave station place slave [] apart at is = cc
first-slave station zero slave (first ∷ slaves) apart at is =
    let same : first ≡ slave = cc in
    eq-eqb first.station station (ap (λ (s : Slave). s.station) same ∙ is)
first-slave station (suc place) slave (first ∷ slaves) apart at is =
    let others = AllPairs-head AreApart first slaves apart in (
      not-same station slave first is (all-get (AreApart first) slaves place slave others at),
      first-slave station place slave slaves (AllPairs-tail AreApart first slaves apart) at is,
    )

has-one : (station place : ℕ) (slave : Slave) (slaves : List Slave) → slice_get slaves place ≡ Some slave → slave.station ≡ station → list_any (has_address station) slaves ≡ true
has-one station place slave slaves at is =
    any-some (has_address station) slaves place slave (slice_get_within slaves place slave at)
    (eq-eqb (get_or slaves place slave).station station (ap (λ (s : Slave). s.station) (get_or_from_slice_get slaves place slave slave at) ∙ is))

-- a slave of a group is one of all
among : (P : Slave → Type 0) (groups : List Declared) (group place : ℕ) (declared : Declared) (slave : Slave) → All P (declared_slaves groups) → slice_get groups group ≡ Some declared
    → slice_get declared.group.slaves place ≡ Some slave → P slave
among P [] group place declared slave all here at = cc
among P (first ∷ groups) zero place declared slave all here at =
    let same : first ≡ declared = cc in
    all-get P first.group.slaves place slave (All-append_left P first.group.slaves (declared_slaves groups) all) (ap (λ (d : Declared). slice_get d.group.slaves place) same ∙ at)
among P (first ∷ groups) (suc group) place declared slave all here at =
    among P groups group place declared slave (All-append_right P first.group.slaves (declared_slaves groups) all) here at

first-group : (station group place : ℕ) (declared : Declared) (slave : Slave) (groups : List Declared) → AllPairs AreApart (declared_slaves groups) → slice_get groups group ≡ Some declared
    → slice_get declared.group.slaves place ≡ Some slave → slave.station ≡ station → IsFirstAt (has_slave station) group groups
first-group station group place declared slave [] apart here at is = cc
first-group station zero place declared slave (first ∷ groups) apart here at is =
    let same : first ≡ declared = cc in
    has-one station place slave first.group.slaves (ap (λ (d : Declared). slice_get d.group.slaves place) same ∙ at) is
first-group station (suc group) place declared slave (first ∷ groups) apart here at is =
    let slaves = first.group.slaves in
    let after_it = declared_slaves groups in (
      any-none (has_address station) slaves
          (All-weaker (λ a. All (AreApart a) after_it) (λ a. has_address station a ≡ false)
          (λ a others. not-same station slave a is (among (AreApart a) groups group place declared slave others here at)) slaves (AllPairs-between AreApart slaves after_it apart)),
      first-group station group place declared slave groups (AllPairs-append_right AreApart slaves after_it apart) here at is,
    )

own-apart : (groups : List Declared) (group : ℕ) (declared : Declared) → AllPairs AreApart (declared_slaves groups) → slice_get groups group ≡ Some declared → AllPairs AreApart declared.group.slaves
own-apart [] group declared apart here = cc
own-apart (first ∷ groups) zero declared apart here =
    let same : first ≡ declared = cc in
    subst (λ (d : Declared). AllPairs AreApart d.group.slaves) same (AllPairs-append_left AreApart first.group.slaves (declared_slaves groups) apart)
own-apart (first ∷ groups) (suc group) declared apart here = own-apart groups group declared (AllPairs-append_right AreApart first.group.slaves (declared_slaves groups) apart) here

-- the station address of the declared slave with a rank

same-counts : (n : ℕ) (groups : List Declared) → sum_by declared_count (take n (all_present groups)) ≡ sum_by declared_count (take n groups)
same-counts zero groups = refl
same-counts (suc n) [] = refl
same-counts (suc n) (declared ∷ groups) = search (rules, sum_by-cons, same-counts n groups)

same-count : (groups : List Declared) → sum_by declared_count (all_present groups) ≡ sum_by declared_count groups
same-count [] = refl
same-count (declared ∷ groups) = search (rules, sum_by-cons, same-count groups)

abbrev shown : Declared → Declared
shown declared = record declared { present = true }

station-of : (groups : List Declared) (station rank group place : ℕ) (slave : Slave) → Contains (addresses groups) (record { station = station; rank = rank }) → (it : IsDeclaredAt groups rank group place)
    → slice_get it.declared.group.slaves place ≡ Some slave → slave.station ≡ station
station-of groups station rank group place slave named it at =
    let all = all_present groups in
    let line = line_from 1 all in
    let there = slice_get-map shown groups group ∙ ap (option_map shown) it.at in
    let position = sum_by present_count (take group all) + place in
    let of : Member = record { rank = 1 + sum_by declared_count (take group all) + place; slave = slave } in
    let own = all-get (λ (m : Member). Contains (addresses groups) (address_of m)) line position of (contains-map address_of line) (line-at 1 all group place (shown it.declared) slave there at) in
    let counts = same-counts group groups in
    let ranked = it.ranked in
    let same = only-one (λ (a : Address). a.rank) (addresses groups) (address_of of) (record { station = station; rank = rank }) (ranked-apart groups) own named (omega (arith, counts, ranked)) in
    ap (λ (a : Address). a.station) same

-- so it is found by a walk
pub place-found : (groups : List Declared) (station rank group place : ℕ) → lowest_fault (groups_of groups) ≡ None → Contains (addresses groups) (record { station = station; rank = rank })
    → IsDeclaredAt groups rank group place → Some (record { group = group; slave = place; rank = rank }) ≡ slave_place groups station
place-found groups station rank group place project named it =
    let apart = (project-inside (groups_of groups) project).stations in
    let own = some-at it.declared.group.slaves place it.inside in
    let is = station-of groups station rank group place own.0 named it own.1 in
    let slaves : slaves_at groups group ≡ it.declared.group.slaves = ap (λ (o : Option Declared). option_map_or (λ (d : Declared). d.group.slaves) o []) it.at in
    let here = position-first (has_slave station) group groups (first-group station group place it.declared own.0 groups apart it.at own.1 is) in
    let at = ap (position (has_address station)) slaves
    ∙ position-first (has_address station) place it.declared.group.slaves (first-slave station place own.0 it.declared.group.slaves (own-apart groups group it.declared apart it.at) own.1 is) in
    sym (ap (option_and_then (station_place groups station)) here ∙ ap (option_map (place_at groups group)) at ∙ ap (λ (r : ℕ). Some (record { group = group; slave = place; rank = r })) (sym it.ranked))

-- none is where no slave has the station address
pub place-none : (groups : List Declared) (index : Index) (station : ℕ) → IsIndexOf groups index → All (λ address. address.station ≢ station) (addresses groups) → None ≡ slave_place groups station
place-none groups index station is none =
    let unknown = declared-is groups index station None is none in
    sym (ap (option_and_then (station_place groups station)) (position-none (has_slave station) groups (All-from_none (has_slave station) groups (sym unknown))))

-- and its rank is one of those that there are
pub rank-within : (groups : List Declared) (station rank : ℕ) → Contains (addresses groups) (record { station = station; rank = rank }) → sum_by declared_count groups < rank → ⊥
rank-within groups station rank named history =
    let all = all_present groups in
    let line = line_from 1 all in
    let below = All-map (λ (a : Address). a.rank < 1 + sum_by declared_count all) address_of line (line-ranks 1 all) in
    let low = subst (λ (a : Address). a.rank < 1 + sum_by declared_count all) named.2 (below named.0 (record { station = station; rank = rank }) named.1) in
    let count = same-count groups in
    omega (arith, low, count, history)

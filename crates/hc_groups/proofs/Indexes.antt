-- What an index of a project's groups finds in their line.
use Rattle.std.proofs.Common.{◌≡◌, ◌≢◌, ℕ, ◌+◌, ◌-◌, ◌<◌, ◌≤◌, ◌==◌, Bool, true, false, List, [], length, get_or, take, Option, Some, None, refl, sym, ap, subst, ◌∙◌, arith, if◌then◌else◌, rules}
use Rattle.std.specs.Prelude.{All, AllPairs, Contains, MatchOption, find, is_some, option_and_then, option_map, position, slice_get, sum_by}
use Rattle.std.specs.List.{list_any}
use Rattle.std.proofs.lemmas.Bool.{eq-eqb, eqb-true}
use Rattle.std.proofs.lemmas.List.{take_all}
use Rattle.std.proofs.lemmas.List.Elements.{All-weaker}
use Rattle.std.proofs.lemmas.List.Sums.{sum_by_more_le}
use Rattle.std.proofs.lemmas.Option.{get_or_from_slice_get, slice_get-map, slice_get_within}
use Rattle.hc_records.specs.declared.limits.TheConstants.{MOST_AREAS}
use Rattle.hc_records.specs.declared.records.Declared.{Declared}
use Rattle.hc_records.specs.declared.records.Slave.{Slave}
use Rattle.hc_records.specs.Edits.{has_station}
use Rattle.hc_records.specs.Line.{Member, groups_of, is_at, line_from}
use Rattle.hc_records.specs.Project.{lowest_fault}
use Rattle.hc_records.proofs.lemmas.Lines.{RankWithin, declared_slaves, line-ascends, line-within}
use Rattle.hc_records.proofs.lemmas.Lists.{AllPairs-weaker}
use Rattle.hc_records.proofs.lemmas.Slaves.{line-inside, line-stations, project-counted}
use Rattle.hc_records.proofs.lemmas.Walks.{length-line}
use Rattle.hc_groups.specs.declared.addresses.Address.{Address}
use Rattle.hc_groups.specs.Index.{AreRisingSums, Index, IsDeclaredAt, IsIndexOf, IsMember, address_of, addresses, block_sum, slave_block_count, declared_count, own_blocks, own_sum, owned_by, present_count, rank_in, slave_in, IsSumPlace, block_sums}
use Rattle.hc_groups.proofs.Declaring.{addresses-distinct, addresses-ranked, addresses-some, any-station, line-among}
use Rattle.hc_groups.proofs.IndexFound.{differs, differs-after_it, any-none, any-some, find-none, find-position, only-one, position-at, position-none}
use Rattle.hc_groups.proofs.Lines.{line-absent, line-at, line-front, line-length, line-ranks}
use Rattle.hc_groups.proofs.Owned.{owned, owners-length}
use Rattle.hc_groups.proofs.Owners.{line-sum, owned-at, owned-history}
use Rattle.hc_groups.proofs.Summed.{FallsIn, all-get, are-sums, falls-after_it, falls-in, front-at, some-at}

all-contained : {X : Type 0} (P : X → Type 0) (xs : List X) (x : X) → All P xs → Contains xs x → P x
all-contained P xs x all at = subst P at.2 (all at.0 x at.1)

-- an index of groups, seen with them
pub seen : {own groups : List Declared} {index : Index} → own ≡ groups → IsIndexOf own index → IsIndexOf groups index
seen {index} same is = subst (λ (g : List Declared). IsIndexOf g index) same is

pub line-low : (groups : List Declared) → lowest_fault (groups_of groups) ≡ None → length (line_from 1 groups) < 65535
line-low groups none = search (rules, length-line, project-counted)

-- the slave with a station address

alone : (groups : List Declared) (station : ℕ) → lowest_fault (groups_of groups) ≡ None → AllPairs (λ a b. is_at station b ≡ true → is_at station a ≡ false) (line_from 1 groups)
alone groups station none = search (rules, AllPairs-weaker, differs-after_it, line-stations)

pub ranked-apart : (groups : List Declared) → AllPairs (λ a b. a.rank ≢ b.rank) (addresses groups)
ranked-apart groups = search (rules, AllPairs-weaker, addresses-ranked)

-- its rank is at least 1
pub rank-some : (groups : List Declared) (index : Index) (address : Address) → IsIndexOf groups index → Contains (addresses groups) address → 1 ≤ address.rank
rank-some groups index address is at =
    all-contained (λ (a : Address). 1 ≤ a.rank) (addresses groups) address (addresses-some groups) at

-- a slave of a group that is present, in the line

present-own : (present : Bool) (slaves : List Slave) → present ≡ true → (if present then slaves else []) ≡ slaves
present-own present slaves is = search rules

is-present : (present : Bool) (slaves : List Slave) (place : ℕ) → place < length (if present then slaves else []) → present ≡ true
is-present present slaves place inside = search rules

pub found-in : (groups : List Declared) (group place : ℕ) (declared : Declared) (slave : Slave) → slice_get groups group ≡ Some declared → slice_get declared.group.slaves place ≡ Some slave
    → slave_in groups group place ≡ Some slave
found-in groups group place declared slave here own = ap (option_and_then (λ (d : Declared). slice_get d.group.slaves place)) here ∙ own

-- and its member of a line
pub member-in : (groups : List Declared) (group place rank : ℕ) (slave : Slave) → rank ≡ rank_in groups group place → slave_in groups group place ≡ Some slave
    → option_map {U = Member} (λ slave. record { rank = rank_in groups group place; slave = slave }) (slave_in groups group place) ≡ Some (record { rank = rank; slave = slave })
member-in groups group place rank slave is found = search rules

pub no-member : {M : Type 0} (o : Option M) (member : M) → o ≡ None → o ≡ Some member → ⊥
no-member o member none some = let bad : None ≡ Some member = sym none ∙ some in cc

-- it is at a position, and is found at its place
pub record IsPlacedAt (groups : List Declared) (group place : ℕ) : Type 0 where
  pub slave : Slave
  pub found : slave_in groups group place ≡ Some slave
  pub at : slice_get (line_from 1 groups) (sum_by present_count (take group groups) + place) ≡ Some (record { rank = rank_in groups group place; slave = slave })

pub is_placed-at : (groups : List Declared) (group place : ℕ) (declared : Declared) → slice_get groups group ≡ Some declared → declared.present ≡ true → place < length declared.group.slaves → IsPlacedAt groups group place
is_placed-at groups group place declared here present inside =
    let own = some-at declared.group.slaves place inside in
    record {
      slave = own.0;
      found = found-in groups group place declared own.0 here own.1;
      at = search (rules, line-at, present-own);
    }

pub position-found : (groups : List Declared) (index : Index) (station rank group place : ℕ) → IsIndexOf groups index → Contains (addresses groups) (record { station = station; rank = rank })
    → IsMember groups rank group place → position (is_at station) (line_from 1 groups) ≡ Some (sum_by present_count (take group groups) + place)
position-found groups index station rank group place is declared member =
    let line = line_from 1 groups in
    let is_placed = is_placed-at groups group place member.declared member.at member.present member.inside in
    let of : Member = record { rank = rank_in groups group place; slave = is_placed.slave } in
    let own = all-get (λ (m : Member). Contains (addresses groups) (address_of m)) line (sum_by present_count (take group groups) + place) of (line-among groups) is_placed.at in
    let same = only-one (λ (a : Address). a.rank) (addresses groups) (address_of of) (record { station = station; rank = rank }) (ranked-apart groups) own
    declared (sym member.ranked) in
    let here : is_placed.slave.station ≡ station = ap (λ (a : Address). a.station) same in
    position-at (is_at station) line (sum_by present_count (take group groups) + place) of (alone groups station is.declared.project) is_placed.at (eq-eqb is_placed.slave.station station here)

by-test : (rank : ℕ) (m : Member) (all : List Address) (station : ℕ) (here : Bool) → (m.slave.station == station) ≡ here → AllPairs (λ a b. a.station ≢ b.station) all
    → Contains all (address_of m) → Contains all (record { station = station; rank = rank }) → m.rank ≢ rank → (m.slave.station == station) ≡ false
by-test rank m all station false is distinct own declared other = is
by-test rank m all station true is distinct own declared other =
    let same = only-one (λ (a : Address). a.station) all (address_of m) (record { station = station; rank = rank }) distinct own declared (eqb-true m.slave.station station is) in
    absurd (other (ap (λ (a : Address). a.rank) same))

pub position-absent : (groups : List Declared) (index : Index) (station rank : ℕ) → IsIndexOf groups index → Contains (addresses groups) (record { station = station; rank = rank })
    → All (λ member. member.rank ≢ rank) (line_from 1 groups) → position (is_at station) (line_from 1 groups) ≡ None
position-absent groups index station rank is declared none =
    let line = line_from 1 groups in
    position-none (is_at station) line
    (λ k d within. by-test rank (get_or line k d) (addresses groups) station ((get_or line k d).slave.station == station) refl (addresses-distinct groups is.declared.project)
    (line-among groups k d within) declared (none k d within))

pub position-unknown : (groups : List Declared) (index : Index) (station : ℕ) → IsIndexOf groups index → All (λ address. address.station ≢ station) (addresses groups)
    → position (is_at station) (line_from 1 groups) ≡ None
position-unknown groups index station is none =
    let line = line_from 1 groups in
    position-none (is_at station) line
    (λ k d within. differs (get_or line k d).slave.station station
    (all-contained (λ (a : Address). a.station ≢ station) (addresses groups) (address_of (get_or line k d)) none (line-among groups k d within)))

-- whether it is declared
pub declared-is : (groups : List Declared) (index : Index) (station : ℕ) (found : Option ℕ) → IsIndexOf groups index
    → MatchOption found (All (λ address. address.station ≢ station) (addresses groups)) (λ rank. Contains (addresses groups) (record { station = station; rank = rank }))
    → is_some found ≡ list_any (λ (declared : Declared). has_station station declared.group.slaves) groups
declared-is groups index station None is none =
    let test : Address → Bool = λ address. address.station == station in
    sym (sym (any-station station 1 groups)
    ∙ any-none test (addresses groups) (All-weaker (λ (a : Address). a.station ≢ station) (λ a. (a.station == station) ≡ false) (λ a. differs a.station station) (addresses groups) none))
declared-is groups index station (Some rank) is at =
    let test : Address → Bool = λ address. address.station == station in
    sym (sym (any-station station 1 groups)
    ∙ any-some test (addresses groups) at.0 (record { station = station; rank = rank }) at.1
    (eq-eqb (get_or (addresses groups) at.0 (record { station = station; rank = rank })).station station (ap (λ (a : Address). a.station) at.2)))

-- the slave that has a block
pub record OwnerOf (groups : List Declared) (n group place number : ℕ) : Type 0 where
  pub is_placed : IsPlacedAt groups group place
  pub low : place < 65535
  pub few : number < 256
  pub owned : owned_by (line_from 1 groups) n ≡ Some (record { rank = rank_in groups group place; slave = is_placed.slave }, number)

own-present : (present : Bool) (slaves : List Slave) (offset : ℕ) → offset < block_sum (if present then slaves else []) → present ≡ true
own-present present slaves offset low = search rules

pub owner : (groups : List Declared) (n group offset place number : ℕ) → lowest_fault (groups_of groups) ≡ None → (falls : FallsIn own_sum groups n group offset)
    → FallsIn slave_block_count falls.x.group.slaves offset place number → OwnerOf groups n group place number
owner groups n group offset place number none falls own =
    let line = line_from 1 groups in
    let present = own-present falls.x.present falls.x.group.slaves offset falls.low in
    let slaves = present-own falls.x.present falls.x.group.slaves present in
    let inside = slice_get_within falls.x.group.slaves place own.x own.at in
    let is_placed = is_placed-at groups group place falls.x falls.at present inside in
    let position = sum_by present_count (take group groups) + place in
    let of : Member = record { rank = rank_in groups group place; slave = is_placed.slave } in
    let same : own.x ≡ is_placed.slave = let also = is_placed.found in cc in
    let count = ap slave_block_count same in
    let low : number < own_blocks of = let few = own.low in omega (arith, few, count) in
    let front = line-front 1 groups group place falls.x falls.at (subst (λ (s : List Slave). place < length s) (sym slaves) inside) in
    let before = ap (λ (s : List Slave). block_sum (take place s)) slaves in
    let whole : sum_by own_blocks (take position line) + number ≡ n = let sum = falls.sum in let after_it = own.sum in omega (arith, front, before, sum, after_it) in
    let most = all-get (λ (m : Member). length m.slave.areas ≤ MOST_AREAS) line position of (λ k d within. (line-inside groups none k d within).few) is_placed.at in
    let short = slice_get_within line position of is_placed.at in
    let long = line-low groups none in
    record { is_placed = is_placed; low = omega (arith, short, long); few = omega (arith, low, most); owned = ap (owned_by line) (sym whole) ∙ owned-at line position of number is_placed.at low }

module _ (groups : List Declared) (index : Index) (is : IsIndexOf groups index) where
  pub blocks-sums : AreRisingSums index.blocks
  blocks-sums = are-sums own_sum index.blocks groups is.blocks

  -- no slave has a block that is after all
  pub blocks-after_it : (n : ℕ) → All (λ sum. sum ≤ n) index.blocks → owned_by (line_from 1 groups) n ≡ None
  blocks-after_it n all = search (rules, line-sum, falls-after_it, owned-history)

  -- the group whose block it is, and that group's own sums

  falls : (n group offset : ℕ) → IsSumPlace index.blocks n group offset → FallsIn own_sum groups n group offset
  falls n group offset sum_place = falls-in own_sum index.blocks groups n group offset is.blocks sum_place

  own-front : (group : ℕ) (declared : Declared) → slice_get groups group ≡ Some declared → slice_get index.fronts group ≡ Some (block_sums declared)
  own-front group declared here =
      ap (λ (fronts : List (List ℕ)). slice_get fronts group) is.declared.fronts ∙ slice_get-map block_sums groups group ∙ ap (option_map block_sums) here

  pub has-front : (n group offset : ℕ) → IsSumPlace index.blocks n group offset → slice_get index.fronts group ≢ None
  has-front n group offset sum_place none = let own = own-front group (falls n group offset sum_place).x (falls n group offset sum_place).at in cc

  front-is : (n group offset : ℕ) (own : List ℕ) → (sum_place : IsSumPlace index.blocks n group offset) → slice_get index.fronts group ≡ Some own → own ≡ block_sums (falls n group offset sum_place).x
  front-is n group offset own sum_place at = let front = own-front group (falls n group offset sum_place).x (falls n group offset sum_place).at in cc

  pub front-sums : (n group offset : ℕ) (own : List ℕ) → IsSumPlace index.blocks n group offset → slice_get index.fronts group ≡ Some own → AreRisingSums own
  front-sums n group offset own sum_place at = are-sums slave_block_count own (falls n group offset sum_place).x.group.slaves (front-is n group offset own sum_place at)

  pub front-reaches : (n group offset : ℕ) (own : List ℕ) → IsSumPlace index.blocks n group offset → slice_get index.fronts group ≡ Some own → ¬ (All (λ sum. sum ≤ offset) own)
  front-reaches n group offset own sum_place at all =
      let here = falls n group offset sum_place in
      let history = falls-after_it slave_block_count own here.x.group.slaves offset (front-is n group offset own sum_place at) all in
      let most = ap block_sum (present-own here.x.present here.x.group.slaves (own-present here.x.present here.x.group.slaves offset here.low)) in
      omega (arith, history, most)

  pub owner-of : (n group offset place number : ℕ) (own : List ℕ) → IsSumPlace index.blocks n group offset → slice_get index.fronts group ≡ Some own → IsSumPlace own offset place number
      → OwnerOf groups n group place number
  owner-of n group offset place number own sum_place at mine =
      let here = falls n group offset sum_place in
      owner groups n group offset place number is.declared.project here
      (falls-in slave_block_count own here.x.group.slaves offset place number (front-is n group offset own sum_place at) mine)

-- the rank of a declared slave, by the index
pub record Ranked (groups : List Declared) (index : Index) (group place : ℕ) : Type 0 where
  pub inside : group < length index.ranks
  pub rank : get_or index.ranks group 0 ≡ sum_by declared_count (take group groups)
  pub low : get_or index.ranks group 0 + place < 65535

pub ranked : (groups : List Declared) (index : Index) (group place : ℕ) (declared : Declared) → IsIndexOf groups index → slice_get groups group ≡ Some declared → place < length declared.group.slaves
    → Ranked groups index group place
ranked groups index group place declared is at low =
    let inside = slice_get_within groups group declared at in
    let front = front-at declared_count index.ranks groups group is.declared.ranks (omega (arith, inside)) in
    let counted = project-counted groups is.declared.project in
    let own = sum_by_more_le declared_count groups group declared inside in
    let same = ap declared_count (get_or_from_slice_get groups group declared declared at) in
    record { inside = front.0; rank = front.1; low = let sum = front.1 in omega (arith, counted, own, same, low, sum) }

-- and of a group's first slave
pub first-ranked : (groups : List Declared) (index : Index) (group : ℕ) → IsIndexOf groups index → group < length groups → Ranked groups index group 0
first-ranked groups index group is inside =
    let here = some-at groups group inside in
    let front = front-at declared_count index.ranks groups group is.declared.ranks (omega (arith, inside)) in
    let counted = project-counted groups is.declared.project in
    let own = sum_by_more_le declared_count groups group here.0 inside in
    record { inside = front.0; rank = front.1; low = let sum = front.1 in omega (arith, counted, own, sum) }

-- how many slaves and blocks the line has

pub slaves-total : (groups : List Declared) (index : Index) → IsIndexOf groups index
    → (length groups < length index.slaves) × (get_or index.slaves (length groups) 0 ≡ length (line_from 1 groups))
slaves-total groups index is =
    let total = front-at present_count index.slaves groups (length groups) is.slaves (omega arith) in
    (total.0, total.1 ∙ ap (sum_by present_count) (take_all (length groups) groups (omega arith)) ∙ sym (line-length 1 groups))

pub blocks-total : (groups : List Declared) (index : Index) → IsIndexOf groups index
    → (length groups < length index.blocks) × (get_or index.blocks (length groups) 0 ≡ sum_by own_blocks (line_from 1 groups))
blocks-total groups index is =
    let total = front-at own_sum index.blocks groups (length groups) is.blocks (omega arith) in
    (total.0, total.1 ∙ ap (sum_by own_sum) (take_all (length groups) groups (omega arith)) ∙ sym (line-sum 1 groups))

-- where a rank or a position falls

-- the group of the slave with a rank, and how far after its first slave it is
pub record Owner (groups : List Declared) (index : Index) (rank group : ℕ) : Type 0 where
  pub declared : Declared
  pub at : slice_get groups group ≡ Some declared
  pub inside : group < length groups
  pub within : group < length index.ranks
  pub front : get_or index.ranks group 0 ≤ rank - 1
  pub ranked : rank ≡ rank_in groups group (rank - 1 - get_or index.ranks group 0)
  pub low : rank - 1 - get_or index.ranks group 0 < length declared.group.slaves

-- the declared slave with a rank, in a group that is present or isn't

pub at-present : (groups : List Declared) (rank group place : ℕ) (it : IsDeclaredAt groups rank group place) (d : Declared) (present : Bool) → (get_or groups group d).present ≡ present
    → it.declared.present ≡ present
at-present groups rank group place it d present is = sym (ap (λ (own : Declared). own.present) (get_or_from_slice_get groups group it.declared d it.at)) ∙ is

pub at-member : (groups : List Declared) (rank group place : ℕ) (it : IsDeclaredAt groups rank group place) → it.declared.present ≡ true → IsMember groups rank group place
at-member groups rank group place it present = record { declared = it.declared; at = it.at; present = present; inside = it.inside; ranked = it.ranked }

pub at-absent : (groups : List Declared) (rank group place : ℕ) (it : IsDeclaredAt groups rank group place) → it.declared.present ≡ false → All (λ member. member.rank ≢ rank) (line_from 1 groups)
at-absent groups rank group place it absent =
    subst (λ (r : ℕ). All (λ member. member.rank ≢ r) (line_from 1 groups)) (sym it.ranked) (line-absent 1 groups group place it.declared it.at absent it.inside)

-- no slave has a rank past the last
pub none-history : (groups : List Declared) (rank : ℕ) → sum_by declared_count groups < rank → All (λ member. member.rank ≢ rank) (line_from 1 groups)
none-history groups rank history =
    All-weaker (λ (member : Member). member.rank < 1 + sum_by declared_count groups) (λ member. member.rank ≢ rank) (λ member below same. omega (arith, history, below, same)) (line_from 1 groups) (line-ranks 1 groups)

module _ (groups : List Declared) (index : Index) (is : IsIndexOf groups index) where
  pub slaves-sums : AreRisingSums index.slaves
  slaves-sums = are-sums present_count index.slaves groups is.slaves

  -- a rank past the last
  pub rank-history : (rank : ℕ) → 1 ≤ rank → length index.owners ≤ rank - 1 → sum_by declared_count groups < rank
  rank-history rank some history = let long = ap length is.declared.owners ∙ owners-length 0 groups in omega (arith, long, history, some)

  falls-owned : (n group : ℕ) → slice_get index.owners n ≡ Some group → (offset : ℕ) × FallsIn declared_count groups n group offset
  falls-owned n group at =
      let own = owned 0 groups n group (ap (λ (o : List ℕ). slice_get o n) (sym is.declared.owners) ∙ at) in
      let number = own.number in
      let same : own.index ≡ group = omega (arith, number) in
      (own.offset, subst (λ (k : ℕ). FallsIn declared_count groups n k own.offset) same own.falls)

  pub rank-falls : (rank group : ℕ) → 1 ≤ rank → slice_get index.owners (rank - 1) ≡ Some group → Owner groups index rank group
  rank-falls rank group some at =
      let own = falls-owned (rank - 1) group at in
      let falls = own.1 in
      let inside = slice_get_within groups group falls.x falls.at in
      let front = front-at declared_count index.ranks groups group is.declared.ranks (omega (arith, inside)) in
      let sum = falls.sum in
      let first = front.1 in
      let low = falls.low in
      record {
        declared = falls.x;
        at = falls.at;
        inside = inside;
        within = front.0;
        front = omega (arith, sum, first, some);
        ranked = omega (arith, sum, first, some);
        low = omega (arith, sum, first, some, low);
      }

  pub rank-at : (rank group : ℕ) → Owner groups index rank group → IsDeclaredAt groups rank group (rank - 1 - get_or index.ranks group 0)
  rank-at rank group owner = record { declared = owner.declared; at = owner.at; inside = owner.low; ranked = owner.ranked }

-- the slave of the line with a rank is at this position
pub record Fronts (groups : List Declared) (index : Index) (group place : ℕ) : Type 0 where
  pub inside : group < length index.slaves
  pub sum : get_or index.slaves group 0 ≡ sum_by present_count (take group groups)
  pub low : get_or index.slaves group 0 + place < 65535

pub fronts : (groups : List Declared) (index : Index) (rank group place : ℕ) → IsIndexOf groups index → IsMember groups rank group place → Fronts groups index group place
fronts groups index rank group place is member =
    let is_placed = is_placed-at groups group place member.declared member.at member.present member.inside in
    let within = slice_get_within groups group member.declared member.at in
    let front = front-at present_count index.slaves groups group is.slaves (omega (arith, within)) in
    let sum = front.1 in
    let short = slice_get_within (line_from 1 groups) (sum_by present_count (take group groups) + place) (record { rank = rank_in groups group place; slave = is_placed.slave }) is_placed.at in
    let few = line-low groups is.declared.project in
    record { inside = front.0; sum = sum; low = omega (arith, sum, short, few) }

-- it is found there, by its station address
pub member-found : (groups : List Declared) (index : Index) (station rank group place : ℕ) → IsIndexOf groups index → Contains (addresses groups) (record { station = station; rank = rank })
    → IsMember groups rank group place
    → option_map {U = Member} (λ slave. record { rank = rank_in groups group place; slave = slave }) (slave_in groups group place) ≡ find (is_at station) (line_from 1 groups)
member-found groups index station rank group place is declared member =
    let is_placed = is_placed-at groups group place member.declared member.at member.present member.inside in
    member-in groups group place (rank_in groups group place) is_placed.slave refl is_placed.found
    ∙ sym is_placed.at
    ∙ sym (find-position (is_at station) (line_from 1 groups) (sum_by present_count (take group groups) + place) (position-found groups index station rank group place is declared member))

-- so is a slave by its rank

alone-ranked : (groups : List Declared) (rank : ℕ) → AllPairs (λ a b. (b.rank == rank) ≡ true → (a.rank == rank) ≡ false) (line_from 1 groups)
alone-ranked groups rank =
    AllPairs-weaker (λ (a b : Member). a.rank < b.rank) (λ a b. (b.rank == rank) ≡ true → (a.rank == rank) ≡ false)
    (λ a b less is. let same = eqb-true b.rank rank is in differs a.rank rank (λ also. omega (arith, less, same, also))) (line_from 1 groups) (line-ascends 1 groups)

pub ranked-found : (groups : List Declared) (rank group place : ℕ) → IsMember groups rank group place
    → option_map {U = Member} (λ slave. record { rank = rank_in groups group place; slave = slave }) (slave_in groups group place) ≡ find (λ member. member.rank == rank) (line_from 1 groups)
ranked-found groups rank group place member =
    let line = line_from 1 groups in
    let is_placed = is_placed-at groups group place member.declared member.at member.present member.inside in
    let of : Member = record { rank = rank_in groups group place; slave = is_placed.slave } in
    let position = sum_by present_count (take group groups) + place in
    let at = position-at (λ (m : Member). m.rank == rank) line position of (alone-ranked groups rank) is_placed.at (eq-eqb of.rank rank (sym member.ranked)) in
    member-in groups group place (rank_in groups group place) is_placed.slave refl is_placed.found ∙ sym is_placed.at ∙ sym (find-position (λ (m : Member). m.rank == rank) line position at)

pub ranked-none : (groups : List Declared) (rank : ℕ) → All (λ member. member.rank ≢ rank) (line_from 1 groups) → find (λ (member : Member). member.rank == rank) (line_from 1 groups) ≡ None
ranked-none groups rank none =
    let line = line_from 1 groups in
    find-none (λ (m : Member). m.rank == rank) line
    (position-none (λ (m : Member). m.rank == rank) line (All-weaker (λ (m : Member). m.rank ≢ rank) (λ m. (m.rank == rank) ≡ false) (λ m other. differs m.rank rank other) line none))

-- no slave has rank 0
pub ranks-some : (groups : List Declared) → All (λ (member : Member). member.rank ≢ 0) (line_from 1 groups)
ranks-some groups =
    All-weaker (RankWithin 1 (1 + length (declared_slaves groups))) (λ member. member.rank ≢ 0) (λ member within is. let some = within.0 in omega (arith, some, is)) (line_from 1 groups) (line-within 1 groups)

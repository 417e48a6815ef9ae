-- A group that is declared after others, absent, and what an index has of it.
use Rattle.std.proofs.Common.{◌≡◌, ℕ, ◌+◌, ◌-◌, ◌<◌, ◌≤◌, List, [], ◌∷◌, ◌++◌, length, get_or, take, refl, sym, ap, subst, ◌∙◌, append_assoc, arith}
use Rattle.std.specs.Prelude.{All, map, replicate, slice_index, sum_by}
use Rattle.std.specs.List.{enumerate_from}
use Rattle.std.specs.List.Sorted.{IsPermutation}
use Rattle.std.proofs.lemmas.List.{append-nil, length-append, length-map, length-replicate, map-append, take-append-le, take_all}
use Rattle.std.proofs.lemmas.List.Elements.{All-cons, All-head, All-nil}
use Rattle.std.proofs.lemmas.List.Sorted.{IsPermutation-append, IsPermutation-cons, IsPermutation-to_front, IsPermutation-trans, length_permutation}
use Rattle.std.proofs.lemmas.List.Sums.{sum_by-append, sum_by-cons}
use Rattle.hc_records.specs.declared.records.Declared.{Declared}
use Rattle.hc_records.specs.declared.records.Group.{Group}
use Rattle.hc_records.specs.declared.records.Slave.{Slave}
use Rattle.hc_records.specs.Edits.{absent}
use Rattle.hc_records.specs.Line.{groups_of, present_slaves}
use Rattle.hc_records.specs.Project.{slave_names}
use Rattle.hc_records.proofs.lemmas.Limits.{project-inside}
use Rattle.hc_records.proofs.lemmas.Lists.{All-append_right}
use Rattle.hc_records.proofs.lemmas.Slaves.{project-counted}
use Rattle.hc_records.proofs.lemmas.Walks.{length-line}
use Rattle.hc_groups.specs.declared.addresses.Address.{Address}
use Rattle.hc_groups.specs.declared.aliases.Alias.{Alias}
use Rattle.hc_groups.specs.Index.{AreRanks, BeginsWithLine, Index, IsIndexOf, addresses, alias_of, aliases, block_sum, block_sums, declared_count, line_stations, own_sum, owners_from, present_count, stations, sums_from, variables}
use Rattle.hc_groups.specs.Room.{IndexCanAdmit, CanEnter, IndexRoom}
use Rattle.hc_groups.proofs.Aliased.{aliases-length}
use Rattle.hc_groups.proofs.Declaring.{addresses-group, addresses_from, own_addresses}
use Rattle.hc_groups.proofs.Names.{variables-append, variables-group}
use Rattle.hc_groups.proofs.Owned.{owners-length}
use Rattle.hc_groups.proofs.LineLists.{stations-few}
use Rattle.hc_groups.proofs.Lines.{line-length}
use Rattle.hc_groups.proofs.Owners.{few-declared, few-present}
use Rattle.hc_groups.proofs.Summed.{front-at, sums-length}

-- what the numbers of an index that a group can enter are

pub record Enters (index : Index) (group : Group) : Type 0 where
  pub groups : length index.fronts < 65536
  pub slaves : length index.owners + length group.slaves < 65535
  pub blocks : block_sum group.slaves < 4294967296
  pub ranks : get_or index.ranks (length index.ranks - 1) 0 + length group.slaves < 65535
  pub line : get_or index.slaves (length index.slaves - 1) 0 < 65535
  pub line_blocks : get_or index.blocks (length index.blocks - 1) 0 < 4294967296
  pub some : 0 < length index.ranks
  pub slave_sums : length index.slaves ≡ length index.fronts + 1
  pub block_sums : length index.blocks ≡ length index.fronts + 1

declared-sum : (groups : List Declared) (group : Group) → sum_by declared_count (groups ++ absent group ∷ []) ≡ sum_by declared_count groups + length group.slaves
declared-sum groups group =
    let one = sum_by-cons declared_count (absent group) [] in
    sum_by-append declared_count groups (absent group ∷ []) ∙ ap (λ (n : ℕ). sum_by declared_count groups + n) (omega (arith, one))

last-sum : {X : Type 0} (count : X → ℕ) (sums : List ℕ) (xs : List X) → sums ≡ sums_from count 0 xs → (0 < length sums) × (get_or sums (length sums - 1) 0 ≡ sum_by count xs)
last-sum count sums xs is =
    let long = ap length is ∙ sums-length count 0 xs in
    let at = front-at count sums xs (length xs) is (omega arith) in (
      omega (arith, long),
      ap (λ (k : ℕ). get_or sums k 0) (omega (arith, long)) ∙ at.1 ∙ ap (sum_by count) (take_all (length xs) xs (omega arith)),
    )

pub can-enter : (index : Index) (group : Group) → CanEnter index group → Enters index group
can-enter index group can =
    let groups = can.groups in
    let all = groups ++ absent group ∷ [] in
    let declared = can.is.declared in
    let Few : Declared → Type 0 = λ d. block_sum d.group.slaves < 4294967296 in
    let counted = project-counted all can.project in
    let sum = declared-sum groups group in
    let owners = ap length declared.owners ∙ owners-length 0 groups in
    let fronts = ap length declared.fronts ∙ length-map groups block_sums in
    let most = (project-inside (groups_of groups) declared.project).few_groups in
    let count = length-map groups (λ (d : Declared). d.group) in
    let ranks = last-sum declared_count index.ranks groups declared.ranks in
    record {
      groups = omega (arith, fronts, most, count);
      slaves = omega (arith, owners, sum, counted);
      blocks = All-head Few (absent group) [] (All-append_right Few groups (absent group ∷ []) (few-declared all can.project));
      ranks = let last = ranks.1 in omega (arith, last, sum, counted);
      line =
          let last = (last-sum present_count index.slaves groups can.is.slaves).1 in
          let long = line-length 1 groups in
          let few = length-line 1 groups in
          omega (arith, last, long, few, project-counted groups declared.project);
      line_blocks =
          let last = (last-sum own_sum index.blocks groups can.is.blocks).1 in
          let low = few-present groups declared.project in
          omega (arith, last, low);
      some = ranks.0;
      slave_sums = let size = ap length can.is.slaves ∙ sums-length present_count 0 groups in omega (arith, size, fronts);
      block_sums = let size = ap length can.is.blocks ∙ sums-length own_sum 0 groups in omega (arith, size, fronts);
    }

-- there is room for what the lists of an index take of a group
pub record Fits (index : Index) (group : Group) (room : IndexRoom) : Type 0 where
  pub aliases : length index.aliases + 1 ≤ room.aliases
  pub variables : length index.variables + length room.names ≤ room.variables
  pub owners : length index.owners + length group.slaves ≤ room.owners
  pub line : length index.line + length group.slaves ≤ room.line
  pub fronts : length index.fronts + 1 ≤ room.fronts
  pub ranks : length index.ranks + 1 ≤ room.ranks
  pub slaves : length index.slaves + 1 ≤ room.slaves
  pub blocks : length index.blocks + 1 ≤ room.blocks

-- how long the lists of an index are
pub record HasLengths (groups : List Declared) (index : Index) : Type 0 where
  pub aliases : length index.aliases ≡ length groups
  pub variables : length index.variables ≡ length (variables groups)
  pub owners : length index.owners ≡ sum_by declared_count groups
  pub line : length index.line ≡ sum_by declared_count groups
  pub fronts : length index.fronts ≡ length groups
  pub ranks : length index.ranks ≡ length groups + 1
  pub slaves : length index.slaves ≡ length groups + 1
  pub blocks : length index.blocks ≡ length groups + 1

pub lengths : (groups : List Declared) (index : Index) → IsIndexOf groups index → HasLengths groups index
lengths groups index is =
    let declared = is.declared in
    record {
      aliases = length_permutation (aliases groups) index.aliases declared.aliases ∙ aliases-length groups;
      variables = length_permutation (variables groups) index.variables declared.variables;
      owners = ap length declared.owners ∙ owners-length 0 groups;
      line = is.line.long;
      fronts = ap length declared.fronts ∙ length-map groups block_sums;
      ranks = ap length declared.ranks ∙ sums-length declared_count 0 groups;
      slaves = ap length is.slaves ∙ sums-length present_count 0 groups;
      blocks = ap length is.blocks ∙ sums-length own_sum 0 groups;
    }

pub fits : (index : Index) (group : Group) (room : IndexRoom) → IndexCanAdmit index group room → Fits index group room
fits index group room can =
    let long = lengths can.groups index can.is in
    let is = can.fits in
    record {
      aliases = omega (arith, is.aliases, long.aliases);
      variables = omega (arith, is.variables, long.variables);
      owners = omega (arith, is.owners, long.owners);
      line = omega (arith, is.line, long.line);
      fronts = omega (arith, is.fronts, long.fronts);
      ranks = omega (arith, is.ranks, long.ranks);
      slaves = omega (arith, is.slaves, long.slaves);
      blocks = omega (arith, is.blocks, long.blocks);
    }

pub enters : (index : Index) (group : Group) (room : IndexRoom) → IndexCanAdmit index group room → Enters index group
enters index group room can = can-enter index group (record { groups = can.groups; is = can.is; project = can.project })

-- a rank is 1 or more
pub own-some : (rank : ℕ) (slaves : List Slave) → 1 ≤ rank → All (λ address. 1 ≤ address.rank) (own_addresses rank slaves)
own-some rank [] some = All-nil (λ (address : Address). 1 ≤ address.rank)
own-some rank (slave ∷ slaves) some =
    All-cons (λ (address : Address). 1 ≤ address.rank) (record { station = slave.station; rank = rank }) (own_addresses (rank + 1) slaves) some (own-some (rank + 1) slaves (omega arith))

-- one group more

enumerate-more : {X : Type 0} (n : ℕ) (xs : List X) (x : X) → enumerate_from n (xs ++ x ∷ []) ≡ enumerate_from n xs ++ (n + length xs, x) ∷ []
enumerate-more {X} n [] x = ap (λ (k : ℕ). let one : ℕ × X = (k, x) in one ∷ []) (omega arith)
enumerate-more {X} n (y ∷ xs) x =
    let first : ℕ × X = (n, y) in
    ap (λ (rest : List (ℕ × X)). first ∷ rest)
    (enumerate-more (n + 1) xs x ∙ ap (λ (k : ℕ). let one : ℕ × X = (k, x) in enumerate_from (n + 1) xs ++ one ∷ []) (omega arith))

aliases-more : (groups : List Declared) (declared : Declared) → aliases (groups ++ declared ∷ []) ≡ aliases groups ++ record { alias = declared.group.alias; group = length groups } ∷ []
aliases-more groups declared =
    ap (λ (numbered : List (ℕ × Declared)). map alias_of numbered) (enumerate-more 0 groups declared)
    ∙ map-append alias_of (enumerate_from 0 groups) ((0 + length groups, declared) ∷ [])
    ∙ ap (λ (k : ℕ). let one : Alias = record { alias = declared.group.alias; group = k } in aliases groups ++ one ∷ []) (omega arith)

addresses-more : (rank : ℕ) (groups : List Declared) (declared : Declared)
    → addresses_from rank (groups ++ declared ∷ []) ≡ addresses_from rank groups ++ own_addresses (rank + sum_by declared_count groups) declared.group.slaves
addresses-more rank [] declared =
    addresses-group rank declared []
    ∙ append-nil (own_addresses rank declared.group.slaves)
    ∙ ap (λ (r : ℕ). own_addresses r declared.group.slaves) (omega arith)
addresses-more rank (first ∷ groups) declared =
    let next = rank + length first.group.slaves in
    let own = own_addresses rank first.group.slaves in
    let last = own_addresses (next + sum_by declared_count groups) declared.group.slaves in
    let sum = sum_by-cons declared_count first groups in
    addresses-group rank first (groups ++ declared ∷ [])
    ∙ ap (λ (rest : List Address). own ++ rest) (addresses-more next groups declared)
    ∙ sym (append_assoc own (addresses_from next groups) last)
    ∙ ap (λ (front : List Address). front ++ last) (sym (addresses-group rank first groups))
    ∙ ap (λ (r : ℕ). addresses_from rank (first ∷ groups) ++ own_addresses r declared.group.slaves) (omega (arith, sum))

same-number : (number : ℕ) (slaves : List Slave) → map (λ (slave : Slave). number) slaves ≡ replicate (length slaves) number
same-number number [] = refl
same-number number (slave ∷ slaves) = ap (λ (rest : List ℕ). number ∷ rest) (same-number number slaves)

owners-more : (number : ℕ) (groups : List Declared) (declared : Declared)
    → owners_from number (groups ++ declared ∷ []) ≡ owners_from number groups ++ replicate (length declared.group.slaves) (number + length groups)
owners-more number [] declared =
    let slaves = declared.group.slaves in
    append-nil (map (λ (slave : Slave). number) slaves) ∙ same-number number slaves ∙ ap (λ (k : ℕ). replicate (length slaves) k) (omega arith)
owners-more number (first ∷ groups) declared =
    let own = map (λ (slave : Slave). number) first.group.slaves in
    let count = length declared.group.slaves in
    ap (λ (rest : List ℕ). own ++ rest) (owners-more (number + 1) groups declared)
    ∙ sym (append_assoc own (owners_from (number + 1) groups) (replicate count (number + 1 + length groups)))
    ∙ ap (λ (k : ℕ). owners_from number (first ∷ groups) ++ replicate count k) (omega arith)

sums-more : {X : Type 0} (count : X → ℕ) (front : ℕ) (xs : List X) (x : X) → sums_from count front (xs ++ x ∷ []) ≡ sums_from count front xs ++ (front + sum_by count xs + count x) ∷ []
sums-more count front [] x = ap (λ (k : ℕ). front ∷ k ∷ []) (omega arith)
sums-more count front (y ∷ xs) x =
    let sum = sum_by-cons count y xs in
    ap (λ (rest : List ℕ). front ∷ rest) (sums-more count (front + count y) xs x ∙ ap (λ (k : ℕ). sums_from count (front + count y) xs ++ k ∷ []) (omega (arith, sum)))

sums-joined : {X : Type 0} (count : X → ℕ) (sums new : List ℕ) (xs : List X) (x : X) (own : ℕ) → sums ≡ sums_from count 0 xs → new ≡ sums ++ (slice_index sums (length sums - 1) + own) ∷ [] → own ≡ count x
    → new ≡ sums_from count 0 (xs ++ x ∷ [])
sums-joined count sums new xs x own is added same =
    let last = (last-sum count sums xs is).1 in
    added
    ∙ ap (λ (k : ℕ). sums ++ k ∷ []) (omega (arith, last, same))
    ∙ ap (λ (s : List ℕ). s ++ (0 + sum_by count xs + count x) ∷ []) is
    ∙ sym (sums-more count 0 xs x)

-- no slave comes into the line
absent-stations : (groups : List Declared) (group : Group) → line_stations (groups ++ absent group ∷ []) ≡ line_stations groups
absent-stations [] group = refl
absent-stations (first ∷ groups) group = ap (λ (rest : List ℕ). stations (present_slaves first) ++ rest) (absent-stations groups group)

line-more : (groups : List Declared) (group : Group) (old new : List ℕ) → BeginsWithLine groups old → new ≡ old ++ replicate (length group.slaves) 0 → BeginsWithLine (groups ++ absent group ∷ []) new
line-more groups group old new is added =
    let more = replicate (length group.slaves) 0 in
    let same = absent-stations groups group in
    let few = stations-few groups in
    let long = is.long in
    let both = length-append old more in
    let none : ℕ = 0 in
    let count = length-replicate (length group.slaves) none in
    let sum = declared-sum groups group in
    record {
      long = ap length added ∙ omega (arith, both, count, long, sum);
      front =
          ap (λ (line : List ℕ). take (length line) new) same
          ∙ ap (take (length (line_stations groups))) added
          ∙ take-append-le (length (line_stations groups)) old more (omega (arith, few, long))
          ∙ is.front
          ∙ sym same;
    }

-- what an index has taken of a group
pub record HasTaken (old new : Index) (group : Group) (room : IndexRoom) : Type 0 where
  pub aliases : IsPermutation (record { alias = group.alias; group = length old.fronts } ∷ old.aliases) new.aliases
  pub stations : (others : List Address) → AreRanks others old.stations → AreRanks (others ++ room.addresses) new.stations
  pub variables : IsPermutation (old.variables ++ room.names) new.variables
  pub owners : new.owners ≡ old.owners ++ replicate (length group.slaves) (length old.fronts)
  pub line : new.line ≡ old.line ++ replicate (length group.slaves) 0
  pub fronts : new.fronts ≡ old.fronts ++ room.sums ∷ []
  pub ranks : new.ranks ≡ old.ranks ++ (slice_index old.ranks (length old.ranks - 1) + length group.slaves) ∷ []
  pub slaves : new.slaves ≡ old.slaves ++ (slice_index old.slaves (length old.slaves - 1) + 0) ∷ []
  pub blocks : new.blocks ≡ old.blocks ++ (slice_index old.blocks (length old.blocks - 1) + 0) ∷ []

pub taken : (old new : Index) (group : Group) (room : IndexRoom) (can : IndexCanAdmit old group room) → HasTaken old new group room → IsIndexOf (can.groups ++ absent group ∷ []) new
taken old new group room can has =
    let groups = can.groups in
    let is = can.is in
    let roomy = can.fits in
    let one = absent group in
    let d = is.declared in
    let alias : Alias = record { alias = group.alias; group = length groups } in
    let names = slave_names group.slaves in
    let count = length group.slaves in
    let number : length old.fronts ≡ length groups = ap length d.fronts ∙ length-map groups block_sums in
    let after_it : room.addresses ≡ own_addresses (1 + sum_by declared_count groups) group.slaves = roomy.addresses ∙ ap (λ (r : ℕ). own_addresses r group.slaves) (omega arith) in
    let offered : variables (groups ++ one ∷ []) ≡ variables groups ++ names =
    variables-append groups (one ∷ []) ∙ ap (λ (l : List ℕ). variables groups ++ l) (variables-group one [] ∙ append-nil names) in
    record {
      declared = record {
        project = can.project;
        aliases =
            subst (λ (l : List Alias). IsPermutation l new.aliases) (sym (aliases-more groups one))
            (IsPermutation-trans (aliases groups ++ alias ∷ []) (alias ∷ aliases groups) new.aliases (IsPermutation-to_front (aliases groups) alias)
            (IsPermutation-trans (alias ∷ aliases groups) (alias ∷ old.aliases) new.aliases (IsPermutation-cons alias (aliases groups) old.aliases d.aliases)
            (subst (λ (n : ℕ). let own : Alias = record { alias = group.alias; group = n } in IsPermutation (own ∷ old.aliases) new.aliases) number has.aliases)));
        stations =
            subst (λ (l : List Address). AreRanks l new.stations) (ap (λ (l : List Address). addresses groups ++ l) after_it ∙ sym (addresses-more 1 groups one))
            (has.stations (addresses groups) d.stations);
        variables =
            subst (λ (l : List ℕ). IsPermutation l new.variables) (sym offered)
            (IsPermutation-trans (variables groups ++ names) (old.variables ++ room.names) new.variables
            (IsPermutation-append (variables groups) old.variables names room.names d.variables roomy.names) has.variables);
        owners =
            has.owners
            ∙ ap (λ (l : List ℕ). l ++ replicate count (length old.fronts)) d.owners
            ∙ ap (λ (k : ℕ). owners_from 0 groups ++ replicate count k) (omega (arith, number))
            ∙ sym (owners-more 0 groups one);
        fronts =
            has.fronts
            ∙ ap (λ (l : List (List ℕ)). l ++ room.sums ∷ []) d.fronts
            ∙ ap (λ (l : List ℕ). map block_sums groups ++ l ∷ []) roomy.sums
            ∙ sym (map-append block_sums groups (one ∷ []));
        ranks = sums-joined declared_count old.ranks new.ranks groups one count d.ranks has.ranks refl;
      };
      slaves = sums-joined present_count old.slaves new.slaves groups one 0 is.slaves has.slaves refl;
      blocks = sums-joined own_sum old.blocks new.blocks groups one 0 is.blocks has.blocks refl;
      line = line-more groups group old.line new.line is.line has.line;
    }

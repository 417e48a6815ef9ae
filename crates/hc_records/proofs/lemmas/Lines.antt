-- The ranks and the records of a line's slaves.
use Rattle.std.proofs.Common.{◌≡◌, ℕ, ◌+◌, ◌<◌, ◌≤◌, Bool, true, false, List, [], ◌∷◌, length, arith, length-append, if◌then◌else◌}
use Rattle.std.specs.Prelude.{All, AllPairs, map}
use Rattle.std.specs.List.{enumerate_from}
use Rattle.std.proofs.lemmas.List.Elements.{All-nil, All-cons, All-head, All-tail, All-append, All-weaker, All-map}
use Rattle.hc_records.specs.declared.records.Slave.{Slave}
use Rattle.hc_records.specs.declared.records.Declared.{Declared}
use Rattle.hc_records.specs.Line.{Member, members_from, line_from, present_slaves}
use Rattle.hc_records.specs.Project.{slaves_of}
use Rattle.std.proofs.lemmas.List.Kept.{AllPairs-cons}
use Rattle.hc_records.proofs.lemmas.Lists.{All-append_left, All-append_right, All-enumerate_from, All-numbers, AllPairs-nil, AllPairs-append, AllPairs-append_left, AllPairs-append_right, AllPairs-between, AllPairs-head, AllPairs-map, AllPairs-numbers, AllPairs-tail}

-- a rank from a first one on, below an end
abbrev pub RankWithin : ℕ → ℕ → Member → Type 0
RankWithin first end member = (first ≤ member.rank) × (member.rank < end)

abbrev pub RanksBelow : Member → Member → Type 0
RanksBelow a b = a.rank < b.rank

-- a slave with its rank
abbrev pub ranked : ℕ × Slave → Member
ranked e = record { rank = e.0; slave = e.1 }

members-within : (rank : ℕ) (slaves : List Slave) → All (RankWithin rank (rank + length slaves)) (members_from rank slaves)
members-within rank slaves = All-map (RankWithin rank (rank + length slaves)) ranked (enumerate_from rank slaves) (All-numbers rank slaves)

members-ascend : (rank : ℕ) (slaves : List Slave) → AllPairs RanksBelow (members_from rank slaves)
members-ascend rank slaves = AllPairs-map RanksBelow ranked (enumerate_from rank slaves) (AllPairs-numbers rank slaves)

-- the declared slaves
abbrev pub declared_slaves : List Declared → List Slave
declared_slaves groups = slaves_of (map (λ declared. declared.group) groups)

-- a group's part of the line: its members, or none
present-all : (P : Member → Type 0) (present : Bool) (rank : ℕ) (slaves : List Slave) → All P (members_from rank slaves) → All P (members_from rank (if present then slaves else []))
present-all P true rank slaves all = all
present-all P false rank slaves all = All-nil P

present-pairs : (R : Member → Member → Type 0) (present : Bool) (rank : ℕ) (slaves : List Slave) → AllPairs R (members_from rank slaves) → AllPairs R (members_from rank (if present then slaves else []))
present-pairs R true rank slaves pairs = pairs
present-pairs R false rank slaves pairs = AllPairs-nil R

pub line-within : (rank : ℕ) (groups : List Declared) → All (RankWithin rank (rank + length (declared_slaves groups))) (line_from rank groups)
line-within rank [] = All-nil (RankWithin rank (rank + 0))
line-within rank (declared ∷ groups) =
    let slaves = declared.group.slaves in
    let next = rank + length slaves in
    let end = rank + length (declared_slaves (declared ∷ groups)) in
    let sum : length (declared_slaves (declared ∷ groups)) ≡ length slaves + length (declared_slaves groups) = length-append slaves (declared_slaves groups) in
    All-append (RankWithin rank end) (members_from rank (present_slaves declared)) (line_from next groups)
    (present-all (RankWithin rank end) declared.present rank slaves
    (All-weaker (RankWithin rank next) (RankWithin rank end) (λ member within. (omega arith, omega arith)) (members_from rank slaves) (members-within rank slaves)))
    (All-weaker (RankWithin next (next + length (declared_slaves groups))) (RankWithin rank end) (λ member within. (omega arith, omega arith)) (line_from next groups) (line-within next groups))

pub line-ascends : (rank : ℕ) (groups : List Declared) → AllPairs RanksBelow (line_from rank groups)
line-ascends rank [] = AllPairs-nil RanksBelow
line-ascends rank (declared ∷ groups) =
    let slaves = declared.group.slaves in
    let next = rank + length slaves in
    AllPairs-append RanksBelow (members_from rank (present_slaves declared)) (line_from next groups)
    (present-pairs RanksBelow declared.present rank slaves (members-ascend rank slaves)) (line-ascends next groups)
    (present-all (λ first. All (RanksBelow first) (line_from next groups)) declared.present rank slaves
    (All-weaker (RankWithin rank next) (λ first. All (RanksBelow first) (line_from next groups))
    (λ first before. All-weaker (RankWithin next (next + length (declared_slaves groups))) (RanksBelow first) (λ second after_it. omega arith) (line_from next groups) (line-within next groups))
    (members_from rank slaves) (members-within rank slaves)))

-- what holds of all declared slaves holds of each group's
pub each-group : (P : Slave → Type 0) (groups : List Declared) → All P (declared_slaves groups) → All (λ declared. All P declared.group.slaves) groups
each-group P [] all = All-nil (λ declared. All P declared.group.slaves)
each-group P (declared ∷ groups) all =
    All-cons (λ declared. All P declared.group.slaves) declared groups
    (All-append_left P declared.group.slaves (declared_slaves groups) all)
    (each-group P groups (All-append_right P declared.group.slaves (declared_slaves groups) all))

-- what holds of slaves holds of them as members of the line
members-all : (P : Slave → Type 0) (rank : ℕ) (slaves : List Slave) → All P slaves → All (λ member. P member.slave) (members_from rank slaves)
members-all P rank slaves all = All-map (λ member. P member.slave) ranked (enumerate_from rank slaves) (All-enumerate_from P rank slaves all)

-- what holds of each declared slave holds of each slave of the line
pub line-slaves : (P : Slave → Type 0) (rank : ℕ) (groups : List Declared) → All (λ declared. All P declared.group.slaves) groups → All (λ member. P member.slave) (line_from rank groups)
line-slaves P rank [] all = All-nil (λ member. P member.slave)
line-slaves P rank (declared ∷ groups) all =
    let slaves = declared.group.slaves in
    let next = rank + length slaves in
    All-append (λ member. P member.slave) (members_from rank (present_slaves declared)) (line_from next groups)
    (present-all (λ member. P member.slave) declared.present rank slaves
    (members-all P rank slaves (All-head (λ declared. All P declared.group.slaves) declared groups all)))
    (line-slaves P next groups (All-tail (λ declared. All P declared.group.slaves) declared groups all))

-- and what holds of each two of them
members-pairs : (R : Slave → Slave → Type 0) (rank : ℕ) (slaves : List Slave) → AllPairs R slaves → AllPairs (λ a b. R a.slave b.slave) (members_from rank slaves)
members-pairs R rank [] pairs = AllPairs-nil (λ a b. R a.slave b.slave)
members-pairs R rank (slave ∷ slaves) pairs =
    AllPairs-cons (λ a b. R a.slave b.slave) (record { rank = rank; slave = slave }) (members_from (rank + 1) slaves)
    (members-all (R slave) (rank + 1) slaves (AllPairs-head R slave slaves pairs))
    (members-pairs R (rank + 1) slaves (AllPairs-tail R slave slaves pairs))

pub line-pairs : (R : Slave → Slave → Type 0) (rank : ℕ) (groups : List Declared) → AllPairs R (declared_slaves groups) → AllPairs (λ a b. R a.slave b.slave) (line_from rank groups)
line-pairs R rank [] pairs = AllPairs-nil (λ a b. R a.slave b.slave)
line-pairs R rank (declared ∷ groups) pairs =
    let slaves = declared.group.slaves in
    let next = rank + length slaves in
    let after_it = line_from next groups in
    AllPairs-append (λ a b. R a.slave b.slave) (members_from rank (present_slaves declared)) after_it
    (present-pairs (λ a b. R a.slave b.slave) declared.present rank slaves (members-pairs R rank slaves (AllPairs-append_left R slaves (declared_slaves groups) pairs)))
    (line-pairs R next groups (AllPairs-append_right R slaves (declared_slaves groups) pairs))
    (present-all (λ a. All (λ b. R a.slave b.slave) after_it) declared.present rank slaves
    (members-all (λ slave. All (λ b. R slave b.slave) after_it) rank slaves
    (All-weaker (λ slave. All (R slave) (declared_slaves groups)) (λ slave. All (λ b. R slave b.slave) after_it)
    (λ slave all. line-slaves (R slave) next groups (each-group (R slave) groups all)) slaves
    (AllPairs-between R slaves (declared_slaves groups) pairs))))

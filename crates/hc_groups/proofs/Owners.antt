-- The slave that has the block with a number, and how many blocks there are.
use Rattle.std.proofs.Common.{◌≡◌, ℕ, zero, suc, ◌+◌, ◌-◌, ◌*◌, ◌<◌, ◌≤◌, Bool, List, [], ◌∷◌, length, take, refl, ap, ◌∙◌, arith, if◌then◌else◌, rules}
use Rattle.std.specs.Prelude.{All, Some, None, slice_get, sum_by}
use Rattle.std.proofs.lemmas.Bool.{le-ltb}
use Rattle.std.proofs.lemmas.List.Elements.{All-head, All-tail}
use Rattle.std.proofs.lemmas.List.Sums.{sum_by-cons, sum_by-append, sum_by_more_le}
use Rattle.hc_records.specs.declared.records.Declared.{Declared}
use Rattle.hc_records.specs.declared.records.Slave.{Slave}
use Rattle.hc_records.specs.Line.{Member, groups_of, line_from, members_from}
use Rattle.hc_records.specs.Project.{lowest_fault}
use Rattle.hc_records.proofs.lemmas.Limits.{project-inside}
use Rattle.hc_records.proofs.lemmas.Lines.{each-group}
use Rattle.hc_records.proofs.lemmas.Slaves.{IsSlaveInside, project-counted}
use Rattle.hc_groups.specs.Index.{block_sum, slave_block_count, declared_count, own_blocks, own_sum, owned_by}

pub owned-at : (members : List Member) (position : ℕ) (member : Member) (number : ℕ) → slice_get members position ≡ Some member → number < own_blocks member
    → owned_by members (sum_by own_blocks (take position members) + number) ≡ Some (member, number)
owned-at [] position member number at low = cc
owned-at (first ∷ members) zero member number at low = search rules
owned-at (first ∷ members) (suc position) member number at low =
    let sum = sum_by-cons own_blocks first (take position members) in
    let history = le-ltb (sum_by own_blocks (take (suc position) (first ∷ members)) + number) (own_blocks first) (omega (arith, sum)) in
    rw history (ap (owned_by members) (omega (arith, sum)) ∙ owned-at members position member number at low)

pub owned-history : (members : List Member) (n : ℕ) → sum_by own_blocks members ≤ n → owned_by members n ≡ None
owned-history [] n history = refl
owned-history (member ∷ members) n history =
    let sum = sum_by-cons own_blocks member members in
    search (rules, sum_by-cons, le-ltb, owned-history members (n - own_blocks member) (omega (arith, sum, history)))

-- the blocks of the line

pub members-sum : (rank : ℕ) (slaves : List Slave) → sum_by own_blocks (members_from rank slaves) ≡ block_sum slaves
members-sum rank [] = refl
members-sum rank (slave ∷ slaves) = search (rules, sum_by-cons, members-sum (rank + 1) slaves)

pub line-sum : (rank : ℕ) (groups : List Declared) → sum_by own_blocks (line_from rank groups) ≡ sum_by own_sum groups
line-sum rank [] = refl
line-sum rank (declared ∷ groups) =
    let next = rank + length declared.group.slaves in
    search (rules, sum_by-append, members-sum, sum_by-cons, line-sum next groups)

-- a slave has at most 16

pub few-blocks : (slaves : List Slave) → All IsSlaveInside slaves → block_sum slaves ≤ 16 * length slaves
few-blocks [] inside = omega arith
few-blocks (slave ∷ slaves) inside =
    let here = (All-head IsSlaveInside slave slaves inside).few in
    let rest = few-blocks slaves (All-tail IsSlaveInside slave slaves inside) in
    let sum = sum_by-cons slave_block_count slave slaves in
    omega (arith, here, rest, sum)

few-own : (present : Bool) (slaves : List Slave) → All IsSlaveInside slaves → block_sum (if present then slaves else []) ≤ 16 * length slaves
few-own present slaves inside = search (rules, few-blocks)

pub few-groups : (groups : List Declared) → All (λ declared. All IsSlaveInside declared.group.slaves) groups → sum_by own_sum groups ≤ 16 * sum_by declared_count groups
few-groups [] inside = omega arith
few-groups (declared ∷ groups) inside =
    let here = few-own declared.present declared.group.slaves (All-head (λ declared. All IsSlaveInside declared.group.slaves) declared groups inside) in
    let rest = few-groups groups (All-tail (λ declared. All IsSlaveInside declared.group.slaves) declared groups inside) in
    let sum = sum_by-cons own_sum declared groups in
    let count = sum_by-cons declared_count declared groups in
    omega (arith, here, rest, sum, count)

pub all-inside : (groups : List Declared) → lowest_fault (groups_of groups) ≡ None → All (λ declared. All IsSlaveInside declared.group.slaves) groups
all-inside groups none = each-group IsSlaveInside groups (project-inside (groups_of groups) none).slaves

pub few-present : (groups : List Declared) → lowest_fault (groups_of groups) ≡ None → sum_by own_sum groups < 4294967296
few-present groups none = search (rules, project-counted, few-groups, all-inside)

pub few-declared : (groups : List Declared) → lowest_fault (groups_of groups) ≡ None → All (λ declared. block_sum declared.group.slaves < 4294967296) groups
few-declared groups none k d within =
    let counted = project-counted groups none in
    let own = sum_by_more_le declared_count groups k d within in
    let few = few-blocks _ (all-inside groups none k d within) in
    omega (arith, counted, own, few)

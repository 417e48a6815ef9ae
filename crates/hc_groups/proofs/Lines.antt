-- The slaves and the blocks of a line, group by group.
use Rattle.std.proofs.Common.{◌≡◌, ◌≢◌, ℕ, zero, suc, ◌+◌, ◌<◌, ◌≤◌, Bool, true, false, List, [], ◌∷◌, length, take, refl, arith, if◌then◌else◌, length-append, rules}
use Rattle.std.specs.Prelude.{All, Some, slice_get, sum_by}
use Rattle.std.specs.List.{enumerate_from}
use Rattle.std.proofs.Math.Seq.{take-append-add}
use Rattle.std.proofs.lemmas.List.{take-append-le}
use Rattle.std.proofs.lemmas.List.Elements.{All-append, All-map, All-nil, All-weaker}
use Rattle.std.proofs.lemmas.List.Sums.{sum_by-append, sum_by-cons}
use Rattle.std.proofs.lemmas.Option.{slice_get_within}
use Rattle.hc_records.specs.declared.records.Declared.{Declared}
use Rattle.hc_records.specs.declared.records.Slave.{Slave}
use Rattle.hc_records.specs.Line.{Member, line_from, members_from, present_slaves}
use Rattle.hc_records.proofs.lemmas.Lines.{line-within}
use Rattle.hc_records.proofs.lemmas.Lists.{All-numbers}
use Rattle.hc_records.proofs.lemmas.Walks.{get-back, get-front, length-members_from}
use Rattle.hc_groups.specs.Index.{block_sum, declared_count, own_blocks, own_sum, present_count}
use Rattle.hc_groups.proofs.Owners.{members-sum}

pub line-length : (rank : ℕ) (groups : List Declared) → length (line_from rank groups) ≡ sum_by present_count groups
line-length rank [] = refl
line-length rank (declared ∷ groups) =
    let next = rank + length declared.group.slaves in
    search (rules, length-append, length-members_from, sum_by-cons, line-length next groups)

members-at : (rank : ℕ) (slaves : List Slave) (place : ℕ) (slave : Slave) → slice_get slaves place ≡ Some slave
    → slice_get (members_from rank slaves) place ≡ Some (record { rank = rank + place; slave = slave })
members-at rank [] place slave at = cc
members-at rank (first ∷ slaves) zero slave at = search rules
members-at rank (first ∷ slaves) (suc place) slave at = search (rules, members-at (rank + 1) slaves place slave at)

-- the slave at a place of a group that is present
pub line-at : (rank : ℕ) (groups : List Declared) (group place : ℕ) (declared : Declared) (slave : Slave) → slice_get groups group ≡ Some declared → slice_get (present_slaves declared) place ≡ Some slave
    → slice_get (line_from rank groups) (sum_by present_count (take group groups) + place) ≡ Some (record { rank = rank + sum_by declared_count (take group groups) + place; slave = slave })
line-at rank [] group place declared slave here at = cc
line-at rank (first ∷ groups) zero place declared slave here at = search (rules, length-members_from, slice_get_within, get-front, members-at)
line-at rank (first ∷ groups) (suc group) place declared slave here at =
    let next = rank + declared_count first in
    let long = length-members_from rank (present_slaves first) in
    let count = sum_by-cons present_count first (take group groups) in
    let ranks = sum_by-cons declared_count first (take group groups) in
    search (rules, get-back, line-at next groups group place declared slave here at)

-- the blocks before it

front-sum : (rank : ℕ) (slaves : List Slave) (place : ℕ) → sum_by own_blocks (take place (members_from rank slaves)) ≡ block_sum (take place slaves)
front-sum rank slaves zero = refl
front-sum rank [] (suc place) = refl
front-sum rank (slave ∷ slaves) (suc place) = search (rules, sum_by-cons, front-sum (rank + 1) slaves place)

pub line-front : (rank : ℕ) (groups : List Declared) (group place : ℕ) (declared : Declared) → slice_get groups group ≡ Some declared → place < present_count declared
    → sum_by own_blocks (take (sum_by present_count (take group groups) + place) (line_from rank groups)) ≡ sum_by own_sum (take group groups) + block_sum (take place (present_slaves declared))
line-front rank [] group place declared here inside = cc
line-front rank (first ∷ groups) zero place declared here inside = search (rules, length-members_from, take-append-le, front-sum)
line-front rank (first ∷ groups) (suc group) place declared here inside =
    let next = rank + declared_count first in
    let members = members_from rank (present_slaves first) in
    let long = length-members_from rank (present_slaves first) in
    let count = sum_by-cons present_count first (take group groups) in
    let front = sum_by-cons own_sum first (take group groups) in
    let after_it = sum_by present_count (take group groups) + place in
    let rest = line-front next groups group place declared here inside in
    let whole : sum_by present_count (first ∷ take group groups) + place ≡ length members + after_it = omega (arith, long, count) in
    let sum = sum_by-append own_blocks members (take after_it (line_from next groups)) in
    let own = members-sum rank (present_slaves first) in
    search (rules, take-append-add)

-- a slave of a group that isn't present is not in the line

none-present : (P : Member → Type 0) (present : Bool) (rank : ℕ) (slaves : List Slave) → present ≡ false → All P (members_from rank (if present then slaves else []))
none-present P present rank slaves absent = search rules

own-ranks : (present : Bool) (rank : ℕ) (slaves : List Slave) → All (λ member. member.rank < rank + length slaves) (members_from rank (if present then slaves else []))
own-ranks true rank slaves =
    All-map (λ (member : Member). member.rank < rank + length slaves) (λ (e : ℕ × Slave). record { rank = e.0; slave = e.1 }) (enumerate_from rank slaves)
    (All-weaker (λ (e : ℕ × Slave). (rank ≤ e.0) × (e.0 < rank + length slaves)) (λ e. e.0 < rank + length slaves) (λ e both. both.1) (enumerate_from rank slaves) (All-numbers rank slaves))
own-ranks false rank slaves = All-nil (λ (member : Member). member.rank < rank + length slaves)

pub line-ranks : (rank : ℕ) (groups : List Declared) → All (λ member. member.rank < rank + sum_by declared_count groups) (line_from rank groups)
line-ranks rank [] = All-nil (λ (member : Member). member.rank < rank + 0)
line-ranks rank (declared ∷ groups) =
    let next = rank + declared_count declared in
    let sum = sum_by-cons declared_count declared groups in
    let Low : Member → Type 0 = λ member. member.rank < rank + sum_by declared_count (declared ∷ groups) in
    All-append Low (members_from rank (present_slaves declared)) (line_from next groups)
    (All-weaker (λ (member : Member). member.rank < next) Low (λ member below. omega (arith, sum, below)) (members_from rank (present_slaves declared)) (own-ranks declared.present rank declared.group.slaves))
    (All-weaker (λ (member : Member). member.rank < next + sum_by declared_count groups) Low (λ member below. omega (arith, sum, below)) (line_from next groups) (line-ranks next groups))

pub line-absent : (rank : ℕ) (groups : List Declared) (group place : ℕ) (declared : Declared) → slice_get groups group ≡ Some declared → declared.present ≡ false → place < length declared.group.slaves
    → All (λ member. member.rank ≢ rank + sum_by declared_count (take group groups) + place) (line_from rank groups)
line-absent rank [] group place declared here absent inside = cc
line-absent rank (first ∷ groups) zero place declared here absent inside = search (rules, All-append, none-present, All-weaker, line-within)
line-absent rank (first ∷ groups) (suc group) place declared here absent inside =
    let next = rank + declared_count first in
    let count = sum_by-cons declared_count first (take group groups) in
    let Other : Member → Type 0 = λ member. member.rank ≢ rank + sum_by declared_count (first ∷ take group groups) + place in
    All-append Other (members_from rank (present_slaves first)) (line_from next groups)
    (All-weaker (λ (member : Member). member.rank < next) Other (λ member below is. omega (arith, count, below, is)) (members_from rank (present_slaves first)) (own-ranks first.present rank first.group.slaves))
    (All-weaker (λ (member : Member). member.rank ≢ next + sum_by declared_count (take group groups) + place) Other (λ member other is. other (omega (arith, count, is))) (line_from next groups)
    (line-absent next groups group place declared here absent inside))

-- The moved blocks of a line come in the order of their places.
use Rattle.std.proofs.Common.{◌≡◌, ℕ, ◌+◌, ◌-◌, ◌*◌, ◌<◌, ◌≤◌, List, [], ◌∷◌, length, arith, refl}
use Rattle.std.specs.Prelude.{All, AllPairs, None, not, slice_index_or}
use Rattle.std.specs.List.{enumerate_from, flat_map, list_any}
use Rattle.std.proofs.lemmas.List.{length-map}
use Rattle.std.proofs.lemmas.List.FromFn.{length-enumerate_from}
use Rattle.std.proofs.lemmas.List.Elements.{All-head, All-map, All-tail, All-weaker}
use Rattle.std.proofs.lemmas.List.Kept.{AllPairs-filter}
use Rattle.hc_records.specs.Line.{Member, State, groups_of, line}
use Rattle.hc_records.specs.Project.{lowest_fault}
use Rattle.hc_records.proofs.lemmas.Lines.{RanksBelow, line-ascends, line-slaves, line-within}
use Rattle.hc_records.proofs.lemmas.Lists.{All-flat_map, All-numbers, AllPairs-append, AllPairs-head, AllPairs-map, AllPairs-nil, AllPairs-numbers, AllPairs-tail, AllPairs-weaker}
use Rattle.hc_registers.specs.Blocks.{LineBlock, RegisterBlock, line_blocks, member_blocks, same_block, slave_blocks}
use Rattle.hc_registers.specs.Ranked.{RankedBlock, member_ranked, moved_ranked, ranked, ranked_blocks}
use Rattle.hc_registers.specs.RankDifferences.{block_place}
use Rattle.hc_registers.proofs.lemmas.RanksGapless.{Few, few-areas, length-member}

abbrev Before : RankedBlock → RankedBlock → Type 0
Before a b = block_place a < block_place b

-- the blocks of one slave

abbrev as_block : ℕ → ℕ × RegisterBlock → LineBlock
as_block station e = record { station = station; number = e.0; block = e.1 }

abbrev IsOwn : Member → RankedBlock → Type 0
IsOwn member block = (block.rank ≡ member.rank) × (block.found.number < 16)

own-blocks : (whole : List Member) (member : Member) → Few member.slave → All (IsOwn member) (member_ranked whole member)
own-blocks whole member few =
    let blocks = slave_blocks whole member in
    let size = length-member whole member in
    let all = length-map (enumerate_from 0 blocks) (as_block member.slave.station) in
    let many = length-enumerate_from 0 blocks in
    All-map (IsOwn member) (ranked member.rank) (member_blocks whole member)
    (All-map (λ (block : LineBlock). IsOwn member (ranked member.rank block)) (as_block member.slave.station) (enumerate_from 0 blocks)
    (All-weaker (λ (e : ℕ × RegisterBlock). (0 ≤ e.0) × (e.0 < 0 + length blocks)) (λ (e : ℕ × RegisterBlock). (member.rank ≡ member.rank) × (e.0 < 16))
    (λ e within. let high = within.1 in (refl, omega (arith, high, size, all, many, few))) (enumerate_from 0 blocks) (All-numbers 0 blocks)))

own-ascend : (whole : List Member) (member : Member) → AllPairs Before (member_ranked whole member)
own-ascend whole member =
    AllPairs-map Before (ranked member.rank) (member_blocks whole member)
    (AllPairs-map (λ (a b : LineBlock). Before (ranked member.rank a) (ranked member.rank b)) (as_block member.slave.station)
    (enumerate_from 0 (slave_blocks whole member))
    (AllPairs-weaker (λ (a b : ℕ × RegisterBlock). a.0 < b.0) (λ (a b : ℕ × RegisterBlock). 16 * (member.rank - 1) + a.0 < 16 * (member.rank - 1) + b.0) (λ a b less. omega (arith, less))
    (enumerate_from 0 (slave_blocks whole member)) (AllPairs-numbers 0 (slave_blocks whole member))))

-- those of several

abbrev IsFine : Member → Type 0
IsFine member = (1 ≤ member.rank) × Few member.slave

members-ascend : (whole members : List Member) → AllPairs RanksBelow members → All IsFine members → AllPairs Before (flat_map (member_ranked whole) members)
members-ascend whole [] below fine = AllPairs-nil Before
members-ascend whole (member ∷ members) below fine =
    let here = All-head IsFine member members fine in
    let rest = All-tail IsFine member members fine in
    let first = here.0 in
    AllPairs-append Before (member_ranked whole member) (flat_map (member_ranked whole) members) (own-ascend whole member)
    (members-ascend whole members (AllPairs-tail RanksBelow member members below) rest)
    (All-weaker (IsOwn member) (λ (a : RankedBlock). All (Before a) (flat_map (member_ranked whole) members))
    (λ a own. All-flat_map (Before a) (member_ranked whole) members
    (λ k d within.
    let other = slice_index_or members k d in
    let less : member.rank < other.rank = AllPairs-head RanksBelow member members below k d within in
    let few = (rest k d within).1 in
    All-weaker (IsOwn other) (Before a)
    (λ b his. let rank = own.0 in let number = own.1 in let rank' = his.0 in omega (arith, first, less, rank, number, rank'))
    (member_ranked whole other) (own-blocks whole other few)))
    (member_ranked whole member) (own-blocks whole member here.1))

pub moved-ascend : (old : List Member) (new : State) → lowest_fault (groups_of new.groups) ≡ None → AllPairs (λ a b. block_place a < block_place b) (moved_ranked old (line new))
moved-ascend old new project =
    AllPairs-filter Before (λ block. not (list_any (same_block block.found) (line_blocks old))) (ranked_blocks (line new))
    (members-ascend (line new) (line new) (line-ascends 1 new.groups)
    (λ k d within. ((line-within 1 new.groups k d within).0, line-slaves Few 1 new.groups (few-areas new.groups project) k d within)))

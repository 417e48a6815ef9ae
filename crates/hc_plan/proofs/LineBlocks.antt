-- The blocks of a line, slave by slave.
use Rattle.std.proofs.Common.{◌≡◌, ◌∙◌, ℕ, ◌+◌, ◌-◌, ◌*◌, ◌<◌, ◌≤◌, List, [], ◌∷◌, length, refl, sym, ap, subst, arith, length-append, if◌then◌else◌, rules}
use Rattle.std.specs.Prelude.{◌==◌, All, Bool, Option, Some, None, find, option_and_then, option_map, slice_get, slice_index_or, nat_lt, sum_by}
use Rattle.std.specs.List.{enumerate_from, flat_map}
use Rattle.std.proofs.lemmas.Option.{slice_get-get_or, slice_get-map}
use Rattle.std.proofs.lemmas.Bool.{ltb-false, ltb-true}
use Rattle.std.proofs.lemmas.List.Sums.{sum_by-cons}
use Rattle.std.proofs.lemmas.List.Elements.{All-head, All-tail}
use Rattle.hc_records.specs.declared.records.Declared.{Declared}
use Rattle.hc_records.specs.declared.keys.Key.{Key}
use Rattle.hc_records.specs.declared.records.Slave.{Slave}
use Rattle.hc_records.specs.Line.{Member, line_from}
use Rattle.hc_records.specs.Packing.{Placed}
use Rattle.hc_records.proofs.lemmas.Slaves.{project-counted}
use Rattle.hc_records.proofs.lemmas.Walks.{get-back, get-front, length-line}
use Rattle.hc_groups.specs.Index.{own_blocks, owned_by}
use Rattle.hc_registers.proofs.lemmas.RanksGapless.{length-member}
use Rattle.hc_registers.specs.declared.fmmu.Mapping.{Mapping}
use Rattle.hc_registers.specs.Blocks.{LineBlock, RegisterBlock, area_blocks, line_blocks, member_blocks, moved_blocks, slave_blocks, sync_manager_block, fmmu_block, mapping_of}
use Rattle.hc_places.proofs.lemmas.Found.{find-holds}
use Rattle.hc_plan.specs.inner.Blocks.{IsLayoutOf, IsMappedSlave, area_blocks_in, mapping_in, slave_blocks_in}
use Rattle.hc_plan.specs.Configuration.{at_station, block_of_rank, line_block_at}
use Rattle.hc_changes.proofs.lemmas.Compared.{flat_map-among}
use Rattle.hc_records.proofs.lemmas.Lists.{filter-few}
use Rattle.hc_plan.proofs.Mapped.{slave-mapped}
use Rattle.hc_plan.proofs.Numbered.{get-numbered-from-0, numbered-get}

-- every slave of the line that a layout is of has its areas mapped
pub layout-slaves : (groups : List Declared) (layout : List (List Placed)) → IsLayoutOf groups layout → All (IsMappedSlave layout) (line_from 1 groups)
layout-slaves groups layout known j d inside =
    let member = slice_index_or (line_from 1 groups) j d in
    subst (λ (l : List (List Placed)). IsMappedSlave l member) (sym known.of_line)
    (slave-mapped groups j member known.project (slice_get-get_or (line_from 1 groups) j d inside))

pub found-mapped : (groups : List Declared) (layout : List (List Placed)) (test : Member → Bool) (member : Member) → IsLayoutOf groups layout
    → find test (line_from 1 groups) ≡ Some member → IsMappedSlave layout member
found-mapped groups layout test member known found = (find-holds (IsMappedSlave layout) test (line_from 1 groups) member found (layout-slaves groups layout known)).0

-- the blocks by a layout of the line are the blocks of the line
pub slave_blocks-line : (groups : List Declared) (layout : List (List Placed)) (member : Member) → IsLayoutOf groups layout → IsMappedSlave layout member
    → slave_blocks_in layout member ≡ slave_blocks (line_from 1 groups) member
slave_blocks-line groups layout member known mapped =
    let members = line_from 1 groups in
    flat_map-among (area_blocks_in layout member.rank) (area_blocks members member.rank) (enumerate_from 0 member.slave.areas)
    (λ k d inside.
    let e = slice_index_or (enumerate_from 0 member.slave.areas) k d in
    let key : Key = record { dir = e.1.dir; rank = member.rank; area = e.0 } in
    let task = (mapped.areas e.0 e.1 (numbered-get member.slave.areas k d inside)).task in
    let mapping : mapping_in layout member.rank e.0 e.1 ≡ mapping_of members e.1.task key = search rules in
    ap (λ (m : Option Mapping). sync_manager_block e.1 ∷ fmmu_block e.0 e.1 m ∷ []) mapping)

abbrev answer_given : LineBlock → ℕ × RegisterBlock
answer_given found = at_station found.station found.block

answer_given-numbered : (station n : ℕ) (o : Option RegisterBlock)
    → option_map answer_given (option_map (λ (e : ℕ × RegisterBlock). record { station = station; number = e.0; block = e.1 }) (option_map (λ b. (n, b)) o)) ≡ option_map (at_station station) o
answer_given-numbered station n o = search rules

-- a block of the first slave of a part of the line
block-here : (whole rest : List Member) (member : Member) (n : ℕ) → n < 2 * length member.slave.areas
    → option_map answer_given (slice_get (flat_map (member_blocks whole) (member ∷ rest)) n) ≡ option_map (at_station member.slave.station) (slice_get (slave_blocks whole member) n)
block-here whole rest member n inside = search (rules, length-member, get-front, slice_get-map, get-numbered-from-0, answer_given-numbered)

block-after_it : (whole rest : List Member) (member : Member) (n : ℕ) → 2 * length member.slave.areas ≤ n
    → slice_get (flat_map (member_blocks whole) (member ∷ rest)) n ≡ slice_get (flat_map (member_blocks whole) rest) (n - 2 * length member.slave.areas)
block-after_it whole rest member n history = search (rules, length-member, get-back)

blocks-met : (whole rest : List Member) (member : Member)
    → length (flat_map (member_blocks whole) (member ∷ rest)) ≡ 2 * length member.slave.areas + length (flat_map (member_blocks whole) rest)
blocks-met whole rest member = search (rules, length-append, length-member)

-- as many as the slaves own
pub blocks-owned : (whole members : List Member) → length (flat_map (member_blocks whole) members) ≡ sum_by own_blocks members
blocks-owned whole [] = refl
blocks-owned whole (member ∷ members) = search (rules, blocks-met, sum_by-cons, blocks-owned whole members)

-- the block with a number is one of the slave that owns it

abbrev shows : List Member → Member × ℕ → Option (ℕ × RegisterBlock)
shows whole owner = option_map (at_station owner.0.slave.station) (slice_get (slave_blocks whole owner.0) owner.1)

owned-by : (whole rest : List Member) (member : Member) (n : ℕ) (here : Bool) → nat_lt n (own_blocks member) ≡ here
    → option_map answer_given (slice_get (flat_map (member_blocks whole) rest) (n - own_blocks member)) ≡ option_and_then (shows whole) (owned_by rest (n - own_blocks member))
    → option_map answer_given (slice_get (flat_map (member_blocks whole) (member ∷ rest)) n) ≡ option_and_then (shows whole) (if here then Some (member, n) else owned_by rest (n - own_blocks member))
owned-by whole rest member n here is after_it = search (rules, block-here, ltb-true, block-after_it, ltb-false)

owned-block : (whole members : List Member) (n : ℕ) → option_map answer_given (slice_get (flat_map (member_blocks whole) members) n) ≡ option_and_then (shows whole) (owned_by members n)
owned-block whole [] n = refl
owned-block whole (member ∷ members) n = owned-by whole members member n (nat_lt n (own_blocks member)) refl (owned-block whole members (n - own_blocks member))

pub owned-none : (groups : List Declared) (n : ℕ) → owned_by (line_from 1 groups) n ≡ None → line_block_at (line_from 1 groups) n ≡ None
owned-none groups n none = search (rules, owned-block)

-- what all slaves have the owner has
owner-all : (P : Member → Type 0) (member : Member) (n : ℕ) (rest : Option (Member × ℕ)) (owner : Member × ℕ) (here : Bool) → P member → (rest ≡ Some owner → P owner.0)
    → (if here then Some (member, n) else rest) ≡ Some owner → P owner.0
owner-all P member n rest owner here own after_it is = search rules

pub owner-has : (P : Member → Type 0) (members : List Member) (n : ℕ) (owner : Member × ℕ) → All P members → owned_by members n ≡ Some owner → P owner.0
owner-has P [] n owner all is = cc
owner-has P (member ∷ members) n owner all is =
    owner-all P member n (owned_by members (n - own_blocks member)) owner (nat_lt n (own_blocks member)) (All-head P member members all)
    (λ rest. owner-has P members (n - own_blocks member) owner (All-tail P member members all) rest) is

pub owner-blocks : (groups : List Declared) (n number : ℕ) (member : Member) → owned_by (line_from 1 groups) n ≡ Some (member, number)
    → line_block_at (line_from 1 groups) n ≡ option_map (at_station member.slave.station) (slice_get (slave_blocks (line_from 1 groups) member) number)
owner-blocks groups n number member is =
    let line = line_from 1 groups in
    owned-block line line n ∙ ap (option_and_then (shows line)) is

-- a slave of the line by its rank and its record
pub same-member : (rank : ℕ) (slave : Slave) (member : Member) → rank ≡ member.rank → slave ≡ member.slave → member ≡ record { rank = rank; slave = slave }
same-member rank slave member ranked own = search rules

abbrev has_rank : ℕ → Member → Bool
has_rank rank member = member.rank == rank

-- the block of the slave with a rank
pub found-ranked : (groups : List Declared) (layout : List (List Placed)) (rank number : ℕ) (member : Member) → IsLayoutOf groups layout
    → find (λ (m : Member). m.rank == rank) (line_from 1 groups) ≡ Some member
    → block_of_rank (line_from 1 groups) rank number
    ≡ option_map (λ block. record { station = member.slave.station; number = number; block = block }) (slice_get (slave_blocks_in layout member) number)
found-ranked groups layout rank number member known found =
    let line = line_from 1 groups in
    let same = slave_blocks-line groups layout member known (found-mapped groups layout (has_rank rank) member known found) in
    ap (option_and_then (λ (m : Member). option_map {U = LineBlock} (λ block. record { station = m.slave.station; number = number; block = block }) (slice_get (slave_blocks line m) number))) found
    ∙ ap (λ (blocks : List RegisterBlock). option_map {U = LineBlock} (λ block. record { station = member.slave.station; number = number; block = block }) (slice_get blocks number)) (sym same)

-- a slave has at most 16 blocks
length-blocks : (layout : List (List Placed)) (all members : List Member) → All (IsMappedSlave layout) members
    → length (flat_map (member_blocks all) members) ≤ 16 * length members
length-blocks layout all [] mapped = omega arith
length-blocks layout all (member ∷ members) mapped =
    search (rules, All-head, length-member, length-append, All-tail, length-blocks layout all members (All-tail (IsMappedSlave layout) member members mapped))

-- the number of blocks of a line has 32 bits
few-blocks : (groups : List Declared) (layout : List (List Placed)) → IsLayoutOf groups layout → length (line_blocks (line_from 1 groups)) < 4294967296
few-blocks groups layout known =
    let line = line_from 1 groups in
    let counted : sum_by (λ (d : Declared). length d.group.slaves) groups < 65535 = project-counted groups known.project in
    let members = length-line 1 groups in
    let blocks = length-blocks layout line line (layout-slaves groups layout known) in
    omega (arith, counted, members, blocks)

pub few-moved : (groups : List Declared) (layout : List (List Placed)) (old : List Member) → IsLayoutOf groups layout
    → length (moved_blocks old (line_from 1 groups)) < 4294967296
few-moved groups layout old known = search (rules, few-blocks, filter-few)

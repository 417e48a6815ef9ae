-- The blocks of a slave take no register in common: an FMMU block has 16 registers of its index, after the last of them a sync manager block 8 of its number.
use Rattle.std.proofs.Common.{◌≡◌, ℕ, ◌+◌, ◌<◌, ◌≤◌, List, [], ◌∷◌, length, refl, arith}
use Rattle.std.specs.Prelude.{All, AllPairs, Option, Some, None, ◌≢◌}
use Rattle.std.specs.List.{enumerate_from, flat_map}
use Rattle.std.proofs.lemmas.List.Elements.{All-nil, All-cons, All-head, All-tail}
use Rattle.std.proofs.lemmas.List.Kept.{AllPairs-cons}
use Rattle.hc_records.specs.declared.records.Area.{Area}
use Rattle.hc_records.specs.Limits.{IsSlaveInside}
use Rattle.hc_records.specs.Line.{Member}
use Rattle.hc_records.proofs.lemmas.Lists.{AllPairs-head, AllPairs-nil, AllPairs-tail}
use Rattle.hc_registers.specs.declared.fmmu.Mapping.{Mapping}
use Rattle.hc_registers.specs.Blocks.{RegisterBlock, area_blocks, fmmu_block, fmmu_bytes, mapping_of, slave_blocks, sync_manager_block, sync_manager_bytes}
use Rattle.hc_registers.specs.Laws.{AreApart}

length-sync : (area : Area) → length (sync_manager_bytes area) ≡ 8
length-sync area = refl

length-fmmu : (area : Area) (mapping : Option Mapping) → length (fmmu_bytes area mapping) ≡ 16
length-fmmu area None = refl
length-fmmu area (Some mapping) = refl

sync-apart : (a b : Area) → a.sm ≢ b.sm → AreApart (sync_manager_block a) (sync_manager_block b)
sync-apart a b differ register first second =
    let from = first.from in
    let below = first.below in
    let other_from = second.from in
    let other_below = second.below in
    omega (arith, length-sync a, length-sync b)

fmmu-apart : (i j : ℕ) (a b : Area) (first second : Option Mapping) → i < j → AreApart (fmmu_block i a first) (fmmu_block j b second)
fmmu-apart i j a b first second lower register one other =
    let below = one.below in
    let from = other.from in
    omega (arith, length-fmmu a first)

fmmu-sync : (i : ℕ) (a b : Area) (mapping : Option Mapping) → i < 8 → AreApart (fmmu_block i a mapping) (sync_manager_block b)
fmmu-sync i a b mapping low register one other =
    let below = one.below in
    let from = other.from in
    omega (arith, length-fmmu a mapping)

sync-fmmu : (i : ℕ) (a b : Area) (mapping : Option Mapping) → i < 8 → AreApart (sync_manager_block b) (fmmu_block i a mapping)
sync-fmmu i a b mapping low register one other = fmmu-sync i a b mapping low register other one

-- the blocks of the areas of a slave from an index on
abbrev blocks_from : List Member → ℕ → ℕ → List Area → List RegisterBlock
blocks_from line rank index areas = flat_map (area_blocks line rank) (enumerate_from index areas)

abbrev mapping : List Member → ℕ → ℕ → Area → Option Mapping
mapping line rank index area = mapping_of line area.task (record { dir = area.dir; rank = rank; area = index })

sync-later : (line : List Member) (rank : ℕ) (own : Area) (index : ℕ) (areas : List Area) → index + length areas ≤ 8 → All (λ area. own.sm ≢ area.sm) areas
    → All (AreApart (sync_manager_block own)) (blocks_from line rank index areas)
sync-later line rank own index [] few differ = All-nil (AreApart (sync_manager_block own))
sync-later line rank own index (area ∷ areas) few differ =
    let later = blocks_from line rank (index + 1) areas in
    let fmmu = fmmu_block index area (mapping line rank index area) in
    All-cons (AreApart (sync_manager_block own)) (sync_manager_block area) (fmmu ∷ later)
    (sync-apart own area (All-head (λ area. own.sm ≢ area.sm) area areas differ))
    (All-cons (AreApart (sync_manager_block own)) fmmu later
    (sync-fmmu index area own (mapping line rank index area) (omega arith))
    (sync-later line rank own (index + 1) areas (omega arith) (All-tail (λ area. own.sm ≢ area.sm) area areas differ)))

fmmu-later : (line : List Member) (rank : ℕ) (at : ℕ) (own : Area) (mapped : Option Mapping) (index : ℕ) (areas : List Area) → at < index → index + length areas ≤ 8
    → All (AreApart (fmmu_block at own mapped)) (blocks_from line rank index areas)
fmmu-later line rank at own mapped index [] lower few = All-nil (AreApart (fmmu_block at own mapped))
fmmu-later line rank at own mapped index (area ∷ areas) lower few =
    let later = blocks_from line rank (index + 1) areas in
    let fmmu = fmmu_block index area (mapping line rank index area) in
    All-cons (AreApart (fmmu_block at own mapped)) (sync_manager_block area) (fmmu ∷ later)
    (fmmu-sync at own area mapped (omega arith))
    (All-cons (AreApart (fmmu_block at own mapped)) fmmu later
    (fmmu-apart at index own area mapped (mapping line rank index area) lower)
    (fmmu-later line rank at own mapped (index + 1) areas (omega arith) (omega arith)))

areas-apart : (line : List Member) (rank : ℕ) (index : ℕ) (areas : List Area) → index + length areas ≤ 8 → AllPairs (λ a b. a.sm ≢ b.sm) areas
    → AllPairs AreApart (blocks_from line rank index areas)
areas-apart line rank index [] few differ = AllPairs-nil AreApart
areas-apart line rank index (area ∷ areas) few differ =
    let later = blocks_from line rank (index + 1) areas in
    let mapped = mapping line rank index area in
    let fmmu = fmmu_block index area mapped in
    AllPairs-cons AreApart (sync_manager_block area) (fmmu ∷ later)
    (All-cons (AreApart (sync_manager_block area)) fmmu later
    (sync-fmmu index area area mapped (omega arith))
    (sync-later line rank area (index + 1) areas (omega arith) (AllPairs-head (λ a b. a.sm ≢ b.sm) area areas differ)))
    (AllPairs-cons AreApart fmmu later
    (fmmu-later line rank index area mapped (index + 1) areas (omega arith) (omega arith))
    (areas-apart line rank (index + 1) areas (omega arith) (AllPairs-tail (λ a b. a.sm ≢ b.sm) area areas differ)))

pub blocks-apart : (line : List Member) (member : Member) → IsSlaveInside member.slave → AllPairs AreApart (slave_blocks line member)
blocks-apart line member inside = let few = inside.few in areas-apart line member.rank 0 member.slave.areas (omega arith) inside.managers

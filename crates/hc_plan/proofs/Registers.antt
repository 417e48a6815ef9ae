-- In a project's line each block of a slave is at a register of its own.
use Rattle.std.proofs.Common.{◌≡◌, ℕ, ◌+◌, ◌*◌, ◌/◌, ◌%◌, ◌<◌, ◌==◌, Bool, true, false, List, Contains, refl, sym, ap, ◌∙◌, arith, rules}
use Rattle.std.specs.Prelude.{◌≢◌, AllPairs, Option, Some, None, find, option_and_then, option_map, slice_get}
use Rattle.std.specs.List.{enumerate_from}
use Rattle.std.proofs.lemmas.Bool.{cases_order, eqb-false, eqb-true}
use Rattle.std.proofs.lemmas.Option.{get_or_from_slice_get, slice_get_within}
use Rattle.hc_records.specs.declared.records.Area.{Area}
use Rattle.hc_records.specs.declared.records.Declared.{Declared}
use Rattle.hc_records.specs.declared.records.Slave.{Slave}
use Rattle.hc_records.specs.Line.{Member, groups_of, is_at, line_from}
use Rattle.hc_records.specs.Limits.{IsSlaveInside}
use Rattle.hc_records.specs.Project.{lowest_fault}
use Rattle.hc_records.proofs.lemmas.Slaves.{line-inside}
use Rattle.hc_registers.specs.declared.registers.TheConstants.{FMMU_BLOCKS, FMMU_BLOCK_BYTES, SYNC_MANAGER_BLOCKS, SYNC_MANAGER_BLOCK_BYTES}
use Rattle.hc_registers.specs.Blocks.{LineBlock, RegisterBlock, fmmu_block, line_blocks, mapping_of, slave_blocks, sync_manager_block}
use Rattle.hc_places.proofs.lemmas.Found.{find-holds}
use Rattle.hc_plan.proofs.lemmas.Configured.{configured-block}
use Rattle.hc_plan.proofs.Numbered.{get-first, get-numbered-from-0, get-second, map-twice}
use Rattle.hc_records.proofs.lemmas.Stations.{project-distinct}

-- the areas of a slave have distinct sync managers

not-below : (areas : List Area) (i j : ℕ) (a b : Area) → AllPairs (λ x y. x.sm ≢ y.sm) areas → slice_get areas i ≡ Some a → slice_get areas j ≡ Some b
    → a.sm ≡ b.sm → i < j → i ≡ j
not-below areas i j a b managers first second same below = search (rules, get_or_from_slice_get, slice_get_within)

one-manager : (areas : List Area) (i j : ℕ) (a b : Area) → AllPairs (λ x y. x.sm ≢ y.sm) areas → slice_get areas i ≡ Some a → slice_get areas j ≡ Some b
    → a.sm ≡ b.sm → i ≡ j
one-manager areas i j a b managers first second same = search (rules, cases_order, not-below)

-- the register of a slave's block with a number

record IsBlock (areas : List Area) (n : ℕ) (block : RegisterBlock) : Type 0 where
  area : Area
  found : slice_get areas (n / 2) ≡ Some area
  even : n % 2 ≡ 0 → block.register ≡ SYNC_MANAGER_BLOCKS + SYNC_MANAGER_BLOCK_BYTES * area.sm
  odd : n % 2 ≢ 0 → block.register ≡ FMMU_BLOCKS + FMMU_BLOCK_BYTES * (n / 2)

made-by : (areas : List Area) (n : ℕ) (o : Option Area) (make : Area → RegisterBlock) (block : RegisterBlock) → slice_get areas (n / 2) ≡ o → option_map make o ≡ Some block
    → (n % 2 ≡ 0 → (area : Area) → (make area).register ≡ SYNC_MANAGER_BLOCKS + SYNC_MANAGER_BLOCK_BYTES * area.sm)
    → (n % 2 ≢ 0 → (area : Area) → (make area).register ≡ FMMU_BLOCKS + FMMU_BLOCK_BYTES * (n / 2))
    → IsBlock areas n block
made-by areas n o make block at is even odd = search rules

block-of : (line : List Member) (member : Member) (n : ℕ) (block : RegisterBlock) (even : Bool) → (n % 2 == 0) ≡ even → slice_get (slave_blocks line member) n ≡ Some block
    → IsBlock member.slave.areas n block
block-of line member n block true is at =
    let so : n % 2 ≡ 0 = eqb-true (n % 2) 0 is in
    let areas = member.slave.areas in
    let mapped : ℕ × Area → RegisterBlock = λ e. fmmu_block e.0 e.1 (mapping_of line e.1.task (record { dir = e.1.dir; rank = member.rank; area = e.0 })) in
    made-by areas n (slice_get areas (n / 2)) sync_manager_block block refl
    (sym (get-first (λ e. sync_manager_block e.1) mapped (enumerate_from 0 areas) (n / 2) n (omega arith)
    ∙ ap (option_map (λ (e : ℕ × Area). sync_manager_block e.1)) (get-numbered-from-0 areas (n / 2))
    ∙ map-twice (λ (e : ℕ × Area). sync_manager_block e.1) (λ area. (n / 2, area)) (slice_get areas (n / 2))) ∙ at)
    (λ same area. refl) (λ other. absurd (other so))
block-of line member n block false is at =
    let so : n % 2 ≢ 0 = eqb-false (n % 2) 0 is in
    let areas = member.slave.areas in
    let mapped : ℕ × Area → RegisterBlock = λ e. fmmu_block e.0 e.1 (mapping_of line e.1.task (record { dir = e.1.dir; rank = member.rank; area = e.0 })) in
    made-by areas n (slice_get areas (n / 2)) (λ area. mapped (n / 2, area)) block refl
    (sym (get-second (λ e. sync_manager_block e.1) mapped (enumerate_from 0 areas) (n / 2) n (omega arith)
    ∙ ap (option_map mapped) (get-numbered-from-0 areas (n / 2))
    ∙ map-twice mapped (λ area. (n / 2, area)) (slice_get areas (n / 2))) ∙ at)
    (λ same. absurd (so same)) (λ other area. refl)

-- blocks at one register have one number

one-number : (slave : Slave) (n k : ℕ) (a b : RegisterBlock) (p q : Bool) → (n % 2 == 0) ≡ p → (k % 2 == 0) ≡ q → IsSlaveInside slave → IsBlock slave.areas n a → IsBlock slave.areas k b
    → a.register ≡ b.register → n ≡ k
one-number slave n k a b p q first second inside one two same = search (rules, eqb-true, one-manager, eqb-false, slice_get_within)

-- two blocks of a slave at one register are one

same-bytes : (line : List Member) (member : Option Member) (n k : ℕ) (a b : RegisterBlock) → ((m : Member) → member ≡ Some m → IsSlaveInside m.slave)
    → option_and_then (λ m. slice_get (slave_blocks line m) n) member ≡ Some a → option_and_then (λ m. slice_get (slave_blocks line m) k) member ≡ Some b
    → a.register ≡ b.register → a ≡ b
same-bytes line None n k a b inside one two same = cc
same-bytes line (Some m) n k a b inside one two same =
    let number = one-number m.slave n k a b (n % 2 == 0) (k % 2 == 0) refl refl (inside m refl)
    (block-of line m n a (n % 2 == 0) refl one) (block-of line m k b (k % 2 == 0) refl two) same in
    cc

pub one-block : (groups : List Declared) (a b : LineBlock) → lowest_fault (groups_of groups) ≡ None → Contains (line_blocks (line_from 1 groups)) a → Contains (line_blocks (line_from 1 groups)) b
    → a.station ≡ b.station → a.block.register ≡ b.block.register → a.block ≡ b.block
one-block groups a b none one two station register =
    let members = line_from 1 groups in
    let distinct = project-distinct groups none in
    same-bytes members (find (is_at b.station) members) a.number b.number a.block b.block
    (λ m found. (find-holds (λ (member : Member). IsSlaveInside member.slave) (is_at b.station) members m found (line-inside groups none)).0)
    (ap (λ (n : ℕ). option_and_then (λ (m : Member). slice_get (slave_blocks members m) a.number) (find (is_at n) members)) (sym station)
    ∙ configured-block members members a distinct one)
    (configured-block members members b distinct two) register

-- The number of blocks that a task waits for, counted area by area.
use Rattle.std.proofs.Common.{◌≡◌, ℕ, suc, ◌+◌, ◌*◌, ◌/◌, ◌%◌, ◌<◌, ◌&&◌, ◌||◌, Bool, true, false, cond, List, [], ◌∷◌, length, sum_by, refl, sym, ap, ap₂, ◌∙◌, arith}
use Rattle.std.specs.Prelude.{None, Some, Option, filter, is_some, slice_get, slice_index_or}
use Rattle.std.proofs.lemmas.Bool.{eq-eqb, ne_eqb}
use Rattle.std.proofs.lemmas.List.{length-map}
use Rattle.std.proofs.lemmas.List.Sums.{sum_by-cons}
use Rattle.std.proofs.lemmas.Option.{same_Some, slice_get_within}
use Rattle.hc_records.specs.declared.records.Slave.{Slave}
use Rattle.hc_records.specs.Edits.{over_limit_task}
use Rattle.hc_records.specs.Line.{State, groups_of, line}
use Rattle.hc_records.specs.Project.{lowest_fault}
use Rattle.hc_records.proofs.lemmas.Lines.{declared_slaves}
use Rattle.hc_registers.specs.Blocks.{LineBlock}
use Rattle.hc_registers.specs.RankLaws.{standing}
use Rattle.hc_registers.specs.RankPlaces.{places, stations}
use Rattle.hc_registers.proofs.lemmas.RanksGapless.{places-hold}
use Rattle.hc_registers.proofs.lemmas.RanksStanding.{length-places}
use Rattle.hc_events.specs.Holding.{MayHold}
use Rattle.hc_events.specs.Ready.{is_fmmu, names_among, names_task, serves_task}
use Rattle.hc_owed.specs.declared.area.JudgedArea.{JudgedArea}
use Rattle.hc_owed.specs.declared.area.RegisterStatus.{RegisterStatus}
use Rattle.hc_owed.specs.declared.task_set.TaskSet.{TaskSet}
use Rattle.hc_owed.specs.Areas.{blocks_waited, fmmu_concerns, is_register_unknown, named_set, owes_fmmu, owes_sync_manager, pair_of, set_if, sync_manager_concerns}
use Rattle.hc_owed.specs.Flags.{one}
use Rattle.hc_owed.specs.Readiness.{Holdings, area_slave, block_concerns, fmmu_at, held_set, judged_at, own_set, readiness_of, slot, standing_of, blocks_waited_for}
use Rattle.hc_owed.specs.ReadinessSteps.{IsReadinessFor}
use Rattle.hc_owed.specs.RegisterState.{Knowledge, lacks, owed_in}
use Rattle.hc_owed.specs.TaskSets.{either_set, every_task, has_task, no_task, some_task}
use Rattle.hc_owed.proofs.AreaPlaces.{get-range, length-range, of-area, slot-at}
use Rattle.hc_owed.proofs.AreaTasks.{serves-is}
use Rattle.hc_owed.proofs.JudgedAreas.{area_of, judged-none, judged-some, pair-first, pair-second}
use Rattle.hc_owed.proofs.ReadyTurns.{block-station, both-blocks}
use Rattle.hc_owed.proofs.TaskLists.{has-where}

-- a block at a place counts if it is owed and concerns the task
abbrev pub flagged : Knowledge → Holdings → State → ℕ → Option LineBlock → Bool
flagged known held state task None = false
flagged known held state task (Some block) = lacks known block && block_concerns held state task block

abbrev pub counted : Knowledge → Holdings → State → ℕ → Option LineBlock → ℕ
counted known held state task found = one (flagged known held state task found)

-- the owed blocks that concern a task, counted over the places
twice-filtered : (p q : Bool) (block : LineBlock) (test : LineBlock → Bool) (xs ys : List LineBlock) → test block ≡ q → ys ≡ filter test xs
    → length (filter test (cond p (block ∷ xs) xs)) ≡ one (p && q) + length ys
twice-filtered true true block test xs ys is same =
    let same-count = ap (λ (b : Bool). length (cond b (block ∷ filter test xs) (filter test xs))) is in
    let rest = ap (λ (l : List LineBlock). length l) same in
    omega (arith, same-count, rest)
twice-filtered true false block test xs ys is same =
    let same-count = ap (λ (b : Bool). length (cond b (block ∷ filter test xs) (filter test xs))) is in
    let rest = ap (λ (l : List LineBlock). length l) same in
    omega (arith, same-count, rest)
twice-filtered false q block test xs ys is same = let rest = ap (λ (l : List LineBlock). length l) same in omega (arith, rest)

counts-places : (known : Knowledge) (held : Holdings) (state : State) (task : ℕ) (all : List (Option LineBlock))
    → length (filter (block_concerns held state task) (filter (lacks known) (standing all))) ≡ sum_by (counted known held state task) all
counts-places known held state task [] = refl
counts-places known held state task (None ∷ all) =
    let rest = counts-places known held state task all in
    let sum = sum_by-cons (counted known held state task) None all in
    omega (arith, rest, sum)
counts-places known held state task (Some block ∷ all) =
    let rest = filter (lacks known) (standing all) in
    twice-filtered (lacks known block) (block_concerns held state task block) block (block_concerns held state task) rest (filter (block_concerns held state task) rest) refl refl
    ∙ ap (λ (n : ℕ). one (lacks known block && block_concerns held state task block) + n) (counts-places known held state task all)
    ∙ sym (sum_by-cons (counted known held state task) (Some block) all)

-- two places for each area

pairs-counted : {X Y : Type 0} (f : X → ℕ) (g : Y → ℕ) (areas : List X) (all : List Y) (none : Y) → length all ≡ 2 * length areas
    → ((n : ℕ) (area : X) → slice_get areas n ≡ Some area → f area ≡ g (slice_index_or all (2 * n) none) + g (slice_index_or all (2 * n + 1) none)) → sum_by f areas ≡ sum_by g all
pairs-counted f g [] [] none size each = refl
pairs-counted f g [] (a ∷ all) none size each = absurd (omega (arith, size))
pairs-counted f g (x ∷ areas) [] none size each = absurd (omega (arith, size))
pairs-counted f g (x ∷ areas) (a ∷ []) none size each = absurd (omega (arith, size))
pairs-counted {X} {Y} f g (x ∷ areas) (a ∷ b ∷ all) none size each =
    let here = each 0 x refl in
    let rest = pairs-counted f g areas all none (omega (arith, size)) (λ n area at.
    let shift : 2 * suc n ≡ suc (suc (2 * n)) = omega arith in
    let shift' : 2 * suc n + 1 ≡ suc (suc (2 * n + 1)) = omega arith in
    each (suc n) area at ∙ ap₂ (λ (i j : ℕ). g (slice_index_or (a ∷ b ∷ all) i none) + g (slice_index_or (a ∷ b ∷ all) j none)) shift shift') in
    let areas-sum = sum_by-cons f x areas in
    let first = sum_by-cons g a (b ∷ all) in
    let second = sum_by-cons g b all in
    omega (arith, here, rest, areas-sum, first, second)

-- one area

pub set-counted : (t : ℕ) (counts : Bool) (set : TaskSet) → t < 8 → has_task t (set_if counts set) ≡ (counts && has_task t set)
set-counted t true set low = refl
set-counted t false set low = has-where (λ (s : ℕ). false) t low

named-counted : (t : ℕ) (standing : RegisterStatus) (held : MayHold) → t < 8 → has_task t (named_set standing (held_set held)) ≡ (is_register_unknown standing || names_among t held)
named-counted t standing held low = by (is_register_unknown standing)
  where
    by : (unknown : Bool) → has_task t (cond unknown every_task (held_set held)) ≡ (unknown || names_among t held)
    by true = has-where (λ (s : ℕ). true) t low
    by false = has-where (λ (s : ℕ). names_among s held) t low

unknown-inside : (unknown apart : Bool) → is_register_unknown (standing_of true unknown apart) ≡ unknown
unknown-inside true apart = refl
unknown-inside false apart = refl

own-counted : (t : ℕ) (block : LineBlock) → t < 8 → has_task t (own_set (Some block)) ≡ names_task t block.block.bytes
own-counted t block low = has-where (λ (s : ℕ). names_task s block.block.bytes) t low

or-no : (b : Bool) → (b || false) ≡ b
or-no true = refl
or-no false = refl

module _ (known : Knowledge) (held : Holdings) (unplugged : ℕ → Bool) (state : State) (t : ℕ) (low : t < 8) (project : lowest_fault (groups_of state.groups) ≡ None) (uncrowded : over_limit_task (line state) ≡ None) where
  -- the sync manager's block
  first-block : (i : ℕ) (slave : Slave) (sync_manager fmmu : LineBlock) → area_slave state i ≡ Some slave → slot state (2 * i) ≡ Some sync_manager → slot state (2 * i + 1) ≡ Some fmmu
      → (lacks known sync_manager && names_task t fmmu.block.bytes) ≡ (lacks known sync_manager && block_concerns held state t sync_manager)
  first-block i slave sync_manager fmmu area at at' =
      let serves = serves-is state t project uncrowded i (2 * i) fmmu sync_manager at' at (omega arith) in
      let number = (of-area state (2 * i) sync_manager (slot-at state (2 * i) sync_manager at)).number in
      let even : is_fmmu sync_manager.number ≡ false = ne_eqb (sync_manager.number % 2) 1 (λ odd. omega (arith, number, odd)) in
      ap (λ (b : Bool). lacks known sync_manager && b)
      (sym serves ∙ sym (or-no (serves_task state t sync_manager))
      ∙ ap (λ (b : Bool). serves_task state t sync_manager || (b && ((held sync_manager.station sync_manager.number).unknown || names_among t (held sync_manager.station sync_manager.number)))) (sym even))

  -- the FMMU's block
  second-block : (i : ℕ) (slave : Slave) (fmmu : LineBlock) → area_slave state i ≡ Some slave → slot state (2 * i + 1) ≡ Some fmmu
      → (lacks known fmmu && (names_task t fmmu.block.bytes || ((held slave.station (fmmu_at i)).unknown || names_among t (held slave.station (fmmu_at i))))) ≡ (lacks known fmmu && block_concerns held state t fmmu)
  second-block i slave fmmu area at =
      let serves = serves-is state t project uncrowded i (2 * i + 1) fmmu fmmu at at (omega arith) in
      let number = (of-area state (2 * i + 1) fmmu (slot-at state (2 * i + 1) fmmu at)).number in
      let index : fmmu.number ≡ fmmu_at i = omega (arith, number) in
      let odd : is_fmmu fmmu.number ≡ true = eq-eqb (fmmu.number % 2) 1 (omega (arith, number)) in
      let station = block-station state i (2 * i + 1) slave fmmu area (omega arith) at in
      ap (λ (b : Bool). lacks known fmmu && b)
      (ap (λ (b : Bool). b || ((held slave.station (fmmu_at i)).unknown || names_among t (held slave.station (fmmu_at i)))) (sym serves)
      ∙ ap₂ (λ (s n : ℕ). serves_task state t fmmu || ((held s n).unknown || names_among t (held s n))) (sym station) (sym index)
      ∙ ap (λ (b : Bool). serves_task state t fmmu || (b && ((held fmmu.station fmmu.number).unknown || names_among t (held fmmu.station fmmu.number)))) (sym odd))

  area-flags : (a b : Bool) (first second : Option LineBlock) (holds : MayHold) (plugged : Bool) → is_some first ≡ is_some second → (second ≡ None → (a ≡ false) × (b ≡ false))
      → ((fmmu : LineBlock) → second ≡ Some fmmu → (sync_manager : LineBlock) → first ≡ Some sync_manager → (a && names_task t fmmu.block.bytes) ≡ (lacks known sync_manager && block_concerns held state t sync_manager))
      → ((fmmu : LineBlock) → second ≡ Some fmmu → (b && (names_task t fmmu.block.bytes || (holds.unknown || names_among t holds))) ≡ (lacks known fmmu && block_concerns held state t fmmu))
      → (has_task t (sync_manager_concerns (area_of a b second holds plugged)) ≡ flagged known held state t first) × (has_task t (fmmu_concerns (area_of a b second holds plugged)) ≡ flagged known held state t second)
  area-flags a b None None holds plugged same none own own' =
      let no' = none refl in
      let x : has_task t (sync_manager_concerns (area_of a b None holds plugged)) ≡ false =
      set-counted t (owes_sync_manager (pair_of a b)) (own_set None) low ∙ ap (λ (c : Bool). c && has_task t (own_set None)) (pair-first a b ∙ no'.0) in
      let y : has_task t (fmmu_concerns (area_of a b None holds plugged)) ≡ false =
      set-counted t (owes_fmmu (pair_of a b)) (either_set (own_set None) (named_set (area_of a b None holds plugged).standing (held_set holds))) low
      ∙ ap (λ (c : Bool). c && has_task t (either_set (own_set None) (named_set (area_of a b None holds plugged).standing (held_set holds)))) (pair-second a b ∙ no'.1) in
      (x, y)
  area-flags a b (Some sync_manager) (Some fmmu) holds plugged same none own own' =
      let standing = (area_of a b (Some fmmu) holds plugged).standing in
      let x : has_task t (sync_manager_concerns (area_of a b (Some fmmu) holds plugged)) ≡ (lacks known sync_manager && block_concerns held state t sync_manager) =
      set-counted t (owes_sync_manager (pair_of a b)) (own_set (Some fmmu)) low
      ∙ ap₂ (λ (c d : Bool). c && d) (pair-first a b) (own-counted t fmmu low) ∙ own fmmu refl sync_manager refl in
      let named : has_task t (either_set (own_set (Some fmmu)) (named_set standing (held_set holds))) ≡ (names_task t fmmu.block.bytes || (holds.unknown || names_among t holds)) =
      has-where (λ (s : ℕ). has_task s (own_set (Some fmmu)) || has_task s (named_set standing (held_set holds))) t low
      ∙ ap₂ (λ (c d : Bool). c || d) (own-counted t fmmu low)
      (named-counted t standing holds low ∙ ap (λ (c : Bool). c || names_among t holds) (unknown-inside holds.unknown (plugged && some_task (held_set holds)))) in
      let y : has_task t (fmmu_concerns (area_of a b (Some fmmu) holds plugged)) ≡ (lacks known fmmu && block_concerns held state t fmmu) =
      set-counted t (owes_fmmu (pair_of a b)) (either_set (own_set (Some fmmu)) (named_set standing (held_set holds))) low
      ∙ ap₂ (λ (c d : Bool). c && d) (pair-second a b) named ∙ own' fmmu refl in
      (x, y)
  area-flags a b None (Some fmmu) holds plugged same none own own' = cc
  area-flags a b (Some sync_manager) None holds plugged same none own own' = cc

  -- the flags of an area are those of its two places
  pub one-area-flags : (i : ℕ) (found : Option Slave) → area_slave state i ≡ found
      → (has_task t (sync_manager_concerns (judged_at known held unplugged state i)) ≡ flagged known held state t (slot state (2 * i)))
      × (has_task t (fmmu_concerns (judged_at known held unplugged state i)) ≡ flagged known held state t (slot state (2 * i + 1)))
  one-area-flags i None area =
      let none = judged-none known held unplugged state i area in (
        ap (λ (a : JudgedArea). has_task t (sync_manager_concerns a)) none ∙ no-own ∙ sym (ap (flagged known held state t) (no-slot (2 * i) (omega arith) (slot state (2 * i)) refl)),
        ap (λ (a : JudgedArea). has_task t (fmmu_concerns a)) none ∙ no-own ∙ sym (ap (flagged known held state t) (no-slot (2 * i + 1) (omega arith) (slot state (2 * i + 1)) refl)),
      )
    where
      no-own : has_task t no_task ≡ false
      no-own = has-where (λ (s : ℕ). false) t low

      no-slot : (p : ℕ) → p / 2 ≡ i → (found : Option LineBlock) → slot state p ≡ found → slot state p ≡ None
      no-slot p half None is = is
      no-slot p half (Some block) is =
          let own = of-area state p block (slot-at state p block is) in
          let never : None ≡ Some own.slave = sym area ∙ ap (area_slave state) (sym half) ∙ own.area in cc
  one-area-flags i (Some slave) area =
      let first = slot state (2 * i) in
      let second = slot state (2 * i + 1) in
      let same = both-blocks state i slave project area in
      let is = judged-some known held unplugged state i slave area in
      let flags = area-flags (owed_in known first) (owed_in known second) first second (held slave.station (fmmu_at i)) (unplugged slave.station) same
      (λ none. (unowed first (same ∙ ap (λ (o : Option LineBlock). is_some o) none), ap (owed_in known) none))
      (λ fmmu at' sync_manager at. ap (λ (b : Bool). b && names_task t fmmu.block.bytes) (ap (owed_in known) at) ∙ first-block i slave sync_manager fmmu area at at')
      (λ fmmu at'. ap (λ (b : Bool). b && (names_task t fmmu.block.bytes || ((held slave.station (fmmu_at i)).unknown || names_among t (held slave.station (fmmu_at i))))) (ap (owed_in known) at')
      ∙ second-block i slave fmmu area at') in
      (ap (λ (a : JudgedArea). has_task t (sync_manager_concerns a)) is ∙ flags.0, ap (λ (a : JudgedArea). has_task t (fmmu_concerns a)) is ∙ flags.1)
    where
      unowed : (found : Option LineBlock) → is_some found ≡ false → owed_in known found ≡ false
      unowed None none = refl
      unowed (Some block) none = cc

  one-area-counts : (i : ℕ) → blocks_waited t (judged_at known held unplugged state i) ≡ counted known held state t (slot state (2 * i)) + counted known held state t (slot state (2 * i + 1))
  one-area-counts i = let flags = one-area-flags i (area_slave state i) refl in ap₂ (λ (c d : Bool). one c + one d) flags.0 flags.1

  pub waits-counted : sum_by (blocks_waited t) (readiness_of known held unplugged state) ≡ length (blocks_waited_for known held state t)
  waits-counted =
      let areas = readiness_of known held unplugged state in
      let count = 8 * length (stations state) in
      let size = length-range (judged_at known held unplugged state) count in
      let named = length-map (declared_slaves state.groups) (λ (slave : Slave). slave.station) in
      let all = length-places state in
      pairs-counted (blocks_waited t) (counted known held state t) areas (places state) None (omega (arith, size, named, all)) each
      ∙ sym (counts-places known held state t (places state))
      ∙ ap (λ (blocks : List LineBlock). length (filter (block_concerns held state t) (filter (lacks known) blocks))) (places-hold state project)
    where
      each : (n : ℕ) (area : JudgedArea) → slice_get (readiness_of known held unplugged state) n ≡ Some area
          → blocks_waited t area ≡ counted known held state t (slice_index_or (places state) (2 * n) None) + counted known held state t (slice_index_or (places state) (2 * n + 1) None)
      each n area at =
          let count = 8 * length (stations state) in
          let within = slice_get_within (readiness_of known held unplugged state) n area at in
          let size = length-range (judged_at known held unplugged state) count in
          let is = same_Some area (judged_at known held unplugged state n) (sym at ∙ get-range (judged_at known held unplugged state) count n (omega (arith, within, size))) in
          ap (blocks_waited t) is ∙ one-area-counts n

pub waiting-right : (known : Knowledge) (held : Holdings) (unplugged : ℕ → Bool) (state : State) (areas : List JudgedArea) (t : ℕ) → t < 8 → IsReadinessFor known held unplugged state areas → sum_by (blocks_waited t) areas ≡ length (blocks_waited_for known held state t)
waiting-right known held unplugged state areas t low is = ap (λ (l : List JudgedArea). sum_by (blocks_waited t) l) is.right ∙ waits-counted known held unplugged state t low is.project is.uncrowded

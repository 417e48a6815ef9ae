-- An area that an edit changes without a fault stays in its ranges, with offered PDOs, and no wider than a datagram.
use Rattle.std.proofs.Common.{◌≡◌, ℕ, ◌≤◌, Bool, false, not, List, [], ◌∷◌, Option, Some, None, length, arith, rules}
use Rattle.std.specs.Prelude.{◌+◌, ◌-◌, is_none, nat_lt}
use Rattle.std.specs.List.{list_any}
use Rattle.std.specs.Option.{option_map_or}
use Rattle.std.proofs.lemmas.Bool.{ltb-false}
use Rattle.std.proofs.lemmas.Bool.Decides.{nat_tests}
use Rattle.hc_records.specs.declared.limits.TheConstants.{LAST_SYNC_MANAGER, MEMORY_END, MEMORY_START, MOST_PDOS, TASKS}
use Rattle.hc_records.specs.declared.records.Area.{Area}
use Rattle.hc_records.specs.declared.records.Declared.{Declared}
use Rattle.hc_records.specs.declared.edit.Edit.TheVariants.{Remap, Move}
use Rattle.hc_records.specs.declared.faults.EditFault.{EditFault}
use Rattle.hc_records.specs.declared.faults.EditFault.TheVariants.{UnknownStation, Absent, NoSuchArea, UnknownPdo, RepeatedPdo, AreaTooBig}
use Rattle.hc_records.specs.Lists.{has_repeat, lowest}
use Rattle.hc_records.specs.Edits.{area_at, is_too_big}
use Rattle.hc_records.specs.Area.{has_unknown}
use Rattle.hc_records.specs.Project.{area_outside, has_unknown_pdo, is_outside, is_wide, pdo_outside, reach}
use Rattle.hc_records.proofs.lemmas.Projects.{none-holds}
use Rattle.hc_groups.specs.Edits.{own_fault, groups_state}
use Rattle.hc_groups.proofs.Repeats.{no-longer}

-- an area with PDOs assigned, and one in a task
abbrev pub with_pdos : List ℕ → Area → Area
with_pdos pdos area = record area { assigned = pdos }

abbrev pub in_task : ℕ → Area → Area
in_task task area = record area { task = task }

-- a change of an area brings no condition about
pub record IsHarmless (change : Area → Area) (area : Area) : Type 0 where
  pub inside : area_outside area ≡ false → area_outside (change area) ≡ false
  pub offered : has_unknown_pdo area ≡ false → has_unknown_pdo (change area) ≡ false
  pub narrow : is_wide area ≡ false → is_wide (change area) ≡ false

-- the conditions of an area's ranges, one by one
record IsInside (area : Area) : Type 0 where
  manager : nat_lt LAST_SYNC_MANAGER area.sm ≡ false
  start : is_outside MEMORY_START (MEMORY_END - 1) area.phys ≡ false
  task : not (nat_lt area.task TASKS) ≡ false
  assigned : nat_lt MOST_PDOS (length area.assigned) ≡ false
  offered : nat_lt MOST_PDOS (length area.offered) ≡ false
  pdos : list_any pdo_outside area.offered ≡ false
  end : nat_lt MEMORY_END (area.phys + reach area) ≡ false

inside-parts : (area : Area) → area_outside area ≡ false → IsInside area
inside-parts area inside = search rules

inside-from : (area : Area) → IsInside area → area_outside area ≡ false
inside-from area is = search rules

few : (a b most : ℕ) → a ≤ b → nat_lt most b ≡ false → nat_lt most a ≡ false
few a b most low within = let least : b ≤ most = ltb-false most b within in grind (arith, nat_tests)

-- PDOs that an edit may assign to an area
record IsAssignable (area : Area) (pdos : List ℕ) : Type 0 where
  known : has_unknown pdos area ≡ false
  once : has_repeat pdos ≡ false
  narrow : is_too_big pdos area ≡ false

pdos-harmless : (area : Area) (pdos : List ℕ) → IsAssignable area pdos → IsHarmless (with_pdos pdos) area
pdos-harmless area pdos is = record {
  inside = λ inside.
      let parts = inside-parts area inside in
      let most : length pdos ≤ length area.offered = no-longer (λ pdo. pdo.index) pdos area.offered is.once is.known in
      inside-from (with_pdos pdos area) (record {
        manager = parts.manager;
        start = parts.start;
        task = parts.task;
        assigned = few (length pdos) (length area.offered) MOST_PDOS most parts.offered;
        offered = parts.offered;
        pdos = parts.pdos;
        end = parts.end;
      });
  offered = search rules;
  narrow = λ narrow. is.narrow;
}

-- the area that an edit without a fault judges
pub record IsJudged (groups : List Declared) (station index : ℕ) (change : Area → Area) : Type 0 where
  pub area : Area
  pub found : area_at (groups_state groups) station index ≡ Some area
  pub harmless : IsHarmless change area

abbrev remap_faults : Bool → Bool → Option Area → List ℕ → List (Bool × EditFault)
remap_faults unknown absent found pdos =
    (unknown, UnknownStation)
    ∷ (absent, Absent)
    ∷ (is_none found, NoSuchArea)
    ∷ (option_map_or (has_unknown pdos) found false, UnknownPdo)
    ∷ (has_repeat pdos, RepeatedPdo)
    ∷ (option_map_or (is_too_big pdos) found false, AreaTooBig)
    ∷ []

judged-remap : (found : Option Area) (unknown absent : Bool) (groups : List Declared) (station index : ℕ) (pdos : List ℕ) → area_at (groups_state groups) station index ≡ found →
    lowest (remap_faults unknown absent found pdos) ≡ None → IsJudged groups station index (with_pdos pdos)
judged-remap found unknown absent groups station index pdos is none = search (rules, none-holds, pdos-harmless)

pub remap-judged : (groups : List Declared) (station index : ℕ) (pdos : List ℕ) → own_fault groups (Remap station index pdos) ≡ None → IsJudged groups station index (with_pdos pdos)
remap-judged groups station index pdos none = search (rules, judged-remap)

pub move-judged : (groups : List Declared) (station index task : ℕ) → own_fault groups (Move station index task) ≡ None → IsJudged groups station index (in_task task)
move-judged groups station index task none = search rules

-- What an area is read as, by what is read at its keys.
use Rattle.std.proofs.Common.{◌≡◌, ℕ, ◌+◌, ◌-◌, nat_lt, List, refl}
use Rattle.std.specs.Prelude.{codes}
use Rattle.toml.specs.Data.{Data, get}
use Rattle.hc_records.specs.declared.limits.TheConstants.{LAST_SYNC_MANAGER, MEMORY_START, MEMORY_END, MOST_PDOS, TASKS}
use Rattle.hc_records.specs.declared.records.Area.{Area}
use Rattle.hc_records.specs.declared.records.Dir.{Dir}
use Rattle.hc_records.specs.declared.records.Pdo.{Pdo}
use Rattle.hc_records.specs.Project.{reach}
use Rattle.hc_project.specs.declared.places.Key.TheVariants as key
use Rattle.hc_project.specs.declared.places.Place.{Place}
use Rattle.hc_project.specs.declared.reading.Reading.{Reading}
use Rattle.hc_project.specs.declared.reading.SyntaxFaults.{SyntaxFaults}
use Rattle.hc_project.specs.Arrays.{each, needed_array, optional_array, over}
use Rattle.hc_project.specs.Levels.{area, assigned_index, pdo}
use Rattle.hc_project.specs.Places.{in_area, with_key}
use Rattle.hc_project.specs.Reading.{both, no_syntax_faults, outside_if}
use Rattle.hc_project.specs.Values.{byte, direction, word}

-- the area of what was read at its keys
abbrev pub area_made : Reading ℕ → Reading Dir → Reading ℕ → Reading ℕ → Reading (List ℕ) → Reading (List Pdo) → Area
area_made sm dir phys task assigned offered = record {
  sm = sm.value;
  dir = dir.value;
  phys = phys.value;
  offered = offered.value;
  assigned = assigned.value;
  task = task.value;
}

pub area_is : (most : ℕ) (place here : Place) (index : ℕ) (d : Data) (sm : Reading ℕ) (dir : Reading Dir) (phys task : Reading ℕ) (assigned : Reading (List ℕ)) (offered : Reading (List Pdo)) (limit end all : SyntaxFaults)
    → here ≡ in_area place index
    → sm ≡ byte 0 LAST_SYNC_MANAGER (with_key here key.Sm) (get (codes "sm") d)
    → dir ≡ direction (with_key here key.Dir) (get (codes "dir") d)
    → phys ≡ word MEMORY_START (MEMORY_END - 1) (with_key here key.Phys) (get (codes "phys") d)
    → task ≡ byte 0 (TASKS - 1) (with_key here key.Task) (get (codes "task") d)
    → assigned ≡ needed_array (each (assigned_index MOST_PDOS here) 0) (with_key here key.Assigned) (get (codes "assigned") d)
    → offered ≡ optional_array (each (pdo MOST_PDOS here) 0) (with_key here key.Pdos) (get (codes "pdo") d)
    → limit ≡ over most index here
    → end ≡ outside_if (nat_lt MEMORY_END (phys.value + reach (area_made sm dir phys task assigned offered))) (with_key here key.Phys)
    → all ≡ both limit (both sm.syntax_faults (both dir.syntax_faults (both phys.syntax_faults (both end (both task.syntax_faults (both assigned.syntax_faults (both offered.syntax_faults no_syntax_faults)))))))
    → record { value = area_made sm dir phys task assigned offered; syntax_faults = all } ≡ area most place index d
area_is most place here index d sm dir phys task assigned offered limit end all here_is sm_is dir_is phys_is task_is assigned_is offered_is limit_is end_is all_is =
    rw (all_is, end_is, limit_is, sm_is, dir_is, phys_is, task_is, assigned_is, offered_is, here_is) refl

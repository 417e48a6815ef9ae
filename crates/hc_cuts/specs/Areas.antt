-- The areas of the line by the ranks of their slaves, and their widths in a task.
use Rattle.std.specs.Prelude.{ℕ, ◌+◌, ◌==◌, ◌&&◌, if◌then◌else◌, List, [], ◌∷◌, ◌++◌, map, slice_get, slice_index_or, Option, Some, None}
use Rattle.std.specs.List.{flat_map}
use Rattle.hc_records.specs.declared.records.Dir.{Dir}
use Rattle.hc_records.specs.declared.records.Area.{Area}
use Rattle.hc_records.specs.declared.records.Declared.{Declared}
use Rattle.hc_records.specs.declared.keys.Key.{Key}
use Rattle.hc_records.specs.Keys.{same_dir}
use Rattle.hc_records.specs.declared.records.Dir.TheVariants.{Out, In}
use Rattle.hc_records.specs.Area.{width}
use Rattle.hc_records.specs.TaskList.{Keyed, belongs}

-- the areas of each slave of a line, in the order of their ranks
abbrev pub AreaLine : Type 0
AreaLine = List (List Area)

-- the areas of each slave of a declared group; none if the group is not present
abbrev pub present_areas : Declared → AreaLine
present_areas declared = map (λ slave. if declared.present then slave.areas else []) declared.group.slaves

-- the areas of all declared slaves: the first slave has rank 1
abbrev pub areas_by_rank : List Declared → AreaLine
areas_by_rank groups = flat_map present_areas groups

-- the width of an area in a task, under a key of a direction
abbrev pub own_width : ℕ → Dir → Option Area → ℕ
own_width task dir None = 0
own_width task dir (Some area) = if (area.task == task) && same_dir area.dir dir then width area else 0

-- the areas of the slave with a rank; no slave has rank 0
abbrev pub areas_of_rank : AreaLine → ℕ → List Area
areas_of_rank slaves rank = slice_index_or ([] ∷ slaves) rank []

-- the area that a key names, if its slave has one
abbrev pub area_in : AreaLine → Key → Option Area
area_in slaves key = slice_get (areas_of_rank slaves key.rank) key.area

-- the width of a key in a task, by the areas of its slave
abbrev pub slave_width : ℕ → List Area → Key → ℕ
slave_width task areas key = own_width task key.dir (slice_get areas key.area)

-- the width of a key in a task, by the areas of all slaves
abbrev pub width_at : ℕ → AreaLine → Key → ℕ
width_at task slaves key = slave_width task (areas_of_rank slaves key.rank) key

-- the areas of a slave that a task has in a direction, from an index in its record on, with their keys and widths
abbrev pub area_list : ℕ → Dir → ℕ → ℕ → List Area → List Keyed
area_list task dir rank index [] = []
area_list task dir rank index (area ∷ areas) =
    if belongs task dir area
    then (record { dir = dir; rank = rank; area = index }, width area) ∷ area_list task dir rank (index + 1) areas
    else area_list task dir rank (index + 1) areas

-- the areas of slaves in a row that a task has in a direction, from a rank on, with their keys and widths
abbrev pub rank_list : ℕ → Dir → ℕ → AreaLine → List Keyed
rank_list task dir rank [] = []
rank_list task dir rank (areas ∷ slaves) = area_list task dir rank 0 areas ++ rank_list task dir (rank + 1) slaves

-- a task's list, by the areas of all slaves
abbrev pub list_by : ℕ → AreaLine → List Keyed
list_by task slaves = rank_list task Out 1 slaves ++ rank_list task In 1 slaves

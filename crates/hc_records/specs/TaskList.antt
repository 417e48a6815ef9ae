-- The list of a task: what its datagrams carry, in order.
use Rattle.std.specs.Prelude.{ℕ, ◌==◌, ◌&&◌, nat_lt, Bool, List, ◌++◌, map, filter}
use Rattle.std.specs.List.{enumerate_from, flat_map}
use Rattle.hc_records.specs.declared.records.Dir.{Dir}
use Rattle.hc_records.specs.declared.records.Dir.TheVariants.{Out, In}
use Rattle.hc_records.specs.declared.records.Area.{Area}
use Rattle.hc_records.specs.declared.keys.Key.{Key}
use Rattle.hc_records.specs.Keys.{same_dir}
use Rattle.hc_records.specs.Area.{width}
use Rattle.hc_records.specs.Line.{Member}

-- an area of the line with its key
pub record Listed : Type 0 where
  pub key : Key
  pub area : Area

-- a key with a width in bits
abbrev pub Keyed : Type 0
Keyed = Key × ℕ

-- a non-empty area of a task and a direction
abbrev pub belongs : ℕ → Dir → Area → Bool
belongs task dir area = (area.task == task) && same_dir area.dir dir && nat_lt 0 (width area)

-- the non-empty areas of a slave in a task and a direction, in record order
abbrev pub slave_areas : ℕ → Dir → Member → List Listed
slave_areas task dir member =
    map (λ e. record { key = record { dir = dir; rank = member.rank; area = e.0 }; area = e.1 })
    (filter (λ e. belongs task dir e.1) (enumerate_from 0 member.slave.areas))

-- a task's non-empty output areas in line order, then its non-empty input areas in line order
abbrev pub task_areas : ℕ → List Member → List Listed
task_areas task line = flat_map (slave_areas task Out) line ++ flat_map (slave_areas task In) line

-- the key of an area of the line, with the area's width in bits
abbrev pub keyed : Listed → Keyed
keyed listed = (listed.key, width listed.area)

-- the task's list: the keys of these areas with their widths
abbrev pub task_list : ℕ → List Member → List Keyed
task_list task line = map keyed (task_areas task line)

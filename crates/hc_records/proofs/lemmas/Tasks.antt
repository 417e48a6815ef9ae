-- The areas of a task's list, from those of a line's slaves.
use Rattle.std.proofs.Common.{◌≡◌, ℕ, true, List}
use Rattle.std.specs.Prelude.{All, filter}
use Rattle.std.specs.List.{enumerate_from, flat_map}
use Rattle.std.proofs.lemmas.List.Elements.{All-append, All-map, All-weaker}
use Rattle.hc_records.specs.declared.records.Dir.{Dir}
use Rattle.hc_records.specs.declared.records.Dir.TheVariants.{Out, In}
use Rattle.hc_records.specs.declared.records.Area.{Area}
use Rattle.hc_records.specs.Line.{Member}
use Rattle.hc_records.specs.TaskList.{Keyed, Listed, belongs, keyed, slave_areas, task_areas, task_list}
use Rattle.hc_records.proofs.lemmas.Lists.{All-flat_map, All-passing}

-- an area of a slave with its number in the slave's record, listed
abbrev pub listed : Dir → ℕ → ℕ × Area → Listed
listed dir rank e = record { key = record { dir = dir; rank = rank; area = e.0 }; area = e.1 }

-- what holds of each area of the slave that belongs
pub slave-areas-all : (P : Listed → Type 0) (task : ℕ) (dir : Dir) (member : Member) →
    All (λ e. belongs task dir e.1 ≡ true → P (listed dir member.rank e)) (enumerate_from 0 member.slave.areas) → All P (slave_areas task dir member)
slave-areas-all P task dir member all =
    All-map P (listed dir member.rank) (filter (λ e. belongs task dir e.1) (enumerate_from 0 member.slave.areas))
    (All-passing (λ e. P (listed dir member.rank e)) (λ e. belongs task dir e.1) (enumerate_from 0 member.slave.areas) all)

-- what holds of each area of each slave of the line in either direction
pub task-list-all : (P : Keyed → Type 0) (task : ℕ) (line : List Member) →
    ((dir : Dir) → All (λ member. All (λ e. belongs task dir e.1 ≡ true → P (keyed (listed dir member.rank e))) (enumerate_from 0 member.slave.areas)) line) → All P (task_list task line)
task-list-all P task line all =
    All-map P keyed (task_areas task line)
    (All-append (λ area. P (keyed area)) (flat_map (slave_areas task Out) line) (flat_map (slave_areas task In) line) (direction Out) (direction In))
  where
    direction : (dir : Dir) → All (λ area. P (keyed area)) (flat_map (slave_areas task dir) line)
    direction dir =
        All-flat_map (λ area. P (keyed area)) (slave_areas task dir) line
        (All-weaker (λ member. All (λ e. belongs task dir e.1 ≡ true → P (keyed (listed dir member.rank e))) (enumerate_from 0 member.slave.areas))
        (λ member. All (λ area. P (keyed area)) (slave_areas task dir member)) (λ member. slave-areas-all (λ area. P (keyed area)) task dir member) line (all dir))

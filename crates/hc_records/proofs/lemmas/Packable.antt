-- Each area of a task's list of a project has a width, and fits a datagram.
use Rattle.std.proofs.Common.{◌≡◌, ℕ, ◌<◌, true}
use Rattle.std.specs.Prelude.{All, None, map, nat_lt, ◌&&◌, ◌==◌}
use Rattle.std.specs.List.{enumerate_from}
use Rattle.std.proofs.lemmas.Bool.{and_parts, ltb-true}
use Rattle.std.proofs.lemmas.List.Elements.{All-weaker}
use Rattle.hc_records.specs.declared.records.Dir.{Dir}
use Rattle.hc_records.specs.declared.records.Area.{Area}
use Rattle.hc_records.specs.Keys.{same_dir}
use Rattle.hc_records.specs.Area.{width}
use Rattle.hc_records.specs.Line.{State, line}
use Rattle.hc_records.specs.Limits.{IsAreaInside, IsSlaveInside}
use Rattle.hc_records.specs.TaskList.{belongs, keyed, task_list}
use Rattle.hc_records.specs.Project.{lowest_fault}
use Rattle.hc_records.specs.Laws.{IsPackable}
use Rattle.hc_records.proofs.lemmas.Lists.{All-enumerate_from}
use Rattle.hc_records.proofs.lemmas.Slaves.{line-inside}
use Rattle.hc_records.proofs.lemmas.Tasks.{listed, task-list-all}

-- an area that belongs to a task has a width
belongs-width : (task : ℕ) (dir : Dir) (area : Area) → belongs task dir area ≡ true → 0 < width area
belongs-width task dir area belonging = ltb-true 0 (width area) (and_parts ((area.task == task) && same_dir area.dir dir) (nat_lt 0 (width area)) belonging).1

pub project-packable : (state : State) (task : ℕ) → lowest_fault (map (λ declared. declared.group) state.groups) ≡ None → All IsPackable (task_list task (line state))
project-packable state task none =
    task-list-all IsPackable task (line state)
    (λ dir. All-weaker (λ member. IsSlaveInside member.slave) (λ member. All (λ e. belongs task dir e.1 ≡ true → IsPackable (keyed (listed dir member.rank e))) (enumerate_from 0 member.slave.areas))
    (λ member inside.
    All-weaker (λ e. IsAreaInside e.1) (λ e. belongs task dir e.1 ≡ true → IsPackable (keyed (listed dir member.rank e)))
    (λ e own belonging. record { some = belongs-width task dir e.1 belonging; narrow = own.narrow })
    (enumerate_from 0 member.slave.areas) (All-enumerate_from IsAreaInside 0 member.slave.areas inside.areas))
    (line state) (line-inside state.groups none))

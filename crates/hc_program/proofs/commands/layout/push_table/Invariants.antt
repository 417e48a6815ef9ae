use Rattle.std.proofs.Common.{◌≡◌, ◌++◌, string_bytes}
use Rattle.std.specs.List.{flat_map, range_with_len}
use Rattle.hc_program.specs.Layout.{task_text}
use Rattle.hc_program.proofs.commands.layout.push_table.Given as goal

-- the tasks so far are printed
abbrev pub invariant-loop-task : goal.invariant-loop-task
invariant-loop-task l = string_bytes l.out ≡ string_bytes l.fn.out ++ flat_map (task_text l.places) (range_with_len 0 l.task)

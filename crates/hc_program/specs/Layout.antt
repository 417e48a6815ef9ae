-- The command `layout`: the datagrams of every task.
use Rattle.std.specs.Prelude.{ℕ, is_some, if◌then◌else◌, List, [], ◌++◌, length, codes}
use Rattle.std.specs.Option.{option_map_or}
use Rattle.std.specs.List.{flat_map, range_with_len}
use Rattle.std.specs.Fmt.{decimal}
use Rattle.hc_records.specs.declared.limits.TheConstants.{MOST_DATAGRAMS}
use Rattle.hc_records.specs.Line.{State, line}
use Rattle.hc_records.specs.Image.{tasks}
use Rattle.hc_places.specs.declared.table.Datagram.{Datagram}
use Rattle.hc_places.specs.Table.{Table, datagram_in, part_in}
use Rattle.hc_plan.specs.Configuration.{config}
use Rattle.hc_text.specs.Printing.{hex_address}

-- the line of a datagram with a number
unfoldable pub datagram_text : ℕ → Datagram → List ℕ
datagram_text number datagram =
    codes "datagram "
    ++ decimal number
    ++ codes " address "
    ++ hex_address datagram.address
    ++ codes " length "
    ++ decimal datagram.length
    ++ codes " expected "
    ++ decimal datagram.expected
    ++ codes "\n"

-- the line of a task's datagram with a number; those of all of them, in the order of their numbers
abbrev pub numbered_text : Table → ℕ → ℕ → List ℕ
numbered_text table task number = option_map_or (datagram_text number) (datagram_in table task number) []

-- the lines (`datagram_text`) of those of the task's datagrams 0 to 15 that the table has, in order
unfoldable pub datagrams_text : Table → ℕ → List ℕ
datagrams_text table task = flat_map (numbered_text table task) (range_with_len 0 MOST_DATAGRAMS)

-- the line of a task: the bytes of its outputs and of its inputs
abbrev pub task_part_text : ℕ → ℕ × ℕ → List ℕ
task_part_text task part =
    codes "task " ++ decimal task ++ codes " parts " ++ decimal part.0 ++ codes " " ++ decimal part.1 ++ codes "\n"

-- the lines of a task, if it has a datagram
unfoldable pub task_text : Table → ℕ → List ℕ
task_text table task =
    if is_some (datagram_in table task 0) then task_part_text task (part_in table task) ++ datagrams_text table task else []

-- the lines of the tasks 0 to 7, in order (`task_text`)
unfoldable pub table_text : Table → List ℕ
table_text table = flat_map (task_text table) tasks

-- the epoch, then the lines of each task
unfoldable pub layout_text : State → List ℕ
layout_text state = codes "epoch " ++ decimal state.epoch ++ codes "\n" ++ table_text (config (line state)).table

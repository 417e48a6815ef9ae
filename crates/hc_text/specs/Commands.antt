-- The commands, and the words that each consists of.
use Rattle.std.specs.Prelude.{ℕ, if◌then◌else◌, List, Option, option_map, codes}
use Rattle.std.specs.Str.{bytes_eq}
use Rattle.hc_text.specs.declared.commands.Command.{Command}
use Rattle.hc_text.specs.declared.commands.Command.TheVariants as command
use Rattle.hc_text.specs.EditWords.{edit_in}
use Rattle.hc_text.specs.MemoryWords.{peek_in, poke_in}
use Rattle.hc_text.specs.PostWords.{post_in}
use Rattle.hc_text.specs.ShortCommands.{alone_in, arrive_in, place_command, read_in, regs_in, show_in, view_in}
use Rattle.hc_text.specs.TaskWords.{cycle_in, send_in}

-- the command with a name and arguments; here those of the simulated line, and the edits
abbrev pub line_command_in : List ℕ → List (List ℕ) → Option Command
line_command_in name arguments =
    if bytes_eq name (codes "scan") then alone_in command.Scan arguments
    else (if bytes_eq name (codes "name") then alone_in command.Name arguments
    else (if bytes_eq name (codes "program") then alone_in command.Program arguments
    else (if bytes_eq name (codes "cycle") then cycle_in arguments
    else (if bytes_eq name (codes "poke") then poke_in arguments
    else (if bytes_eq name (codes "peek") then peek_in arguments
    else option_map command.Edit (edit_in name arguments))))))

-- the command with a name and arguments; here those of tasks
abbrev pub task_command_in : List ℕ → List (List ℕ) → Option Command
task_command_in name arguments =
    if bytes_eq name (codes "post") then post_in arguments
    else (if bytes_eq name (codes "take") then alone_in command.Take arguments
    else (if bytes_eq name (codes "view") then view_in arguments
    else line_command_in name arguments))

-- the command with a name and arguments; here those that send, take in arriving frames, and read
abbrev pub event_in : List ℕ → List (List ℕ) → Option Command
event_in name arguments =
    if bytes_eq name (codes "send") then send_in arguments
    else (if bytes_eq name (codes "write") then alone_in command.Write arguments
    else (if bytes_eq name (codes "arrive") then arrive_in arguments
    else (if bytes_eq name (codes "read") then read_in arguments
    else task_command_in name arguments)))

-- the command with a name and arguments; here those that only look
abbrev pub command_in : List ℕ → List (List ℕ) → Option Command
command_in name arguments =
    if bytes_eq name (codes "layout") then alone_in command.Layout arguments
    else (if bytes_eq name (codes "regs") then regs_in arguments
    else (if bytes_eq name (codes "show") then show_in arguments
    else (if bytes_eq name (codes "place") then place_command arguments
    else event_in name arguments)))

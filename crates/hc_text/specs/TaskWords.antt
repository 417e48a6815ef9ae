-- The words of `send` and `cycle`.
use Rattle.std.specs.Prelude.{ℕ, List, Option, option_and_then, option_map}
use Rattle.hc_events.specs.Calls.{if_together}
use Rattle.hc_text.specs.declared.commands.Command.{Command}
use Rattle.hc_text.specs.declared.commands.Command.TheVariants as command
use Rattle.hc_text.specs.Numbers.{numbers_in}

-- the tasks in some words: numbers of at most 255, 1 to 8 of them and none twice; none if the words are others
abbrev pub tasks_in : List (List ℕ) → Option (List ℕ)
tasks_in arguments = option_and_then if_together (numbers_in 255 arguments)

-- the arguments of `send` are tasks
abbrev pub send_in : List (List ℕ) → Option Command
send_in arguments = option_map command.Send (tasks_in arguments)

-- the arguments of `cycle` are tasks
abbrev pub cycle_in : List (List ℕ) → Option Command
cycle_in arguments = option_map command.Cycle (tasks_in arguments)

-- The words of the commands of at most two arguments.
use Rattle.std.specs.Prelude.{ℕ, List, [], ◌∷◌, Option, Some, None, option_and_then, option_map}
use Rattle.hc_text.specs.declared.commands.Command.{Command}
use Rattle.hc_text.specs.declared.commands.Command.TheVariants as command
use Rattle.hc_text.specs.Numbers.{bytes_in, number_in}

-- `layout`, `write`, `take`, `scan`, `name` and `program` have no argument
abbrev pub alone_in : Command → List (List ℕ) → Option Command
alone_in found [] = Some found
alone_in found (word ∷ words) = None

-- `regs` has a station address
abbrev pub regs_in : List (List ℕ) → Option Command
regs_in [] = None
regs_in (station ∷ []) = option_map command.Regs (number_in 65535 station)
regs_in (station ∷ other ∷ words) = None

-- `show` has a task and the number of a datagram
abbrev pub show_in : List (List ℕ) → Option Command
show_in [] = None
show_in (task ∷ []) = None
show_in (task ∷ datagram ∷ []) =
    option_and_then (λ t. option_map (λ d. command.Show t d) (number_in 255 datagram)) (number_in 255 task)
show_in (task ∷ datagram ∷ other ∷ words) = None

-- `place` has the number of a variable
abbrev pub place_command : List (List ℕ) → Option Command
place_command [] = None
place_command (number ∷ []) = option_map command.Place (number_in 4294967295 number)
place_command (number ∷ other ∷ words) = None

-- `arrive` has the bytes of a frame, or any others
abbrev pub arrive_in : List (List ℕ) → Option Command
arrive_in [] = None
arrive_in (bytes ∷ []) = option_map command.Arrive (bytes_in bytes)
arrive_in (bytes ∷ other ∷ words) = None

-- `read` has a task
abbrev pub read_in : List (List ℕ) → Option Command
read_in [] = None
read_in (task ∷ []) = option_map command.Read (number_in 255 task)
read_in (task ∷ other ∷ words) = None

-- `view` has a task and the number of a variable
abbrev pub view_in : List (List ℕ) → Option Command
view_in [] = None
view_in (task ∷ []) = None
view_in (task ∷ variable ∷ []) =
    option_and_then (λ t. option_map (λ v. command.View t v) (number_in 4294967295 variable)) (number_in 255 task)
view_in (task ∷ variable ∷ other ∷ words) = None

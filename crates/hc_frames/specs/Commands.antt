-- The commands of a datagram (ETG.1000.4, coding of the commands).
use Rattle.std.specs.Prelude.{ℕ, ◌==◌, Option, Some, None, if◌then◌else◌}
use Rattle.hc_frames.specs.declared.commands.Command.{Command}
use Rattle.hc_frames.specs.declared.commands.Command.TheVariants.{Aprd, Apwr, Fpwr, Lrw}

-- the number of a command, in a datagram's first byte
abbrev pub code_of : Command → ℕ
code_of Aprd = 1
code_of Apwr = 2
code_of Fpwr = 5
code_of Lrw = 12

-- the command with this number, among those that this project uses
abbrev pub command_of : ℕ → Option Command
command_of code =
    if code == 1 then Some Aprd
    else (if code == 2 then Some Apwr
    else (if code == 5 then Some Fpwr
    else (if code == 12 then Some Lrw else None)))

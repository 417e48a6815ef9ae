-- Names of variables.
use Rattle.std.specs.Prelude.{ℕ, ◌==◌, if◌then◌else◌, Option, Some, None}

-- the variable of a number; 0 is a gap
abbrev pub variable_of : ℕ → Option ℕ
variable_of number = if number == 0 then None else Some number

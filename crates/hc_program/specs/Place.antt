-- The command `place`: the place of a variable.
use Rattle.std.specs.Prelude.{ℕ, List, ◌++◌, Option, Some, None, option_and_then, codes}
use Rattle.std.specs.Fmt.{decimal}
use Rattle.hc_records.specs.declared.records.Dir.{Dir}
use Rattle.hc_records.specs.declared.records.Dir.TheVariants.{Out, In}
use Rattle.hc_records.specs.Image.{VariablePlace, variable_place}
use Rattle.hc_records.specs.Line.{Member, State, line}
use Rattle.hc_records.specs.Variables.{variable_of}

-- a direction, as the project text spells it
abbrev pub dir_name : Dir → List ℕ
dir_name Out = codes "out"
dir_name In = codes "in"

-- the bits of a place, in its datagram
unfoldable pub bits_text : VariablePlace → List ℕ
bits_text place =
    codes " bit "
    ++ decimal place.bit
    ++ codes " bits "
    ++ decimal place.bits
    ++ codes " dir "
    ++ dir_name place.dir
    ++ codes "\n"

-- the line of a variable
unfoldable pub variable_text : ℕ → VariablePlace → List ℕ
variable_text number place =
    codes "var "
    ++ decimal number
    ++ codes " task "
    ++ decimal place.task
    ++ codes " datagram "
    ++ decimal place.datagram
    ++ bits_text place

-- the line of the variable with its place (`variable_text`), or the line `none` if it has no place
abbrev pub variable_or_none : ℕ → Option VariablePlace → List ℕ
variable_or_none number None = codes "none\n"
variable_or_none number (Some place) = variable_text number place

-- the place in the line of the variable with a number; 0 is no variable's
abbrev pub numbered_place : ℕ → List Member → Option VariablePlace
numbered_place number line = option_and_then (λ variable. variable_place variable line) (variable_of number)

-- the printed text of `place` for a variable's number: the variable's place in the state's line, or `none`
unfoldable pub place_text : State → ℕ → List ℕ
place_text state number = variable_or_none number (numbered_place number (line state))

-- The place of a variable in the table of a line.
use Rattle.std.proofs.Common.{◌≡◌, ℕ, List, ap, ◌∙◌, Some}
use Rattle.std.specs.Prelude.{option_and_then, option_map}
use Rattle.std.specs.List.{flat_map}
use Rattle.hc_records.specs.Image.{task_variables, tasks, variable_place}
use Rattle.hc_records.specs.Line.{Member}
use Rattle.hc_records.specs.Variables.{variable_of}
use Rattle.hc_places.specs.Table.{VariableRow, place_in, table_of}
use Rattle.hc_places.proofs.lemmas.Sorted.{find-by_number}
use Rattle.hc_program.specs.Place.{numbered_place}

pub variable_found : (line : List Member) (number variable : ℕ) → Some variable ≡ variable_of number → place_in (table_of line) variable ≡ numbered_place number line
variable_found line number variable is =
    ap (option_map (λ (row : VariableRow). row.1)) (find-by_number variable (flat_map (task_variables line) tasks))
    ∙ ap (option_and_then (λ v. variable_place v line)) is

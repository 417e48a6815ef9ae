use Rattle.std.proofs.Common.{ap}
use Rattle.std.specs.Prelude.{option_map}
use Rattle.std.specs.List.{flat_map}
use Rattle.hc_records.specs.Image.{task_variables, tasks}
use Rattle.hc_places.specs.Table.{VariableRow}
use Rattle.hc_places.proofs.lemmas.Sorted.{find-by_number}
use Rattle.hc_places.proofs.laws.tables_have_places.Goals as goal

pub returns : goal.returns
returns c line variable = ap (option_map (λ (row : VariableRow). row.1)) (find-by_number variable (flat_map (task_variables line) tasks))

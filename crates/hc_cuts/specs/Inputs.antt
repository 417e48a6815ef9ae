-- Whether a task has inputs.
use Rattle.std.specs.Prelude.{Bool, List}
use Rattle.std.specs.List.{list_any}
use Rattle.hc_records.specs.declared.records.Dir.TheVariants.{In}
use Rattle.hc_records.specs.Keys.{same_dir}
use Rattle.hc_records.specs.TaskList.{Keyed}

-- an area of the list is an input
abbrev pub has_inputs : List Keyed → Bool
has_inputs list = list_any (λ area. same_dir area.0.dir In) list

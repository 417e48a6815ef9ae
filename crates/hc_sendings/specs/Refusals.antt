-- The faults of sending tasks, by the line, the next serial, and the number of owed register blocks.
use Rattle.std.specs.Prelude.{ℕ, not, nat_lt, Bool, List, [], ◌∷◌, ◌++◌, length}
use Rattle.std.specs.List.{list_any}
use Rattle.hc_records.specs.Line.{Member}
use Rattle.hc_events.specs.declared.faults.CoreFault.{CoreFault}
use Rattle.hc_events.specs.declared.faults.CoreFault.TheVariants.{NoSuchTask, SerialsSpent, Unprogrammed}
use Rattle.hc_events.specs.Sendings.{sendings_of}
use Rattle.hc_events.specs.Steps.{is_no_task, serials_left}

-- the faults that are judged before any frame is planned
abbrev pub early_faults : ℕ → List ℕ → List (Bool × CoreFault)
early_faults owed tasks = (list_any is_no_task tasks, NoSuchTask) ∷ (nat_lt 0 owed, Unprogrammed owed) ∷ []

-- all faults of a sending: those that are judged early, and after them too few serials for the frames
abbrev pub sending_faults : List Member → ℕ → ℕ → List ℕ → List (Bool × CoreFault)
sending_faults line serial owed tasks =
    early_faults owed tasks ++ (not (serials_left serial (length (sendings_of line serial tasks))), SerialsSpent) ∷ []

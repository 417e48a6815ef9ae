-- Swaps that carry only what differs.
use Rattle.std.specs.Prelude.{List, [], ◌∷◌}
use Rattle.hc_records.specs.Edits.{state_after}
use Rattle.hc_records.specs.Line.{State, line}
use Rattle.hc_places.specs.Swap.{Leads}
use Rattle.hc_places.specs.Table.{table_of}
use Rattle.hc_events.specs.declared.change.Change.{Change}
use Rattle.hc_events.specs.declared.change.Change.TheVariants as change

-- along the list from a state on, each swap leads from the state's table to the table after its edit, says what differs between the two and nothing else, and has a row for each variable whose place differs
abbrev pub SwapsAreExactFrom : State → List Change → Type 0
SwapsAreExactFrom state [] = Unit {0}
SwapsAreExactFrom state (change.Swapped swap ∷ changes) =
    Leads (table_of (line state)) (table_of (line (state_after state swap.edit))) swap
    × SwapsAreExactFrom (state_after state swap.edit) changes
SwapsAreExactFrom state (change.Good good ∷ changes) = SwapsAreExactFrom state changes

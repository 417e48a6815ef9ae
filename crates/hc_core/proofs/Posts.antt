-- Output values after each entry, and the parts of a core after a post.
use Rattle.std.proofs.Common.{◌≡◌, ℕ, List, [], ◌∷◌, None, rules}
use Rattle.hc_records.specs.declared.edit.Edit.{Edit}
use Rattle.hc_records.specs.Line.{groups_of}
use Rattle.hc_records.specs.Project.{lowest_fault}
use Rattle.hc_records.proofs.lemmas.VariablePlaces.{variables-lie}
use Rattle.hc_registers.specs.Blocks.{LineBlock}
use Rattle.hc_places.specs.Table.{table_of}
use Rattle.hc_events.specs.Accepted.{AreAccepted, IsPost}
use Rattle.hc_events.specs.Arrivals.{Arrival}
use Rattle.hc_events.specs.Entries.{History, Edited, Posted, Sent, Wrote, Came}
use Rattle.hc_events.specs.Outputs.{value_bit}
use Rattle.hc_events.specs.Points.{line_of, state_of}
use Rattle.hc_events.specs.Sendings.{Frame, Named}
use Rattle.hc_events.specs.Steps.{with_sent}
use Rattle.hc_images.specs.Packed.{HoldsOutputValues, Packed}
use Rattle.hc_images.specs.Values.{kept_values, posted_values}
use Rattle.hc_images.proofs.lemmas.Bits.{AreAlike, holds-alike}
use Rattle.hc_images.proofs.lemmas.LaidOut.{offset-of_line, place-of_line}
use Rattle.hc_core.proofs.Awaits.{waits-posted}
use Rattle.hc_core.specs.Agreement.{Agree, CoreParts}
use Rattle.hc_core.specs.Values.{HoldsValues}

-- arrivals, writes and frames say nothing of values

pub values-came : (history : History) (arrival : Arrival) (packed : Packed) → HoldsValues history packed → HoldsValues (Came arrival ∷ history) packed
values-came history arrival packed holds = holds

pub values-wrote : (history : History) (blocks : List LineBlock) (packed : Packed) → HoldsValues history packed → HoldsValues (Wrote blocks ∷ history) packed
values-wrote history blocks packed holds = holds

one_sent : (history : History) (frame : List Named) (packed : Packed) → HoldsValues history packed → HoldsValues (Sent frame ∷ history) packed
one_sent history frame packed holds = holds

pub values-sent : (frames : List Frame) (history : History) (packed : Packed) → HoldsValues history packed → HoldsValues (with_sent history frames) packed
values-sent [] history packed holds = holds
values-sent (frame ∷ frames) history packed holds =
    values-sent frames (Sent frame.datagrams ∷ history) packed (one_sent history frame.datagrams packed holds)

-- a post

posted_alike : (history : History) (task : ℕ) (bytes : List ℕ) → lowest_fault (groups_of (state_of history).groups) ≡ None
    → AreAlike (table_of (line_of history)) (posted_values (table_of (line_of history)) task bytes (value_bit history)) (value_bit (Posted task bytes ∷ history))
posted_alike history task bytes project variable k place is low = search (rules, place-of_line, variables-lie, offset-of_line)

values-posted : (history : History) (task : ℕ) (bytes : List ℕ) (packed : Packed) → lowest_fault (groups_of (state_of history).groups) ≡ None
    → HoldsOutputValues (table_of (line_of history)) (posted_values (table_of (line_of history)) task bytes (value_bit history)) packed → HoldsValues (Posted task bytes ∷ history) packed
values-posted history task bytes packed project holds = search (rules, holds-alike, posted_alike)

-- an accepted edit

unchanged_same : (history : History) (edit : Edit) (variable k : ℕ) → kept_values (table_of (line_of history)) (value_bit history) variable k ≡ value_bit (Edited edit ∷ history) variable k
unchanged_same history edit variable k = search (rules, place-of_line)

pub values-edited : (history : History) (edit : Edit) (packed : Packed) → HoldsOutputValues (table_of (line_of (Edited edit ∷ history))) (kept_values (table_of (line_of history)) (value_bit history)) packed
    → HoldsValues (Edited edit ∷ history) packed
values-edited history edit packed holds = search (rules, holds-alike, unchanged_same)

-- all parts of a core

accepted_posted : (history : History) (task : ℕ) (bytes : List ℕ) → IsPost (line_of history) task bytes → AreAccepted history → AreAccepted (Posted task bytes ∷ history)
accepted_posted history task bytes post all = (post, all)

pub agree-posted : (unchanged : CoreParts) (history taken : History) (task : ℕ) (bytes : List ℕ) (outputs : Packed) → IsPost (line_of history) task bytes
    → HoldsOutputValues (table_of (line_of history)) (posted_values (table_of (line_of history)) task bytes (value_bit history)) outputs → Agree unchanged history taken → Agree (record unchanged { outputs = outputs }) (Posted task bytes ∷ history) taken
agree-posted unchanged history taken task bytes outputs post holds agree = search (rules, accepted_posted, waits-posted, values-posted)

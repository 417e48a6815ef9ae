-- The arrays of a project's text.
use Rattle.std.specs.Prelude.{ℕ, ◌+◌, not, nat_lt, List, [], ◌∷◌, Option, Some, None, option_and_then}
use Rattle.toml.specs.Data.{Data, Items, no_items, item, as_array}
use Rattle.hc_project.specs.declared.places.Place.{Place}
use Rattle.hc_project.specs.declared.reading.SyntaxFaults.{SyntaxFaults}
use Rattle.hc_project.specs.declared.reading.Reading.{Reading}
use Rattle.hc_project.specs.Reading.{both, missing, outside_if, right}

-- an item of an array is over the limit if this many are before it
abbrev pub over : ℕ → ℕ → Place → SyntaxFaults
over most index place = outside_if (not (nat_lt index most)) place

-- every item from an index on, each read as one value
abbrev pub each : {X : Type 0} → (ℕ → Data → Reading X) → ℕ → Items → Reading (List X)
each one index no_items = right []
each one index (item d ds) =
    let first = one index d in
    let rest = each one (index + 1) ds in
    record { value = first.value ∷ rest.value; syntax_faults = both first.syntax_faults rest.syntax_faults }

-- a needed array, read by its items
abbrev pub array_of : {X : Type 0} → (Items → Reading (List X)) → Place → Option Items → Reading (List X)
array_of all place None = missing place []
array_of all place (Some ds) = all ds

-- `array_of` the value at a key, which has a place; an absent value and one that is no array are missing
abbrev pub needed_array : {X : Type 0} → (Items → Reading (List X)) → Place → Option Data → Reading (List X)
needed_array all place found = array_of all place (option_and_then as_array found)

-- an array that may be absent, and is then empty
abbrev pub optional_array : {X : Type 0} → (Items → Reading (List X)) → Place → Option Data → Reading (List X)
optional_array all place None = right []
optional_array all place (Some d) = needed_array all place (Some d)

-- The numbers and words of a project's text, each at its place.
use Rattle.std.specs.Prelude.{ℕ, ℤ, pos, negsuc, Bool, true, nat_le, if◌then◌else◌, List, Option, Some, None, option_and_then, codes}
use Rattle.std.specs.Str.{bytes_eq}
use Rattle.toml.specs.Data.{Data, as_integer, as_str}
use Rattle.hc_records.specs.Project.{is_outside}
use Rattle.hc_records.specs.declared.records.Dir.{Dir}
use Rattle.hc_records.specs.declared.records.Dir.TheVariants.{Out, In}
use Rattle.hc_project.specs.declared.places.Place.{Place}
use Rattle.hc_project.specs.declared.reading.Reading.{Reading}
use Rattle.hc_project.specs.Reading.{right, missing, outside_if}

-- an integer lies outside a range
abbrev pub lies_outside : ℕ → ℕ → ℤ → Bool
lies_outside low high (pos n) = is_outside low high n
lies_outside low high (negsuc n) = true

-- an integer in a record that holds numbers up to `most`: 0 for one that it cannot hold
abbrev pub held_number : ℕ → ℤ → ℕ
held_number most (pos n) = if nat_le n most then n else 0
held_number most (negsuc n) = 0

-- a needed integer from a low end to a high one, as a record holds it
abbrev pub needed_number : ℕ → ℕ → ℕ → Place → Option ℤ → Reading ℕ
needed_number most low high place None = missing place 0
needed_number most low high place (Some z) = record { value = held_number most z; syntax_faults = outside_if (lies_outside low high z) place }

-- the integer at a key or in an array (`needed_number`); an absent value and one that is no integer are missing
abbrev pub number : ℕ → ℕ → ℕ → Place → Option Data → Reading ℕ
number most low high place found = needed_number most low high place (option_and_then as_integer found)

-- an integer that is held in 8 bits
abbrev pub byte : ℕ → ℕ → Place → Option Data → Reading ℕ
byte low high place found = number 255 low high place found

-- an integer that is held in 16 bits
abbrev pub word : ℕ → ℕ → Place → Option Data → Reading ℕ
word low high place found = number 65535 low high place found

-- an integer of 32 bits
abbrev pub double_word : Place → Option Data → Reading ℕ
double_word place found = number 4294967295 0 4294967295 place found

-- a needed string, "out" or "in"
abbrev pub direction_of : Place → Option (List ℕ) → Reading Dir
direction_of place None = missing place Out
direction_of place (Some text) =
    if bytes_eq text (codes "out") then right Out
    else (if bytes_eq text (codes "in") then right In else record { value = Out; syntax_faults = outside_if true place })

-- `direction_of` the string at a key; an absent value and one that is no string are missing
abbrev pub direction : Place → Option Data → Reading Dir
direction place found = direction_of place (option_and_then as_str found)

-- Places of a project's text, and the first of several.
use Rattle.std.specs.Prelude.{ℕ, suc, List, [], ◌∷◌, Option, Some, None}
use Rattle.hc_project.specs.declared.places.Key.{Key}
use Rattle.hc_project.specs.declared.places.Key.TheVariants.{Whole}
use Rattle.hc_project.specs.declared.places.Place.{Place}
use Rattle.hc_project.specs.declared.places.Location.{Location}

-- the document itself
abbrev pub document : Place
document = record { group = 0; alias = 0; slave = None; station = 0; area = None; pdo = None; key = Whole }

-- a group of the document, by its number and its alias
abbrev pub in_group : Place → ℕ → ℕ → Place
in_group place group alias = record place { group = group; alias = alias }

-- a slave of a group, by its index and its station address
abbrev pub in_slave : Place → ℕ → ℕ → Place
in_slave place index station = record place { slave = Some index; station = station }

-- an area of a slave, by its index
abbrev pub in_area : Place → ℕ → Place
in_area place index = record place { area = Some index }

-- a PDO that an area offers, by its index
abbrev pub in_pdo : Place → ℕ → Place
in_pdo place index = record place { pdo = Some index }

-- a key of a table
abbrev pub with_key : Place → Key → Place
with_key place key = record place { key = key }

-- a place alone
abbrev pub place_alone : Place → Location
place_alone place = record { place = place; first = None }

-- the places of two things, the earlier one first
abbrev pub pair : Place → Place → Location
pair first place = record { place = place; first = Some first }

-- the first place if there is one, else the second
unfoldable pub first_some : {P : Type 0} → Option P → Option P → Option P
first_some None other = other
first_some (Some found) other = Some found

-- the first place that a search finds in the items, from an index on
abbrev pub first_from : {X P : Type 0} → (ℕ → X → Option P) → ℕ → List X → Option P
first_from find index [] = None
first_from find index (x ∷ xs) = first_some (find index x) (first_from find (suc index) xs)

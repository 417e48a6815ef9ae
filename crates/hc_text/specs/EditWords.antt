-- The words of the four edits.
use Rattle.std.specs.Prelude.{ℕ, if◌then◌else◌, List, [], ◌∷◌, Option, None, option_and_then, option_map, codes}
use Rattle.std.specs.Str.{bytes_eq}
use Rattle.hc_records.specs.declared.edit.Edit.{Edit}
use Rattle.hc_records.specs.declared.edit.Edit.TheVariants.{Connect, Disconnect, Remap, Move}
use Rattle.hc_text.specs.Numbers.{number_in, numbers_in}

-- `connect` and `disconnect` have an alias
abbrev pub alias_in : List (List ℕ) → Option ℕ
alias_in [] = None
alias_in (alias ∷ []) = number_in 65535 alias
alias_in (alias ∷ other ∷ words) = None

-- `remap` has a station address, an area of that slave, and the indexes of any number of PDOs
abbrev pub remap_in : List (List ℕ) → Option Edit
remap_in [] = None
remap_in (station ∷ []) = None
remap_in (station ∷ area ∷ pdos) =
    option_and_then (λ s. option_and_then (λ a. option_map (λ indexes. Remap s a indexes) (numbers_in 65535 pdos)) (number_in 255 area))
    (number_in 65535 station)

-- `move` has a station address, an area of that slave, and a task
abbrev pub move_in : List (List ℕ) → Option Edit
move_in [] = None
move_in (station ∷ []) = None
move_in (station ∷ area ∷ []) = None
move_in (station ∷ area ∷ task ∷ []) =
    option_and_then (λ s. option_and_then (λ a. option_map (λ t. Move s a t) (number_in 255 task)) (number_in 255 area))
    (number_in 65535 station)
move_in (station ∷ area ∷ task ∷ other ∷ words) = None

-- the edit with a name and arguments
abbrev pub edit_in : List ℕ → List (List ℕ) → Option Edit
edit_in name arguments =
    if bytes_eq name (codes "connect") then option_map Connect (alias_in arguments)
    else (if bytes_eq name (codes "disconnect") then option_map Disconnect (alias_in arguments)
    else (if bytes_eq name (codes "remap") then remap_in arguments
    else (if bytes_eq name (codes "move") then move_in arguments else None)))

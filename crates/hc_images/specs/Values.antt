-- The values of output variables: bit k of a variable's value is `value variable k` (this project's profile).
use Rattle.std.specs.Prelude.{◌≡◌, ℕ, ◌+◌, ◌*◌, ◌==◌, is_some, if◌then◌else◌, List, Some}
use Rattle.std.specs.Option.{option_map_or}
use Rattle.hc_bits.specs.Bits.{bit_of}
use Rattle.hc_records.specs.Image.{VariablePlace}
use Rattle.hc_places.specs.Table.{Table, place_in}
use Rattle.hc_images.specs.Packed.{offset_in}

-- the bit of its task's image at which a bit of a variable lies
abbrev pub table_image_bit : Table → VariablePlace → ℕ → ℕ
table_image_bit table place k = 8 * offset_in table place.task place.datagram + place.bit + k

-- a post of a task has a value for each variable that the task has: its bits in the image
abbrev pub posted_values : Table → ℕ → List ℕ → (ℕ → ℕ → ℕ) → ℕ → ℕ → ℕ
posted_values table task bytes value variable k =
    option_map_or (λ place. if place.task == task then bit_of bytes (table_image_bit table place k) else value variable k)
    (place_in table variable) (value variable k)

-- over an edit a variable keeps its value if it had a place; the value of one that had none is 0
abbrev pub kept_values : Table → (ℕ → ℕ → ℕ) → ℕ → ℕ → ℕ
kept_values old value variable k = if is_some (place_in old variable) then value variable k else 0

-- a variable that is in both tables has its bits and its direction in both: it is one entry of a project
pub record KeepsItsEntry (place another : VariablePlace) : Type 0 where
  pub bits : another.bits ≡ place.bits
  pub dir : another.dir ≡ place.dir

-- a variable that has a place in both tables has the same entry in both
abbrev pub KeepEntries : Table → Table → Type 0
KeepEntries old new =
    (variable : ℕ) (place another : VariablePlace)
    → place_in old variable ≡ Some place → place_in new variable ≡ Some another → KeepsItsEntry place another

-- The sum of a run of areas: the end of the run, by the bit at which it starts.
use Rattle.std.specs.Prelude.{ℕ, ◌+◌, ◌*◌, ◌/◌, ◌%◌, ◌<◌, ◌==◌, nat_le, Bool, if◌then◌else◌, List, [], ◌∷◌, slice_index}
use Rattle.hc_records.specs.declared.records.Dir.{Dir}
use Rattle.hc_records.specs.Keys.{is_turn}
use Rattle.hc_records.specs.TaskList.{Keyed}
use Rattle.hc_records.specs.Packing.{next_byte}
use Rattle.hc_bitsum.specs.declared.filled.Filled.{Filled}
use Rattle.hc_bitsum.specs.declared.sum.Sum.{Sum}
use Rattle.hc_bitsum.specs.declared.sum.Sum.TheVariants.{Empty, Run}

-- the end of a run with these ends, begun at any bit: whole bytes before the start move the end by as much
abbrev pub end_from : List ℕ → ℕ → ℕ
end_from ends bit = 8 * (bit / 8) + slice_index ends (bit % 8)

-- the ends by a function of the 8 bits of a byte
abbrev pub ends_by : (ℕ → ℕ) → List ℕ
ends_by end = end 0 ∷ end 1 ∷ end 2 ∷ end 3 ∷ end 4 ∷ end 5 ∷ end 6 ∷ end 7 ∷ []

-- the bit after an area of so many bits that starts at a bit, or at the first byte border at or after that bit if it has 8 bits or more
abbrev pub area_end : ℕ → ℕ → ℕ
area_end bits bit = (if nat_le 8 bits then next_byte bit else bit) + bits

-- the sum of one area: Empty for 0 bits, else a run whose first and last direction is its own, with its ends (`area_end`)
abbrev pub sum_of_area : Dir → ℕ → Sum
sum_of_area dir bits = if bits == 0 then Empty else Run dir dir (ends_by (area_end bits))

-- the bit at which a run starts: the first byte border at or after a bit if an input comes after an output, otherwise the bit itself
abbrev pub start_at : Bool → ℕ → ℕ
start_at turns bit = if turns then next_byte bit else bit

-- the sum of a run and then another
abbrev pub sums_joined : Sum → Sum → Sum
sums_joined Empty later = later
sums_joined (Run first last ends) Empty = Run first last ends
sums_joined (Run first last ends) (Run next end laters) =
    Run first end (ends_by (λ bit. end_from laters (start_at (is_turn last next) (end_from ends bit))))

-- the filling of a datagram once a run is added
abbrev pub filled_by_run : Sum → Filled → Filled
filled_by_run Empty filled = filled
filled_by_run (Run first last ends) filled =
    record { bit = end_from ends (start_at (is_turn filled.last first) filled.bit); last = last }

-- the sum of a list of areas
abbrev pub sum_of : List Keyed → Sum
sum_of [] = Empty
sum_of (area ∷ areas) = sums_joined (sum_of_area area.0.dir area.1) (sum_of areas)

-- each end lies below a bit
abbrev pub EndsBelow : ℕ → Sum → Type 0
EndsBelow bit Empty = Unit {0}
EndsBelow bit (Run first last ends) = (start : ℕ) → start < 8 → end_from ends start < bit

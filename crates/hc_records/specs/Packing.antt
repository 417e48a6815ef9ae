-- The packing of the areas of a task's list into datagrams, from the first datagram on (this project's profile).
use Rattle.std.specs.Prelude.{ℕ, ◌+◌, ◌*◌, ◌/◌, nat_le, ◌||◌, if◌then◌else◌, Bool, List, [], ◌∷◌}
use Rattle.hc_records.specs.declared.limits.TheConstants.{MOST_AREA_BITS}
use Rattle.hc_records.specs.declared.records.Dir.{Dir}
use Rattle.hc_records.specs.declared.records.Dir.TheVariants.{Out}
use Rattle.hc_records.specs.declared.keys.Key.{Key}
use Rattle.hc_records.specs.Keys.{is_turn}
use Rattle.hc_records.specs.TaskList.{Keyed}

-- the datagram that is being filled: its number, its first free bit, and the direction of the area before that
pub record Front : Type 0 where
  pub datagram : ℕ
  pub bit : ℕ
  pub last : Dir

-- the empty first datagram; its direction decides nothing, since bit 0 begins a byte
abbrev pub empty_front : Front
empty_front = record { datagram = 0; bit = 0; last = Out }

-- an area, its width, its datagram, and its first bit there
pub record Placed : Type 0 where
  pub key : Key
  pub bits : ℕ
  pub datagram : ℕ
  pub bit : ℕ

-- the first byte border at or after a bit
abbrev pub next_byte : ℕ → ℕ
next_byte bit = 8 * ((bit + 7) / 8)

-- an area begins a byte if it has 8 bits or more, or is the first input after an output of this datagram
abbrev pub begins_byte : Front → Keyed → Bool
begins_byte front area = nat_le 8 area.1 || is_turn front.last area.0.dir

-- the bit at which an area would begin in the datagram that is being filled
abbrev pub beginning : Front → Keyed → ℕ
beginning front area = if begins_byte front area then next_byte front.bit else front.bit

-- the area would end within the datagram
abbrev pub fits : Front → Keyed → Bool
fits front area = nat_le (beginning front area + area.1) MOST_AREA_BITS

-- the place of an area: in the datagram being filled if it fits, otherwise at bit 0 of a new one
abbrev pub placed_at : Front → Keyed → Placed
placed_at front area =
    if fits front area
    then record { key = area.0; bits = area.1; datagram = front.datagram; bit = beginning front area }
    else record { key = area.0; bits = area.1; datagram = front.datagram + 1; bit = 0 }

-- the datagram being filled, once an area is in it
abbrev pub front_with : Placed → Front
front_with placed = record { datagram = placed.datagram; bit = placed.bit + placed.bits; last = placed.key.dir }

-- the areas of a list, each with its place
abbrev pub packed : Front → List Keyed → List Placed
packed front [] = []
packed front (area ∷ areas) = placed_at front area ∷ packed (front_with (placed_at front area)) areas

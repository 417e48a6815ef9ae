-- Values of variables in bytes of the caller's: outputs that a task posts, and images that it reads.
use Rattle.std.specs.Prelude.{◌≡◌, ◌≢◌, ℕ, ◌+◌, ◌<◌, ◌^◌, if◌then◌else◌, Bool, List, length, MatchOption}
use Rattle.std.specs.Int.{bit_at}
use Rattle.hc_bits.specs.Bits.{ReplacesRun, bit_of}
use Rattle.hc_records.specs.Image.{VariablePlace}
use Rattle.hc_events.specs.Entries.{History}
use Rattle.hc_events.specs.Steps.{is_stale_epoch}
use Rattle.hc_c.specs.declared.numbers.TheConstants.{DONE, IS_INPUT, NOTHING, ROOM, STALE_POST, TOO_WIDE}
use Rattle.hc_c.specs.Looks.{is_input, image_bit_of, place_numbered}
use Rattle.hc_c.specs.Runs.{is_run, is_too_wide}

-- the answer to writing a value at a place that begins with this bit: the first that holds of 15, the epoch is stale, 105, the
-- variable is an input, 106, the value is too wide, and 29, the bytes end before the place does; else 0
abbrev pub put_value_number : VariablePlace → Bool → ℕ → ℕ → ℕ → ℕ
put_value_number place stale bit value bytes =
    if stale then STALE_POST
    else (if is_input place.dir then IS_INPUT
    else (if is_too_wide value place.bits then TOO_WIDE else (if is_run bytes bit place.bits then DONE else ROOM)))

-- a value is written at a place, and every other bit stays
pub record PutsValue (place : VariablePlace) (stale : Bool) (bit value number : ℕ) (before after : List ℕ) : Type 0 where
  pub number_of : number ≡ put_value_number place stale bit value (length before)
  pub put : number ≡ DONE → ReplacesRun before after bit place.bits (bit_at value)
  pub untouched : number ≢ DONE → after ≡ before

-- the answer to reading a value from this many bytes: 15 if the epoch is stale, 29 if the bytes end before the place does, else
-- 0
abbrev pub get_number : VariablePlace → Bool → ℕ → ℕ → ℕ
get_number place stale bit bytes = if stale then STALE_POST else (if is_run bytes bit place.bits then DONE else ROOM)

-- the value has the bits at a place that begins with this bit
pub record GetsValue (place : VariablePlace) (stale : Bool) (bit : ℕ) (image : List ℕ) (number before after : ℕ) : Type 0 where
  pub number_of : number ≡ get_number place stale bit (length image)
  pub fits : number ≡ DONE → after < 2 ^ place.bits
  pub bits : number ≡ DONE → (k : ℕ) → k < place.bits → bit_at after k ≡ bit_of image (bit + k)
  pub untouched : number ≢ DONE → after ≡ before

-- a value is written at its variable's place, or there is no place; an epoch is stale if it is before the last edit that
-- changed the place's task, or above the present one
abbrev pub PutsAt : History → ℕ → ℕ → ℕ → ℕ → List ℕ → List ℕ → Type 0
PutsAt history variable epoch value number before after =
    MatchOption (place_numbered history variable) ((number ≡ NOTHING) × (after ≡ before))
    (λ place. PutsValue place (is_stale_epoch history place.task epoch) (image_bit_of history place) value number before after)

-- a value is read at its variable's place, or there is no place
abbrev pub GetsAt : History → ℕ → ℕ → List ℕ → ℕ → ℕ → ℕ → Type 0
GetsAt history variable epoch image number before after =
    MatchOption (place_numbered history variable) ((number ≡ NOTHING) × (after ≡ before))
    (λ place. GetsValue place (is_stale_epoch history place.task epoch) (image_bit_of history place) image number before after)

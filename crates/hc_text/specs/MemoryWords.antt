-- The words of `poke` and `peek`.
use Rattle.std.specs.Prelude.{ℕ, ◌+◌, ◌&&◌, nat_le, if◌then◌else◌, List, [], ◌∷◌, length, Option, Some, None, option_and_then, option_map}
use Rattle.hc_frames.specs.declared.limits.TheConstants.{MAX_DATA}
use Rattle.hc_machine.specs.declared.limits.TheConstants.{MEMORY_BYTES}
use Rattle.hc_text.specs.declared.commands.Command.{Command}
use Rattle.hc_text.specs.declared.commands.Command.TheVariants as command
use Rattle.hc_text.specs.MemoryRanges.{Peeking, Poking}
use Rattle.hc_text.specs.Numbers.{bytes_in, number_in}

-- the range lies in memory
abbrev pub poke_within : Poking → Option Poking
poke_within p = if nat_le (p.at + length p.part) MEMORY_BYTES then Some p else None

-- `poke` has a station address, an address and bytes that all lie in memory
abbrev pub poking_in : List (List ℕ) → Option Poking
poking_in [] = None
poking_in (station ∷ []) = None
poking_in (station ∷ address ∷ []) = None
poking_in (station ∷ address ∷ bytes ∷ []) =
    option_and_then (λ s. option_and_then (λ a. option_and_then (λ b. poke_within (record { station = s; at = a; part = b })) (bytes_in bytes)) (number_in 65535 address))
    (number_in 65535 station)
poking_in (station ∷ address ∷ bytes ∷ other ∷ words) = None

-- the command with the arguments of a `poke`
abbrev pub poke_in : List (List ℕ) → Option Command
poke_in arguments = option_map command.Poke (poking_in arguments)

-- 1 to 1,486 bytes that all lie in memory
abbrev pub peek_within : Peeking → Option Peeking
peek_within p = if nat_le 1 p.count && nat_le p.count MAX_DATA && nat_le (p.at + p.count) MEMORY_BYTES then Some p else None

-- `peek` has a station address, an address and a number of bytes
abbrev pub peeking_in : List (List ℕ) → Option Peeking
peeking_in [] = None
peeking_in (station ∷ []) = None
peeking_in (station ∷ address ∷ []) = None
peeking_in (station ∷ address ∷ count ∷ []) =
    option_and_then (λ s. option_and_then (λ a. option_and_then (λ n. peek_within (record { station = s; at = a; count = n })) (number_in 65535 count)) (number_in 65535 address))
    (number_in 65535 station)
peeking_in (station ∷ address ∷ count ∷ other ∷ words) = None

-- the command with the arguments of a `peek`
abbrev pub peek_in : List (List ℕ) → Option Command
peek_in arguments = option_map command.Peek (peeking_in arguments)

-- The state of the register blocks of all declared slaves, place by place.
use Rattle.std.specs.Prelude.{ℕ, not, Bool, false, List, map, Option, None, option_and_then}
use Rattle.std.specs.Option.{option_map_or}
use Rattle.std.specs.Str.{bytes_eq}
use Rattle.hc_records.specs.Line.{State}
use Rattle.hc_registers.specs.Blocks.{LineBlock}
use Rattle.hc_registers.specs.RankPlaces.{places, stations}

-- the known bytes of the line's block at each place, a flag for each place if the block is owed, and the station addresses of
-- the declared slaves, by rank
pub record RegisterState : Type 0 where
  pub known : List (Option (List ℕ))
  pub owed : List Bool
  pub stations : List ℕ

-- the bytes that the slaves are known to have, by station address and number of a block
abbrev pub Knowledge : Type 0
Knowledge = ℕ → ℕ → Option (List ℕ)

-- nothing is known of any block
abbrev pub nothing_known : Knowledge
nothing_known station number = None

-- the known bytes of a block of the line, or none
abbrev pub known_of : Knowledge → LineBlock → Option (List ℕ)
known_of known block = known block.station block.number

-- known bytes are not those that the line configures, or there are none
abbrev pub differs : List ℕ → Option (List ℕ) → Bool
differs bytes known = not (option_map_or (bytes_eq bytes) known false)

-- a block is owed if its slave is not known to have the bytes that the line configures
abbrev pub lacks : Knowledge → LineBlock → Bool
lacks known block = differs block.block.bytes (known_of known block)

-- the known bytes at a place that has a block or is empty
abbrev pub known_in : Knowledge → Option LineBlock → Option (List ℕ)
known_in known block = option_and_then (known_of known) block

-- the block at a place is owed; an empty place owes nothing
abbrev pub owed_in : Knowledge → Option LineBlock → Bool
owed_in known block = option_map_or (lacks known) block false

-- the register state of a state's line, for this knowledge
abbrev pub register_state_of : Knowledge → State → RegisterState
register_state_of known state = record {
  known = map (known_in known) (places state);
  owed = map (owed_in known) (places state);
  stations = stations state;
}

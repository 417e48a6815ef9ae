-- The steps of a register state, place by place.
use Rattle.std.specs.Prelude.{ℕ, zero, suc, ◌*◌, ◌/◌, ◌==◌, ◌||◌, is_some, Bool, false, if◌then◌else◌, List, [], ◌∷◌, slice_get, unwrap_or, Option, None}
use Rattle.std.specs.Option.{option_map_or}
use Rattle.hc_records.specs.Lists.{changed_at}
use Rattle.hc_registers.specs.declared.ranked.Gone.{Gone}
use Rattle.hc_registers.specs.Ranked.{RankedBlock}
use Rattle.hc_registers.specs.RankDifferences.{block_place, first_gone}
use Rattle.hc_plan.specs.RegisterBlocks.{replaced_from}
use Rattle.hc_owed.specs.RegisterState.{RegisterState, differs}

-- a register state with these known bytes at a place
abbrev pub learnt : ℕ → Option (List ℕ) → RegisterState → RegisterState
learnt n known register_state = record register_state { known = changed_at n (λ _. known) register_state.known }

-- a register state in which a place is owed or not as given
abbrev pub place_judged : ℕ → Bool → RegisterState → RegisterState
place_judged n owed register_state = record register_state { owed = changed_at n (λ _. owed) register_state.owed }

-- so many places from one on are emptied
abbrev pub places_emptied : ℕ → ℕ → RegisterState → RegisterState
places_emptied from count register_state = record register_state {
  known = replaced_from from count None register_state.known;
  owed = replaced_from from count false register_state.owed;
}

-- a place has a block if it is owed or known
abbrev pub has_block : RegisterState → ℕ → Bool
has_block register_state n = unwrap_or (slice_get register_state.owed n) false || is_some (unwrap_or (slice_get register_state.known n) None)

-- nothing is known any more at a place, and its block, if it has one, is owed
abbrev pub forgotten_at : ℕ → RegisterState → RegisterState
forgotten_at n register_state = place_judged n (has_block register_state n) (learnt n None register_state)

-- a place is of the slave with a station address
abbrev pub place_is_of : ℕ → List ℕ → ℕ → Bool
place_is_of station stations n = option_map_or (λ other. other == station) (slice_get stations (n / 16)) false

-- a place is forgotten if it is of the slave with a station address
abbrev pub forgotten_of : ℕ → ℕ → RegisterState → RegisterState
forgotten_of station n register_state = if place_is_of station register_state.stations n then forgotten_at n register_state else register_state

-- so many places from the first one on are forgotten, if they are of that slave
abbrev pub forgotten_below : ℕ → ℕ → RegisterState → RegisterState
forgotten_below station zero register_state = register_state
forgotten_below station (suc n) register_state = forgotten_of station n (forgotten_below station n register_state)

-- the places of the slaves that leave are emptied
abbrev pub cleared : Gone → RegisterState → RegisterState
cleared gone register_state = places_emptied (first_gone gone) (16 * gone.slaves) register_state

-- a moved block is owed if other bytes are known at its place, or none
abbrev pub owed_where_moved : RankedBlock → RegisterState → Bool
owed_where_moved moved register_state = differs moved.found.block.bytes (unwrap_or (slice_get register_state.known (block_place moved)) None)

-- a moved block is compared with the bytes that are known at its place
abbrev pub compared : RankedBlock → RegisterState → RegisterState
compared moved register_state = place_judged (block_place moved) (owed_where_moved moved register_state) register_state

-- moved blocks are compared, one after another
abbrev pub compared_all : List RankedBlock → RegisterState → RegisterState
compared_all [] register_state = register_state
compared_all (moved ∷ rest) register_state = compared_all rest (compared moved register_state)

-- The register state stays right if a slave is forgotten.
use Rattle.std.proofs.Common.{◌≡◌, ℕ, zero, suc, ◌+◌, ◌<◌, ◌≤◌, ◌==◌, ◌||◌, Bool, true, false, cond, List, length, map, refl, sym, ap, subst, ◌∙◌, arith}
use Rattle.std.specs.Prelude.{◌≢◌, None, Some, Option, is_some, not, option_map, slice_get, unwrap_or}
use Rattle.std.specs.Option.{option_map_or}
use Rattle.std.specs.Str.{bytes_eq}
use Rattle.std.proofs.lemmas.Bool.{eqb-false, eqb-true}
use Rattle.std.proofs.lemmas.List.{length-map}
use Rattle.std.proofs.lemmas.Option.{slice_get-map, slice_get_within}
use Rattle.hc_records.specs.Line.{State}
use Rattle.hc_registers.specs.Blocks.{LineBlock}
use Rattle.hc_registers.specs.RankPlaces.{places, stations}
use Rattle.hc_plan.proofs.lemmas.PlaceNames.{name-at}
use Rattle.hc_owed.specs.RegisterState.{RegisterState, Knowledge, differs, register_state_of, known_in, owed_in}
use Rattle.hc_owed.specs.Laws.{known_without}
use Rattle.hc_owed.specs.Steps.{forgotten_at, forgotten_below, has_block, place_is_of}
use Rattle.hc_plan.proofs.lemmas.Replaced.{get-changed, get-other, is-map, length-changed}
use Rattle.hc_owed.proofs.Opened.{register_state_from}

-- the lists keep their lengths, and the blocks and the station addresses stay

module _ (station : ℕ) (register_state : RegisterState) where
  abbrev below : ℕ → RegisterState
  below n = forgotten_below station n register_state

  abbrev either : Bool → ℕ → RegisterState
  either own n = cond own (forgotten_at n (below n)) (below n)

  same-stations_if : (own : Bool) (n : ℕ) → (below n).stations ≡ register_state.stations → (either own n).stations ≡ register_state.stations
  same-stations_if true n rest = rest
  same-stations_if false n rest = rest

  pub same-stations : (n : ℕ) → (below n).stations ≡ register_state.stations
  same-stations zero = refl
  same-stations (suc n) = same-stations_if (place_is_of station (below n).stations n) n (same-stations n)

  -- whether a place is of the slave stays the same
  pub same-of : (n : ℕ) → below (suc n) ≡ either (place_is_of station register_state.stations n) n
  same-of n = ap (λ (stations : List ℕ). either (place_is_of station stations n) n) (same-stations n)

  known-size_if : (own : Bool) (n : ℕ) → length (below n).known ≡ length register_state.known → length (either own n).known ≡ length register_state.known
  known-size_if true n rest = length-changed n (λ _. None) (below n).known ∙ rest
  known-size_if false n rest = rest

  pub known-size : (n : ℕ) → length (below n).known ≡ length register_state.known
  known-size zero = refl
  known-size (suc n) = known-size_if (place_is_of station (below n).stations n) n (known-size n)

  owed-size_if : (own : Bool) (n : ℕ) → length (below n).owed ≡ length register_state.owed → length (either own n).owed ≡ length register_state.owed
  owed-size_if true n rest = length-changed n (λ _. has_block (below n) n) (below n).owed ∙ rest
  owed-size_if false n rest = rest

  pub owed-size : (n : ℕ) → length (below n).owed ≡ length register_state.owed
  owed-size zero = refl
  owed-size (suc n) = owed-size_if (place_is_of station (below n).stations n) n (owed-size n)

  -- places that weren't come to yet are as they were

  known-above_if : (own : Bool) (n i : ℕ) → n < i → slice_get (below n).known i ≡ slice_get register_state.known i → slice_get (either own n).known i ≡ slice_get register_state.known i
  known-above_if true n i high rest = get-other n i None (below n).known (λ same. omega (arith, same, high)) ∙ rest
  known-above_if false n i high rest = rest

  known-above : (n i : ℕ) → n ≤ i → slice_get (below n).known i ≡ slice_get register_state.known i
  known-above zero i high = refl
  known-above (suc n) i high = known-above_if (place_is_of station (below n).stations n) n i (omega (arith, high)) (known-above n i (omega (arith, high)))

  owed-above_if : (own : Bool) (n i : ℕ) → n < i → slice_get (below n).owed i ≡ slice_get register_state.owed i → slice_get (either own n).owed i ≡ slice_get register_state.owed i
  owed-above_if true n i high rest = get-other n i (has_block (below n) n) (below n).owed (λ same. omega (arith, same, high)) ∙ rest
  owed-above_if false n i high rest = rest

  owed-above : (n i : ℕ) → n ≤ i → slice_get (below n).owed i ≡ slice_get register_state.owed i
  owed-above zero i high = refl
  owed-above (suc n) i high = owed-above_if (place_is_of station (below n).stations n) n i (omega (arith, high)) (owed-above n i (omega (arith, high)))

  -- the other places are forgotten if they are of the slave

  abbrev left : Bool → Option (List ℕ) → Option (List ℕ)
  left own known = cond own None known

  known-here : (own : Bool) (n : ℕ) (known : Option (List ℕ)) → slice_get register_state.known n ≡ Some known → slice_get (either own n).known n ≡ Some (left own known)
  known-here true n known at =
      get-changed n None (below n).known (let size = known-size n in let within = slice_get_within register_state.known n known at in omega (arith, within, size))
  known-here false n known at = known-above n n (omega arith) ∙ at

  known-there : (own : Bool) (n i : ℕ) → n ≢ i → slice_get (either own n).known i ≡ slice_get (below n).known i
  known-there true n i apart = get-other n i None (below n).known apart
  known-there false n i apart = refl

  known-step : (n i : ℕ) (known : Option (List ℕ)) (same : Bool) → (n == i) ≡ same → i < n + 1 → slice_get register_state.known i ≡ Some known
      → (i < n → slice_get (below n).known i ≡ Some (left (place_is_of station register_state.stations i) known)) → slice_get (below (suc n)).known i ≡ Some (left (place_is_of station register_state.stations i) known)
  known-step n i known true is low at rest =
      subst (λ (m : ℕ). slice_get register_state.known m ≡ Some known → slice_get (below (suc n)).known m ≡ Some (left (place_is_of station register_state.stations m) known)) (eqb-true n i is)
      (λ here. ap (λ (b : RegisterState). slice_get b.known n) (same-of n) ∙ known-here (place_is_of station register_state.stations n) n known here) at
  known-step n i known false is low at rest =
      let apart = eqb-false n i is in
      known-there (place_is_of station (below n).stations n) n i apart ∙ rest (omega (arith, low, apart))

  known-at : (n i : ℕ) (known : Option (List ℕ)) → i < n → slice_get register_state.known i ≡ Some known → slice_get (below n).known i ≡ Some (left (place_is_of station register_state.stations i) known)
  known-at zero i known low at = absurd (omega (arith, low))
  known-at (suc n) i known low at = known-step n i known (n == i) refl (omega (arith, low)) at (λ less. known-at n i known less at)

  abbrev owes : Bool → Option (List ℕ) → Bool → Bool
  owes own known owed = cond own (owed || is_some known) owed

  owed-here : (own : Bool) (n : ℕ) (known : Option (List ℕ)) (owed : Bool) → slice_get register_state.known n ≡ Some known → slice_get register_state.owed n ≡ Some owed → slice_get (either own n).owed n ≡ Some (owes own known owed)
  owed-here true n known owed at is =
      get-changed n (has_block (below n) n) (below n).owed (let size = owed-size n in let within = slice_get_within register_state.owed n owed is in omega (arith, within, size))
      ∙ ap (λ (found : Option Bool). Some (unwrap_or found false || is_some (unwrap_or (slice_get (below n).known n) None))) (owed-above n n (omega arith) ∙ is)
      ∙ ap (λ (found : Option (Option (List ℕ))). Some (owed || is_some (unwrap_or found None))) (known-above n n (omega arith) ∙ at)
  owed-here false n known owed at is = owed-above n n (omega arith) ∙ is

  owed-there : (own : Bool) (n i : ℕ) → n ≢ i → slice_get (either own n).owed i ≡ slice_get (below n).owed i
  owed-there true n i apart = get-other n i (has_block (below n) n) (below n).owed apart
  owed-there false n i apart = refl

  owed-step : (n i : ℕ) (known : Option (List ℕ)) (owed same : Bool) → (n == i) ≡ same → i < n + 1 → slice_get register_state.known i ≡ Some known → slice_get register_state.owed i ≡ Some owed
      → (i < n → slice_get (below n).owed i ≡ Some (owes (place_is_of station register_state.stations i) known owed)) → slice_get (below (suc n)).owed i ≡ Some (owes (place_is_of station register_state.stations i) known owed)
  owed-step n i known owed true same low at is rest =
      subst (λ (m : ℕ). slice_get register_state.known m ≡ Some known → slice_get register_state.owed m ≡ Some owed → slice_get (below (suc n)).owed m ≡ Some (owes (place_is_of station register_state.stations m) known owed)) (eqb-true n i same)
      (λ here own. ap (λ (b : RegisterState). slice_get b.owed n) (same-of n) ∙ owed-here (place_is_of station register_state.stations n) n known owed here own) at is
  owed-step n i known owed false same low at is rest =
      let apart = eqb-false n i same in
      owed-there (place_is_of station (below n).stations n) n i apart ∙ rest (omega (arith, low, apart))

  owed-at : (n i : ℕ) (known : Option (List ℕ)) (owed : Bool) → i < n → slice_get register_state.known i ≡ Some known → slice_get register_state.owed i ≡ Some owed
      → slice_get (below n).owed i ≡ Some (owes (place_is_of station register_state.stations i) known owed)
  owed-at zero i known owed low at is = absurd (omega (arith, low))
  owed-at (suc n) i known owed low at is = owed-step n i known owed (n == i) refl (omega (arith, low)) at is (λ less. owed-at n i known owed less at is)

-- all places are right

owed-then : (bytes : List ℕ) (known : Option (List ℕ)) → (differs bytes known || is_some known) ≡ true
owed-then bytes None = refl
owed-then bytes (Some own) = by (bytes_eq bytes own)
  where
    by : (same : Bool) → (not same || true) ≡ true
    by true = refl
    by false = refl

module _ (station : ℕ) (known : Knowledge) (state : State) where
  abbrev all : List (Option LineBlock)
  all = places state

  abbrev before : RegisterState
  before = register_state_of known state

  abbrev after : Knowledge
  after = known_without station known

  own-place : (i : ℕ) (block : LineBlock) → slice_get all i ≡ Some (Some block) → place_is_of station (stations state) i ≡ (block.station == station)
  own-place i block at = ap (λ (found : Option ℕ). option_map_or (λ (other : ℕ). other == station) found false) (name-at state i block at).station

  known-is : (i : ℕ) (z : Option LineBlock) → slice_get all i ≡ Some z → cond (place_is_of station (stations state) i) None (known_in known z) ≡ known_in after z
  known-is i None at = either (place_is_of station (stations state) i)
    where
      either : (own : Bool) → cond own (known_in known None) (known_in known None) ≡ known_in after None
      either true = refl
      either false = refl
  known-is i (Some block) at = ap (λ (own : Bool). cond own None (known_in known (Some block))) (own-place i block at)

  owed-is : (i : ℕ) (z : Option LineBlock) → slice_get all i ≡ Some z → cond (place_is_of station (stations state) i) (owed_in known z || is_some (known_in known z)) (owed_in known z) ≡ owed_in after z
  owed-is i None at = either (place_is_of station (stations state) i)
    where
      either : (own : Bool) → cond own false false ≡ false
      either true = refl
      either false = refl
  owed-is i (Some block) at =
      ap (λ (own : Bool). cond own (owed_in known (Some block) || is_some (known_in known (Some block))) (owed_in known (Some block))) (own-place i block at) ∙ either (block.station == station)
    where
      either : (own : Bool) → cond own (owed_in known (Some block) || is_some (known_in known (Some block))) (owed_in known (Some block))
          ≡ differs block.block.bytes (cond own None (known block.station block.number))
      either true = owed-then block.block.bytes (known block.station block.number)
      either false = refl

  known-map : (n : ℕ) → n ≡ length all → (forgotten_below station n before).known ≡ map (known_in after) all
  known-map n size = is-map (forgotten_below station n before).known (known_in after) all (known-size station before n ∙ length-map all (known_in known))
      (λ i z at. known-at station before n i (known_in known z) (let low = slice_get_within all i z at in omega (arith, low, size)) (slice_get-map (known_in known) all i ∙ ap (option_map (known_in known)) at)
      ∙ ap (λ (found : Option (List ℕ)). Some found) (known-is i z at))

  owed-map : (n : ℕ) → n ≡ length all → (forgotten_below station n before).owed ≡ map (owed_in after) all
  owed-map n size = is-map (forgotten_below station n before).owed (owed_in after) all (owed-size station before n ∙ length-map all (owed_in known))
      (λ i z at. owed-at station before n i (known_in known z) (owed_in known z) (let low = slice_get_within all i z at in omega (arith, low, size))
      (slice_get-map (known_in known) all i ∙ ap (option_map (known_in known)) at) (slice_get-map (owed_in known) all i ∙ ap (option_map (owed_in known)) at)
      ∙ ap (λ (flag : Bool). Some flag) (owed-is i z at))

  forgotten : (n : ℕ) → n ≡ length all → forgotten_below station n before ≡ register_state_of after state
  forgotten n size =
      let then' = forgotten_below station n before in
      ap (λ (k : List (Option (List ℕ))). register_state_from k then'.owed then'.stations) (known-map n size)
      ∙ ap (λ (o : List Bool). register_state_from (map (known_in after) all) o then'.stations) (owed-map n size)
      ∙ ap (λ (s : List ℕ). register_state_from (map (known_in after) all) (map (owed_in after) all) s) (same-stations station before n)

pub forgotten-right : (station n : ℕ) (register_state : RegisterState) (known : Knowledge) (state : State) → register_state ≡ register_state_of known state → n ≡ length register_state.known → forgotten_below station n register_state ≡ register_state_of (known_without station known) state
forgotten-right station n register_state known state right size =
    ap (forgotten_below station n) right
    ∙ forgotten station known state n (size ∙ ap (λ (b : RegisterState). length b.known) right ∙ length-map (places state) (known_in known))

-- a place that has a block

pub block-owed : (register_state : RegisterState) (n : ℕ) → slice_get register_state.owed n ≡ Some true → true ≡ has_block register_state n
block-owed register_state n owed = sym (ap (λ (found : Option Bool). unwrap_or found false || is_some (unwrap_or (slice_get register_state.known n) None)) owed)

pub block-known : (register_state : RegisterState) (n : ℕ) (known : Option (List ℕ)) → slice_get register_state.owed n ≡ Some false → slice_get register_state.known n ≡ Some known → is_some known ≡ has_block register_state n
block-known register_state n known owed is =
    sym (ap (λ (found : Option Bool). unwrap_or found false || is_some (unwrap_or (slice_get register_state.known n) None)) owed
    ∙ ap (λ (found : Option (Option (List ℕ))). is_some (unwrap_or found None)) is)

pub mapped-some : {X Y : Type 0} (f : X → Y) (found : Option X) → is_some found ≡ is_some (option_map f found)
mapped-some f None = refl
mapped-some f (Some x) = refl

-- The state of the areas once blocks are sent and once they are answered.
use Rattle.std.proofs.Common.{◌≡◌, ℕ, ◌*◌, ◌<◌, true, false, cond, Bool, List, [], ◌∷◌, length, sym, ap, ◌∙◌, subst, arith, Option, Some, None}
use Rattle.std.specs.Prelude.{All, option_map, slice_get}
use Rattle.std.proofs.lemmas.List.{length-map}
use Rattle.std.proofs.lemmas.List.Elements.{All-cons, All-head, All-nil, All-tail, All-weaker}
use Rattle.std.proofs.lemmas.List.FromFn.{length-map-range_with_len}
use Rattle.std.proofs.lemmas.Option.{slice_get_within}
use Rattle.hc_records.specs.declared.records.Slave.{Slave}
use Rattle.hc_records.specs.Line.{State, groups_of}
use Rattle.hc_records.specs.Project.{slaves_of}
use Rattle.hc_registers.specs.Blocks.{LineBlock, RegisterBlock}
use Rattle.hc_registers.specs.RankPlaces.{places, stations}
use Rattle.hc_registers.proofs.lemmas.RanksStanding.{length-places}
use Rattle.hc_plan.specs.Reports.{found_name}
use Rattle.hc_events.specs.declared.answer.Outcome.{Outcome}
use Rattle.hc_events.specs.Heads.{Head, Item, Datagram, Block}
use Rattle.hc_owed.specs.declared.area.JudgedArea.{JudgedArea}
use Rattle.hc_owed.specs.Laws.{known_with}
use Rattle.hc_owed.specs.Readiness.{Holdings, judged_at, readiness_of}
use Rattle.hc_owed.specs.ReadinessSteps.{IsReadinessAt, held_with, only_contents, with_contents}
use Rattle.hc_owed.specs.RegisterState.{Knowledge, lacks}
use Rattle.hc_sendings.specs.declared.write_frames.PlacedBlock.{PlacedBlock}
use Rattle.hc_sendings.specs.declared.writes.AwaitedBlock.{AwaitedBlock}
use Rattle.hc_core.specs.Chosen.{IsAwaitedAt, IsLineBlock, block_bytes_in, known_if, write_is_done}
use Rattle.hc_core.specs.Held.{CanConfirmAreas, CanMarkAreas, held_if, held_only}
use Rattle.hc_core.proofs.ChosenBlocks.{configured-at, lacks_with}

-- a place that has a block is one of a stored area
pub areas-within : (areas : List JudgedArea) (known : Knowledge) (held : Holdings) (unplugged : ℕ → Bool) (state : State) (n : ℕ) (block : LineBlock) → areas ≡ readiness_of known held unplugged state
    → slice_get (places state) n ≡ Some (Some block) → n < 2 * length areas
areas-within areas known held unplugged state n block right at =
    let long : length areas ≡ 8 * length (stations state) = ap length right ∙ length-map-range_with_len (judged_at known held unplugged state) 0 (8 * length (stations state)) in
    let within : n < length (places state) = slice_get_within (places state) n (Some block) at in
    let own : length (stations state) ≡ length (slaves_of (groups_of state.groups)) = length-map (slaves_of (groups_of state.groups)) (λ (slave : Slave). slave.station) in
    omega (arith, long, within, own, length-places state)

-- blocks that are sent

abbrev pub area-first : (areas : List JudgedArea) (placed : PlacedBlock) (rest : List PlacedBlock) (can : CanMarkAreas areas (placed ∷ rest))
    → IsReadinessAt areas placed.place can.known can.held can.unplugged can.state placed.block
area-first areas placed rest can = record { right = can.right; project = can.project; is_placed = All-head (IsLineBlock can.state) placed rest can.placed }

pub area-lacks : (areas : List JudgedArea) (placed : PlacedBlock) (rest : List PlacedBlock) (can : CanMarkAreas areas (placed ∷ rest)) → lacks can.known placed.block ≡ true
area-lacks areas placed rest can = All-head (λ (one : PlacedBlock). lacks can.known one.block ≡ true) placed rest can.lacking

abbrev pub area-rest : (areas new : List JudgedArea) (placed : PlacedBlock) (rest : List PlacedBlock) (can : CanMarkAreas areas (placed ∷ rest))
    → new ≡ readiness_of (known_with (found_name placed.block) None can.known) (held_with (found_name placed.block) (with_contents placed.block.block.bytes) can.held) can.unplugged can.state → CanMarkAreas new rest
area-rest areas new placed rest can sent = record {
  known = known_with (found_name placed.block) None can.known;
  held = held_with (found_name placed.block) (with_contents placed.block.block.bytes) can.held;
  unplugged = can.unplugged;
  state = can.state;
  project = can.project;
  right = sent;
  placed = All-tail (IsLineBlock can.state) placed rest can.placed;
  lacking =
      All-weaker (λ (one : PlacedBlock). lacks can.known one.block ≡ true) (λ (one : PlacedBlock). lacks (known_with (found_name placed.block) None can.known) one.block ≡ true)
      (λ one lacking. lacks_with can.known (found_name placed.block) one.block lacking) rest (All-tail (λ (one : PlacedBlock). lacks can.known one.block ≡ true) placed rest can.lacking);
}

abbrev pub area-cut : (areas : List JudgedArea) (blocks : List PlacedBlock) (first : PlacedBlock) (rest : List PlacedBlock) → blocks ≡ first ∷ rest → CanMarkAreas areas blocks → CanMarkAreas areas (first ∷ rest)
area-cut areas blocks first rest cut can = record {
  known = can.known;
  held = can.held;
  unplugged = can.unplugged;
  state = can.state;
  project = can.project;
  right = can.right;
  placed = subst (All (IsLineBlock can.state)) cut can.placed;
  lacking = subst (All (λ (one : PlacedBlock). lacks can.known one.block ≡ true)) cut can.lacking;
}

-- blocks that are answered

abbrev station_in : Item → ℕ
station_in (Datagram task d) = 0
station_in (Block station number) = station

abbrev number_in : Item → ℕ
number_in (Datagram task d) = 0
number_in (Block station number) = number

pub answered-first : (areas : List JudgedArea) (block : AwaitedBlock) (rest : List AwaitedBlock) (can : CanConfirmAreas areas (block ∷ rest)) → IsAwaitedAt can.state block
answered-first areas block rest can = All-head (IsAwaitedAt can.state) block rest can.placed

abbrev pub answered-one : (areas : List JudgedArea) (block : AwaitedBlock) (rest : List AwaitedBlock) → CanConfirmAreas areas (block ∷ rest) → CanConfirmAreas areas (block ∷ [])
answered-one areas block rest can = record {
  known = can.known;
  held = can.held;
  unplugged = can.unplugged;
  state = can.state;
  project = can.project;
  right = can.right;
  placed = All-cons (IsAwaitedAt can.state) block [] (answered-first areas block rest can) (All-nil (IsAwaitedAt can.state));
}

abbrev pub answered-rest : (areas new : List JudgedArea) (block : AwaitedBlock) (rest : List AwaitedBlock) (outcome : Outcome) (can : CanConfirmAreas areas (block ∷ rest))
    → new ≡ readiness_of (known_if can.state block outcome can.known) (held_if can.state block outcome can.held) can.unplugged can.state → CanConfirmAreas new rest
answered-rest areas new block rest outcome can confirmed = record {
  known = known_if can.state block outcome can.known;
  held = held_if can.state block outcome can.held;
  unplugged = can.unplugged;
  state = can.state;
  project = can.project;
  right = confirmed;
  placed = All-tail (IsAwaitedAt can.state) block rest can.placed;
}

abbrev pub answered-cut : (areas : List JudgedArea) (blocks : List AwaitedBlock) (first : AwaitedBlock) (rest : List AwaitedBlock) → blocks ≡ first ∷ rest → CanConfirmAreas areas blocks → CanConfirmAreas areas (first ∷ rest)
answered-cut areas blocks first rest cut can = record {
  known = can.known;
  held = can.held;
  unplugged = can.unplugged;
  state = can.state;
  project = can.project;
  right = can.right;
  placed = subst (All (IsAwaitedAt can.state)) cut can.placed;
}

pub answered-done : (areas new : List JudgedArea) (block : AwaitedBlock) (outcome : Outcome) (can : CanConfirmAreas areas (block ∷ [])) → write_is_done outcome ≡ true
    → ((known : Knowledge) (held : Holdings) (unplugged : ℕ → Bool) (state : State) (found : LineBlock) → IsReadinessAt areas block.place known held unplugged state found
    → new ≡ readiness_of (known_with (found_name found) (Some found.block.bytes) known) (held_with (found_name found) (only_contents found.block.bytes) held) unplugged state)
    → new ≡ readiness_of (known_if can.state block outcome can.known) (held_if can.state block outcome can.held) can.unplugged can.state
answered-done areas new block outcome can done confirmed =
    let state = can.state in
    let at = answered-first areas block [] can in
    let station : at.found.station ≡ block.station = sym (ap (λ (head : Head). station_in head.item) at.head) in
    let number : at.found.number ≡ block.number = sym (ap (λ (head : Head). number_in head.item) at.head) in
    let areas : ℕ → ℕ → Option (List ℕ) → List JudgedArea =
    λ s n bytes. readiness_of (known_with (s, n) bytes can.known) (held_with (s, n) (held_only bytes) can.held) can.unplugged state in
    confirmed can.known can.held can.unplugged state at.found (record { right = can.right; project = can.project; is_placed = at.at })
    ∙ ap (λ s. areas s at.found.number (Some at.found.block.bytes)) station
    ∙ ap (λ n. areas block.station n (Some at.found.block.bytes)) number
    ∙ ap (λ (found : Option RegisterBlock). areas block.station block.number (option_map (λ (one : RegisterBlock). one.bytes) found)) (sym (configured-at state block at can.project))
    ∙ sym (ap (λ b. readiness_of (cond b (known_with (block.station, block.number) (block_bytes_in state block) can.known) can.known)
    (cond b (held_with (block.station, block.number) (held_only (block_bytes_in state block)) can.held) can.held) can.unplugged state) done)

pub answered-undone : (areas : List JudgedArea) (block : AwaitedBlock) (outcome : Outcome) (can : CanConfirmAreas areas (block ∷ [])) → write_is_done outcome ≡ false
    → areas ≡ readiness_of (known_if can.state block outcome can.known) (held_if can.state block outcome can.held) can.unplugged can.state
answered-undone areas block outcome can other =
    can.right ∙ sym (ap (λ b. readiness_of (cond b (known_with (block.station, block.number) (block_bytes_in can.state block) can.known) can.known)
    (cond b (held_with (block.station, block.number) (held_only (block_bytes_in can.state block)) can.held) can.held) can.unplugged can.state) other)

pub answered-within : (areas : List JudgedArea) (block : AwaitedBlock) → CanConfirmAreas areas (block ∷ []) → block.place < 2 * length areas
answered-within areas block can =
    let at = answered-first areas block [] can in
    areas-within areas can.known can.held can.unplugged can.state block.place at.found can.right at.at

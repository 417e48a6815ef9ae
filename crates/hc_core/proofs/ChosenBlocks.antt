-- The owed blocks that a frame carries, and the knowledge of registers once they are sent and once they are answered.
use Rattle.std.proofs.Common.{◌≡◌, ℕ, zero, suc, ◌+◌, ◌<◌, ◌≤◌, Bool, true, false, cond, not, List, [], ◌∷◌, ◌++◌, filter, length, map, take, refl, sym, ap, ◌∙◌, subst, arith, append_assoc, Option, Some, None, rules}
use Rattle.std.specs.Prelude.{All, Contains, option_map, option_to_list, slice_get}
use Rattle.std.specs.Option.{option_map_or}
use Rattle.std.specs.Str.{bytes_eq}
use Rattle.std.proofs.lemmas.List.{append-nil, length-map, map-append}
use Rattle.std.proofs.lemmas.List.Elements.{All-append, All-cons, All-contains, All-head, All-nil, All-tail, All-weaker, Contains-append_left, Contains-append_right}
use Rattle.std.proofs.lemmas.List.Sums.{sum_by-cons}
use Rattle.std.proofs.lemmas.Option.{same_Some, slice_get_within}
use Rattle.hc_records.proofs.lemmas.Choices.{by_bool}
use Rattle.hc_records.proofs.lemmas.Stations.{project-distinct}
use Rattle.hc_records.specs.Line.{State, groups_of, line}
use Rattle.hc_records.specs.Project.{lowest_fault}
use Rattle.hc_registers.specs.Blocks.{LineBlock, RegisterBlock, line_blocks}
use Rattle.hc_registers.specs.RankLaws.{standing}
use Rattle.hc_registers.specs.RankPlaces.{places}
use Rattle.hc_registers.proofs.lemmas.RanksGapless.{places-hold}
use Rattle.hc_registers.proofs.lemmas.RanksStanding.{length-places}
use Rattle.hc_records.proofs.lemmas.Lines.{declared_slaves}
use Rattle.hc_records.proofs.lemmas.Projects.{project-few}
use Rattle.hc_events.proofs.lemmas.BlockSizes.{Sized, line-sized}
use Rattle.hc_plan.specs.Configuration.{block_at}
use Rattle.hc_plan.specs.Reports.{found_name}
use Rattle.hc_plan.proofs.lemmas.Configured.{configured-block}
use Rattle.hc_events.specs.declared.answer.Outcome.{Outcome}
use Rattle.hc_events.specs.Heads.{Head, Item, Datagram, Block}
use Rattle.hc_events.specs.Sendings.{has_room}
use Rattle.hc_events.specs.WriteFrames.{block_bytes, blocks_beside, blocks_bytes}
use Rattle.hc_owed.specs.RegisterState.{RegisterState, Knowledge, register_state_of, lacks}
use Rattle.hc_owed.specs.Laws.{IsRightAt, known_with, owed_from, same_name}
use Rattle.hc_sendings.specs.declared.write_frames.PlacedBlock.{PlacedBlock}
use Rattle.hc_sendings.specs.declared.writes.AwaitedBlock.{AwaitedBlock}
use Rattle.hc_sendings.specs.Waiting.{Waiting, is_newest_awaited}
use Rattle.hc_sendings.specs.WriteFrames.{WriteFrame, block_of, block_joined}
use Rattle.hc_core.specs.Chosen.{CanConfirm, CanMark, IsAwaitedAt, IsChosenFrom, IsNext, IsLineBlock, Source, block_bytes_in, further_from, write_is_done, known_if}

-- which blocks a frame carries

take_none : {X : Type 0} (n : ℕ) (xs : List X) → xs ≡ [] → take n xs ≡ []
take_none zero xs none = refl
take_none (suc n) [] none = refl
take_none (suc n) (x ∷ xs) none = cc

no_more : (n : ℕ) → n ≡ n + 0
no_more n = omega arith

-- no block joins if none may, if none is left, or if the next one has no room
pub chosen-none : (source : Source) (state : State) (place most : ℕ) (frame : WriteFrame) → take most (blocks_beside frame.bytes (source place)) ≡ [] → IsChosenFrom source state place most frame frame
chosen-none source state place most frame none = record {
  blocks = sym (append-nil (map block_of frame.blocks)) ∙ ap (λ more. map block_of frame.blocks ++ more) (sym none);
  bytes = no_more frame.bytes ∙ ap (λ more. frame.bytes + blocks_bytes more) (sym none);
  placed = λ all. all;
}

pub chosen-over : (source : Source) (state : State) (place most : ℕ) (frame : WriteFrame) → source place ≡ [] → IsChosenFrom source state place most frame frame
chosen-over source state place most frame none =
    chosen-none source state place most frame (take_none most (blocks_beside frame.bytes (source place)) (ap (blocks_beside frame.bytes) none))

pub chosen-full : (source : Source) (state : State) (place most : ℕ) (frame : WriteFrame) (next : PlacedBlock) → IsNext source state place next → has_room frame.bytes (length next.block.block.bytes) ≡ false
    → IsChosenFrom source state place most frame frame
chosen-full source state place most frame next is full =
    chosen-none source state place most frame
    (take_none most (blocks_beside frame.bytes (source place))
    (ap (blocks_beside frame.bytes) is.next ∙ ap (λ b. cond b (next.block ∷ blocks_beside (frame.bytes + block_bytes next.block) (source (next.place + 1))) []) full))

pub chosen-zero : (source : Source) (state : State) (place most : ℕ) (frame : WriteFrame) → most ≡ 0 → IsChosenFrom source state place most frame frame
chosen-zero source state place most frame none =
    chosen-none source state place most frame (ap (λ n. take n (blocks_beside frame.bytes (source place))) none)

-- a block joins, and then those after it
pub chosen-more : (source : Source) (state : State) (place most left : ℕ) (old new : WriteFrame) (next : PlacedBlock) → IsNext source state place next → has_room old.bytes (length next.block.block.bytes) ≡ true
    → most ≡ suc left → IsChosenFrom source state (next.place + 1) left (block_joined next old) new → IsChosenFrom source state place most old new
chosen-more source state place most left old new next is room more step =
    let later = take left (blocks_beside (old.bytes + block_bytes next.block) (source (next.place + 1))) in
    let beside : blocks_beside old.bytes (source place) ≡ next.block ∷ blocks_beside (old.bytes + block_bytes next.block) (source (next.place + 1)) =
    ap (blocks_beside old.bytes) is.next ∙ ap (λ b. cond b (next.block ∷ blocks_beside (old.bytes + block_bytes next.block) (source (next.place + 1))) []) room in
    let all : take most (blocks_beside old.bytes (source place)) ≡ next.block ∷ later =
    ap (λ n. take n (blocks_beside old.bytes (source place))) more ∙ ap (take (suc left)) beside in
    let sum = sum_by-cons block_bytes next.block later in
    record {
      blocks = step.blocks ∙ ap (λ front. front ++ later) (map-append block_of old.blocks (next ∷ [])) ∙ append_assoc (map block_of old.blocks) (next.block ∷ []) later
          ∙ ap (λ more. map block_of old.blocks ++ more) (sym all);
      bytes = subst (λ more. new.bytes ≡ old.bytes + blocks_bytes more) (sym all) (omega (arith, step.bytes, sum));
      placed = λ at. step.placed (All-append (IsLineBlock state) old.blocks (next ∷ []) at (All-cons (IsLineBlock state) next [] is.at (All-nil (IsLineBlock state))));
    }

-- a lacking block whose newest write is awaited is passed over, another one is the next

pub further-skips : (known : Knowledge) (state : State) (waiting : Waiting) (place : ℕ) (next : PlacedBlock) → IsNext (owed_from known state) state place next → is_newest_awaited next.block.station next.block.number waiting ≡ true
    → further_from known state waiting place ≡ further_from known state waiting (next.place + 1)
further-skips known state waiting place next is waits =
    let passes : LineBlock → Bool = λ block. not (is_newest_awaited block.station block.number waiting) in
    ap (filter passes) is.next ∙ ap (λ b. cond (not b) (next.block ∷ further_from known state waiting (next.place + 1)) (further_from known state waiting (next.place + 1))) waits

pub further-next : (known : Knowledge) (state : State) (waiting : Waiting) (first place : ℕ) (next : PlacedBlock) → first ≤ place → further_from known state waiting first ≡ further_from known state waiting place
    → IsNext (owed_from known state) state place next → is_newest_awaited next.block.station next.block.number waiting ≡ false → IsNext (further_from known state waiting) state first next
further-next known state waiting first place next above same is waits =
    let passes : LineBlock → Bool = λ block. not (is_newest_awaited block.station block.number waiting) in
    let from = is.from in
    record {
      from = omega (arith, above, from);
      at = is.at;
      next = same ∙ ap (filter passes) is.next ∙ ap (λ b. cond (not b) (next.block ∷ further_from known state waiting (next.place + 1)) (further_from known state waiting (next.place + 1))) waits;
    }

pub further-over : (known : Knowledge) (state : State) (waiting : Waiting) (first place : ℕ) → further_from known state waiting first ≡ further_from known state waiting place → owed_from known state place ≡ [] → further_from known state waiting first ≡ []
further-over known state waiting first place same over = same ∙ ap (filter (λ (block : LineBlock). not (is_newest_awaited block.station block.number waiting))) over

-- blocks that are sent

pub lacks_with : (known : Knowledge) (name : ℕ × ℕ) (block : LineBlock) → lacks known block ≡ true → lacks (known_with name None known) block ≡ true
lacks_with known name block lacking =
    by_bool (same_name name (block.station, block.number))
    (λ t. ap (λ b. not (option_map_or (bytes_eq block.block.bytes) (cond b None (known block.station block.number)) false)) t)
    (λ t. ap (λ b. not (option_map_or (bytes_eq block.block.bytes) (cond b None (known block.station block.number)) false)) t ∙ lacking)

abbrev pub mark-first : (register_state : RegisterState) (placed : PlacedBlock) (rest : List PlacedBlock) (can : CanMark register_state (placed ∷ rest)) → IsRightAt register_state placed.place can.known can.state placed.block
mark-first register_state placed rest can = record { right = can.right; project = can.project; is_placed = All-head (IsLineBlock can.state) placed rest can.placed }

pub mark-lacks : (register_state : RegisterState) (placed : PlacedBlock) (rest : List PlacedBlock) (can : CanMark register_state (placed ∷ rest)) → lacks can.known placed.block ≡ true
mark-lacks register_state placed rest can = All-head (λ (one : PlacedBlock). lacks can.known one.block ≡ true) placed rest can.lacking

abbrev pub mark-rest : (register_state new : RegisterState) (placed : PlacedBlock) (rest : List PlacedBlock) (can : CanMark register_state (placed ∷ rest)) → new ≡ register_state_of (known_with (found_name placed.block) None can.known) can.state → CanMark new rest
mark-rest register_state new placed rest can sent = record {
  known = known_with (found_name placed.block) None can.known;
  state = can.state;
  project = can.project;
  right = sent;
  placed = All-tail (IsLineBlock can.state) placed rest can.placed;
  lacking =
      All-weaker (λ (one : PlacedBlock). lacks can.known one.block ≡ true) (λ (one : PlacedBlock). lacks (known_with (found_name placed.block) None can.known) one.block ≡ true)
      (λ one lacking. lacks_with can.known (found_name placed.block) one.block lacking) rest (All-tail (λ (one : PlacedBlock). lacks can.known one.block ≡ true) placed rest can.lacking);
}

-- a place that has a block is one of the stored places
pub unchanged-within : (register_state : RegisterState) (known : Knowledge) (state : State) (n : ℕ) (block : LineBlock) → register_state ≡ register_state_of known state → slice_get (places state) n ≡ Some (Some block) → n < length register_state.known
unchanged-within register_state known state n block right at = search (rules, slice_get_within, length-map)

pub no_items : {X : Type 0} (xs : List X) → length xs ≡ 0 → xs ≡ []
no_items [] none = refl
no_items (x ∷ xs) none = cc

-- blocks that are answered

is_placed_among : (all : List (Option LineBlock)) (n : ℕ) (block : LineBlock) → slice_get all n ≡ Some (Some block) → Contains (standing all) block
is_placed_among [] n block at = cc
is_placed_among (one ∷ all) zero block at =
    subst (λ found. Contains (option_to_list found ++ standing all) block) (sym (same_Some one (Some block) at))
    (Contains-append_left (block ∷ []) (standing all) block (0, omega arith, refl))
is_placed_among (one ∷ all) (suc n) block at = Contains-append_right (option_to_list one) (standing all) block (is_placed_among all n block at)

pub placed-inside : (state : State) (n : ℕ) (block : LineBlock) → lowest_fault (groups_of state.groups) ≡ None → slice_get (places state) n ≡ Some (Some block) → Contains (line_blocks (line state)) block
placed-inside state n block project at = subst (λ all. Contains all block) (places-hold state project) (is_placed_among (places state) n block at)

abbrev station_in : Item → ℕ
station_in (Datagram task d) = 0
station_in (Block station number) = station

abbrev number_in : Item → ℕ
number_in (Datagram task d) = 0
number_in (Block station number) = number

-- the line configures the block for its slave
pub configured-at : (state : State) (block : AwaitedBlock) (at : IsAwaitedAt state block) → lowest_fault (groups_of state.groups) ≡ None → block_at (line state) block.station block.number ≡ Some at.found.block
configured-at state block at project =
    let station : block.station ≡ at.found.station = ap (λ (head : Head). station_in head.item) at.head in
    let number : block.number ≡ at.found.number = ap (λ (head : Head). number_in head.item) at.head in
    ap (λ n. block_at (line state) n block.number) station ∙ ap (block_at (line state) at.found.station) number
    ∙ configured-block (line state) (line state) at.found (project-distinct state.groups project) (placed-inside state block.place at.found project at.at)

pub first-awaited : (register_state : RegisterState) (plan : State) (block : AwaitedBlock) (rest : List AwaitedBlock) (can : CanConfirm register_state plan (block ∷ rest)) → IsAwaitedAt can.state block
first-awaited register_state plan block rest can = All-head (IsAwaitedAt can.state) block rest can.placed

abbrev pub confirm-first : (register_state : RegisterState) (plan : State) (block : AwaitedBlock) (rest : List AwaitedBlock) → CanConfirm register_state plan (block ∷ rest) → CanConfirm register_state plan (block ∷ [])
confirm-first register_state plan block rest can = record {
  known = can.known;
  state = can.state;
  planned = can.planned;
  project = can.project;
  right = can.right;
  placed = All-cons (IsAwaitedAt can.state) block [] (first-awaited register_state plan block rest can) (All-nil (IsAwaitedAt can.state));
}

abbrev pub confirm-rest : (register_state new : RegisterState) (plan : State) (block : AwaitedBlock) (rest : List AwaitedBlock) (outcome : Outcome) (can : CanConfirm register_state plan (block ∷ rest))
    → new ≡ register_state_of (known_if can.state block outcome can.known) can.state → CanConfirm new plan rest
confirm-rest register_state new plan block rest outcome can confirmed = record {
  known = known_if can.state block outcome can.known;
  state = can.state;
  planned = can.planned;
  project = can.project;
  right = confirmed;
  placed = All-tail (IsAwaitedAt can.state) block rest can.placed;
}

-- the knowledge of registers once a block's write is done
pub confirmed-known : (register_state new : RegisterState) (plan : State) (block : AwaitedBlock) (outcome : Outcome) (can : CanConfirm register_state plan (block ∷ [])) → write_is_done outcome ≡ true
    → ((known : Knowledge) (state : State) (found : LineBlock) → plan ≡ state → IsRightAt register_state block.place known state found → new ≡ register_state_of (known_with (found_name found) (Some found.block.bytes) known) state)
    → new ≡ register_state_of (known_if can.state block outcome can.known) can.state
confirmed-known register_state new plan block outcome can done confirmed =
    let state = can.state in
    let at = first-awaited register_state plan block [] can in
    let station : at.found.station ≡ block.station = sym (ap (λ (head : Head). station_in head.item) at.head) in
    let number : at.found.number ≡ block.number = sym (ap (λ (head : Head). number_in head.item) at.head) in
    confirmed can.known state at.found can.planned (record { right = can.right; project = can.project; is_placed = at.at })
    ∙ ap (λ n. register_state_of (known_with (n, at.found.number) (Some at.found.block.bytes) can.known) state) station
    ∙ ap (λ n. register_state_of (known_with (block.station, n) (Some at.found.block.bytes) can.known) state) number
    ∙ ap (λ (found : Option RegisterBlock). register_state_of (known_with (block.station, block.number) (option_map (λ (one : RegisterBlock). one.bytes) found) can.known) state) (sym (configured-at state block at can.project))
    ∙ sym (ap (λ b. register_state_of (cond b (known_with (block.station, block.number) (block_bytes_in state block) can.known) can.known) state) done)

pub undone : (register_state : RegisterState) (plan : State) (block : AwaitedBlock) (outcome : Outcome) (can : CanConfirm register_state plan (block ∷ [])) → write_is_done outcome ≡ false
    → register_state ≡ register_state_of (known_if can.state block outcome can.known) can.state
undone register_state plan block outcome can other =
    can.right ∙ sym (ap (λ b. register_state_of (cond b (known_with (block.station, block.number) (block_bytes_in can.state block) can.known) can.known) can.state) other)

pub awaited-within : (register_state : RegisterState) (plan : State) (block : AwaitedBlock) → CanConfirm register_state plan (block ∷ []) → block.place < length register_state.known
awaited-within register_state plan block can =
    let at = first-awaited register_state plan block [] can in
    unchanged-within register_state can.known can.state block.place at.found can.right at.at

-- a place of a project's line is low
pub place-low : (state : State) (n : ℕ) (block : LineBlock) → lowest_fault (groups_of state.groups) ≡ None → slice_get (places state) n ≡ Some (Some block) → n < 32768
place-low state n block project at =
    let few : length (declared_slaves state.groups) ≤ 2048 = project-few (groups_of state.groups) project in
    let within : n < length (places state) = slice_get_within (places state) n (Some block) at in
    omega (arith, few, within, length-places state)

-- and its blocks have 8 bytes at least
pub placed-sized : (state : State) (n : ℕ) (block : LineBlock) → lowest_fault (groups_of state.groups) ≡ None → slice_get (places state) n ≡ Some (Some block) → 8 ≤ length block.block.bytes
placed-sized state n block project at = (All-contains Sized (line_blocks (line state)) block (line-sized (line state)) (placed-inside state n block project at)).least

-- the same condition, of blocks that are cut

abbrev pub can-cut : (register_state : RegisterState) (blocks : List PlacedBlock) (first : PlacedBlock) (rest : List PlacedBlock) → blocks ≡ first ∷ rest → CanMark register_state blocks → CanMark register_state (first ∷ rest)
can-cut register_state blocks first rest cut can = record {
  known = can.known;
  state = can.state;
  project = can.project;
  right = can.right;
  placed = subst (All (IsLineBlock can.state)) cut can.placed;
  lacking = subst (All (λ (one : PlacedBlock). lacks can.known one.block ≡ true)) cut can.lacking;
}

abbrev pub confirm-cut : (register_state : RegisterState) (plan : State) (blocks : List AwaitedBlock) (first : AwaitedBlock) (rest : List AwaitedBlock) → blocks ≡ first ∷ rest → CanConfirm register_state plan blocks → CanConfirm register_state plan (first ∷ rest)
confirm-cut register_state plan blocks first rest cut can = record {
  known = can.known;
  state = can.state;
  planned = can.planned;
  project = can.project;
  right = can.right;
  placed = subst (All (IsAwaitedAt can.state)) cut can.placed;
}

-- The register state is right for the new line after an accepted edit.
use Rattle.std.proofs.Common.{◌≡◌, ℕ, ◌*◌, ◌<◌, Bool, false, List, [], ◌∷◌, length, map, refl, sym, ap, ◌∙◌, arith, rules}
use Rattle.std.specs.Prelude.{◌≢◌, All, None, Some, Option, option_map, slice_get, unwrap_or}
use Rattle.std.proofs.lemmas.List.{length-map}
use Rattle.std.proofs.lemmas.List.Elements.{All-head, All-nil, All-tail, All-weaker}
use Rattle.std.proofs.lemmas.Option.{same_Some, slice_get-map, slice_get_within}
use Rattle.hc_records.specs.declared.records.Slave.{Slave}
use Rattle.hc_records.proofs.lemmas.Lines.{declared_slaves}
use Rattle.hc_registers.specs.Blocks.{LineBlock, RegisterBlock}
use Rattle.hc_registers.specs.declared.ranked.Gone.{Gone}
use Rattle.hc_registers.specs.Ranked.{RankedBlock}
use Rattle.hc_registers.specs.RankDifferences.{IsGone, IsAtItsPlace, block_place, first_gone}
use Rattle.hc_registers.specs.RankPlaces.{places}
use Rattle.hc_registers.proofs.lemmas.RanksStanding.{length-places}
use Rattle.hc_plan.proofs.lemmas.PlaceNames.{came, same-name, same-stations, is_placed-on}
use Rattle.hc_owed.specs.RegisterState.{RegisterState, Knowledge, differs, register_state_of, known_in, owed_in}
use Rattle.hc_owed.specs.Laws.{RegistersAreEdited, known_over}
use Rattle.hc_owed.specs.Steps.{cleared, compared, compared_all, owed_where_moved}
use Rattle.hc_owed.proofs.Opened.{register_state_from}
use Rattle.hc_plan.specs.RegisterBlocks.{replaced_from}
use Rattle.hc_plan.proofs.lemmas.Replaced.{is-map, length-changed, length-filled}
use Rattle.hc_plan.proofs.lemmas.StoredBlocks.{RightUnless, changed-right, filled-at}

-- the comparing of moved blocks

owed-moved : (known : Knowledge) (all : List (Option LineBlock)) (m : RankedBlock) (register_state : RegisterState) → register_state.known ≡ map (known_in known) all → IsAtItsPlace all m
    → owed_where_moved m register_state ≡ owed_in known (Some m.found)
owed-moved known all m register_state is is_placed =
    ap (λ (o : Option (Option (List ℕ))). differs m.found.block.bytes (unwrap_or o None))
    (ap (λ (list : List (Option (List ℕ))). slice_get list (block_place m)) is ∙ slice_get-map (known_in known) all (block_place m) ∙ ap (option_map (known_in known)) is_placed)

compared-known : (moved : List RankedBlock) (register_state : RegisterState) → (compared_all moved register_state).known ≡ register_state.known
compared-known [] register_state = refl
compared-known (m ∷ moved) register_state = compared-known moved (compared m register_state)

compared-stations : (moved : List RankedBlock) (register_state : RegisterState) → (compared_all moved register_state).stations ≡ register_state.stations
compared-stations [] register_state = refl
compared-stations (m ∷ moved) register_state = compared-stations moved (compared m register_state)

compared-one : (m : RankedBlock) (register_state : RegisterState) → length (compared m register_state).owed ≡ length register_state.owed
compared-one m register_state = length-changed (block_place m) (λ _. differs m.found.block.bytes (unwrap_or (slice_get register_state.known (block_place m)) None)) register_state.owed

compared-size : (moved : List RankedBlock) (register_state : RegisterState) → length (compared_all moved register_state).owed ≡ length register_state.owed
compared-size [] register_state = refl
compared-size (m ∷ moved) register_state = compared-size moved (compared m register_state) ∙ compared-one m register_state

-- the flags are right over all places once the moved blocks were compared
all-compared : (known : Knowledge) (all : List (Option LineBlock)) (moved : List RankedBlock) (register_state : RegisterState) → register_state.known ≡ map (known_in known) all → length register_state.owed ≡ length all
    → All (IsAtItsPlace all) moved → RightUnless (owed_in known) all moved register_state.owed → RightUnless (owed_in known) all [] (compared_all moved register_state).owed
all-compared known all [] register_state is size are_placed right = right
all-compared known all (m ∷ moved) register_state is size are_placed right =
    let here = All-head (IsAtItsPlace all) m moved are_placed in
    all-compared known all moved (compared m register_state) is (compared-one m register_state ∙ size) (All-tail (IsAtItsPlace all) m moved are_placed)
    (changed-right (owed_in known) all m moved (owed_where_moved m register_state) register_state.owed size here (owed-moved known all m register_state is here) right)

-- before the moved blocks are compared, what is known is right, and every other flag

module _ (register_state : RegisterState) (gone : Gone) (moved : List RankedBlock) (is : RegistersAreEdited register_state gone moved) where
  abbrev pub olds : List (Option LineBlock)
  olds = places is.old

  abbrev pub updates : List (Option LineBlock)
  updates = places is.new

  abbrev pub over : Knowledge
  over = known_over is.old is.known

  abbrev pub from : ℕ
  from = first_gone gone

  abbrev pub count : ℕ
  count = 16 * gone.slaves

  -- both lines have the same places
  same-size : length olds ≡ length updates
  same-size =
      let station : Slave → ℕ = λ slave. slave.station in
      let stood = length-map (declared_slaves is.old.groups) station in
      let are_placed = length-map (declared_slaves is.new.groups) station in
      let same = ap length (same-stations is.old is.new is.edit is.same is.accepted) in
      let first = length-places is.old in
      let second = length-places is.new in
      omega (arith, stood, are_placed, same, first, second)

  -- a block that stayed has its name, and its slave was known
  stayed-known : (n : ℕ) (before block : LineBlock) → slice_get olds n ≡ Some (Some before) → slice_get updates n ≡ Some (Some block) → is.known before.station before.number ≡ over block.station block.number
  stayed-known n before block stood at =
      let name = same-name is.old is.new is.edit n before block is.accepted stood at in
      search (rules, is_placed-on)

  pub known-stays : (n : ℕ) (w z : Option LineBlock) → slice_get olds n ≡ Some w → slice_get updates n ≡ Some z → (IsGone gone n → ⊥) → known_in is.known w ≡ known_in over z
  known-stays n w z stood at out = search (rules, came, stayed-known)

  pub owed-stays : (n : ℕ) (w z : Option LineBlock) → slice_get olds n ≡ Some w → slice_get updates n ≡ Some z → (IsGone gone n → ⊥) → All (λ m. block_place m ≢ n) moved → owed_in is.known w ≡ owed_in over z
  owed-stays n None None stood at out others = refl
  owed-stays n None (Some block) stood at out others =
      let was = is.differ.names.others n block at others in
      let no : Some None ≡ Some (Some was.before) = sym stood ∙ was.stood in
      let never : None ≡ Some was.before = same_Some None (Some was.before) no in cc
  owed-stays n (Some before) None stood at out others = absurd (out (is.differ.stays n before stood at))
  owed-stays n (Some before) (Some block) stood at out others =
      let was = is.differ.names.others n block at others in
      let one : Some was.before ≡ Some before = same_Some (Some was.before) (Some before) (sym was.stood ∙ stood) in
      let bytes : before.block.bytes ≡ block.block.bytes = ap (λ (b : LineBlock). b.block.bytes) (sym (same_Some was.before before one)) ∙ ap (λ (b : RegisterBlock). b.bytes) was.same in
      ap (λ (list : List ℕ). differs list (is.known before.station before.number)) bytes ∙ ap (differs block.block.bytes) (stayed-known n before block stood at)

  cleared-known : replaced_from from count None (map (known_in is.known) olds) ≡ map (known_in over) updates
  cleared-known =
      is-map (replaced_from from count None (map (known_in is.known) olds)) (known_in over) updates
      (length-filled from count None (map (known_in is.known) olds) ∙ length-map olds (known_in is.known) ∙ same-size)
      (λ n z at. filled-at olds updates gone moved is.differ same-size (known_in is.known) (known_in over) None n z refl at (λ w stood out. known-stays n w z stood at out))

  cleared-owed : RightUnless (owed_in over) updates moved (replaced_from from count false (map (owed_in is.known) olds))
  cleared-owed n z at others = filled-at olds updates gone moved is.differ same-size (owed_in is.known) (owed_in over) false n z refl at (λ w stood out. owed-stays n w z stood at out others)

  owed-size : length (replaced_from from count false (map (owed_in is.known) olds)) ≡ length updates
  owed-size = length-filled from count false (map (owed_in is.known) olds) ∙ length-map olds (owed_in is.known) ∙ same-size

  pub change-right : compared_all moved (cleared gone (register_state_of is.known is.old)) ≡ register_state_of over is.new
  change-right =
      let mid = cleared gone (register_state_of is.known is.old) in
      let after = compared_all moved mid in
      let right = all-compared over updates moved mid cleared-known owed-size is.differ.names.are_placed cleared-owed in
      let owed = is-map after.owed (owed_in over) updates (compared-size moved mid ∙ owed-size) (λ n z at. right n z at (All-nil (λ m. block_place m ≢ n))) in
      ap (λ (k : List (Option (List ℕ))). register_state_from k after.owed after.stations) (compared-known moved mid ∙ cleared-known)
      ∙ ap (λ (o : List Bool). register_state_from (map (known_in over) updates) o after.stations) owed
      ∙ ap (λ (s : List ℕ). register_state_from (map (known_in over) updates) (map (owed_in over) updates) s) (compared-stations moved mid ∙ same-stations is.old is.new is.edit is.same is.accepted)

  -- the places of the moved blocks, and of the slaves that left, are places
  pub known-size : length register_state.known ≡ length updates
  known-size = ap (λ (b : RegisterState). length b.known) is.right ∙ length-map olds (known_in is.known) ∙ same-size

  pub moved-inside : All (λ m. block_place m < length register_state.known) moved
  moved-inside = search (rules, All-weaker, slice_get_within, known-size)

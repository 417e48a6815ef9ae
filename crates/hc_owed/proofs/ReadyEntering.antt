-- The state of the areas is right after a declaration: the areas of the group's slaves keep no task waiting, and the others are
-- as they were.
use Rattle.std.proofs.Common.{◌≡◌, ℕ, zero, suc, ◌+◌, ◌-◌, ◌*◌, ◌/◌, ◌%◌, ◌<◌, ◌≤◌, ◌&&◌, ◌||◌, Bool, true, false, cond, List, [], ◌∷◌, ◌++◌, length, map, refl, sym, ap, ap₂, ◌⊎◌, inl, inr, ◌∙◌, arith, length-append}
use Rattle.std.specs.Prelude.{None, Some, Option, find, is_some, nat_lt, not, option_and_then, replicate, slice_get, slice_index_or}
use Rattle.std.proofs.lemmas.Bool.{cases_lt}
use Rattle.std.proofs.lemmas.Grind.{flat_map-append}
use Rattle.std.proofs.lemmas.List.{append-nil, length-map, map-append}
use Rattle.hc_records.specs.declared.edit.Edit.TheVariants.{Declare}
use Rattle.hc_records.specs.declared.records.Declared.{Declared}
use Rattle.hc_records.specs.declared.records.Group.{Group}
use Rattle.hc_records.specs.declared.records.Slave.{Slave}
use Rattle.hc_records.specs.Edits.{absent, changed, slave_at}
use Rattle.hc_records.specs.Line.{Member, State, is_at}
use Rattle.hc_records.specs.Project.{slaves_of}
use Rattle.hc_records.proofs.lemmas.Declaring.{line-absent}
use Rattle.hc_records.proofs.lemmas.Lines.{declared_slaves}
use Rattle.hc_records.proofs.lemmas.Lists.{get-back, get-front}
use Rattle.hc_registers.specs.Blocks.{LineBlock}
use Rattle.hc_registers.specs.RankPlaces.{places, stations}
use Rattle.hc_registers.proofs.lemmas.RanksDeclared.{declared-places, declared-stations}
use Rattle.hc_registers.proofs.lemmas.RanksStanding.{length-places}
use Rattle.hc_plan.proofs.lemmas.Configured.{at-contained}
use Rattle.hc_plan.proofs.lemmas.PlaceNames.{is_placed-on}
use Rattle.hc_events.specs.Holding.{MayHold}
use Rattle.hc_events.specs.Ready.{names_among}
use Rattle.hc_owed.specs.declared.area.JudgedArea.{JudgedArea}
use Rattle.hc_owed.specs.declared.area.OwedPair.TheVariants.{Neither}
use Rattle.hc_owed.specs.declared.readiness_room.ReadinessRoom.{ReadinessRoom}
use Rattle.hc_owed.specs.declared.task_set.TaskSet.{TaskSet}
use Rattle.hc_owed.specs.Laws.{known_over}
use Rattle.hc_owed.specs.Readiness.{Holdings, area_slave, fmmu_at, held_set, judged_at, no_area, readiness_of, slot, standing_of}
use Rattle.hc_owed.specs.ReadinessRoom.{ReadinessCanAdmit}
use Rattle.hc_owed.specs.ReadinessSteps.{held_over, unplugged_over}
use Rattle.hc_owed.specs.RegisterState.{Knowledge, differs, owed_in}
use Rattle.hc_owed.specs.TaskSets.{no_task, some_task}
use Rattle.hc_owed.proofs.AreaPlaces.{area-of, get-range, is-range, length-range, slot-at}
use Rattle.hc_owed.proofs.JudgedAreas.{area_from, area_of, judged-none, judged-some, same-area}
use Rattle.hc_owed.proofs.Opened.{length-copies}
use Rattle.hc_owed.proofs.ReadyTurns.{some-none}
use Rattle.hc_owed.proofs.TaskLists.{same-where}

get-padded : (xs : List (Option LineBlock)) (k n : ℕ) → slice_index_or (xs ++ replicate k None) n None ≡ slice_index_or xs n None
get-padded [] zero n = refl
get-padded [] (suc k) zero = refl
get-padded [] (suc k) (suc n) = get-padded [] k n
get-padded (x ∷ xs) k zero = refl
get-padded (x ∷ xs) k (suc n) = get-padded xs k n

get-past : (xs : List (Option LineBlock)) (n : ℕ) → length xs ≤ n → slice_index_or xs n None ≡ None
get-past [] n high = refl
get-past (x ∷ xs) zero high = absurd (omega (arith, high))
get-past (x ∷ xs) (suc n) high = get-past xs n (omega (arith, high))

get-copy : {X : Type 0} (k n : ℕ) (x : X) → n < k → slice_get (replicate k x) n ≡ Some x
get-copy zero n x low = absurd (omega (arith, low))
get-copy (suc k) zero x low = refl
get-copy (suc k) (suc n) x low = get-copy k n x (omega (arith, low))

none-named : (held : MayHold) → held.contents ≡ [] → held_set held ≡ no_task
none-named held empty = ap (λ (l : List (List ℕ)). held_set (record { unknown = held.unknown; contents = l })) empty ∙ same-where (λ (t : ℕ). names_among t (record { unknown = held.unknown; contents = [] })) (λ (t : ℕ). false) (λ t low. refl)

module _ (areas : List JudgedArea) (room : ReadinessRoom) (can : ReadinessCanAdmit areas room) where
  abbrev pub old : State
  old = can.old

  abbrev pub new : State
  new = changed can.old (Declare can.group)

  abbrev known' : Knowledge
  known' = known_over can.old can.known

  abbrev held' : Holdings
  held' = held_over can.old (changed can.old (Declare can.group)) can.held

  abbrev unplugged' : ℕ → Bool
  unplugged' = unplugged_over (changed can.old (Declare can.group)) can.unplugged

  pub same-line : (station : ℕ) → slave_at new station ≡ slave_at old station
  same-line station = ap (λ (l : List Member). find (is_at station) l) (line-absent 1 can.old.groups can.group)

  slaves : declared_slaves new.groups ≡ declared_slaves old.groups ++ can.group.slaves
  slaves =
      let group : Declared → Group = λ declared. declared.group in
      ap slaves_of (map-append group can.old.groups (absent can.group ∷ []))
      ∙ flat_map-append (λ (g : Group). g.slaves) (map group can.old.groups) (can.group ∷ [])
      ∙ ap (λ (l : List Slave). declared_slaves can.old.groups ++ l) (append-nil can.group.slaves)

  same-slot : (n : ℕ) → slot new n ≡ slot old n
  same-slot n = ap (λ (l : List (Option LineBlock)). slice_index_or l n None) (declared-places can.old can.group) ∙ get-padded (places can.old) (16 * length can.group.slaves) n

  owed-same : (n : ℕ) → owed_in can.known (slot old n) ≡ owed_in known' (slot new n)
  owed-same n = by (slot old n) refl ∙ sym (ap (owed_in known') (same-slot n))
    where
      by : (found : Option LineBlock) → slot old n ≡ found → owed_in can.known (slot old n) ≡ owed_in known' (slot old n)
      by None is = ap (owed_in can.known) is ∙ sym (ap (owed_in known') is)
      by (Some block) is =
          ap (owed_in can.known) is
          ∙ ap (λ (t : Bool). differs block.block.bytes (cond t (can.known block.station block.number) None)) (sym (is_placed-on can.old n block (slot-at can.old n block is)))
          ∙ sym (ap (owed_in known') is)

  pub never-comes : (a b : Bool) → b ≡ a → (not a && b) ≡ false
  never-comes true true same = refl
  never-comes true false same = refl
  never-comes false false same = refl
  never-comes false true same = cc

  unknown-same : (station n : ℕ) → (can.held station n).unknown ≡ (held' station n).unknown
  unknown-same station n =
      ap (λ (t : Bool). t || (can.held station n).unknown)
      (sym (never-comes (is_some (slave_at can.old station)) (is_some (slave_at new station)) (ap (λ (o : Option Member). is_some o) (same-line station))))

  plugged-same : (station : ℕ) → can.unplugged station ≡ unplugged' station
  plugged-same station = by (is_some (slave_at can.old station)) refl
    where
      both : (a : Bool) → (a && true) ≡ a
      both true = refl
      both false = refl

      by : (inside : Bool) → is_some (slave_at can.old station) ≡ inside → can.unplugged station ≡ unplugged' station
      by true is =
          let plugged = can.right.plugged station is in
          plugged ∙ ap (λ (a : Bool). a && not (is_some (slave_at new station))) (sym plugged)
      by false is =
          sym (ap (λ (t : Bool). can.unplugged station && not t) (ap (λ (o : Option Member). is_some o) (same-line station) ∙ is) ∙ both (can.unplugged station))

  abbrev count : ℕ
  count = length (stations can.old)

  counted : length (declared_slaves old.groups) ≡ count
  counted = sym (length-map (declared_slaves can.old.groups) (λ (slave : Slave). slave.station))

  -- the areas that there were

  area-same : (i : ℕ) → i < 8 * count → area_slave new i ≡ area_slave old i
  area-same i low =
      let all = counted in
      ap (option_and_then (λ (slave : Slave). cond (nat_lt (i % 8) (length slave.areas)) (Some slave) None))
      (ap (λ (l : List Slave). slice_get l (i / 8)) slaves ∙ get-front (declared_slaves can.old.groups) can.group.slaves (i / 8) (omega (arith, low, all)))

  same-standing : (block block' : Option LineBlock) (u u' p p' : Bool) → block ≡ block' → u ≡ u' → p ≡ p' → standing_of (is_some block) u p ≡ standing_of (is_some block') u' p'
  same-standing block block' u u' p p' one two three = cc

  old-area : (i : ℕ) → i < 8 * count → (found : Option Slave) → area_slave old i ≡ found → judged_at can.known can.held can.unplugged old i ≡ judged_at known' held' unplugged' new i
  old-area i low None area = judged-none can.known can.held can.unplugged old i area ∙ sym (judged-none known' held' unplugged' new i (area-same i low ∙ area))
  old-area i low (Some slave) area =
      let holds = can.held slave.station (fmmu_at i) in
      let first = owed_in known' (slot new (2 * i)) in
      let second = owed_in known' (slot new (2 * i + 1)) in
      judged-some can.known can.held can.unplugged old i slave area
      ∙ same-area (owed_in can.known (slot old (2 * i))) (owed_in can.known (slot old (2 * i + 1))) first second (slot old (2 * i + 1)) (slot new (2 * i + 1)) holds holds (can.unplugged slave.station) (unplugged' slave.station)
      (owed-same (2 * i)) (owed-same (2 * i + 1)) (sym (same-slot (2 * i + 1))) refl (plugged-same slave.station)
      ∙ ap (λ (u : Bool). area_of first second (slot new (2 * i + 1)) (record { unknown = u; contents = holds.contents }) (unplugged' slave.station)) (unknown-same slave.station (fmmu_at i))
      ∙ sym (judged-some known' held' unplugged' new i slave (area-same i low ∙ area))

  -- those of the group's slaves

  new-area : (i : ℕ) → 8 * count ≤ i → (found : Option Slave) → area_slave new i ≡ found → no_area ≡ judged_at known' held' unplugged' new i
  new-area i high None area = sym (judged-none known' held' unplugged' new i area)
  new-area i high (Some slave) area =
      let here = area-of new i slave area in
      let all = counted in
      let own = sym (get-back (declared_slaves can.old.groups) can.group.slaves (i / 8) (omega (arith, high, all))) ∙ ap (λ (l : List Slave). slice_get l (i / 8)) (sym slaves) ∙ here.declared in
      let empty = can.empty slave (at-contained can.group.slaves (i / 8 - length (declared_slaves can.old.groups)) slave own) (fmmu_at i) in
      let none : held_set (held' slave.station (fmmu_at i)) ≡ no_task = none-named (held' slave.station (fmmu_at i)) empty in
      let size = length-places can.old in
      let first : slot new (2 * i) ≡ None = same-slot (2 * i) ∙ get-past (places can.old) (2 * i) (omega (arith, size, high, all)) in
      let second : slot new (2 * i + 1) ≡ None = same-slot (2 * i + 1) ∙ get-past (places can.old) (2 * i + 1) (omega (arith, size, high, all)) in
      let unknown = (held' slave.station (fmmu_at i)).unknown in
      sym (judged-some known' held' unplugged' new i slave area
      ∙ ap₂ (λ (a b : Option LineBlock). area_of (owed_in known' a) (owed_in known' b) b (held' slave.station (fmmu_at i)) (unplugged' slave.station)) first second
      ∙ ap (λ (s : TaskSet). area_from no_task s Neither (standing_of false unknown (unplugged' slave.station && some_task s))) none
      ∙ ap (λ (t : Bool). area_from no_task no_task Neither (standing_of false unknown t)) (no-names (unplugged' slave.station)))
    where
      no-names : (u : Bool) → (u && some_task no_task) ≡ false
      no-names true = some-none
      no-names false = refl

  pub entered : areas ++ replicate (8 * length can.group.slaves) no_area ≡ readiness_of (known_over can.old can.known) (held_over can.old (changed can.old (Declare can.group)) can.held) (unplugged_over (changed can.old (Declare can.group)) can.unplugged) (changed can.old (Declare can.group))
  entered =
      is-range (areas ++ replicate more no_area) (judged_at known' held' unplugged' new) (8 * length (stations new)) whole each
    where
      more : ℕ
      more = 8 * length can.group.slaves

      size : length areas ≡ 8 * count
      size = ap length can.right.right ∙ length-range (judged_at can.known can.held can.unplugged can.old) (8 * count)

      whole : length (areas ++ replicate (8 * length can.group.slaves) no_area) ≡ 8 * length (stations new)
      whole =
          let all = length-append areas (replicate (8 * length can.group.slaves) no_area) in
          let copies = length-copies (8 * length can.group.slaves) no_area in
          let named = ap length (declared-stations can.old can.group) ∙ length-append (stations can.old) (map (λ (slave : Slave). slave.station) can.group.slaves) in
          let own = length-map can.group.slaves (λ (slave : Slave). slave.station) in
          let is = size in
          omega (arith, all, copies, named, own, is)

      each : (i : ℕ) → i < 8 * length (stations new) → slice_get (areas ++ replicate (8 * length can.group.slaves) no_area) i ≡ Some (judged_at known' held' unplugged' new i)
      each i low = by (cases_lt i (8 * count))
        where
          by : ((i < 8 * count) ⊎ (8 * count ≤ i)) → slice_get (areas ++ replicate (8 * length can.group.slaves) no_area) i ≡ Some (judged_at known' held' unplugged' new i)
          by (inl front) =
              let is = size in
              get-front areas (replicate (8 * length can.group.slaves) no_area) i (omega (arith, front, is))
              ∙ ap (λ (l : List JudgedArea). slice_get l i) can.right.right ∙ get-range (judged_at can.known can.held can.unplugged can.old) (8 * count) i front
              ∙ ap (λ (a : JudgedArea). Some a) (old-area i front (area_slave can.old i) refl)
          by (inr back) =
              let is = size in
              let all = whole in
              let copies = length-append areas (replicate (8 * length can.group.slaves) no_area) in
              let sum = length-copies (8 * length can.group.slaves) no_area in
              get-back areas (replicate (8 * length can.group.slaves) no_area) i (omega (arith, back, is))
              ∙ get-copy (8 * length can.group.slaves) (i - length areas) no_area (omega (arith, low, all, copies, sum, back, is))
              ∙ ap (λ (a : JudgedArea). Some a) (new-area i back (area_slave new i) refl)

-- The register state is right after a declaration: the group's slaves have empty places after the others, and the places of the
-- others are as they were.
use Rattle.std.proofs.Common.{◌≡◌, ℕ, zero, suc, ◌+◌, ◌*◌, ◌<◌, ◌≤◌, Bool, false, List, [], ◌∷◌, ◌++◌, length, map, refl, sym, ap, ◌∙◌, arith, if◌then◌else◌, length-append, rules}
use Rattle.std.specs.Prelude.{None, Some, Option, option_map, replicate, slice_get}
use Rattle.std.proofs.lemmas.List.{length-map, map-append}
use Rattle.std.proofs.lemmas.Option.{slice_get-map}
use Rattle.hc_records.specs.declared.edit.Edit.TheVariants.{Declare}
use Rattle.hc_records.specs.declared.records.Group.{Group}
use Rattle.hc_records.specs.declared.records.Slave.{Slave}
use Rattle.hc_records.specs.Edits.{absent, changed}
use Rattle.hc_records.specs.Line.{State, groups_of}
use Rattle.hc_records.specs.Project.{slaves_of}
use Rattle.hc_records.proofs.lemmas.Projects.{project-few}
use Rattle.hc_registers.specs.Blocks.{LineBlock}
use Rattle.hc_registers.specs.RankPlaces.{places, stations}
use Rattle.hc_registers.proofs.lemmas.RanksDeclared.{declared-places, declared-stations}
use Rattle.hc_plan.proofs.lemmas.PlaceNames.{is_placed-on}
use Rattle.hc_owed.specs.RegisterState.{RegisterState, Knowledge, register_state_of, known_in, owed_in}
use Rattle.hc_owed.specs.Laws.{known_over}
use Rattle.hc_owed.specs.Room.{RegistersCanAdmit, OwedRoom, registers_widened}
use Rattle.hc_plan.proofs.lemmas.Replaced.{is-map}
use Rattle.hc_owed.proofs.Opened.{register_state_from}

-- of the slaves of the line all stays known

known-same : (known : Knowledge) (old : State) (n : ℕ) (block : LineBlock) → slice_get (places old) n ≡ Some (Some block) → known block.station block.number ≡ known_over old known block.station block.number
known-same known old n block at = ap (λ (here : Bool). if here then known block.station block.number else None) (sym (is_placed-on old n block at))

known-unchanged : (known : Knowledge) (old : State) (n : ℕ) (z : Option LineBlock) → slice_get (places old) n ≡ Some z → known_in known z ≡ known_in (known_over old known) z
known-unchanged known old n None at = refl
known-unchanged known old n (Some block) at = known-same known old n block at

owed-unchanged : (known : Knowledge) (old : State) (n : ℕ) (z : Option LineBlock) → slice_get (places old) n ≡ Some z → owed_in known z ≡ owed_in (known_over old known) z
owed-unchanged known old n None at = refl
owed-unchanged known old n (Some block) at = search (rules, known-same known old n block at)

same-map : {Y : Type 0} (f g : Option LineBlock → Y) (all : List (Option LineBlock)) → ((n : ℕ) (z : Option LineBlock) → slice_get all n ≡ Some z → f z ≡ g z) → map f all ≡ map g all
same-map {Y} f g all same =
    is-map (map f all) g all (length-map all f)
    (λ n z at. slice_get-map f all n ∙ ap (option_map f) at ∙ ap (λ (y : Y). Some y) (same n z at))

-- at empty places nothing is known or owed

map-empty : {Y : Type 0} (f : Option LineBlock → Y) (count : ℕ) → map f (replicate count None) ≡ replicate count (f None)
map-empty f zero = refl
map-empty {Y} f (suc count) = ap (λ (rest : List Y). f None ∷ rest) (map-empty f count)

over-places : {Y : Type 0} (f g : Option LineBlock → Y) (old : State) (group : Group) → ((n : ℕ) (z : Option LineBlock) → slice_get (places old) n ≡ Some z → f z ≡ g z)
    → map f (places old) ++ replicate (16 * length group.slaves) (g None) ≡ map g (places (changed old (Declare group)))
over-places {Y} f g old group same =
    let count = 16 * length group.slaves in
    ap (λ (l : List Y). l ++ replicate count (g None)) (same-map f g (places old) same)
    ∙ ap (λ (l : List Y). map g (places old) ++ l) (sym (map-empty g count))
    ∙ sym (map-append g (places old) (replicate count None))
    ∙ ap (map g) (sym (declared-places old group))

pub entered : (known : Knowledge) (old : State) (group : Group) (added : List ℕ) → added ≡ map (λ (slave : Slave). slave.station) group.slaves
    → registers_widened added (register_state_of known old) ≡ register_state_of (known_over old known) (changed old (Declare group))
entered known old group added is =
    let over = known_over old known in
    let count = ap (λ (l : List ℕ). 16 * length l) is ∙ ap (λ (n : ℕ). 16 * n) (length-map group.slaves (λ (slave : Slave). slave.station)) in
    let new = changed old (Declare group) in
    ap (λ (l : List (Option (List ℕ))). register_state_from l (map (owed_in known) (places old) ++ replicate (16 * length added) false) (stations old ++ added))
    (ap (λ (n : ℕ). map (known_in known) (places old) ++ replicate n None) count ∙ over-places (known_in known) (known_in over) old group (known-unchanged known old))
    ∙ ap (λ (l : List Bool). register_state_from (map (known_in over) (places new)) l (stations old ++ added))
    (ap (λ (n : ℕ). map (owed_in known) (places old) ++ replicate n false) count ∙ over-places (owed_in known) (owed_in over) old group (owed-unchanged known old))
    ∙ ap (λ (l : List ℕ). register_state_from (map (known_in over) (places new)) (map (owed_in over) (places new)) l)
    (ap (λ (l : List ℕ). stations old ++ l) is ∙ sym (declared-stations old group))

-- the room suffices for the register state, and the slaves are few

pub record Fits (register_state : RegisterState) (room : OwedRoom) : Type 0 where
  pub few : length register_state.stations + length room.added < 65536
  pub known : 16 * (length register_state.stations + length room.added) ≤ room.known
  pub owed : 16 * (length register_state.stations + length room.added) ≤ 64 * room.owed
  pub stations : length register_state.stations + length room.added ≤ room.stations

pub fits : (register_state : RegisterState) (room : OwedRoom) → RegistersCanAdmit register_state room → Fits register_state room
fits register_state room can =
    let is = can.fits in
    let slaves = can.group.slaves in
    let count = ap length is.added ∙ length-map slaves (λ (slave : Slave). slave.station) in
    let own = ap (λ (b : RegisterState). length b.stations) can.right in
    let all = declared-stations can.old can.group in
    let size = ap length all ∙ length-append (stations can.old) (map (λ (slave : Slave). slave.station) slaves) in
    let named = length-map (slaves_of (groups_of (can.old.groups ++ absent can.group ∷ []))) (λ (slave : Slave). slave.station) in
    let few = project-few (groups_of (can.old.groups ++ absent can.group ∷ [])) can.project in
    let more = length-map slaves (λ (slave : Slave). slave.station) in
    record {
      few = omega (arith, count, own, size, named, few, more);
      known = let enough = is.known in omega (arith, count, own, enough);
      owed = let enough = is.owed in omega (arith, count, own, enough);
      stations = let enough = is.stations in omega (arith, count, own, enough);
    }

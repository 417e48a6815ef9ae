-- The declared slaves of a state, in the line and outside it: over an edit each keeps its station address and the number of its areas.
use Rattle.std.proofs.Common.{◌≡◌, ℕ, zero, suc, ◌+◌, ◌*◌, ◌<◌, ◌==◌, ◌||◌, ◌∙◌, inl, inr, Bool, true, false, cond, List, [], ◌∷◌, ◌++◌, length, map, refl, sym, ap, ap₂, subst, arith, Option, Some, None}
use Rattle.std.specs.Prelude.{◌≢◌, All, AllPairs, Contains, find, is_some, slice_get, slice_index_or}
use Rattle.std.specs.List.{enumerate_from, flat_map, list_any, range_with_len}
use Rattle.std.proofs.lemmas.Bool.{eqb-true}
use Rattle.std.proofs.lemmas.List.{map-append}
use Rattle.std.proofs.lemmas.List.Elements.{All-nil, All-cons, All-append, All-contains_itself, All-head, All-map, All-tail, All-weaker, Contains-get_or}
use Rattle.std.proofs.lemmas.List.Folds.{list_any-append}
use Rattle.std.proofs.lemmas.Option.{slice_get-get_or}
use Rattle.hc_records.specs.declared.edit.Edit.{Edit}
use Rattle.hc_records.specs.declared.edit.Edit.TheVariants.{Connect, Disconnect, Remap, Move, Declare}
use Rattle.hc_records.specs.declared.records.Area.{Area}
use Rattle.hc_records.specs.declared.records.Declared.{Declared}
use Rattle.hc_records.specs.declared.records.Group.{Group}
use Rattle.hc_records.specs.declared.records.Slave.{Slave}
use Rattle.hc_records.specs.Edits.{groups_after, has_station, is_declared_station, slave_at, with_area, with_presence, with_slaves}
use Rattle.hc_records.specs.Line.{Member, State, groups_of, is_at, line, line_from, members_from, present_slaves}
use Rattle.hc_records.specs.Lists.{changed_at}
use Rattle.hc_records.specs.Project.{lowest_fault}
use Rattle.hc_records.proofs.lemmas.Choices.{contains-first, contains-later}
use Rattle.hc_records.proofs.lemmas.Finds.{found-all}
use Rattle.hc_records.proofs.lemmas.Limits.{project-inside}
use Rattle.hc_records.proofs.lemmas.Lines.{declared_slaves, each-group, line-slaves}
use Rattle.hc_records.proofs.lemmas.Lists.{All-append_left, All-append_right, All-enumerate_from, All-flat_map, AllPairs-append_right, AllPairs-between, AllPairs-map}
use Rattle.hc_events.specs.Ready.{absent_slaves, fmmu_registers, registers_outside, slaves_outside}
use Rattle.hc_events.proofs.lemmas.LineBlocks.{contains-piece, found-passes, two-of}

-- a slave's station address and the number of its areas, and those of all declared slaves

abbrev pub Shape : Type 0
Shape = ℕ × ℕ

abbrev pub shape : Slave → Shape
shape slave = (slave.station, length slave.areas)

abbrev pub group_shapes : Declared → List Shape
group_shapes declared = map shape declared.group.slaves

abbrev pub shapes : List Declared → List Shape
shapes groups = flat_map group_shapes groups

-- an edit leaves them, and a declared group adds its own after them

length_changed : {X : Type 0} (index : ℕ) (change : X → X) (xs : List X) → length (changed_at index change xs) ≡ length xs
length_changed index change [] = refl
length_changed zero change (x ∷ xs) = refl
length_changed (suc index) change (x ∷ xs) = ap suc (length_changed index change xs)

area_shape : (station area : ℕ) (change : Area → Area) (slave : Slave) (own : Bool) → shape (cond own (record slave { areas = changed_at area change slave.areas }) slave) ≡ shape slave
area_shape station area change slave true = ap (λ n. (slave.station, n)) (length_changed area change slave.areas)
area_shape station area change slave false = refl

slaves_shapes : (station area : ℕ) (change : Area → Area) (slaves : List Slave) → map shape (map (with_area station area change) slaves) ≡ map shape slaves
slaves_shapes station area change [] = refl
slaves_shapes station area change (slave ∷ slaves) = ap₂ (λ (s : Shape) (ss : List Shape). s ∷ ss) (area_shape station area change slave (slave.station == station)) (slaves_shapes station area change slaves)

presence_shapes : (present own : Bool) (declared : Declared) → group_shapes (cond own (record declared { present = present }) declared) ≡ group_shapes declared
presence_shapes present true declared = refl
presence_shapes present false declared = refl

mapped_shapes : (change : Declared → Declared) → ((declared : Declared) → group_shapes (change declared) ≡ group_shapes declared) → (groups : List Declared) → shapes (map change groups) ≡ shapes groups
mapped_shapes change same [] = refl
mapped_shapes change same (declared ∷ groups) = ap₂ (λ (a b : List Shape). a ++ b) (same declared) (mapped_shapes change same groups)

-- an edit that declares nothing changes each declared group, and leaves its shapes

pub record Changes (groups : List Declared) (edit : Edit) : Type 0 where
  pub change : Declared → Declared
  pub after : groups_after groups edit ≡ map change groups
  pub same : (declared : Declared) → group_shapes (change declared) ≡ group_shapes declared

pub edit-changes : (groups : List Declared) (edit : Edit) → ((group : Group) → edit ≡ Declare group → ⊥) → Changes groups edit
edit-changes groups (Connect alias) other = record { change = with_presence alias true; after = refl; same = λ declared. presence_shapes true (declared.group.alias == alias) declared }
edit-changes groups (Disconnect alias) other = record { change = with_presence alias false; after = refl; same = λ declared. presence_shapes false (declared.group.alias == alias) declared }
edit-changes groups (Remap station area pdos) other = record {
  change = with_slaves (with_area station area (λ a. record a { assigned = pdos }));
  after = refl;
  same = λ declared. slaves_shapes station area (λ a. record a { assigned = pdos }) declared.group.slaves;
}
edit-changes groups (Move station area task) other = record {
  change = with_slaves (with_area station area (λ a. record a { task = task }));
  after = refl;
  same = λ declared. slaves_shapes station area (λ a. record a { task = task }) declared.group.slaves;
}
edit-changes groups (Declare group) other = absurd (other group refl)

pub changed-shapes : (groups : List Declared) (edit : Edit) (changes : Changes groups edit) → shapes (groups_after groups edit) ≡ shapes groups
changed-shapes groups edit changes = ap shapes changes.after ∙ mapped_shapes changes.change changes.same groups

-- a slave of the line is a declared one

mapped_at : {X Y : Type 0} (f : X → Y) (xs : List X) (k : ℕ) (x : X) → k < length xs → slice_index_or xs k x ≡ x → Contains (map f xs) (f x)
mapped_at f [] k x low is = absurd (omega arith)
mapped_at f (z ∷ xs) zero x low is = subst (λ w. Contains (f w ∷ map f xs) (f x)) (sym is) (contains-first (f x) (map f xs))
mapped_at f (z ∷ xs) (suc k) x low is = contains-later (f z) (f x) (map f xs) (mapped_at f xs k x (omega arith) is)

pub line-shapes : (state : State) → All (λ (member : Member). Contains (shapes state.groups) (shape member.slave)) (line state)
line-shapes state =
    line-slaves (λ slave. Contains (shapes state.groups) (shape slave)) 1 state.groups
    (λ k d low j e within.
    let declared = slice_index_or state.groups k d in
    let slave = slice_index_or declared.group.slaves j e in
    let has = Contains-get_or declared.group.slaves j e within in
    contains-piece group_shapes state.groups declared (shape slave) (Contains-get_or state.groups k d low) (mapped_at shape declared.group.slaves has.0 slave has.1 has.2))

-- in a project two of one station address are one

shapes_of : (groups : List Declared) → map shape (declared_slaves groups) ≡ shapes groups
shapes_of [] = refl
shapes_of (declared ∷ groups) = map-append shape declared.group.slaves (declared_slaves groups) ∙ ap (λ (rest : List Shape). group_shapes declared ++ rest) (shapes_of groups)

pub slaves-apart : (groups : List Declared) → lowest_fault (groups_of groups) ≡ None → AllPairs (λ (a b : Slave). a.station ≢ b.station) (declared_slaves groups)
slaves-apart groups project = (project-inside (groups_of groups) project).stations

shapes_apart : (groups : List Declared) → lowest_fault (groups_of groups) ≡ None → AllPairs (λ (a b : Shape). a.0 ≢ b.0) (shapes groups)
shapes_apart groups project = subst (AllPairs (λ (a b : Shape). a.0 ≢ b.0)) (shapes_of groups) (AllPairs-map (λ (a b : Shape). a.0 ≢ b.0) shape (declared_slaves groups) (slaves-apart groups project))

pub one-shape : (groups : List Declared) (a b : Shape) → lowest_fault (groups_of groups) ≡ None → Contains (shapes groups) a → Contains (shapes groups) b → a.0 ≡ b.0 → a ≡ b
one-shape groups a b project has has' same =
    elim (two-of (λ (x y : Shape). x.0 ≢ y.0) (shapes groups) a b (shapes_apart groups project) has has') [
      | inl one ↦ one
      | inr (inl differ) ↦ absurd (differ same)
      | inr (inr differ) ↦ absurd (differ (sym same))
    ]

-- a station address is declared where a shape has it

station_shapes : (station : ℕ) (slaves : List Slave) → has_station station slaves ≡ list_any (λ (one : Shape). one.0 == station) (map shape slaves)
station_shapes station [] = refl
station_shapes station (slave ∷ slaves) = ap (λ b. (slave.station == station) || b) (station_shapes station slaves)

declared_shapes : (station : ℕ) (groups : List Declared) → list_any (λ (declared : Declared). has_station station declared.group.slaves) groups ≡ list_any (λ (one : Shape). one.0 == station) (shapes groups)
declared_shapes station [] = refl
declared_shapes station (declared ∷ groups) =
    ap₂ (λ (a b : Bool). a || b) (station_shapes station declared.group.slaves) (declared_shapes station groups)
    ∙ sym (list_any-append (λ (one : Shape). one.0 == station) (group_shapes declared) (shapes groups))

pub declared-by : (state : State) (station : ℕ) → is_declared_station state station ≡ list_any (λ (one : Shape). one.0 == station) (shapes state.groups)
declared-by state station = declared_shapes station state.groups

-- a slave outside the line has the station address of none in it

swap_all : {X Y : Type 0} (R : X → Y → Type 0) (xs : List X) (ys : List Y) → All (λ x. All (R x) ys) xs → All (λ y. All (λ x. R x y) xs) ys
swap_all R xs ys all = λ j e low k d within. all k d within j e low

abbrev Elsewhere : List Member → Slave → Type 0
Elsewhere members slave = All (λ (member : Member). member.slave.station ≢ slave.station) members

absent_if : (P : Slave → Type 0) (present : Bool) (slaves : List Slave) → All P slaves → All P (cond present [] slaves)
absent_if P true slaves all = All-nil P
absent_if P false slaves all = all

absent_all : (P : Slave → Type 0) (groups : List Declared) → All P (declared_slaves groups) → All P (flat_map absent_slaves groups)
absent_all P [] all = All-nil P
absent_all P (declared ∷ groups) all =
    All-append P (absent_slaves declared) (flat_map absent_slaves groups) (absent_if P declared.present declared.group.slaves (All-append_left P declared.group.slaves (declared_slaves groups) all))
    (absent_all P groups (All-append_right P declared.group.slaves (declared_slaves groups) all))

members_all : (P : Slave → Type 0) (rank : ℕ) (slaves : List Slave) → All P slaves → All (λ (member : Member). P member.slave) (members_from rank slaves)
members_all P rank slaves all = All-map (λ (member : Member). P member.slave) (λ (e : ℕ × Slave). record { rank = e.0; slave = e.1 }) (enumerate_from rank slaves) (All-enumerate_from P rank slaves all)

elsewhere_if : (present : Bool) (rank : ℕ) (slaves absent_later : List Slave) (later : List Member)
    → All (λ (a : Slave). All (λ (b : Slave). a.station ≢ b.station) absent_later) slaves → All (λ (a : Slave). All (λ (m : Member). a.station ≢ m.slave.station) later) slaves → All (Elsewhere later) absent_later
    → All (Elsewhere (members_from rank (cond present slaves []) ++ later)) (cond present [] slaves ++ absent_later)
elsewhere_if true rank slaves absent_later later across ahead rest = λ k d low.
    let slave = slice_index_or absent_later k d in
    All-append (λ (member : Member). member.slave.station ≢ slave.station) (members_from rank slaves) later
    (members_all (λ (a : Slave). a.station ≢ slave.station) rank slaves (swap_all (λ (a b : Slave). a.station ≢ b.station) slaves absent_later across k d low)) (rest k d low)
elsewhere_if false rank slaves absent_later later across ahead rest =
    All-append (Elsewhere later) slaves absent_later (λ k d low j e within. λ same. ahead k d low j e within (sym same)) rest

elsewhere_from : (rank : ℕ) (groups : List Declared) → AllPairs (λ (a b : Slave). a.station ≢ b.station) (declared_slaves groups) → All (Elsewhere (line_from rank groups)) (flat_map absent_slaves groups)
elsewhere_from rank [] pairs = All-nil (Elsewhere [])
elsewhere_from rank (declared ∷ groups) pairs =
    let slaves = declared.group.slaves in
    let next = rank + length slaves in
    let across = AllPairs-between (λ (a b : Slave). a.station ≢ b.station) slaves (declared_slaves groups) pairs in
    elsewhere_if declared.present rank slaves (flat_map absent_slaves groups) (line_from next groups)
    (All-weaker (λ (a : Slave). All (λ (b : Slave). a.station ≢ b.station) (declared_slaves groups)) (λ (a : Slave). All (λ (b : Slave). a.station ≢ b.station) (flat_map absent_slaves groups))
    (λ a all. absent_all (λ (b : Slave). a.station ≢ b.station) groups all) slaves across)
    (All-weaker (λ (a : Slave). All (λ (b : Slave). a.station ≢ b.station) (declared_slaves groups)) (λ (a : Slave). All (λ (m : Member). a.station ≢ m.slave.station) (line_from next groups))
    (λ a all. line-slaves (λ (b : Slave). a.station ≢ b.station) next groups (each-group (λ (b : Slave). a.station ≢ b.station) groups all)) slaves across)
    (elsewhere_from next groups (AllPairs-append_right (λ (a b : Slave). a.station ≢ b.station) slaves (declared_slaves groups) pairs))

none_there : (station : ℕ) (members : List Member) (found : Option Member) → All (λ (member : Member). member.slave.station ≢ station) members → find (is_at station) members ≡ found → is_some found ≡ false
none_there station members None all is = refl
none_there station members (Some member) all is =
    absurd (found-all (λ (m : Member). m.slave.station ≢ station) (is_at station) members member all is (eqb-true member.slave.station station (found-passes (is_at station) members member is)))

registers_all : (P : ℕ × ℕ → Type 0) (slaves : List Slave) → All (λ (slave : Slave). All P (fmmu_registers slave)) slaves → All P (flat_map fmmu_registers slaves)
registers_all P slaves all = All-flat_map P fmmu_registers slaves all

pub outside-absent : (state : State) → lowest_fault (groups_of state.groups) ≡ None → All (λ (register : ℕ × ℕ). is_some (slave_at state register.0) ≡ false) (registers_outside state)
outside-absent state project =
    registers_all (λ (register : ℕ × ℕ). is_some (slave_at state register.0) ≡ false) (slaves_outside state)
    (λ k d low.
    let slave = slice_index_or (slaves_outside state) k d in
    All-map (λ (register : ℕ × ℕ). is_some (slave_at state register.0) ≡ false) (λ (index : ℕ). (slave.station, 2 * index + 1)) (range_with_len 0 (length slave.areas))
    (λ j e within. none_there slave.station (line state) (slave_at state slave.station) (elsewhere_from 1 state.groups (slaves-apart state.groups project) k d low) refl))

-- what holds of each register of each declared slave holds of those outside the line, before an edit and after it

pub record Registers (P : ℕ × ℕ → Type 0) (declared : Declared) : Type 0 where
  pub all : All (λ (one : Shape). All P (map (λ (index : ℕ). (one.0, 2 * index + 1)) (range_with_len 0 one.1))) (group_shapes declared)

slaves_unmapped : (P : ℕ × ℕ → Type 0) (slaves : List Slave) → All (λ (one : Shape). All P (map (λ (index : ℕ). (one.0, 2 * index + 1)) (range_with_len 0 one.1))) (map shape slaves)
    → All (λ (slave : Slave). All P (fmmu_registers slave)) slaves
slaves_unmapped P [] all = All-nil (λ (slave : Slave). All P (fmmu_registers slave))
slaves_unmapped P (slave ∷ slaves) all =
    let Q = λ (one : Shape). All P (map (λ (index : ℕ). (one.0, 2 * index + 1)) (range_with_len 0 one.1)) in
    All-cons (λ (slave : Slave). All P (fmmu_registers slave)) slave slaves (All-head Q (shape slave) (map shape slaves) all) (slaves_unmapped P slaves (All-tail Q (shape slave) (map shape slaves) all))

pub registers-outside : (P : ℕ × ℕ → Type 0) (groups : List Declared) → All (Registers P) groups → All P (flat_map fmmu_registers (flat_map absent_slaves groups))
registers-outside P groups all =
    registers_all P (flat_map absent_slaves groups)
    (All-flat_map (λ (slave : Slave). All P (fmmu_registers slave)) absent_slaves groups
    (λ k d low.
    let declared = slice_index_or groups k d in
    absent_if (λ (slave : Slave). All P (fmmu_registers slave)) declared.present declared.group.slaves (slaves_unmapped P declared.group.slaves (all k d low).all)))

pub registers-changed : (P : ℕ × ℕ → Type 0) (change : Declared → Declared) → ((declared : Declared) → group_shapes (change declared) ≡ group_shapes declared) → (groups : List Declared) → All (Registers P) groups → All (Registers P) (map change groups)
registers-changed P change same groups all =
    All-map (Registers P) change groups
    (All-weaker (Registers P) (λ (declared : Declared). Registers P (change declared))
    (λ declared own. record { all = subst (All (λ (one : Shape). All P (map (λ (index : ℕ). (one.0, 2 * index + 1)) (range_with_len 0 one.1)))) (sym (same declared)) own.all }) groups all)

-- the registers of a present group's slaves are those of slaves of the line

pub record InLineAt (members : List Member) (register : ℕ × ℕ) : Type 0 where
  pub member : Member
  pub inside : Contains members member
  pub index : ℕ
  pub area : Area
  pub found : slice_get member.slave.areas index ≡ Some area
  pub is : register ≡ (member.slave.station, 2 * index + 1)

range_low : (first count : ℕ) → All (λ (n : ℕ). n < first + count) (range_with_len first count)
range_low first zero = All-nil (λ (n : ℕ). n < first + zero)
range_low first (suc count) =
    let next : first + 1 + count ≡ first + suc count = omega arith in
    All-cons (λ (n : ℕ). n < first + suc count) first (range_with_len (first + 1) count) (omega arith) (subst (λ (m : ℕ). All (λ (n : ℕ). n < m) (range_with_len (first + 1) count)) next (range_low (first + 1) count))

range_below : (count : ℕ) → All (λ (n : ℕ). n < count) (range_with_len 0 count)
range_below count = let same : 0 + count ≡ count = omega arith in subst (λ (m : ℕ). All (λ (n : ℕ). n < m) (range_with_len 0 count)) same (range_low 0 count)

member_registers : (whole : List Member) (member : Member) (none : Area) → Contains whole member → All (InLineAt whole) (fmmu_registers member.slave)
member_registers whole member none inside =
    All-map (InLineAt whole) (λ (index : ℕ). (member.slave.station, 2 * index + 1)) (range_with_len 0 (length member.slave.areas))
    (All-weaker (λ (index : ℕ). index < length member.slave.areas) (λ (index : ℕ). InLineAt whole (member.slave.station, 2 * index + 1))
    (λ index low. record { member = member; inside = inside; index = index; area = slice_index_or member.slave.areas index none; found = slice_get-get_or member.slave.areas index none low; is = refl })
    (range_with_len 0 (length member.slave.areas)) (range_below (length member.slave.areas)))

members_shapes : (whole : List Member) (rank : ℕ) (slaves : List Slave) (none : Area) → All (Contains whole) (members_from rank slaves)
    → All (λ (one : Shape). All (InLineAt whole) (map (λ (index : ℕ). (one.0, 2 * index + 1)) (range_with_len 0 one.1))) (map shape slaves)
members_shapes whole rank [] none all = All-nil (λ (one : Shape). All (InLineAt whole) (map (λ (index : ℕ). (one.0, 2 * index + 1)) (range_with_len 0 one.1)))
members_shapes whole rank (slave ∷ slaves) none all =
    let member : Member = record { rank = rank; slave = slave } in
    All-cons (λ (one : Shape). All (InLineAt whole) (map (λ (index : ℕ). (one.0, 2 * index + 1)) (range_with_len 0 one.1))) (shape slave) (map shape slaves)
    (member_registers whole member none (All-head (Contains whole) member (members_from (rank + 1) slaves) all))
    (members_shapes whole (rank + 1) slaves none (All-tail (Contains whole) member (members_from (rank + 1) slaves) all))

present_if : (whole : List Member) (rank : ℕ) (slaves : List Slave) (none : Area) (present : Bool) → present ≡ true → All (Contains whole) (members_from rank (cond present slaves []))
    → All (λ (one : Shape). All (InLineAt whole) (map (λ (index : ℕ). (one.0, 2 * index + 1)) (range_with_len 0 one.1))) (map shape slaves)
present_if whole rank slaves none true is all = members_shapes whole rank slaves none all
present_if whole rank slaves none false is all = cc

present_from : (whole : List Member) (rank : ℕ) (groups : List Declared) (none : Area) → All (Contains whole) (line_from rank groups) → All (λ (declared : Declared). declared.present ≡ true → Registers (InLineAt whole) declared) groups
present_from whole rank [] none all = All-nil (λ (declared : Declared). declared.present ≡ true → Registers (InLineAt whole) declared)
present_from whole rank (declared ∷ groups) none all =
    let slaves = declared.group.slaves in
    let next = rank + length slaves in
    All-cons (λ (declared : Declared). declared.present ≡ true → Registers (InLineAt whole) declared) declared groups
    (λ is. record { all = present_if whole rank slaves none declared.present is (All-append_left (Contains whole) (members_from rank (present_slaves declared)) (line_from next groups) all) })
    (present_from whole next groups none (All-append_right (Contains whole) (members_from rank (present_slaves declared)) (line_from next groups) all))

pub present-registers : (state : State) (none : Area) → All (λ (declared : Declared). declared.present ≡ true → Registers (InLineAt (line state)) declared) state.groups
present-registers state none = present_from (line state) 1 state.groups none (All-contains_itself (line state))

-- and those of an absent group's slaves are outside it

absent_shapes : (P : ℕ × ℕ → Type 0) (slaves : List Slave) → All P (flat_map fmmu_registers slaves) → All (λ (one : Shape). All P (map (λ (index : ℕ). (one.0, 2 * index + 1)) (range_with_len 0 one.1))) (map shape slaves)
absent_shapes P [] all = All-nil (λ (one : Shape). All P (map (λ (index : ℕ). (one.0, 2 * index + 1)) (range_with_len 0 one.1)))
absent_shapes P (slave ∷ slaves) all =
    All-cons (λ (one : Shape). All P (map (λ (index : ℕ). (one.0, 2 * index + 1)) (range_with_len 0 one.1))) (shape slave) (map shape slaves)
    (All-append_left P (fmmu_registers slave) (flat_map fmmu_registers slaves) all)
    (absent_shapes P slaves (All-append_right P (fmmu_registers slave) (flat_map fmmu_registers slaves) all))

absent_here : (P : ℕ × ℕ → Type 0) (present : Bool) (slaves later : List Slave) → present ≡ false → All P (flat_map fmmu_registers (cond present [] slaves ++ later)) → All P (flat_map fmmu_registers (slaves ++ later))
absent_here P true slaves later is all = cc
absent_here P false slaves later is all = all

absent_rest : (P : ℕ × ℕ → Type 0) (own later : List Slave) → All P (flat_map fmmu_registers (own ++ later)) → All P (flat_map fmmu_registers own) × All P (flat_map fmmu_registers later)
absent_rest P [] later all = (All-nil P, all)
absent_rest P (slave ∷ own) later all =
    let rest = absent_rest P own later (All-append_right P (fmmu_registers slave) (flat_map fmmu_registers (own ++ later)) all) in
    (All-append P (fmmu_registers slave) (flat_map fmmu_registers own) (All-append_left P (fmmu_registers slave) (flat_map fmmu_registers (own ++ later)) all) rest.0, rest.1)

pub absent-registers : (P : ℕ × ℕ → Type 0) (groups : List Declared) → All P (flat_map fmmu_registers (flat_map absent_slaves groups)) → All (λ (declared : Declared). declared.present ≡ false → Registers P declared) groups
absent-registers P [] all = All-nil (λ (declared : Declared). declared.present ≡ false → Registers P declared)
absent-registers P (declared ∷ groups) all =
    All-cons (λ (declared : Declared). declared.present ≡ false → Registers P declared) declared groups
    (λ is. record { all = absent_shapes P declared.group.slaves (absent_rest P declared.group.slaves (flat_map absent_slaves groups) (absent_here P declared.present declared.group.slaves (flat_map absent_slaves groups) is all)).0 })
    (absent-registers P groups (absent_rest P (absent_slaves declared) (flat_map absent_slaves groups) all).1)

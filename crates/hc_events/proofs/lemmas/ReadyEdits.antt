-- A ready task stays ready through an edit that leaves the register blocks of its areas, once each slave that came is cleared.
use Rattle.std.proofs.Common.{◌≡◌, ℕ, suc, ◌+◌, ◌*◌, ◌%◌, ◌<◌, ◌==◌, ◌&&◌, ◌||◌, not, ◌∙◌, Bool, true, false, cond, List, [], ◌∷◌, filter, length, map, refl, sym, ap, ap₂, subst, arith, Option, Some, None}
use Rattle.std.specs.Prelude.{All, Contains, is_some, slice_get, slice_index_or}
use Rattle.std.specs.Option.{option_map_or}
use Rattle.std.specs.List.{list_any, range_with_len}
use Rattle.std.specs.Str.{bytes_eq}
use Rattle.std.proofs.lemmas.Bool.{and_parts, and_right, eqb-true, not-false, or_parts, or_right}
use Rattle.std.proofs.lemmas.Slice.Eq.{bytes_eq-Decides}
use Rattle.std.proofs.lemmas.Option.{slice_get-get_or, slice_get_within}
use Rattle.std.proofs.lemmas.List.Elements.{All-nil, All-cons, All-map, All-append, All-contains, All-contains_itself, All-weaker, Contains-get_or, filter_passes}
use Rattle.hc_records.specs.declared.edit.Edit.{Edit}
use Rattle.hc_records.specs.declared.edit.Edit.TheVariants.{Connect, Disconnect, Remap, Move, Declare}
use Rattle.hc_records.specs.declared.records.Area.{Area}
use Rattle.hc_records.specs.declared.records.Declared.{Declared}
use Rattle.hc_records.specs.declared.records.Dir.TheVariants.{Out}
use Rattle.hc_records.specs.declared.records.Group.{Group}
use Rattle.hc_records.specs.declared.records.Slave.{Slave}
use Rattle.hc_records.specs.Edits.{absent, area_at, changed, edit_faults, groups_after, has_station, is_declared_station, over_limit_task, slave_at, state_after}
use Rattle.hc_records.specs.Line.{Member, State, groups_of, is_at, line}
use Rattle.hc_records.specs.Lists.{lowest}
use Rattle.hc_records.specs.Project.{lowest_fault}
use Rattle.hc_records.proofs.lemmas.Choices.{by_bool, or-no}
use Rattle.hc_records.proofs.lemmas.Declaring.{line-absent}
use Rattle.hc_records.proofs.lemmas.Finds.{found-all}
use Rattle.hc_records.proofs.lemmas.Lists.{All-from_filter, All-passing, none-holds}
use Rattle.hc_records.specs.declared.faults.EditFault.TheVariants.{EpochsSpent}
use Rattle.hc_registers.specs.Blocks.{LineBlock, fmmu_block, line_blocks}
use Rattle.hc_events.specs.Accepted.{AreAccepted}
use Rattle.hc_events.specs.Entries.{History, Edited}
use Rattle.hc_events.specs.Holding.{MayHold, cleared_register, comes, is_unplugged, may_hold}
use Rattle.hc_events.specs.Owed.{is_in_line, is_owed, known_bytes, owed_blocks}
use Rattle.hc_events.specs.Points.{line_of, state_of}
use Rattle.hc_events.specs.Ready.{area_index, concerns, concerns_outside, is_in_task, edited_and_cleared, is_fmmu, is_ready, may_name, names_among, names_task, registers_outside, serves_task, waited_for, waited_for_outside}
use Rattle.hc_events.specs.Steady.{task_blocks}
use Rattle.hc_events.proofs.lemmas.Comers.{after-held, after-known, after-state, after-unplugged}
use Rattle.hc_events.proofs.lemmas.Holding.{known-held}
use Rattle.hc_events.proofs.lemmas.DeclaredSlaves.{InLineAt, Registers, Shape, absent-registers, changed-shapes, edit-changes, group_shapes, line-shapes, one-shape, outside-absent, present-registers, registers-changed, registers-outside, shape, shapes}
use Rattle.hc_events.proofs.lemmas.LineBlocks.{IsBlockOf, block-of, fmmu-there, found-passes, mapping, named-served}
use Rattle.hc_events.proofs.lemmas.Undeclared.{accepted-state, block-in_line, undeclared-empty}

-- a task that waits for nothing

pub record WaitsForNothing (history : History) (task : ℕ) : Type 0 where
  pub blocks : All (λ (block : LineBlock). is_owed history block ≡ true → concerns history task block ≡ false) (line_blocks (line_of history))
  pub registers : All (λ (register : ℕ × ℕ). concerns_outside history task register ≡ false) (registers_outside (state_of history))

pub none-left : {X : Type 0} (xs : List X) → (length xs == 0) ≡ true → xs ≡ []
none-left [] e = refl
none-left (x ∷ xs) e = let never : length (x ∷ xs) ≡ 0 = eqb-true (length (x ∷ xs)) 0 e in absurd (omega arith)

pub filtered-none : {X : Type 0} (test : X → Bool) (xs : List X) → filter test xs ≡ [] → All (λ x. test x ≡ false) xs
filtered-none {X} test xs none = λ k d low.
    by_bool (test (slice_index_or xs k d))
    (λ t. let there = All-from_filter (λ (x : X). ⊥) test xs (subst (All (λ (x : X). ⊥)) (sym none) (λ j e within. omega arith)) k d low t in absurd there)
    (λ t. t)

pub none-passes : {X : Type 0} (test : X → Bool) (xs : List X) → All (λ x. test x ≡ false) xs → filter test xs ≡ []
none-passes test [] all = refl
none-passes {X} test (x ∷ xs) all =
    let first : test x ≡ false = all 0 x (omega arith) in
    ap (λ b. cond b (x ∷ filter test xs) (filter test xs)) first ∙ none-passes test xs (λ k d low. all (suc k) d (omega arith))

pub ready-waits : (history : History) (task : ℕ) → is_ready history task ≡ true → WaitsForNothing history task
ready-waits history task ready =
    let both = and_parts (length (waited_for history task) == 0) (length (waited_for_outside history task) == 0) ready in
    record {
      blocks = All-from_filter (λ (block : LineBlock). concerns history task block ≡ false) (is_owed history) (line_blocks (line_of history))
          (filtered-none (concerns history task) (owed_blocks history) (none-left (waited_for history task) both.0));
      registers = filtered-none (concerns_outside history task) (registers_outside (state_of history)) (none-left (waited_for_outside history task) both.1);
    }

pub waits-ready : (history : History) (task : ℕ) → WaitsForNothing history task → is_ready history task ≡ true
waits-ready history task none =
    ap (λ blocks. (length blocks == 0) && (length (waited_for_outside history task) == 0))
    (none-passes (concerns history task) (owed_blocks history) (All-passing (λ (block : LineBlock). concerns history task block ≡ false) (is_owed history) (line_blocks (line_of history)) none.blocks))
    ∙ ap (λ registers. length registers == 0) (none-passes (concerns_outside history task) (registers_outside (state_of history)) none.registers)

-- what a ready task knows of a slave of the line: its FMMU's register names the task only where its block serves it

not_owed_known : (block : LineBlock) (known : Option (List ℕ)) → not (option_map_or (bytes_eq block.block.bytes) known false) ≡ false → known ≡ Some block.block.bytes
not_owed_known block None e = cc
not_owed_known block (Some bytes) e = ap (λ (b : List ℕ). Some b) (sym ((bytes_eq-Decides block.block.bytes bytes).0 (not-false (bytes_eq block.block.bytes bytes) e)))

odd_is_fmmu : (index : ℕ) → is_fmmu (2 * index + 1) ≡ true
odd_is_fmmu index = let odd : (2 * index + 1) % 2 ≡ 1 = omega arith in ap (λ n. n == 1) odd

no_true : (b : Bool) → b ≡ true → b ≡ false → ⊥
no_true true t e = cc
no_true false t e = cc

only_names : (task : ℕ) (bytes : List ℕ) → (names_task task bytes || false) ≡ true → names_task task bytes ≡ true
only_names task bytes e = sym (or-no (names_task task bytes)) ∙ e

-- a project's state, before the edit
pub record IsProjectAt (history : History) : Type 0 where
  pub all : AreAccepted history
  pub project : lowest_fault (groups_of (state_of history).groups) ≡ None
  pub uncrowded : over_limit_task (line_of history) ≡ None

pub register-serves : (history : History) (task : ℕ) (block : LineBlock) → IsProjectAt history → WaitsForNothing history task → Contains (line_blocks (line_of history)) block
    → may_name task block.number (may_hold history block.station block.number) ≡ true → serves_task (state_of history) task block ≡ true
register-serves history task block at none has names =
    let parts = and_parts (is_fmmu block.number) ((may_hold history block.station block.number).unknown || names_among task (may_hold history block.station block.number)) names in
    by_bool (is_owed history block)
    (λ owed. let free = All-contains (λ (b : LineBlock). is_owed history b ≡ true → concerns history task b ≡ false) (line_blocks (line_of history)) block none.blocks has owed in
    absurd (no_true (may_name task block.number (may_hold history block.station block.number)) names
    (or_parts (serves_task (state_of history) task block) (may_name task block.number (may_hold history block.station block.number)) free).1))
    (λ known. let bytes = not_owed_known block (known_bytes history block.station block.number) known in
    let held = known-held history block.station block.number block.block.bytes at.all (block-in_line (state_of history) block has) bytes in
    let named : (names_task task block.block.bytes || false) ≡ true = sym (ap (λ (h : MayHold). h.unknown || names_among task h) held) ∙ parts.1 in
    named-served (state_of history) block task at.project at.uncrowded has parts.0 (only_names task block.block.bytes named))

-- an edit that leaves the task's blocks

pub record IsUntouched (history : History) (edit : Edit) (task : ℕ) : Type 0 where
  pub at : IsProjectAt history
  pub accepted : lowest (edit_faults (state_of history) edit) ≡ None
  pub after : lowest_fault (groups_of (state_of (Edited edit ∷ history)).groups) ≡ None
  pub blocks : task_blocks (state_of (Edited edit ∷ history)) task ≡ task_blocks (state_of history) task
  pub none : WaitsForNothing history task

pub passes-in : {X : Type 0} (test : X → Bool) (xs : List X) (x : X) → Contains xs x → test x ≡ true → Contains (filter test xs) x
passes-in {X} test xs x has passes = All-contains (λ (y : X). test y ≡ true → Contains (filter test xs) y) xs x (All-from_filter (Contains (filter test xs)) test xs (All-contains_itself (filter test xs))) has passes

in_both : {X : Type 0} (test : X → Bool) (xs : List X) (x : X) → Contains (filter test xs) x → Contains xs x × (test x ≡ true)
in_both {X} test xs x has =
    (All-contains (Contains xs) (filter test xs) x (All-passing (Contains xs) test xs (λ k d low passes. Contains-get_or xs k d low)) has, All-contains (λ (y : X). test y ≡ true) (filter test xs) x (filter_passes test xs) has)

-- a block that serves the task after the edit served it before, and the other way round
was_there : (history : History) (edit : Edit) (task : ℕ) (block : LineBlock) → IsUntouched history edit task → Contains (line_blocks (line_of (Edited edit ∷ history))) block → serves_task (state_of (Edited edit ∷ history)) task block ≡ true
    → Contains (line_blocks (line_of history)) block × (serves_task (state_of history) task block ≡ true)
was_there history edit task block un has serves =
    in_both (serves_task (state_of history) task) (line_blocks (line_of history)) block
    (subst (λ (blocks : List LineBlock). Contains blocks block) un.blocks (passes-in (serves_task (state_of (Edited edit ∷ history)) task) (line_blocks (line_of (Edited edit ∷ history))) block has serves))

is_there : (history : History) (edit : Edit) (task : ℕ) (block : LineBlock) → IsUntouched history edit task → Contains (line_blocks (line_of history)) block → serves_task (state_of history) task block ≡ true
    → Contains (line_blocks (line_of (Edited edit ∷ history))) block × (serves_task (state_of (Edited edit ∷ history)) task block ≡ true)
is_there history edit task block un has serves =
    in_both (serves_task (state_of (Edited edit ∷ history)) task) (line_blocks (line_of (Edited edit ∷ history))) block
    (subst (λ (blocks : List LineBlock). Contains blocks block) (sym un.blocks) (passes-in (serves_task (state_of history) task) (line_blocks (line_of history)) block has serves))

-- the FMMU of a slave that stays in the line had a block before the edit

record OldBlock (history : History) (station number : ℕ) : Type 0 where
  block : LineBlock
  has : Contains (line_blocks (line_of history)) block
  at_station : block.station ≡ station
  at_number : block.number ≡ number

old_of : (history : History) (member : Member) (station index : ℕ) (area : Area) → Contains (line_of history) member → member.slave.station ≡ station → slice_get member.slave.areas index ≡ Some area → OldBlock history station (2 * index + 1)
old_of history member station index area inside same found = record {
  block = record { station = member.slave.station; number = 2 * index + 1; block = fmmu_block index area (mapping (line_of history) member.rank index area) };
  has = fmmu-there (line_of history) member index area inside found;
  at_station = same;
  at_number = refl;
}

same_shapes : (state : State) (edit : Edit) (member : Member) → ((group : Group) → edit ≡ Declare group → ⊥) → state_after state edit ≡ changed state edit → Contains (line (state_after state edit)) member
    → Contains (shapes state.groups) (shape member.slave)
same_shapes state edit member other after inside =
    let changes = edit-changes state.groups edit other in
    subst (λ (all : List Shape). Contains all (shape member.slave)) (ap (λ (s : State). shapes s.groups) after ∙ changed-shapes state.groups edit changes)
    (All-contains (λ (m : Member). Contains (shapes (state_after state edit).groups) (shape m.slave)) (line (state_after state edit)) member (line-shapes (state_after state edit)) inside)

shaped_as : (state : State) (edit : Edit) (member : Member) → state_after state edit ≡ changed state edit → Contains (line (state_after state edit)) member → Contains (shapes state.groups) (shape member.slave)
shaped_as state (Connect alias) member after inside = same_shapes state (Connect alias) member (λ group is. cc) after inside
shaped_as state (Disconnect alias) member after inside = same_shapes state (Disconnect alias) member (λ group is. cc) after inside
shaped_as state (Remap station area pdos) member after inside = same_shapes state (Remap station area pdos) member (λ group is. cc) after inside
shaped_as state (Move station area task) member after inside = same_shapes state (Move station area task) member (λ group is. cc) after inside
shaped_as state (Declare group) member after inside =
    let same : line (state_after state (Declare group)) ≡ line state = ap line after ∙ line-absent 1 state.groups group in
    All-contains (λ (m : Member). Contains (shapes state.groups) (shape m.slave)) (line state) member (line-shapes state) (subst (λ (members : List Member). Contains members member) same inside)

old_if : (history : History) (edit : Edit) (block : LineBlock) (of : IsBlockOf (line_of (Edited edit ∷ history)) block) (found : Option Member) → lowest_fault (groups_of (state_of history).groups) ≡ None
    → lowest (edit_faults (state_of history) edit) ≡ None → slave_at (state_of history) block.station ≡ found → is_some found ≡ true → OldBlock history block.station (2 * of.index + 1)
old_if history edit block of None project accepted is here = cc
old_if history edit block of (Some member) project accepted is here =
    let inside : Contains (line_of history) member = found-all (Contains (line_of history)) (is_at block.station) (line_of history) member (All-contains_itself (line_of history)) is in
    let same : member.slave.station ≡ block.station = eqb-true member.slave.station block.station (found-passes (is_at block.station) (line_of history) member is) in
    let own = All-contains (λ (m : Member). Contains (shapes (state_of history).groups) (shape m.slave)) (line_of history) member (line-shapes (state_of history)) inside in
    let new = shaped_as (state_of history) edit of.member (accepted-state history edit accepted) of.inside in
    let one : shape member.slave ≡ shape of.member.slave = one-shape (state_of history).groups (shape member.slave) (shape of.member.slave) project own new (same ∙ of.station) in
    let few : of.index < length of.member.slave.areas = slice_get_within of.member.slave.areas of.index of.area of.found in
    let size : length member.slave.areas ≡ length of.member.slave.areas = ap (λ (s : Shape). s.1) one in
    let low : of.index < length member.slave.areas = omega arith in
    old_of history member block.station of.index (slice_index_or member.slave.areas of.index of.area) inside same (slice_get-get_or member.slave.areas of.index of.area low)

-- a block of the line after the edit is not owed, or doesn't concern the task

free_comer : (history : History) (edit : Edit) (task : ℕ) (block : LineBlock) → IsUntouched history edit task → Contains (line_blocks (line_of (Edited edit ∷ history))) block → comes history edit block.station ≡ true
    → (serves_task (state_of (Edited edit ∷ history)) task block || may_name task block.number cleared_register) ≡ false
free_comer history edit task block un has coming =
    by_bool (serves_task (state_of (Edited edit ∷ history)) task block)
    (λ t. let was = was_there history edit task block un has t in
    let here : is_in_line history block.station ≡ true = block-in_line (state_of history) block was.0 in
    let never : true ≡ false = sym coming ∙ ap (λ b. not b && is_in_line (Edited edit ∷ history) block.station) here in cc)
    (λ t. ap (λ b. b || may_name task block.number cleared_register) t ∙ and_right (is_fmmu block.number) false refl)

stays_free : (history : History) (edit : Edit) (task : ℕ) (block : LineBlock) → IsUntouched history edit task → Contains (line_blocks (line_of (Edited edit ∷ history))) block → is_in_line history block.station ≡ true → is_owed history block ≡ true
    → (serves_task (state_of (Edited edit ∷ history)) task block || may_name task block.number (may_hold history block.station block.number)) ≡ false
stays_free history edit task block un has here owed =
    let never : serves_task (state_of (Edited edit ∷ history)) task block ≡ true → ⊥ = λ t.
    let was = was_there history edit task block un has t in
    let free = All-contains (λ (b : LineBlock). is_owed history b ≡ true → concerns history task b ≡ false) (line_blocks (line_of history)) block un.none.blocks was.0 owed in
    no_true (serves_task (state_of history) task block) was.1 (or_parts (serves_task (state_of history) task block) (may_name task block.number (may_hold history block.station block.number)) free).0 in
    by_bool (serves_task (state_of (Edited edit ∷ history)) task block)
    (λ t. absurd (never t))
    (λ t. ap (λ b. b || may_name task block.number (may_hold history block.station block.number)) t
    ∙ by_bool (may_name task block.number (may_hold history block.station block.number))
    (λ names. let of = block-of (line_of (Edited edit ∷ history)) block has in
    let odd = (of.fmmu (and_parts (is_fmmu block.number) ((may_hold history block.station block.number).unknown || names_among task (may_hold history block.station block.number)) names).0).0 in
    let old = old_if history edit block of (slave_at (state_of history) block.station) un.at.project un.accepted refl here in
    let number : old.block.number ≡ block.number = old.at_number ∙ sym odd in
    let old_names : may_name task old.block.number (may_hold history old.block.station old.block.number) ≡ true =
    ap₂ (λ (s n : ℕ). may_name task n (may_hold history s n)) old.at_station number ∙ names in
    let serves = register-serves history task old.block un.at un.none old.has old_names in
    let now = is_there history edit task old.block un old.has serves in
    let same : serves_task (state_of (Edited edit ∷ history)) task block ≡ true =
    sym (ap₂ (λ (s n : ℕ). option_map_or (is_in_task task) (area_at (state_of (Edited edit ∷ history)) s (area_index n)) false) old.at_station number) ∙ now.1 in
    absurd (never same))
    (λ free. free))

comes_or_stays : (history : History) (edit : Edit) (block : LineBlock) → Contains (line_blocks (line_of (Edited edit ∷ history))) block → comes history edit block.station ≡ false → is_in_line history block.station ≡ true
comes_or_stays history edit block has stays =
    let now : is_in_line (Edited edit ∷ history) block.station ≡ true = block-in_line (state_of (Edited edit ∷ history)) block has in
    not-false (is_in_line history block.station) (sym (and-yes (not (is_in_line history block.station))) ∙ sym (ap (λ b. not (is_in_line history block.station) && b) now) ∙ stays)
  where
    and-yes : (b : Bool) → (b && true) ≡ b
    and-yes true = refl
    and-yes false = refl

free_block : (history : History) (edit : Edit) (task : ℕ) (block : LineBlock) → IsUntouched history edit task → Contains (line_blocks (line_of (Edited edit ∷ history))) block
    → is_owed (edited_and_cleared history edit) block ≡ true → concerns (edited_and_cleared history edit) task block ≡ false
free_block history edit task block un has owed =
    let after = edited_and_cleared history edit in
    ap₂ (λ (state : State) (held : MayHold). serves_task state task block || may_name task block.number held) (after-state history edit) (after-held history edit block.station block.number)
    ∙ by_bool (comes history edit block.station)
    (λ t. ap (λ b. serves_task (state_of (Edited edit ∷ history)) task block || may_name task block.number (cond b cleared_register (may_hold history block.station block.number))) t
    ∙ free_comer history edit task block un has t)
    (λ t. let here = comes_or_stays history edit block has t in
    let was : is_owed history block ≡ true = sym (ap (λ known. not (option_map_or (bytes_eq block.block.bytes) known false)) (after-known history edit block.station block.number here)) ∙ owed in
    ap (λ b. serves_task (state_of (Edited edit ∷ history)) task block || may_name task block.number (cond b cleared_register (may_hold history block.station block.number))) t
    ∙ stays_free history edit task block un has here was)

-- a register of a slave outside the line after the edit doesn't concern the task

abbrev Free : History → Edit → ℕ → ℕ × ℕ → Type 0
Free history edit task register = is_in_line (Edited edit ∷ history) register.0 ≡ false → concerns_outside (edited_and_cleared history edit) task register ≡ false

and_not : (b : Bool) → (b && not false) ≡ b
and_not true = refl
and_not false = refl

outside_as : (history : History) (edit : Edit) (task : ℕ) (register : ℕ × ℕ) → is_in_line (Edited edit ∷ history) register.0 ≡ false
    → concerns_outside (edited_and_cleared history edit) task register ≡ concerns_outside history task register
outside_as history edit task register out =
    let stays : comes history edit register.0 ≡ false = and_right (not (is_in_line history register.0)) (is_in_line (Edited edit ∷ history) register.0) out in
    ap₂ (λ (gone : Bool) (held : MayHold). not gone && names_among task held)
    (after-unplugged history edit register.0 ∙ ap (λ b. is_unplugged history register.0 && not b) out ∙ and_not (is_unplugged history register.0))
    (after-held history edit register.0 register.1 ∙ ap (λ b. cond b cleared_register (may_hold history register.0 register.1)) stays)

free_outside : (history : History) (edit : Edit) (task : ℕ) (register : ℕ × ℕ) → concerns_outside history task register ≡ false → Free history edit task register
free_outside history edit task register free = λ out. outside_as history edit task register out ∙ free

free_in_line : (history : History) (edit : Edit) (task : ℕ) (register : ℕ × ℕ) → IsUntouched history edit task → InLineAt (line_of history) register → Free history edit task register
free_in_line history edit task register un at = λ out.
    let station : register.0 ≡ at.member.slave.station = ap (λ (r : ℕ × ℕ). r.0) at.is in
    let number : register.1 ≡ 2 * at.index + 1 = ap (λ (r : ℕ × ℕ). r.1) at.is in
    let old : LineBlock = record { station = at.member.slave.station; number = 2 * at.index + 1; block = fmmu_block at.index at.area (mapping (line_of history) at.member.rank at.index at.area) } in
    let has : Contains (line_blocks (line_of history)) old = fmmu-there (line_of history) at.member at.index at.area at.inside at.found in
    outside_as history edit task register out
    ∙ and_right (not (is_unplugged history register.0)) (names_among task (may_hold history register.0 register.1))
    (by_bool (names_among task (may_hold history register.0 register.1))
    (λ names. let held : names_among task (may_hold history old.station old.number) ≡ true = sym (ap₂ (λ (s n : ℕ). names_among task (may_hold history s n)) station number) ∙ names in
    let may : may_name task old.number (may_hold history old.station old.number) ≡ true =
    ap (λ b. b && ((may_hold history old.station old.number).unknown || names_among task (may_hold history old.station old.number))) (odd_is_fmmu at.index)
    ∙ or_right (may_hold history old.station old.number).unknown (names_among task (may_hold history old.station old.number)) held in
    let now = is_there history edit task old un has (register-serves history task old un.at un.none has may) in
    let there : is_in_line (Edited edit ∷ history) register.0 ≡ true = ap (is_in_line (Edited edit ∷ history)) station ∙ block-in_line (state_of (Edited edit ∷ history)) old now.0 in
    absurd (no_true (is_in_line (Edited edit ∷ history) register.0) there out))
    (λ none. none))

no_area : Area
no_area = record { sm = 0; dir = Out; phys = 0; offered = []; assigned = []; task = 0 }

shapes_weaker : (P Q : ℕ × ℕ → Type 0) → ((register : ℕ × ℕ) → P register → Q register) → (declared : Declared) → Registers P declared → Registers Q declared
shapes_weaker P Q weaker declared own = record {
  all = All-weaker (λ (one : Shape). All P (map (λ (index : ℕ). (one.0, 2 * index + 1)) (range_with_len 0 one.1))) (λ (one : Shape). All Q (map (λ (index : ℕ). (one.0, 2 * index + 1)) (range_with_len 0 one.1)))
      (λ one all. All-weaker P Q weaker (map (λ (index : ℕ). (one.0, 2 * index + 1)) (range_with_len 0 one.1)) all) (group_shapes declared) own.all;
}

free_groups : (history : History) (edit : Edit) (task : ℕ) → IsUntouched history edit task → All (Registers (Free history edit task)) (state_of history).groups
free_groups history edit task un = λ k d low.
    let groups = (state_of history).groups in
    let declared = slice_index_or groups k d in
    by_bool declared.present
    (λ t. shapes_weaker (InLineAt (line_of history)) (Free history edit task) (λ register at. free_in_line history edit task register un at) declared (present-registers (state_of history) no_area k d low t))
    (λ t. absent-registers (Free history edit task) groups
    (All-weaker (λ (register : ℕ × ℕ). concerns_outside history task register ≡ false) (Free history edit task) (λ register free. free_outside history edit task register free) (registers_outside (state_of history)) un.none.registers)
    k d low t)

-- a group that is declared has slaves that weren't declared before, so nothing was written to them

empty_free : (history : History) (edit : Edit) (task : ℕ) (register : ℕ × ℕ) → AreAccepted history → is_declared_station (state_of history) register.0 ≡ false → Free history edit task register
empty_free history edit task register all undeclared = λ out.
    outside_as history edit task register out
    ∙ and_right (not (is_unplugged history register.0)) (names_among task (may_hold history register.0 register.1)) (ap (list_any (names_task task)) (undeclared-empty history register.0 register.1 all undeclared))

declared_faults : (state : State) (group : Group) → lowest (edit_faults state (Declare group)) ≡ None → list_any (λ (slave : Slave). list_any (λ (declared : Declared). has_station slave.station declared.group.slaves) state.groups) group.slaves ≡ false
declared_faults state group accepted = none-holds (edit_faults state (Declare group)) accepted 4 (false, EpochsSpent) (omega arith)

own_registers : (history : History) (task : ℕ) (group : Group) (slaves : List Slave) → AreAccepted history → list_any (λ (slave : Slave). is_declared_station (state_of history) slave.station) slaves ≡ false
    → All (λ (one : Shape). All (Free history (Declare group) task) (map (λ (index : ℕ). (one.0, 2 * index + 1)) (range_with_len 0 one.1))) (map shape slaves)
own_registers history task group [] all none = All-nil (λ (one : Shape). All (Free history (Declare group) task) (map (λ (index : ℕ). (one.0, 2 * index + 1)) (range_with_len 0 one.1)))
own_registers history task group (slave ∷ slaves) all none =
    let parts = or_parts (is_declared_station (state_of history) slave.station) (list_any (λ (other : Slave). is_declared_station (state_of history) other.station) slaves) none in
    All-cons (λ (one : Shape). All (Free history (Declare group) task) (map (λ (index : ℕ). (one.0, 2 * index + 1)) (range_with_len 0 one.1))) (shape slave) (map shape slaves)
    (All-map (Free history (Declare group) task) (λ (index : ℕ). (slave.station, 2 * index + 1)) (range_with_len 0 (length slave.areas)) (λ k d low. empty_free history (Declare group) task (slave.station, 2 * slice_index_or (range_with_len 0 (length slave.areas)) k d + 1) all parts.0))
    (own_registers history task group slaves all parts.1)

free_changed : (history : History) (edit : Edit) (task : ℕ) → IsUntouched history edit task → ((group : Group) → edit ≡ Declare group → ⊥) → All (Registers (Free history edit task)) (groups_after (state_of history).groups edit)
free_changed history edit task un other =
    let changes = edit-changes (state_of history).groups edit other in
    subst (All (Registers (Free history edit task))) (sym changes.after) (registers-changed (Free history edit task) changes.change changes.same (state_of history).groups (free_groups history edit task un))

free_after : (history : History) (edit : Edit) (task : ℕ) → IsUntouched history edit task → All (Registers (Free history edit task)) (groups_after (state_of history).groups edit)
free_after history (Connect alias) task un = free_changed history (Connect alias) task un (λ group is. cc)
free_after history (Disconnect alias) task un = free_changed history (Disconnect alias) task un (λ group is. cc)
free_after history (Remap station area pdos) task un = free_changed history (Remap station area pdos) task un (λ group is. cc)
free_after history (Move station area to) task un = free_changed history (Move station area to) task un (λ group is. cc)
free_after history (Declare group) task un =
    All-append (Registers (Free history (Declare group) task)) (state_of history).groups (absent group ∷ []) (free_groups history (Declare group) task un)
    (All-cons (Registers (Free history (Declare group) task)) (absent group) []
    (record { all = own_registers history task group group.slaves un.at.all (declared_faults (state_of history) group un.accepted) }) (All-nil (Registers (Free history (Declare group) task))))

free_registers : (history : History) (edit : Edit) (task : ℕ) → IsUntouched history edit task → All (λ (register : ℕ × ℕ). concerns_outside (edited_and_cleared history edit) task register ≡ false) (registers_outside (state_of (Edited edit ∷ history)))
free_registers history edit task un = λ k d low.
    let state = state_of (Edited edit ∷ history) in
    let after : All (Free history edit task) (registers_outside state) =
    subst (λ (s : State). All (Free history edit task) (registers_outside s)) (sym (accepted-state history edit un.accepted))
    (registers-outside (Free history edit task) (groups_after (state_of history).groups edit) (free_after history edit task un)) in
    after k d low (outside-absent state un.after k d low)

pub untouched-ready : (history : History) (edit : Edit) (task : ℕ) → IsUntouched history edit task → is_ready (edited_and_cleared history edit) task ≡ true
untouched-ready history edit task un =
    let after = edited_and_cleared history edit in
    let blocks = line_blocks (line_of (Edited edit ∷ history)) in
    waits-ready after task (record {
      blocks = subst (λ (s : State). All (λ (block : LineBlock). is_owed after block ≡ true → concerns after task block ≡ false) (line_blocks (line s))) (sym (after-state history edit))
          (λ k d low owed. free_block history edit task (slice_index_or blocks k d) un (Contains-get_or blocks k d low) owed);
      registers = subst (λ (s : State). All (λ (register : ℕ × ℕ). concerns_outside after task register ≡ false) (registers_outside s)) (sym (after-state history edit)) (free_registers history edit task un);
    })

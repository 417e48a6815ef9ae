-- Nothing was written to a slave that isn't declared, and nothing is written to one outside the line.
use Rattle.std.proofs.Common.{◌≡◌, ℕ, ◌==◌, ◌∙◌, Bool, true, false, cond, List, [], ◌∷◌, refl, sym, ap, arith, Option, Some, None}
use Rattle.std.specs.Prelude.{Contains, is_some}
use Rattle.std.specs.List.{list_any}
use Rattle.std.specs.Result.{result_unwrap_or}
use Rattle.std.proofs.lemmas.Bool.{and_parts, eqb-true, or_parts}
use Rattle.std.proofs.lemmas.Bool.Decides.{nat_tests}
use Rattle.std.proofs.lemmas.Grind.{flat_map-append}
use Rattle.std.proofs.lemmas.List.Elements.{All-contains, All-contains_itself}
use Rattle.std.proofs.lemmas.List.Folds.{list_any-append, list_any_at}
use Rattle.hc_records.specs.declared.edit.Edit.{Edit}
use Rattle.hc_records.specs.declared.edit.Edit.TheVariants.{Connect, Disconnect, Remap, Move, Declare}
use Rattle.hc_records.specs.declared.records.Declared.{Declared}
use Rattle.hc_records.specs.Edits.{absent, changed, edit_faults, groups_after, is_declared_station, refused_by, slave_at}
use Rattle.hc_records.specs.Line.{Member, State, is_at, line}
use Rattle.hc_records.specs.Lists.{lowest}
use Rattle.hc_records.proofs.lemmas.Finds.{found-all, found-none}
use Rattle.hc_records.proofs.lemmas.Choices.{by_bool}
use Rattle.hc_registers.specs.Blocks.{LineBlock, line_blocks}
use Rattle.hc_events.specs.Accepted.{AreAccepted, IsWrite}
use Rattle.hc_events.specs.Answering.{judged_by}
use Rattle.hc_events.specs.Arrivals.{Arrival}
use Rattle.hc_events.specs.Entries.{History, Opened, Edited, Posted, Sent, Wrote, Came, Forgot, Cleared, Unplugged}
use Rattle.hc_events.specs.Heads.{Block, block_item, same_item}
use Rattle.hc_events.specs.Holding.{MayHold, cleared_register, held_after_answer, held_after_write, may_hold}
use Rattle.hc_events.specs.Owed.{block_among, confirms, is_in_line, last_write}
use Rattle.hc_events.specs.Points.{line_of, state_of}
use Rattle.hc_events.proofs.lemmas.Accepted.{StaysTrue, held-of_accepted}
use Rattle.hc_events.proofs.lemmas.Answers.{written-inside}
use Rattle.hc_events.proofs.lemmas.Confirmed.{confirmed-last}
use Rattle.hc_events.proofs.lemmas.DeclaredSlaves.{Shape, changed-shapes, declared-by, edit-changes, group_shapes, line-shapes, shape, shapes}
use Rattle.hc_events.proofs.lemmas.LineBlocks.{block-of, found-passes}
use Rattle.hc_events.proofs.lemmas.Live.{find-is}

-- the station address of a block of the line is a declared slave's

pub block-declared : (state : State) (block : LineBlock) → Contains (line_blocks (line state)) block → is_declared_station state block.station ≡ true
block-declared state block has =
    let of = block-of (line state) block has in
    let shaped = All-contains (λ (member : Member). Contains (shapes state.groups) (shape member.slave)) (line state) of.member (line-shapes state) of.inside in
    declared-by state block.station
    ∙ list_any_at (λ (one : Shape). one.0 == block.station) (shapes state.groups) shaped.0 (shape of.member.slave) shaped.1
    (ap (λ (one : Shape). one.0 == block.station) shaped.2 ∙ same_as of.member.slave.station block.station (sym of.station))
  where
    same_as : (a b : ℕ) → a ≡ b → (a == b) ≡ true
    same_as a b e = grind (arith, nat_tests)

-- a slave of the line has the station address of each of its blocks

there_if : (state : State) (member : Member) (station : ℕ) (found : Option Member) → Contains (line state) member → station ≡ member.slave.station → slave_at state station ≡ found → is_some found ≡ true
there_if state member station None inside same is =
    let never : is_at station member ≡ false = All-contains (λ (m : Member). is_at station m ≡ false) (line state) member (found-none (is_at station) (line state) is) inside in
    let always : is_at station member ≡ true = same_as member.slave.station station (sym same) in
    let no : true ≡ false = sym always ∙ never in cc
  where
    same_as : (a b : ℕ) → a ≡ b → (a == b) ≡ true
    same_as a b e = grind (arith, nat_tests)
there_if state member station (Some other) inside same is = refl

pub block-in_line : (state : State) (block : LineBlock) → Contains (line_blocks (line state)) block → is_some (slave_at state block.station) ≡ true
block-in_line state block has =
    let of = block-of (line state) block has in
    there_if state of.member block.station (slave_at state block.station) of.inside of.station refl

-- so no frame of writes has a block of a slave outside the line, and no arrival confirms one

none_outside : (history : History) (blocks : List LineBlock) (station number : ℕ) (found : Option LineBlock) → IsWrite history blocks → is_in_line history station ≡ false → block_among station number blocks ≡ found → found ≡ None
none_outside history blocks station number None write out is = refl
none_outside history blocks station number (Some block) write out is =
    let one = find-is (Contains (line_blocks (line_of history))) (λ other. same_item (Block station number) (block_item other)) blocks block (written-inside history blocks write) is in
    let same : station ≡ block.station = eqb-true station block.station (and_parts (station == block.station) (number == block.number) one.1).0 in
    let here : is_in_line history station ≡ true = ap (is_in_line history) same ∙ block-in_line (state_of history) block one.0 in
    let never : true ≡ false = sym here ∙ out in cc

pub wrote-outside : (history : History) (blocks : List LineBlock) (station number : ℕ) → IsWrite history blocks → is_in_line history station ≡ false → block_among station number blocks ≡ None
wrote-outside history blocks station number write out = none_outside history blocks station number (block_among station number blocks) write out refl

pub confirmed-outside : (history : History) (arrival : Arrival) (station number : ℕ) → AreAccepted history → is_in_line history station ≡ false → list_any (confirms (Block station number)) (judged_by history arrival) ≡ false
confirmed-outside history arrival station number all out =
    by_bool (list_any (confirms (Block station number)) (judged_by history arrival))
    (λ t. let one = confirmed-last history arrival station number t in
    let same : station ≡ one.block.station = eqb-true station one.block.station (and_parts (station == one.block.station) (number == one.block.number) one.same).0 in
    let here : is_in_line history station ≡ true = ap (is_in_line history) same ∙ block-in_line (state_of history) one.block (one.inside all) in
    let never : true ≡ false = sym here ∙ out in cc)
    (λ t. t)

-- a slave in the line is declared

declared_if : (state : State) (station : ℕ) (found : Option Member) → slave_at state station ≡ found → is_declared_station state station ≡ false → is_some found ≡ false
declared_if state station None is undeclared = refl
declared_if state station (Some member) is undeclared =
    let inside : Contains (line state) member = found-all (Contains (line state)) (is_at station) (line state) member (All-contains_itself (line state)) is in
    let shaped = All-contains (λ (m : Member). Contains (shapes state.groups) (shape m.slave)) (line state) member (line-shapes state) inside in
    let here : list_any (λ (one : Shape). one.0 == station) (shapes state.groups) ≡ true =
    list_any_at (λ (one : Shape). one.0 == station) (shapes state.groups) shaped.0 (shape member.slave) shaped.1
    (ap (λ (one : Shape). one.0 == station) shaped.2 ∙ found-passes (is_at station) (line state) member is) in
    let never : true ≡ false = sym here ∙ sym (declared-by state station) ∙ undeclared in cc

pub undeclared-outside : (state : State) (station : ℕ) → is_declared_station state station ≡ false → is_some (slave_at state station) ≡ false
undeclared-outside state station undeclared = declared_if state station (slave_at state station) refl undeclared

-- an accepted edit leaves declared slaves declared

pub accepted-state : (history : History) (edit : Edit) → lowest (edit_faults (state_of history) edit) ≡ None → state_of (Edited edit ∷ history) ≡ changed (state_of history) edit
accepted-state history edit accepted = ap (λ fault. result_unwrap_or (refused_by fault (changed (state_of history) edit)) (state_of history)) accepted

abbrev ByStation : ℕ → List Declared → Bool
ByStation station groups = list_any (λ (one : Shape). one.0 == station) (shapes groups)

was_undeclared : (groups : List Declared) (edit : Edit) (station : ℕ) → ByStation station (groups_after groups edit) ≡ false → ByStation station groups ≡ false
was_undeclared groups (Connect alias) station none = sym (ap (list_any (λ (one : Shape). one.0 == station)) (changed-shapes groups (Connect alias) (edit-changes groups (Connect alias) (λ group is. cc)))) ∙ none
was_undeclared groups (Disconnect alias) station none =
    sym (ap (list_any (λ (one : Shape). one.0 == station)) (changed-shapes groups (Disconnect alias) (edit-changes groups (Disconnect alias) (λ group is. cc)))) ∙ none
was_undeclared groups (Remap own area pdos) station none =
    sym (ap (list_any (λ (one : Shape). one.0 == station)) (changed-shapes groups (Remap own area pdos) (edit-changes groups (Remap own area pdos) (λ group is. cc)))) ∙ none
was_undeclared groups (Move own area task) station none =
    sym (ap (list_any (λ (one : Shape). one.0 == station)) (changed-shapes groups (Move own area task) (edit-changes groups (Move own area task) (λ group is. cc)))) ∙ none
was_undeclared groups (Declare group) station none =
    (or_parts (ByStation station groups) (list_any (λ (one : Shape). one.0 == station) (shapes (absent group ∷ [])))
    (sym (list_any-append (λ (one : Shape). one.0 == station) (shapes groups) (shapes (absent group ∷ [])))
    ∙ sym (ap (list_any (λ (one : Shape). one.0 == station)) (flat_map-append group_shapes groups (absent group ∷ []))) ∙ none)).0

pub stays-undeclared : (history : History) (edit : Edit) (station : ℕ) → lowest (edit_faults (state_of history) edit) ≡ None → is_declared_station (state_of (Edited edit ∷ history)) station ≡ false → is_declared_station (state_of history) station ≡ false
stays-undeclared history edit station accepted none =
    declared-by (state_of history) station
    ∙ was_undeclared (state_of history).groups edit station
    (sym (declared-by (changed (state_of history) edit) station) ∙ sym (ap (λ state. is_declared_station state station) (accepted-state history edit accepted)) ∙ none)

-- so the register of a slave that isn't declared has no contents

record IsEmptyOutside (history : History) : Type 0 where
  accepted : AreAccepted history
  empty : (station number : ℕ) → is_declared_station (state_of history) station ≡ false → (may_hold history station number).contents ≡ []

empty_if : (own : Bool) (held : MayHold) → held.contents ≡ [] → (cond own cleared_register held).contents ≡ []
empty_if true held before = refl
empty_if false held before = before

empty_grows : StaysTrue IsEmptyOutside
empty_grows history (Opened groups) accepted before = absurd accepted
empty_grows history (Edited edit) accepted before =
    record { accepted = (accepted, before.accepted); empty = λ station number none. before.empty station number (stays-undeclared history edit station accepted none) }
empty_grows history (Posted task bytes) accepted before = record { accepted = (accepted, before.accepted); empty = before.empty }
empty_grows history (Sent frame) accepted before = record { accepted = (accepted, before.accepted); empty = before.empty }
empty_grows history (Wrote blocks) accepted before = record {
  accepted = (accepted, before.accepted);
  empty = λ station number none.
      ap (λ found. (held_after_write found (may_hold history station number)).contents) (wrote-outside history blocks station number accepted (undeclared-outside (state_of history) station none))
      ∙ before.empty station number none;
}
empty_grows history (Came arrival) accepted before = record {
  accepted = (accepted, before.accepted);
  empty = λ station number none.
      ap (λ good. (held_after_answer good (last_write history station number) (may_hold history station number)).contents)
      (confirmed-outside history arrival station number before.accepted (undeclared-outside (state_of history) station none))
      ∙ before.empty station number none;
}
empty_grows history (Forgot other) accepted before = record { accepted = (accepted, before.accepted); empty = before.empty }
empty_grows history (Cleared other) accepted before =
    record { accepted = (accepted, before.accepted); empty = λ station number none. empty_if (station == other) (may_hold history station number) (before.empty station number none) }
empty_grows history (Unplugged other) accepted before = record { accepted = (accepted, before.accepted); empty = before.empty }

pub undeclared-empty : (history : History) (station number : ℕ) → AreAccepted history → is_declared_station (state_of history) station ≡ false → (may_hold history station number).contents ≡ []
undeclared-empty history station number all none = (held-of_accepted IsEmptyOutside empty_grows (λ groups. record { accepted = refl; empty = λ s n e. refl }) history all).empty station number none

-- Each entry of a record keeps what the machines of a wire hold of it, and so does a run.
use Rattle.std.proofs.Common.{◌≡◌, ℕ, ◌+◌, ◌*◌, ◌<◌, ◌==◌, ◌&&◌, ◌||◌, not, ◌∙◌, inl, inr, Bool, true, false, cond, List, [], ◌∷◌, length, refl, sym, ap, ap₂, subst, arith, Option, Some, None}
use Rattle.std.specs.Prelude.{◌≢◌, All, Contains, find, is_some, slice_get, slice_range}
use Rattle.std.specs.Result.{result_unwrap_or}
use Rattle.std.proofs.lemmas.Bool.Decides.{nat_tests}
use Rattle.std.proofs.lemmas.Bool.{cases_eq, eq-eqb, eqb-true}
use Rattle.std.proofs.lemmas.List.{length-map}
use Rattle.std.proofs.lemmas.List.Elements.{All-contains, All-contains_itself}
use Rattle.std.proofs.lemmas.Option.{slice_get-get_or}
use Rattle.hc_bits.specs.Bits.{AreBytes}
use Rattle.hc_records.specs.declared.edit.Edit.{Edit}
use Rattle.hc_records.specs.declared.records.Area.{Area}
use Rattle.hc_records.specs.declared.records.Group.{Group}
use Rattle.hc_records.specs.declared.faults.EditFault.{EditFault}
use Rattle.hc_records.specs.Edits.{changed, edit_faults, groups_after, refused_by, slave_at, state_after}
use Rattle.hc_records.specs.Line.{Member, State, is_at, line, line_from}
use Rattle.hc_records.specs.Lists.{lowest}
use Rattle.hc_records.proofs.lemmas.Choices.{by_bool}
use Rattle.hc_records.proofs.lemmas.Finds.{found-all}
use Rattle.hc_registers.specs.Blocks.{LineBlock, member_blocks}
use Rattle.hc_events.specs.Accepted.{IsClearing}
use Rattle.hc_events.specs.Entries.{HistoryEntry, History, Opened, Edited, Posted, Sent, Wrote, Came, Forgot, Cleared, Unplugged}
use Rattle.hc_events.specs.Heads.{Block}
use Rattle.hc_events.specs.Holding.{MayHold, cleared_register, comes, may_hold}
use Rattle.hc_events.specs.Owed.{is_in_line, last_write, was_confirmed}
use Rattle.hc_events.specs.Points.{line_of, state_of}
use Rattle.hc_events.specs.SendingLaws.{is_opening}
use Rattle.hc_events.proofs.lemmas.Holding.{stays-held}
use Rattle.hc_machine.specs.Fmmus.{fmmu_block_at}
use Rattle.hc_exchange.specs.Holding.{HoldsContents, IsOutsider, IsRecord, MayHoldBytes}
use Rattle.hc_exchange.specs.PairLaws.{IsConfigurable}
use Rattle.hc_exchange.specs.Runs.{AtSlave, ChangesLine, ChangesSlave, EntriesKeepRegisters, IsCleared, IsOpenedWire, IsRun, LosesRegisters, RunsHoldRegisters, TakesWrites, TakeWrites}
use Rattle.hc_exchange.specs.Wire.{WireMachine, outside_machines}
use Rattle.hc_exchange.specs.Writing.{IsMachineOf}
use Rattle.hc_exchange.proofs.lemmas.BlockNumbers.{other-block}
use Rattle.hc_exchange.proofs.lemmas.Contents.{edited-configurable, record-sound}
use Rattle.hc_exchange.proofs.lemmas.Members.{KeepsLine, slave-of, stays-line}
use Rattle.hc_exchange.proofs.lemmas.ReadyTasks.{slave-at}
use Rattle.hc_exchange.proofs.lemmas.SlaveShapes.{edited-managers}
use Rattle.hc_exchange.proofs.lemmas.Places.{found-passes}
use Rattle.hc_exchange.proofs.lemmas.Sources.{IsOfMember, member-sources}
use Rattle.hc_exchange.proofs.lemmas.TakenFrames.{taken-held, has-at, machine-for, same-line, sent-keeps, wrote-keeps, came-keeps}

-- a slave that changes

changes-keep : (Changed : Member → List ℕ → List ℕ → Type 0) (passed : ℕ → Bool) (history next : History) (station : ℕ) (wire wire' : List WireMachine) → line_of next ≡ line_of history
    → TakeWrites passed history wire → ChangesSlave Changed history station wire wire'
    → ((member : Member) (memory memory' : List ℕ) → Contains (line_of history) member → member.slave.station ≡ station → TakesWrites passed history member memory → Changed member memory memory' → TakesWrites passed next member memory')
    → ((member : Member) (memory : List ℕ) → member.slave.station ≢ station → TakesWrites passed history member memory → TakesWrites passed next member memory)
    → All (IsOutsider next) (outside_machines wire') → ((serial station number : ℕ) → was_confirmed next serial (Block station number) ≡ true → passed serial ≡ true) → TakeWrites passed next wire'
changes-keep Changed passed history next station wire wire' same takes changes own others outside answered = record {
  count = changes.count ∙ takes.count ∙ ap length (sym same);
  each = λ k member memory' is is'.
      let there : slice_get (line_of history) k ≡ Some member = ap (λ (ms : List Member). slice_get ms k) (sym same) ∙ is in
      let before = machine-for passed history wire k member takes there in
      let at : AtSlave (line_of history) wire wire' k member before.0 memory' = record { member_is = there; before = before.1; after = is' } in
      elim (cases_eq member.slave.station station) [
        | inl one ↦ own member before.0 memory' (has-at (line_of history) k member there) one before.2 (changes.own k member before.0 memory' at one)
        | inr other ↦ subst (TakesWrites passed next member) (sym (changes.others k member before.0 memory' at other)) (others member before.0 other before.2)
      ];
  outside = outside;
  answered = answered;
}

other-station : (station other : ℕ) → station ≢ other → (station == other) ≡ false
other-station station other differ = grind (arith, nat_tests)

block-station : (line : List Member) (member : Member) (block : LineBlock) → Contains (member_blocks line member) block → block.station ≡ member.slave.station
block-station line member block there = (All-contains (IsOfMember line member) (member_blocks line member) block (member-sources line member) there).station_is

unless-own : {X : Type 0} (own : Bool) (x y z : X) → own ≡ false → cond own x y ≡ z → y ≡ z
unless-own true x y z differ is = cc
unless-own false x y z differ is = is

none-own : {X : Type 0} (own : Bool) (last : Option X) (write : X) → own ≡ true → cond own None last ≡ Some write → ⊥
none-own true last write same is = cc
none-own false last write same is = cc

forgot-own : (passed : ℕ → Bool) (history : History) (station : ℕ) (member : Member) (memory memory' : List ℕ) → Contains (line_of history) member → member.slave.station ≡ station
    → KeepsLine (line_of history) → TakesWrites passed history member memory → LosesRegisters member memory memory' → TakesWrites passed (Forgot station ∷ history) member memory'
forgot-own passed history station member memory memory' has same stays own lost = record {
  machine = lost.machine;
  all_bytes = lost.all_bytes;
  taken = λ block write there last whole.
      absurd (none-own (block.station == station) (last_write history block.station block.number) write (eq-eqb block.station station (block-station (line_of history) member block there ∙ same)) last);
  held = λ index within known.
      let few = (slave-of (line_of history) member stays has).few in
      elim (lost.fmmus index (omega arith)) [
        | inl zeros ↦ inl zeros
        | inr left_so ↦ subst (HoldsContents (may_hold history member.slave.station (2 * index + 1))) (sym left_so) (own.held index within known)
      ];
}

forgot-other : (passed : ℕ → Bool) (history : History) (station : ℕ) (member : Member) (memory : List ℕ) → member.slave.station ≢ station → TakesWrites passed history member memory
    → TakesWrites passed (Forgot station ∷ history) member memory
forgot-other passed history station member memory differ own = record {
  machine = own.machine;
  all_bytes = own.all_bytes;
  taken = λ block write there last whole.
      let stations = block-station (line_of history) member block there in
      own.taken block write there
      (unless-own (block.station == station) None (last_write history block.station block.number) (Some write) (other-station block.station station (λ one. differ (sym stations ∙ one))) last) whole;
  held = own.held;
}

cleared-if : (own : Bool) (held : MayHold) (bytes : List ℕ) → own ≡ false → MayHoldBytes held bytes → MayHoldBytes (cond own cleared_register held) bytes
cleared-if true held bytes differ before known = cc
cleared-if false held bytes differ before known = before known

cleared-own : (passed : ℕ → Bool) (history : History) (station : ℕ) (member : Member) (memory memory' : List ℕ) → Contains (line_of history) member → member.slave.station ≡ station
    → IsConfigurable (state_of history) → IsClearing history station → IsCleared member memory memory' → TakesWrites passed (Cleared station ∷ history) member memory'
cleared-own passed history station member memory memory' has same can clearing cleared = record {
  machine = cleared.machine;
  all_bytes = cleared.all_bytes;
  taken = λ block write there last whole.
      let stations = block-station (line_of history) member block there ∙ same in
      let none = clearing.forgotten (subst (λ (s : ℕ). is_in_line history s ≡ true) same (ap is_some (slave-at (state_of history) member can has))) block.number in
      let never : None ≡ Some write = sym none ∙ ap (λ (s : ℕ). last_write history s block.number) (sym stations) ∙ last in
      cc;
  held = λ index within known. let few = (slave-of (line_of history) member (stays-line (state_of history) can) has).few in inl (cleared.fmmus index (omega arith));
}

cleared-other : (passed : ℕ → Bool) (history : History) (station : ℕ) (member : Member) (memory : List ℕ) → member.slave.station ≢ station → TakesWrites passed history member memory
    → TakesWrites passed (Cleared station ∷ history) member memory
cleared-other passed history station member memory differ own = record {
  machine = own.machine;
  all_bytes = own.all_bytes;
  taken = own.taken;
  held = λ index within.
      cleared-if (member.slave.station == station) (may_hold history member.slave.station (2 * index + 1)) (fmmu_block_at memory index) (other-station member.slave.station station differ) (own.held index within);
}

-- an edit

edited-groups : (state : State) (edit : Edit) → lowest (edit_faults state edit) ≡ None → line (state_after state edit) ≡ line_from 1 (groups_after state.groups edit)
edited-groups state edit none = ap (λ (fault : Option EditFault). line (result_unwrap_or (refused_by fault (changed state edit)) state)) none

find-member : (state : State) (station : ℕ) (found : Option Member) → find (is_at station) (line state) ≡ found → is_some found ≡ true → (member : Member) × Contains (line state) member × (member.slave.station ≡ station)
find-member state station None is some = cc
find-member state station (Some member) is some = (
  member,
  found-all (Contains (line state)) (is_at station) (line state) member (All-contains_itself (line state)) is,
  eqb-true member.slave.station station (found-passes (is_at station) (line state) member is),
)

at-place : (line : List Member) (member : Member) → (has : Contains line member) → slice_get line has.0 ≡ Some member
at-place line member (k, within, is) = slice_get-get_or line k member within ∙ ap (λ (m : Member). Some m) is

stays-takes : (passed : ℕ → Bool) (history : History) (edit : Edit) (member member' : Member) (memory : List ℕ) → IsConfigurable (state_of history) → lowest (edit_faults (state_of history) edit) ≡ None
    → Contains (line_of history) member → Contains (line_of (Edited edit ∷ history)) member' → member'.slave.station ≡ member.slave.station → is_in_line history member'.slave.station ≡ true
    → TakesWrites passed history member memory → TakesWrites passed (Edited edit ∷ history) member' memory
stays-takes passed history edit member member' memory can accepted has has' same here own =
    let managers =
    edited-managers (state_of history).groups edit member member' can.project has (subst (λ (ms : List Member). Contains ms member') (edited-groups (state_of history) edit accepted) has') same in
    let areas : length member'.slave.areas ≡ length member.slave.areas =
    sym (length-map member'.slave.areas (λ (a : Area). a.sm)) ∙ ap length managers ∙ length-map member.slave.areas (λ (a : Area). a.sm) in
    record {
      machine = record {
        size = own.machine.size;
        address = subst (λ (s : ℕ). s < 65536) (sym same) own.machine.address;
        programmable = record { station = own.machine.programmable.station ∙ sym same; unused = λ i outer low. own.machine.programmable.unused i (omega arith) low };
      };
      all_bytes = own.all_bytes;
      taken = λ block' write there last whole.
          let other = other-block (line_of history) (line_of (Edited edit ∷ history)) member member' block' has same managers there in
          let block = other.block in
          let stations = block-station (line_of (Edited edit ∷ history)) member' block' there in
          let in_line : is_in_line history block'.station ≡ true = ap (is_in_line history) stations ∙ here in
          let last' : last_write history block.station block.number ≡ Some write =
          ap₂ (last_write history) other.station other.number ∙ sym (ap (λ b. cond b (last_write history block'.station block'.number) None) in_line) ∙ last in
          ap₂ (λ (r n : ℕ). slice_range memory r (r + n)) (sym other.register) (sym other.size) ∙ own.taken block write other.has last' whole;
      held = λ index within known.
          let held = stays-held history edit member'.slave.station (2 * index + 1) here in
          let stations : may_hold history member'.slave.station (2 * index + 1) ≡ may_hold history member.slave.station (2 * index + 1) = ap (λ (s : ℕ). may_hold history s (2 * index + 1)) same in
          subst (λ (h : MayHold). HoldsContents h (fmmu_block_at memory index)) (sym (held ∙ stations))
          (own.held index (omega arith) (ap (λ (h : MayHold). h.unknown) (sym (held ∙ stations)) ∙ known));
    }

comes-takes : (passed : ℕ → Bool) (history : History) (edit : Edit) (member' : Member) (memory' : List ℕ) → IsConfigurable (state_of (Edited edit ∷ history)) → Contains (line_of (Edited edit ∷ history)) member'
    → is_in_line history member'.slave.station ≡ false → IsMachineOf member' memory' → AreBytes memory' → TakesWrites passed (Edited edit ∷ history) member' memory'
comes-takes passed history edit member' memory' can has' away machine all_bytes = record {
  machine = machine;
  all_bytes = all_bytes;
  taken = λ block write there last whole.
      let stations = block-station (line_of (Edited edit ∷ history)) member' block there in
      let in_line : is_in_line history block.station ≡ false = ap (is_in_line history) stations ∙ away in
      let never : None ≡ Some write = sym (ap (λ b. cond b (last_write history block.station block.number) None) in_line) ∙ last in
      cc;
  held = λ index within known.
      let held = may_hold history member'.slave.station (2 * index + 1) in
      let here : is_in_line (Edited edit ∷ history) member'.slave.station ≡ true = ap is_some (slave-at (state_of (Edited edit ∷ history)) member' can has') in
      let comes_so : comes history edit member'.slave.station ≡ true = ap₂ (λ (a b : Bool). not a && b) away here in
      let never : true ≡ false = sym (ap (λ b. b || held.unknown) comes_so) ∙ known in
      cc;
}

edited-keeps : (passed : ℕ → Bool) (history : History) (edit : Edit) (wire wire' : List WireMachine) → IsRecord (Edited edit ∷ history) → IsRecord history → TakeWrites passed history wire
    → ChangesLine history edit wire wire' → All (IsOutsider (Edited edit ∷ history)) (outside_machines wire') → TakeWrites passed (Edited edit ∷ history) wire'
edited-keeps passed history edit wire wire' of_record before takes changes outside =
    let can = (record-sound history before).can in
    let accepted = of_record.reachable.accepted.0 in
    let can' = edited-configurable (state_of history) edit can accepted in
    record {
      count = changes.count;
      each = λ k' member' memory' is is'.
          let station = member'.slave.station in
          let has' = has-at (line_of (Edited edit ∷ history)) k' member' is in
          by_bool (is_in_line history station)
          (λ here.
          let old = find-member (state_of history) station (slave_at (state_of history) station) refl here in
          let at = at-place (line_of history) old.0 old.1 in
          let own = machine-for passed history wire old.1.0 old.0 takes at in
          let same = changes.stays old.1.0 k' old.0 member' own.0 memory' at own.1 is is' (sym old.2) in
          subst (TakesWrites passed (Edited edit ∷ history) member') (sym same) (stays-takes passed history edit old.0 member' own.0 can accepted old.1 has' (sym old.2) here own.2))
          (λ away. let machine = changes.comes k' member' memory' is is' away in comes-takes passed history edit member' memory' can' has' away machine.0 machine.1);
      outside = outside;
      answered = takes.answered;
    }

-- each entry

pub before-is : (history : History) (entry : HistoryEntry) → IsRecord (entry ∷ history) → is_opening entry ≡ false → IsRecord history
before-is history (Opened groups) is other = cc
before-is history (Edited edit) is other = record { reachable = record { accepted = is.reachable.accepted.1; few = is.reachable.few }; opening = is.opening }
before-is history (Posted task bytes) is other = record { reachable = record { accepted = is.reachable.accepted.1; few = is.reachable.few }; opening = is.opening }
before-is history (Sent frame) is other = record { reachable = record { accepted = is.reachable.accepted.1; few = let few = is.reachable.few in omega arith }; opening = is.opening }
before-is history (Wrote blocks) is other = record { reachable = record { accepted = is.reachable.accepted.1; few = let few = is.reachable.few in omega arith }; opening = is.opening }
before-is history (Came arrival) is other = record { reachable = record { accepted = is.reachable.accepted.1; few = is.reachable.few }; opening = is.opening }
before-is history (Forgot station) is other = record { reachable = record { accepted = is.reachable.accepted.1; few = is.reachable.few }; opening = is.opening }
before-is history (Cleared station) is other = record { reachable = record { accepted = is.reachable.accepted.1; few = is.reachable.few }; opening = is.opening }
before-is history (Unplugged station) is other = record { reachable = record { accepted = is.reachable.accepted.1; few = is.reachable.few }; opening = is.opening }

posted-takes : (passed : ℕ → Bool) (history : History) (task : ℕ) (bytes : List ℕ) (member : Member) (memory : List ℕ) → TakesWrites passed history member memory
    → TakesWrites passed (Posted task bytes ∷ history) member memory
posted-takes passed history task bytes member memory own = record { machine = own.machine; all_bytes = own.all_bytes; taken = own.taken; held = own.held }

unplugged-takes : (passed : ℕ → Bool) (history : History) (station : ℕ) (member : Member) (memory : List ℕ) → TakesWrites passed history member memory → TakesWrites passed (Unplugged station ∷ history) member memory
unplugged-takes passed history station member memory own = record { machine = own.machine; all_bytes = own.all_bytes; taken = own.taken; held = own.held }

pub entries-keep : EntriesKeepRegisters
entries-keep passed history (Opened groups) wire wire' is takes goes = absurd goes.moves
entries-keep passed history (Edited edit) wire wire' is takes goes = edited-keeps passed history edit wire wire' is (before-is history (Edited edit) is refl) takes goes.moves goes.outside
entries-keep passed history (Posted task bytes) wire wire' is takes goes =
    same-line passed history (Posted task bytes ∷ history) wire wire' refl takes goes.moves (posted-takes passed history task bytes) goes.outside takes.answered
entries-keep passed history (Sent frame) wire wire' is takes goes = sent-keeps passed history frame wire wire' is (before-is history (Sent frame) is refl) takes goes.moves goes.outside
entries-keep passed history (Wrote blocks) wire wire' is takes goes = wrote-keeps passed history blocks wire wire' is (before-is history (Wrote blocks) is refl) takes goes.moves goes.outside
entries-keep passed history (Came arrival) wire wire' is takes goes = came-keeps passed history arrival wire wire' takes goes.moves goes.outside
entries-keep passed history (Forgot station) wire wire' is takes goes =
    let can = (record-sound history (before-is history (Forgot station) is refl)).can in
    changes-keep LosesRegisters passed history (Forgot station ∷ history) station wire wire' refl takes goes.moves
    (λ member memory memory' has same own lost. forgot-own passed history station member memory memory' has same (stays-line (state_of history) can) own lost)
    (λ member memory differ own. forgot-other passed history station member memory differ own) goes.outside takes.answered
entries-keep passed history (Cleared station) wire wire' is takes goes =
    let can = (record-sound history (before-is history (Cleared station) is refl)).can in
    changes-keep IsCleared passed history (Cleared station ∷ history) station wire wire' refl takes goes.moves
    (λ member memory memory' has same own cleared. cleared-own passed history station member memory memory' has same can is.reachable.accepted.0 cleared)
    (λ member memory differ own. cleared-other passed history station member memory differ own) goes.outside takes.answered
entries-keep passed history (Unplugged station) wire wire' is takes goes =
    same-line passed history (Unplugged station ∷ history) wire wire' refl takes goes.moves (unplugged-takes passed history station) goes.outside takes.answered

-- a run

opened-takes : (passed : ℕ → Bool) (groups : List Group) (history : History) (wire : List WireMachine) → IsOpenedWire (Opened groups ∷ history) wire → TakeWrites passed (Opened groups ∷ history) wire
opened-takes passed groups history wire opens = record {
  count = opens.count;
  each = λ k member memory is is'.
      let own = opens.each k member memory is is' in
      record { machine = own.0; all_bytes = own.1; taken = λ block write there last whole. cc; held = λ index within known. cc };
  outside = opens.outside;
  answered = λ serial station number is. cc;
}

runs-take : (passed : ℕ → Bool) (history : History) (wire : List WireMachine) (wires : List (List WireMachine)) → IsRecord history → IsRun passed history (wire ∷ wires) → TakeWrites passed history wire
runs-take passed [] wire wires is run = absurd run
runs-take passed (Opened groups ∷ history) wire wires is run = opened-takes passed groups history wire run
runs-take passed (Edited edit ∷ history) wire [] is run = absurd run
runs-take passed (Edited edit ∷ history) wire' (wire ∷ wires) is run =
    entries-keep passed history (Edited edit) wire wire' is (runs-take passed history wire wires (before-is history (Edited edit) is refl) run.1) run.0
runs-take passed (Posted task bytes ∷ history) wire [] is run = absurd run
runs-take passed (Posted task bytes ∷ history) wire' (wire ∷ wires) is run =
    entries-keep passed history (Posted task bytes) wire wire' is (runs-take passed history wire wires (before-is history (Posted task bytes) is refl) run.1) run.0
runs-take passed (Sent frame ∷ history) wire [] is run = absurd run
runs-take passed (Sent frame ∷ history) wire' (wire ∷ wires) is run =
    entries-keep passed history (Sent frame) wire wire' is (runs-take passed history wire wires (before-is history (Sent frame) is refl) run.1) run.0
runs-take passed (Wrote blocks ∷ history) wire [] is run = absurd run
runs-take passed (Wrote blocks ∷ history) wire' (wire ∷ wires) is run =
    entries-keep passed history (Wrote blocks) wire wire' is (runs-take passed history wire wires (before-is history (Wrote blocks) is refl) run.1) run.0
runs-take passed (Came arrival ∷ history) wire [] is run = absurd run
runs-take passed (Came arrival ∷ history) wire' (wire ∷ wires) is run =
    entries-keep passed history (Came arrival) wire wire' is (runs-take passed history wire wires (before-is history (Came arrival) is refl) run.1) run.0
runs-take passed (Forgot station ∷ history) wire [] is run = absurd run
runs-take passed (Forgot station ∷ history) wire' (wire ∷ wires) is run =
    entries-keep passed history (Forgot station) wire wire' is (runs-take passed history wire wires (before-is history (Forgot station) is refl) run.1) run.0
runs-take passed (Cleared station ∷ history) wire [] is run = absurd run
runs-take passed (Cleared station ∷ history) wire' (wire ∷ wires) is run =
    entries-keep passed history (Cleared station) wire wire' is (runs-take passed history wire wires (before-is history (Cleared station) is refl) run.1) run.0
runs-take passed (Unplugged station ∷ history) wire [] is run = absurd run
runs-take passed (Unplugged station ∷ history) wire' (wire ∷ wires) is run =
    entries-keep passed history (Unplugged station) wire wire' is (runs-take passed history wire wires (before-is history (Unplugged station) is refl) run.1) run.0

pub runs-hold : RunsHoldRegisters
runs-hold passed history wire wires is run = taken-held passed history wire (runs-take passed history wire wires is run)

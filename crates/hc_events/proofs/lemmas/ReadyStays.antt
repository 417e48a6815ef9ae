-- A ready task stays ready as long as no edit is accepted and no slave with an area in it is forgotten.
use Rattle.std.proofs.Common.{◌≡◌, ℕ, ◌==◌, ◌&&◌, ◌||◌, not, ◌∙◌, Bool, true, false, cond, List, [], ◌∷◌, ◌++◌, refl, sym, ap, subst, Option, Some, None}
use Rattle.std.specs.Prelude.{Contains, is_some, option_map, slice_index_or}
use Rattle.std.specs.Option.{option_map_or}
use Rattle.std.specs.List.{list_all, list_any}
use Rattle.std.specs.Str.{bytes_eq}
use Rattle.std.proofs.lemmas.Bool.{and_parts, and_right, not-true, or_parts}
use Rattle.std.proofs.lemmas.List.Elements.{All-contains, Contains-get_or}
use Rattle.std.proofs.lemmas.Slice.Eq.{bytes_eq-Decides}
use Rattle.std.proofs.lemmas.List.Folds.{list_any_at}
use Rattle.hc_records.specs.Edits.{over_limit_task}
use Rattle.hc_records.specs.Line.{State, groups_of, line}
use Rattle.hc_records.specs.Project.{lowest_fault}
use Rattle.hc_records.proofs.lemmas.Choices.{by_bool, or-no}
use Rattle.hc_registers.specs.Blocks.{LineBlock, line_blocks}
use Rattle.hc_events.specs.Accepted.{AreAccepted, IsAccepted, IsWrite}
use Rattle.hc_events.specs.Answering.{judged_by, sends}
use Rattle.hc_events.specs.Arrivals.{Arrival}
use Rattle.hc_events.specs.Entries.{HistoryEntry, History, Opened, Edited, Posted, Sent, Wrote, Came, Forgot, Cleared, Unplugged}
use Rattle.hc_events.specs.Heads.{Block, block_item, same_item}
use Rattle.hc_events.specs.Holding.{MayHold, cleared_register, held_after_answer, held_after_write, is_unplugged, may_hold}
use Rattle.hc_events.specs.Owed.{block_among, confirms, is_in_line, is_owed, known_bytes, last_write}
use Rattle.hc_events.specs.Points.{line_of, state_of}
use Rattle.hc_events.specs.Ready.{concerns, is_fmmu, may_name, names_among, names_task, registers_outside, serves_task}
use Rattle.hc_events.specs.ReadyLaws.{spares}
use Rattle.hc_events.specs.Steady.{task_blocks}
use Rattle.hc_events.proofs.Forgetting.{is-forgotten}
use Rattle.hc_events.proofs.lemmas.Answers.{written-inside}
use Rattle.hc_events.proofs.lemmas.Confirmed.{confirmed-last, known-came}
use Rattle.hc_events.proofs.lemmas.DeclaredSlaves.{outside-absent}
use Rattle.hc_events.proofs.lemmas.LineBlocks.{named-served, own-names}
use Rattle.hc_events.proofs.lemmas.Live.{any_found, find-is, others-as_before}
use Rattle.hc_events.proofs.lemmas.OneWrite.{not-owed_stays}
use Rattle.hc_events.proofs.lemmas.ReadyEdits.{IsProjectAt, WaitsForNothing, passes-in, register-serves}
use Rattle.hc_events.proofs.lemmas.TwoWrites.{owed_all}
use Rattle.hc_events.proofs.lemmas.Undeclared.{confirmed-outside, wrote-outside}

abbrev Parts : History → ℕ → LineBlock → Type 0
Parts history task block = (serves_task (state_of history) task block ≡ false) × (may_name task block.number (may_hold history block.station block.number) ≡ false)

parts_of : (history : History) (task : ℕ) (block : LineBlock) → concerns history task block ≡ false → Parts history task block
parts_of history task block free = or_parts (serves_task (state_of history) task block) (may_name task block.number (may_hold history block.station block.number)) free

free_at : (history : History) (task : ℕ) (block : LineBlock) → WaitsForNothing history task → Contains (line_blocks (line_of history)) block → is_owed history block ≡ true → concerns history task block ≡ false
free_at history task block none has owed = All-contains (λ (b : LineBlock). is_owed history b ≡ true → concerns history task b ≡ false) (line_blocks (line_of history)) block none.blocks has owed

-- a frame of writes

more_bytes : (task number : ℕ) (held : MayHold) (bytes : List ℕ) → (is_fmmu number ≡ true → names_task task bytes ≡ false) → may_name task number held ≡ false
    → may_name task number (record { unknown = held.unknown; contents = bytes ∷ held.contents }) ≡ false
more_bytes task number held bytes other free =
    by_bool (is_fmmu number)
    (λ t. let before : (held.unknown || names_among task held) ≡ false = sym (ap (λ b. b && (held.unknown || names_among task held)) t) ∙ free in
    let parts = or_parts held.unknown (names_among task held) before in
    and_right (is_fmmu number) (held.unknown || (names_task task bytes || names_among task held))
    (ap (λ b. b || (names_task task bytes || names_among task held)) parts.0 ∙ ap (λ b. b || names_among task held) (other t) ∙ parts.1))
    (λ t. ap (λ b. b && (held.unknown || (names_task task bytes || names_among task held))) t)

wrote_if : (history : History) (blocks : List LineBlock) (task : ℕ) (block : LineBlock) (found : Option LineBlock) → IsProjectAt history → WaitsForNothing history task → IsWrite history blocks
    → Contains (line_blocks (line_of history)) block → block_among block.station block.number blocks ≡ found → is_owed (Wrote blocks ∷ history) block ≡ true
    → (serves_task (state_of history) task block || may_name task block.number (held_after_write found (may_hold history block.station block.number))) ≡ false
wrote_if history blocks task block None at none write has is owed =
    let unsent : sends (block_item block) (Wrote blocks) ≡ false = any_found (λ other. same_item (block_item block) (block_item other)) blocks ∙ ap is_some is in
    free_at history task block none has (sym (others-as_before history blocks block unsent) ∙ owed)
wrote_if history blocks task block (Some written) at none write has is owed =
    let one = find-is (λ (b : LineBlock). Contains (line_blocks (line_of history)) b × (is_owed history b ≡ true)) (λ other. same_item (block_item block) (block_item other)) blocks written
    (λ k d low. (written-inside history blocks write k d low, owed_all history blocks write k d low)) is in
    let same : block ≡ written = own-names (state_of history) at.project block written has one.0.0 one.1 in
    let before = parts_of history task block (free_at history task block none has (ap (is_owed history) same ∙ one.0.1)) in
    let other : is_fmmu block.number ≡ true → names_task task written.block.bytes ≡ false = λ odd.
    by_bool (names_task task written.block.bytes)
    (λ t. let serves = named-served (state_of history) block task at.project at.uncrowded has odd (ap (λ (b : LineBlock). names_task task b.block.bytes) same ∙ t) in
    let never : true ≡ false = sym serves ∙ before.0 in cc)
    (λ t. t) in
    ap (λ b. b || may_name task block.number (held_after_write (Some written) (may_hold history block.station block.number))) before.0
    ∙ more_bytes task block.number (may_hold history block.station block.number) written.block.bytes other before.1

wrote_free : (history : History) (blocks : List LineBlock) (task : ℕ) → IsProjectAt history → WaitsForNothing history task → IsWrite history blocks → WaitsForNothing (Wrote blocks ∷ history) task
wrote_free history blocks task at none write = record {
  blocks = λ k d low owed.
      let block = slice_index_or (line_blocks (line_of history)) k d in
      wrote_if history blocks task block (block_among block.station block.number blocks) at none write (Contains-get_or (line_blocks (line_of history)) k d low) refl owed;
  registers = λ k d low.
      let register = slice_index_or (registers_outside (state_of history)) k d in
      let out : is_in_line history register.0 ≡ false = outside-absent (state_of history) at.project k d low in
      ap (λ found. not (is_unplugged history register.0) && names_among task (held_after_write found (may_hold history register.0 register.1))) (wrote-outside history blocks register.0 register.1 write out)
      ∙ none.registers k d low;
}

-- an arrival: a block that is owed after it was owed before, and wasn't confirmed

own_bytes : (bytes : List ℕ) → not (option_map_or (bytes_eq bytes) (Some bytes) false) ≡ false
own_bytes bytes = ap not ((bytes_eq-Decides bytes bytes).1 refl)

not_confirmed : (history : History) (arrival : Arrival) (block : LineBlock) → IsProjectAt history → Contains (line_blocks (line_of history)) block → is_owed (Came arrival ∷ history) block ≡ true
    → list_any (confirms (Block block.station block.number)) (judged_by history arrival) ≡ false
not_confirmed history arrival block at has owed =
    by_bool (list_any (confirms (Block block.station block.number)) (judged_by history arrival))
    (λ t. let one = confirmed-last history arrival block.station block.number t in
    let same : block ≡ one.block = own-names (state_of history) at.project block one.block has (one.inside at.all) one.same in
    let known : known_bytes (Came arrival ∷ history) block.station block.number ≡ Some block.block.bytes =
    known-came history arrival block.station block.number
    ∙ ap (λ b. cond b (option_map (λ write. write.1) (last_write history block.station block.number)) (known_bytes history block.station block.number)) t
    ∙ ap (option_map (λ write. write.1)) one.last
    ∙ ap (λ (b : LineBlock). Some b.block.bytes) (sym same) in
    let never : true ≡ false = sym owed ∙ ap (λ one. not (option_map_or (bytes_eq block.block.bytes) one false)) known ∙ own_bytes block.block.bytes in cc)
    (λ t. t)

came_free : (history : History) (arrival : Arrival) (task : ℕ) → IsProjectAt history → WaitsForNothing history task → WaitsForNothing (Came arrival ∷ history) task
came_free history arrival task at none = record {
  blocks = λ k d low owed.
      let block = slice_index_or (line_blocks (line_of history)) k d in
      let has = Contains-get_or (line_blocks (line_of history)) k d low in
      let was : is_owed history block ≡ true = by_bool (is_owed history block) (λ t. t) (λ t. let never : true ≡ false = sym owed ∙ not-owed_stays history arrival block t in cc) in
      ap (λ good. serves_task (state_of history) task block || may_name task block.number (held_after_answer good (last_write history block.station block.number) (may_hold history block.station block.number)))
      (not_confirmed history arrival block at has owed)
      ∙ free_at history task block none has was;
  registers = λ k d low.
      let register = slice_index_or (registers_outside (state_of history)) k d in
      let out : is_in_line history register.0 ≡ false = outside-absent (state_of history) at.project k d low in
      ap (λ good. not (is_unplugged history register.0) && names_among task (held_after_answer good (last_write history register.0 register.1) (may_hold history register.0 register.1)))
      (confirmed-outside history arrival register.0 register.1 at.all out)
      ∙ none.registers k d low;
}

-- a slave that is forgotten, none of whose areas is in the task

forgot_serves : (history : History) (station task : ℕ) (block : LineBlock) → list_any (λ (other : LineBlock). other.station == station) (task_blocks (state_of history) task) ≡ false → Contains (line_blocks (line_of history)) block
    → (block.station == station) ≡ true → serves_task (state_of history) task block ≡ false
forgot_serves history station task block spared has own =
    by_bool (serves_task (state_of history) task block)
    (λ t. let there = passes-in (serves_task (state_of history) task) (line_blocks (line_of history)) block has t in
    let found : list_any (λ (other : LineBlock). other.station == station) (task_blocks (state_of history) task) ≡ true =
    list_any_at (λ (other : LineBlock). other.station == station) (task_blocks (state_of history) task) there.0 block there.1 (ap (λ (other : LineBlock). other.station == station) there.2 ∙ own) in
    let never : true ≡ false = sym found ∙ spared in cc)
    (λ t. t)

forgot_free : (history : History) (station task : ℕ) → IsProjectAt history → WaitsForNothing history task → list_any (λ (other : LineBlock). other.station == station) (task_blocks (state_of history) task) ≡ false
    → WaitsForNothing (Forgot station ∷ history) task
forgot_free history station task at none spared = record {
  blocks = λ k d low owed.
      let block = slice_index_or (line_blocks (line_of history)) k d in
      let has = Contains-get_or (line_blocks (line_of history)) k d low in
      by_bool (is_owed history block)
      (λ t. free_at history task block none has t)
      (λ t. let own : (block.station == station) ≡ true = sym (or-no (block.station == station)) ∙ sym (ap (λ b. (block.station == station) || b) t) ∙ sym ((is-forgotten history station).owed block) ∙ owed in
      let serves = forgot_serves history station task block spared has own in
      ap (λ b. b || may_name task block.number (may_hold history block.station block.number)) serves
      ∙ by_bool (may_name task block.number (may_hold history block.station block.number))
      (λ names. let never : true ≡ false = sym (register-serves history task block at none has names) ∙ serves in cc)
      (λ free. free));
  registers = none.registers;
}

-- a slave that is cleared

cleared_name : (own : Bool) (task number : ℕ) (held : MayHold) → may_name task number held ≡ false → may_name task number (cond own cleared_register held) ≡ false
cleared_name true task number held free = and_right (is_fmmu number) false refl
cleared_name false task number held free = free

cleared_among : (own gone : Bool) (task : ℕ) (held : MayHold) → (not gone && names_among task held) ≡ false → (not gone && names_among task (cond own cleared_register held)) ≡ false
cleared_among true gone task held free = and_right (not gone) false refl
cleared_among false gone task held free = free

cleared_free : (history : History) (station task : ℕ) → WaitsForNothing history task → WaitsForNothing (Cleared station ∷ history) task
cleared_free history station task none = record {
  blocks = λ k d low owed.
      let block = slice_index_or (line_blocks (line_of history)) k d in
      let before = parts_of history task block (none.blocks k d low owed) in
      ap (λ b. b || may_name task block.number (cond (block.station == station) cleared_register (may_hold history block.station block.number))) before.0
      ∙ cleared_name (block.station == station) task block.number (may_hold history block.station block.number) before.1;
  registers = λ k d low.
      let register = slice_index_or (registers_outside (state_of history)) k d in
      cleared_among (register.0 == station) (is_unplugged history register.0) task (may_hold history register.0 register.1) (none.registers k d low);
}

unplugged_among : (own gone names : Bool) → (not gone && names) ≡ false → (not (own || gone) && names) ≡ false
unplugged_among true gone names free = refl
unplugged_among false gone names free = free

unplugged_free : (history : History) (station task : ℕ) → WaitsForNothing history task → WaitsForNothing (Unplugged station ∷ history) task
unplugged_free history station task none = record {
  blocks = none.blocks;
  registers = λ k d low.
      let register = slice_index_or (registers_outside (state_of history)) k d in
      unplugged_among (register.0 == station) (is_unplugged history register.0) (names_among task (may_hold history register.0 register.1)) (none.registers k d low);
}

-- one entry, and several

pub entry-free : (history : History) (entry : HistoryEntry) (task : ℕ) → IsProjectAt history → IsAccepted history entry → spares (state_of history) task entry ≡ true → WaitsForNothing history task → WaitsForNothing (entry ∷ history) task
entry-free history (Opened groups) task at accepted spared none = absurd accepted
entry-free history (Edited edit) task at accepted spared none = cc
entry-free history (Posted other bytes) task at accepted spared none = record { blocks = none.blocks; registers = none.registers }
entry-free history (Sent frame) task at accepted spared none = record { blocks = none.blocks; registers = none.registers }
entry-free history (Wrote blocks) task at accepted spared none = wrote_free history blocks task at none accepted
entry-free history (Came arrival) task at accepted spared none = came_free history arrival task at none
entry-free history (Forgot station) task at accepted spared none =
    forgot_free history station task at none (not-true (list_any (λ (other : LineBlock). other.station == station) (task_blocks (state_of history) task)) spared)
entry-free history (Cleared station) task at accepted spared none = cleared_free history station task none
entry-free history (Unplugged station) task at accepted spared none = unplugged_free history station task none

pub record StaysFree (since : List HistoryEntry) (history : History) (task : ℕ) : Type 0 where
  pub state : state_of (since ++ history) ≡ state_of history
  pub all : AreAccepted (since ++ history) → AreAccepted history
  pub free : AreAccepted (since ++ history) → WaitsForNothing (since ++ history) task

one_more : (history : History) (since : List HistoryEntry) (entry : HistoryEntry) (task : ℕ) → lowest_fault (groups_of (state_of history).groups) ≡ None → over_limit_task (line_of history) ≡ None
    → (AreAccepted (entry ∷ since ++ history) → IsAccepted (since ++ history) entry × AreAccepted (since ++ history)) → state_of (entry ∷ since ++ history) ≡ state_of (since ++ history)
    → spares (state_of history) task entry ≡ true → StaysFree since history task → StaysFree (entry ∷ since) history task
one_more history since entry task project uncrowded parts same spared before = record {
  state = same ∙ before.state;
  all = λ all. before.all (parts all).1;
  free = λ all.
      let both = parts all in
      let state = before.state in
      entry-free (since ++ history) entry task
      (record { all = both.1; project = subst (λ (s : State). lowest_fault (groups_of s.groups) ≡ None) (sym state) project; uncrowded = subst (λ (s : State). over_limit_task (line s) ≡ None) (sym state) uncrowded })
      both.0 (subst (λ (s : State). spares s task entry ≡ true) (sym state) spared) (before.free both.1);
}

pub all-free : (since : List HistoryEntry) (history : History) (task : ℕ) → lowest_fault (groups_of (state_of history).groups) ≡ None → over_limit_task (line_of history) ≡ None
    → list_all (spares (state_of history) task) since ≡ true → WaitsForNothing history task → StaysFree since history task
all-free [] history task project uncrowded spared none = record { state = refl; all = λ all. all; free = λ all. none }
all-free (Opened groups ∷ since) history task project uncrowded spared none = cc
all-free (Edited edit ∷ since) history task project uncrowded spared none = cc
all-free (Posted other bytes ∷ since) history task project uncrowded spared none =
    one_more history since (Posted other bytes) task project uncrowded (λ all. all) refl refl (all-free since history task project uncrowded spared none)
all-free (Sent frame ∷ since) history task project uncrowded spared none = one_more history since (Sent frame) task project uncrowded (λ all. all) refl refl (all-free since history task project uncrowded spared none)
all-free (Wrote blocks ∷ since) history task project uncrowded spared none = one_more history since (Wrote blocks) task project uncrowded (λ all. all) refl refl (all-free since history task project uncrowded spared none)
all-free (Came arrival ∷ since) history task project uncrowded spared none = one_more history since (Came arrival) task project uncrowded (λ all. all) refl refl (all-free since history task project uncrowded spared none)
all-free (Forgot station ∷ since) history task project uncrowded spared none =
    let parts = and_parts (spares (state_of history) task (Forgot station)) (list_all (spares (state_of history) task) since) spared in
    one_more history since (Forgot station) task project uncrowded (λ all. all) refl parts.0 (all-free since history task project uncrowded parts.1 none)
all-free (Cleared station ∷ since) history task project uncrowded spared none =
    one_more history since (Cleared station) task project uncrowded (λ all. all) refl refl (all-free since history task project uncrowded spared none)
all-free (Unplugged station ∷ since) history task project uncrowded spared none =
    one_more history since (Unplugged station) task project uncrowded (λ all. all) refl refl (all-free since history task project uncrowded spared none)

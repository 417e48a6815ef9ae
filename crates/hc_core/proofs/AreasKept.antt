-- The state of the areas stays right after each entry.
use Rattle.std.proofs.Common.{◌≡◌, ℕ, ◌==◌, Bool, true, false, cond, ◌&&◌, ◌||◌, List, [], ◌∷◌, map, refl, sym, ap, ◌∙◌, subst, Option, Some, None}
use Rattle.std.specs.Prelude.{All, is_some, option_map}
use Rattle.std.specs.Option.{option_map_or}
use Rattle.std.specs.List.{list_any, zip}
use Rattle.std.proofs.lemmas.Bool.{and_parts, eqb-true}
use Rattle.std.proofs.lemmas.List.Elements.{All-head, All-tail}
use Rattle.hc_records.specs.declared.edit.Edit.{Edit}
use Rattle.hc_records.specs.declared.records.Group.{Group}
use Rattle.hc_records.specs.Edits.{state_after}
use Rattle.hc_records.specs.Line.{State, groups_of, line, opened}
use Rattle.hc_records.specs.Project.{lowest_fault}
use Rattle.hc_records.proofs.lemmas.Choices.{by_bool}
use Rattle.hc_records.proofs.lemmas.Stations.{project-distinct}
use Rattle.hc_registers.specs.Blocks.{LineBlock, RegisterBlock}
use Rattle.hc_plan.specs.Configuration.{block_at}
use Rattle.hc_plan.specs.Reports.{found_name}
use Rattle.hc_plan.proofs.lemmas.Configured.{configured-block}
use Rattle.hc_events.specs.declared.answer.Outcome.{Outcome}
use Rattle.hc_events.specs.Arrivals.{Arrival}
use Rattle.hc_events.specs.Accepted.{AreAccepted, just_opened}
use Rattle.hc_events.specs.Answering.{judge, judged_by}
use Rattle.hc_events.specs.Entries.{HistoryEntry, History, Edited, Wrote, Came}
use Rattle.hc_events.specs.Heads.{Block, block_item, same_item}
use Rattle.hc_events.specs.Holding.{MayHold, held_after_answer, held_after_write, is_unplugged, may_hold}
use Rattle.hc_events.specs.Owed.{block_among, confirms, known_bytes, last_write}
use Rattle.hc_events.specs.Points.{state_of}
use Rattle.hc_events.specs.Ready.{names_among, names_task}
use Rattle.hc_events.specs.Steps.{outcome_for}
use Rattle.hc_events.proofs.lemmas.Confirmed.{confirmed-last}
use Rattle.hc_owed.specs.declared.area.JudgedArea.{JudgedArea}
use Rattle.hc_owed.specs.Readiness.{Holdings, none_unplugged, readiness_of, unknown_registers}
use Rattle.hc_owed.specs.ReadinessSteps.{held_over, held_with, unplugged_over, with_contents}
use Rattle.hc_owed.specs.RegisterState.{Knowledge, nothing_known}
use Rattle.hc_owed.specs.Laws.{known_over, same_name}
use Rattle.hc_owed.proofs.lemmas.Alike.{HoldAlike, readiness-alike}
use Rattle.hc_sendings.specs.declared.write_frames.PlacedBlock.{PlacedBlock}
use Rattle.hc_sendings.specs.declared.writes.AwaitedBlock.{AwaitedBlock}
use Rattle.hc_sendings.specs.Judging.{written_head}
use Rattle.hc_sendings.specs.WriteFrames.{block_of}
use Rattle.hc_core.specs.Chosen.{IsLineBlock, block_bytes_in, known_done, known_sent, write_is_done}
use Rattle.hc_core.specs.Held.{areas_of, held_done, held_if, held_only, held_sent}
use Rattle.hc_core.proofs.ChosenBlocks.{placed-inside}
use Rattle.hc_core.proofs.Known.{are_done, are_named, configured_bytes, confirms_done, known-edited, known-wrote, known-written, name_turned, own_bytes, written_bytes}

pub same-hold : (a b : MayHold) → a ≡ b → HoldAlike a b
same-hold a b same = record { unknown = ap (λ (held : MayHold). held.unknown) same; names = λ task. ap (names_among task) same }

-- the state of the areas is right for a record that says the same
pub areas-alike : (areas : List JudgedArea) (known : Knowledge) (held : Holdings) (unplugged : ℕ → Bool) (next : History) → areas ≡ readiness_of known held unplugged (state_of next)
    → ((station number : ℕ) → known station number ≡ known_bytes next station number) → ((station number : ℕ) → HoldAlike (held station number) (may_hold next station number))
    → ((station : ℕ) → unplugged station ≡ is_unplugged next station) → areas ≡ areas_of next
areas-alike areas known held unplugged next right same alike out = right ∙ readiness-alike known (known_bytes next) held (may_hold next) unplugged (is_unplugged next) (state_of next) same alike out

pub areas-opened : (groups : List Group) (areas : List JudgedArea) → areas ≡ readiness_of nothing_known unknown_registers none_unplugged (opened groups) → areas ≡ areas_of (just_opened groups)
areas-opened groups areas right =
    areas-alike areas nothing_known unknown_registers none_unplugged (just_opened groups) right (λ station number. refl) (λ station number. record { unknown = refl; names = λ task. refl }) (λ station. refl)

-- once blocks are sent their registers may hold their bytes too

-- the bytes that the line configures in a block name the task
abbrev configured_name : State → ℕ → ℕ → ℕ → Bool
configured_name state station number task = option_map_or (λ (found : RegisterBlock). names_task task found.bytes) (block_at (line state) station number) false

own_name : (state : State) (placed : PlacedBlock) (station number task : ℕ) → lowest_fault (groups_of state.groups) ≡ None → IsLineBlock state placed → same_name (found_name placed.block) (station, number) ≡ true
    → names_task task placed.block.block.bytes ≡ configured_name state station number task
own_name state placed station number task project at same =
    let both = and_parts (placed.block.station == station) (placed.block.number == number) same in
    let own : block_at (line state) placed.block.station placed.block.number ≡ Some placed.block.block =
    configured-block (line state) (line state) placed.block (project-distinct state.groups project) (placed-inside state placed.place placed.block project at) in
    let there : block_at (line state) station number ≡ Some placed.block.block =
    ap (λ s. block_at (line state) s number) (sym (eqb-true placed.block.station station both.0)) ∙ ap (block_at (line state) placed.block.station) (sym (eqb-true placed.block.number number both.1)) ∙ own in
    ap (λ (found : Option RegisterBlock). option_map_or (λ (one : RegisterBlock). names_task task one.bytes) found false) (sym there)

more_named : (same later own bytes held : Bool) → (same ≡ true → own ≡ bytes) → (cond later bytes false || cond same (own || held) held) ≡ (cond (same || later) bytes false || held)
more_named true true true bytes held is = ap (λ b. b || true) (sym (is refl)) ∙ ap (λ b. b || held) (is refl)
more_named true true false bytes held is = refl
more_named true false own bytes held is = ap (λ b. b || held) (is refl)
more_named false true own bytes held is = refl
more_named false false own bytes held is = refl

names_if : (same : Bool) (task : ℕ) (bytes : List ℕ) (held : MayHold) → names_among task (cond same (with_contents bytes held) held) ≡ cond same (names_task task bytes || names_among task held) (names_among task held)
names_if true task bytes held = refl
names_if false task bytes held = refl

unknown_if : (same : Bool) (bytes : List ℕ) (held : MayHold) → (let now : MayHold = cond same (with_contents bytes held) held in now.unknown) ≡ held.unknown
unknown_if true bytes held = refl
unknown_if false bytes held = refl

sent_names : (state : State) (placed : List PlacedBlock) (held : Holdings) (station number task : ℕ) → lowest_fault (groups_of state.groups) ≡ None → All (IsLineBlock state) placed
    → names_among task (held_sent placed held station number) ≡ (cond (are_named station number placed) (configured_name state station number task) false || names_among task (held station number))
sent_names state [] held station number task project at = refl
sent_names state (one ∷ placed) held station number task project at =
    let same = same_name (found_name one.block) (station, number) in
    let later = cond (are_named station number placed) (configured_name state station number task) false in
    sent_names state placed (held_with (found_name one.block) (with_contents one.block.block.bytes) held) station number task project (All-tail (IsLineBlock state) one placed at)
    ∙ ap (λ b. later || b) (names_if same task one.block.block.bytes (held station number))
    ∙ more_named same (are_named station number placed) (names_task task one.block.block.bytes) (configured_name state station number task) (names_among task (held station number))
    (own_name state one station number task project (All-head (IsLineBlock state) one placed at))

sent_unknown : (placed : List PlacedBlock) (held : Holdings) (station number : ℕ) → (held_sent placed held station number).unknown ≡ (held station number).unknown
sent_unknown [] held station number = refl
sent_unknown (one ∷ placed) held station number =
    sent_unknown placed (held_with (found_name one.block) (with_contents one.block.block.bytes) held) station number
    ∙ unknown_if (same_name (found_name one.block) (station, number)) one.block.block.bytes (held station number)

among_names : (state : State) (placed : List PlacedBlock) (station number task : ℕ) → lowest_fault (groups_of state.groups) ≡ None → All (IsLineBlock state) placed
    → option_map_or (λ (block : LineBlock). names_task task block.block.bytes) (block_among station number (map block_of placed)) false ≡ cond (are_named station number placed) (configured_name state station number task) false
among_names state [] station number task project at = refl
among_names state (one ∷ placed) station number task project at =
    let bytes = configured_name state station number task in
    let rest = among_names state placed station number task project (All-tail (IsLineBlock state) one placed at) in
    let turned = name_turned station one.block.station number one.block.number in
    by_bool (same_name (found_name one.block) (station, number))
    (λ t. first_named (same_item (Block station number) (block_item one.block)) (turned ∙ t) ∙ own_name state one station number task project (All-head (IsLineBlock state) one placed at) t
    ∙ sym (ap (λ b. cond (b || are_named station number placed) bytes false) t))
    (λ t. later_named (same_item (Block station number) (block_item one.block)) (turned ∙ t) ∙ rest ∙ sym (ap (λ b. cond (b || are_named station number placed) bytes false) t))
  where
    first_named : (same : Bool) → same ≡ true
        → option_map_or (λ (block : LineBlock). names_task task block.block.bytes) (cond same (Some one.block) (block_among station number (map block_of placed))) false ≡ names_task task one.block.block.bytes
    first_named true e = refl
    first_named false e = cc

    later_named : (same : Bool) → same ≡ false
        → option_map_or (λ (block : LineBlock). names_task task block.block.bytes) (cond same (Some one.block) (block_among station number (map block_of placed))) false
        ≡ option_map_or (λ (block : LineBlock). names_task task block.block.bytes) (block_among station number (map block_of placed)) false
    later_named true e = cc
    later_named false e = refl

written_names : (found : Option LineBlock) (held : MayHold) (task : ℕ)
    → names_among task (held_after_write found held) ≡ (option_map_or (λ (block : LineBlock). names_task task block.block.bytes) found false || names_among task held)
written_names None held task = refl
written_names (Some block) held task = refl

pub areas-wrote : (areas : List JudgedArea) (history : History) (placed : List PlacedBlock) → lowest_fault (groups_of (state_of history).groups) ≡ None → All (IsLineBlock (state_of history)) placed
    → areas ≡ readiness_of (known_sent placed (known_bytes history)) (held_sent placed (may_hold history)) (is_unplugged history) (state_of history) → areas ≡ areas_of (Wrote (map block_of placed) ∷ history)
areas-wrote areas history placed project at right =
    areas-alike areas (known_sent placed (known_bytes history)) (held_sent placed (may_hold history)) (is_unplugged history) (Wrote (map block_of placed) ∷ history) right
    (λ station number. sym (known-wrote history placed station number))
    (λ station number. record {
      unknown = sent_unknown placed (may_hold history) station number;
      names = λ task. sent_names (state_of history) placed (may_hold history) station number task project at
          ∙ ap (λ b. b || names_among task (may_hold history station number)) (sym (among_names (state_of history) placed station number task project at))
          ∙ sym (written_names (block_among station number (map block_of placed)) (may_hold history station number) task);
    })
    (λ station. refl)

-- once they are answered the register of each whose write is done holds the bytes that the line configures alone

only_once : (bytes : Option (List ℕ)) (held : MayHold) → held_only bytes (held_only bytes held) ≡ held_only bytes held
only_once None held = refl
only_once (Some bytes) held = refl

one_held : (done same later : Bool) (own bytes : Option (List ℕ)) (held : MayHold) → (same ≡ true → own ≡ bytes)
    → cond later (held_only bytes (cond done (cond same (held_only own held) held) held)) (cond done (cond same (held_only own held) held) held) ≡ cond ((same && done) || later) (held_only bytes held) held
one_held true true true own bytes held is = ap (λ (one : Option (List ℕ)). held_only bytes (held_only one held)) (is refl) ∙ only_once bytes held
one_held true true false own bytes held is = ap (λ (one : Option (List ℕ)). held_only one held) (is refl)
one_held true false true own bytes held is = refl
one_held true false false own bytes held is = refl
one_held false true true own bytes held is = refl
one_held false true false own bytes held is = refl
one_held false false true own bytes held is = refl
one_held false false false own bytes held is = refl

if_held : (state : State) (block : AwaitedBlock) (outcome : Outcome) (held : Holdings) (station number : ℕ)
    → held_if state block outcome held station number
    ≡ cond (write_is_done outcome) (cond (same_name (block.station, block.number) (station, number)) (held_only (block_bytes_in state block) (held station number)) (held station number)) (held station number)
if_held state block outcome held station number = by_bool (write_is_done outcome)
    (λ t. ap (λ b. cond b (held_with (block.station, block.number) (held_only (block_bytes_in state block)) held) held station number) t
    ∙ sym (ap (λ b. cond b (cond (same_name (block.station, block.number) (station, number)) (held_only (block_bytes_in state block) (held station number)) (held station number)) (held station number)) t))
    (λ t. ap (λ b. cond b (held_with (block.station, block.number) (held_only (block_bytes_in state block)) held) held station number) t
    ∙ sym (ap (λ b. cond b (cond (same_name (block.station, block.number) (station, number)) (held_only (block_bytes_in state block) (held station number)) (held station number)) (held station number)) t))

done_held : (state : State) (blocks : List AwaitedBlock) (outcomes : List Outcome) (held : Holdings) (station number : ℕ)
    → held_done state blocks outcomes held station number ≡ cond (are_done station number blocks outcomes) (held_only (configured_bytes state station number) (held station number)) (held station number)
done_held state [] outcomes held station number = refl
done_held state (block ∷ blocks) [] held station number = refl
done_held state (block ∷ blocks) (outcome ∷ outcomes) held station number =
    done_held state blocks outcomes (held_if state block outcome held) station number
    ∙ ap (λ (one : MayHold). cond (are_done station number blocks outcomes) (held_only (configured_bytes state station number) one) one) (if_held state block outcome held station number)
    ∙ one_held (write_is_done outcome) (same_name (block.station, block.number) (station, number)) (are_done station number blocks outcomes) (block_bytes_in state block) (configured_bytes state station number) (held station number)
    (own_bytes state block station number)

answered_alone : (write : Option (ℕ × List ℕ)) (bytes : Option (List ℕ)) (held : MayHold) → is_some write ≡ true → option_map (λ (one : ℕ × List ℕ). one.1) write ≡ bytes → held_after_answer true write held ≡ held_only bytes held
answered_alone None bytes held some is = cc
answered_alone (Some write) bytes held some is = ap (λ (one : Option (List ℕ)). held_only one held) is

answered_held : (history : History) (arrival : Arrival) (station number : ℕ) (confirmed : Bool) → list_any (confirms (Block station number)) (judged_by history arrival) ≡ confirmed → lowest_fault (groups_of (state_of history).groups) ≡ None → AreAccepted history
    → held_after_answer confirmed (last_write history station number) (may_hold history station number) ≡ cond confirmed (held_only (configured_bytes (state_of history) station number) (may_hold history station number)) (may_hold history station number)
answered_held history arrival station number false is project all = refl
answered_held history arrival station number true is project all =
    answered_alone (last_write history station number) (configured_bytes (state_of history) station number) (may_hold history station number)
    (ap (λ (found : Option (ℕ × List ℕ)). is_some found) (confirmed-last history arrival station number is).last)
    (written_bytes history arrival station number project all is)

pub areas-written : (areas : List JudgedArea) (history : History) (arrival : Arrival) (since : List HistoryEntry) (blocks : List AwaitedBlock) (outcomes : List Outcome) → lowest_fault (groups_of (state_of history).groups) ≡ None → AreAccepted history
    → judged_by history arrival ≡ map (judge since) (zip (map written_head blocks) arrival.parts) → outcomes ≡ map outcome_for (judged_by history arrival)
    → areas ≡ readiness_of (known_done (state_of history) blocks outcomes (known_bytes history)) (held_done (state_of history) blocks outcomes (may_hold history)) (is_unplugged history) (state_of history)
    → areas ≡ areas_of (Came arrival ∷ history)
areas-written areas history arrival since blocks outcomes project all judged_as answer_given right =
    areas-alike areas (known_done (state_of history) blocks outcomes (known_bytes history)) (held_done (state_of history) blocks outcomes (may_hold history)) (is_unplugged history) (Came arrival ∷ history) right
    (λ station number. sym (known-written history arrival since blocks outcomes project all judged_as answer_given station number))
    (λ station number.
    let same : list_any (confirms (Block station number)) (judged_by history arrival) ≡ are_done station number blocks outcomes =
    ap (list_any (confirms (Block station number))) judged_as ∙ confirms_done since station number blocks arrival.parts
    ∙ ap (λ datagrams. are_done station number blocks (map outcome_for datagrams)) (sym judged_as) ∙ ap (are_done station number blocks) (sym answer_given) in
    same-hold (held_done (state_of history) blocks outcomes (may_hold history) station number) (may_hold (Came arrival ∷ history) station number)
    (done_held (state_of history) blocks outcomes (may_hold history) station number
    ∙ ap (λ b. cond b (held_only (configured_bytes (state_of history) station number) (may_hold history station number)) (may_hold history station number)) (sym same)
    ∙ sym (answered_held history arrival station number (list_any (confirms (Block station number)) (judged_by history arrival)) refl project all)))
    (λ station. refl)

-- an edit

pub areas-edited : (areas : List JudgedArea) (history : History) (edit : Edit) (new : State) → state_after (state_of history) edit ≡ new
    → areas ≡ readiness_of (known_over (state_of history) (known_bytes history)) (held_over (state_of history) new (may_hold history)) (unplugged_over new (is_unplugged history)) new
    → areas ≡ areas_of (Edited edit ∷ history)
areas-edited areas history edit new after right =
    areas-alike areas (known_over (state_of history) (known_bytes history)) (held_over (state_of history) (state_of (Edited edit ∷ history)) (may_hold history)) (unplugged_over (state_of (Edited edit ∷ history)) (is_unplugged history))
    (Edited edit ∷ history)
    (subst (λ (state : State). areas ≡ readiness_of (known_over (state_of history) (known_bytes history)) (held_over (state_of history) state (may_hold history)) (unplugged_over state (is_unplugged history)) state) (sym after) right)
    (λ station number. sym (known-edited history edit station number))
    (λ station number. record { unknown = refl; names = λ task. refl })
    (λ station. refl)

-- The bytes that blocks are known to have, after each entry.
use Rattle.std.proofs.Common.{◌≡◌, ℕ, ◌==◌, Bool, true, false, cond, ◌&&◌, ◌||◌, List, [], ◌∷◌, map, refl, sym, ap, ◌∙◌, Option, Some, None, rules}
use Rattle.std.specs.Prelude.{is_some, option_and_then, option_map}
use Rattle.std.specs.Option.{option_or}
use Rattle.std.specs.List.{list_any, zip}
use Rattle.std.proofs.lemmas.Bool.{and_parts, eqb-true}
use Rattle.hc_records.specs.declared.edit.Edit.{Edit}
use Rattle.hc_records.specs.Line.{State, groups_of, line}
use Rattle.hc_records.specs.Project.{lowest_fault}
use Rattle.hc_records.proofs.lemmas.Choices.{by_bool, own-swap}
use Rattle.hc_records.proofs.lemmas.Stations.{project-distinct}
use Rattle.hc_registers.specs.Blocks.{LineBlock, RegisterBlock}
use Rattle.hc_plan.specs.Configuration.{block_at}
use Rattle.hc_plan.specs.Reports.{found_name}
use Rattle.hc_plan.proofs.lemmas.Configured.{configured-block}
use Rattle.hc_events.specs.declared.answer.Outcome.{Outcome}
use Rattle.hc_events.specs.Arrivals.{Arrival, Part}
use Rattle.hc_events.specs.Accepted.{AreAccepted}
use Rattle.hc_events.specs.Entries.{HistoryEntry, History, Edited, Wrote, Came, Forgot}
use Rattle.hc_events.specs.Points.{line_of, next_serial, state_of}
use Rattle.hc_events.specs.Heads.{Block, Head, Item, block_item, same_item}
use Rattle.hc_events.specs.Answering.{Verdict, has_good, is_good, judge, judged_by}
use Rattle.hc_events.specs.Owed.{block_among, confirms, if_confirmed, is_in_line, known_bytes, last_write, write_of}
use Rattle.hc_events.specs.Steps.{outcome_for, outcome_of}
use Rattle.hc_events.proofs.lemmas.Confirmed.{confirmed-last, known-came}
use Rattle.hc_events.proofs.lemmas.Live.{at_least, unconfirmed}
use Rattle.hc_owed.specs.RegisterState.{Knowledge, register_state_of}
use Rattle.hc_owed.specs.Laws.{known_over, known_with, known_without, same_name}
use Rattle.hc_sendings.specs.declared.write_frames.PlacedBlock.{PlacedBlock}
use Rattle.hc_sendings.specs.declared.writes.AwaitedBlock.{AwaitedBlock}
use Rattle.hc_sendings.specs.Judging.{written_head}
use Rattle.hc_sendings.specs.WriteFrames.{block_of}
use Rattle.hc_core.specs.Chosen.{block_bytes_in, write_is_done, known_done, known_if, known_sent}

-- the register state is the same by the same knowledge

pub unchanged-alike : (a b : Knowledge) (state : State) → ((station number : ℕ) → a station number ≡ b station number) → register_state_of a state ≡ register_state_of b state
unchanged-alike a b state same = search rules

pub name_turned : (a b c d : ℕ) → ((a == b) && (c == d)) ≡ ((b == a) && (d == c))
name_turned a b c d = ap (λ t. t && (c == d)) (own-swap a b) ∙ ap (λ t. (b == a) && t) (own-swap c d)

-- once blocks are sent nothing is known of any of them

abbrev pub are_named : ℕ → ℕ → List PlacedBlock → Bool
are_named station number placed = list_any (λ one. same_name (found_name one.block) (station, number)) placed

none_or : {X : Type 0} (a b : Bool) (found : Option X) → cond b None (cond a None found) ≡ cond (a || b) None found
none_or true true found = refl
none_or true false found = refl
none_or false b found = refl

sent_known : (placed : List PlacedBlock) (known : Knowledge) (station number : ℕ) → known_sent placed known station number ≡ cond (are_named station number placed) None (known station number)
sent_known [] known station number = refl
sent_known (one ∷ placed) known station number =
    sent_known placed (known_with (found_name one.block) None known) station number
    ∙ none_or (same_name (found_name one.block) (station, number)) (are_named station number placed) (known station number)

pub named_sends : (placed : List PlacedBlock) (station number : ℕ) → is_some (block_among station number (map block_of placed)) ≡ are_named station number placed
named_sends [] station number = refl
named_sends (one ∷ placed) station number =
    found_first (same_item (Block station number) (block_item one.block)) one.block (block_among station number (map block_of placed))
    ∙ ap (λ b. b || is_some (block_among station number (map block_of placed))) (name_turned station one.block.station number one.block.number)
    ∙ ap (λ b. same_name (found_name one.block) (station, number) || b) (named_sends placed station number)
  where
    found_first : (same : Bool) (block : LineBlock) (rest : Option LineBlock) → is_some (cond same (Some block) rest) ≡ (same || is_some rest)
    found_first true block rest = refl
    found_first false block rest = refl

known_found : (history : History) (item : Item) (found : Option LineBlock) (last : Option (ℕ × List ℕ))
    → option_and_then (if_confirmed history item) (option_or (option_map (write_of (next_serial history)) found) last) ≡ cond (is_some found) None (option_and_then (if_confirmed history item) last)
known_found history item None last = refl
known_found history item (Some block) last = ap (λ b. cond b (Some block.block.bytes) None) (unconfirmed history (next_serial history) item (at_least (next_serial history)))

pub known-wrote : (history : History) (placed : List PlacedBlock) (station number : ℕ) → known_bytes (Wrote (map block_of placed) ∷ history) station number ≡ known_sent placed (known_bytes history) station number
known-wrote history placed station number =
    known_found history (Block station number) (block_among station number (map block_of placed)) (last_write history station number)
    ∙ ap (λ b. cond b None (known_bytes history station number)) (named_sends placed station number)
    ∙ sym (sent_known placed (known_bytes history) station number)

-- once a frame of writes is answered the bytes that the line configures are known of each block whose write is done

abbrev pub are_done : ℕ → ℕ → List AwaitedBlock → List Outcome → Bool
are_done station number [] outcomes = false
are_done station number (block ∷ blocks) [] = false
are_done station number (block ∷ blocks) (outcome ∷ outcomes) = (same_name (block.station, block.number) (station, number) && write_is_done outcome) || are_done station number blocks outcomes

abbrev pub configured_bytes : State → ℕ → ℕ → Option (List ℕ)
configured_bytes state station number = option_map (λ (found : RegisterBlock). found.bytes) (block_at (line state) station number)

one_done : (done same later : Bool) (own bytes known : Option (List ℕ)) → (same ≡ true → own ≡ bytes) → cond later bytes (cond done (cond same own known) known) ≡ cond ((same && done) || later) bytes known
one_done true true true own bytes known is = refl
one_done true true false own bytes known is = is refl
one_done true false true own bytes known is = refl
one_done true false false own bytes known is = refl
one_done false true true own bytes known is = refl
one_done false true false own bytes known is = refl
one_done false false true own bytes known is = refl
one_done false false false own bytes known is = refl

if_known : (state : State) (block : AwaitedBlock) (outcome : Outcome) (known : Knowledge) (station number : ℕ)
    → known_if state block outcome known station number ≡ cond (write_is_done outcome) (cond (same_name (block.station, block.number) (station, number)) (block_bytes_in state block) (known station number)) (known station number)
if_known state block outcome known station number = by_bool (write_is_done outcome)
    (λ t. ap (λ b. cond b (known_with (block.station, block.number) (block_bytes_in state block) known) known station number) t
    ∙ sym (ap (λ b. cond b (cond (same_name (block.station, block.number) (station, number)) (block_bytes_in state block) (known station number)) (known station number)) t))
    (λ t. ap (λ b. cond b (known_with (block.station, block.number) (block_bytes_in state block) known) known station number) t
    ∙ sym (ap (λ b. cond b (cond (same_name (block.station, block.number) (station, number)) (block_bytes_in state block) (known station number)) (known station number)) t))

pub own_bytes : (state : State) (block : AwaitedBlock) (station number : ℕ) → same_name (block.station, block.number) (station, number) ≡ true → block_bytes_in state block ≡ configured_bytes state station number
own_bytes state block station number same =
    let both = and_parts (block.station == station) (block.number == number) same in
    ap (λ n. configured_bytes state n block.number) (eqb-true block.station station both.0) ∙ ap (configured_bytes state station) (eqb-true block.number number both.1)

done_known : (state : State) (blocks : List AwaitedBlock) (outcomes : List Outcome) (known : Knowledge) (station number : ℕ)
    → known_done state blocks outcomes known station number ≡ cond (are_done station number blocks outcomes) (configured_bytes state station number) (known station number)
done_known state [] outcomes known station number = refl
done_known state (block ∷ blocks) [] known station number = refl
done_known state (block ∷ blocks) (outcome ∷ outcomes) known station number =
    done_known state blocks outcomes (known_if state block outcome known) station number
    ∙ ap (cond (are_done station number blocks outcomes) (configured_bytes state station number)) (if_known state block outcome known station number)
    ∙ one_done (write_is_done outcome) (same_name (block.station, block.number) (station, number)) (are_done station number blocks outcomes) (block_bytes_in state block) (configured_bytes state station number) (known station number)
    (own_bytes state block station number)

good_done : (head : Head) (part : Part) (verdict : Verdict) (station number : ℕ) → head.item ≡ Block station number → write_is_done (outcome_of head part verdict) ≡ is_good verdict
good_done head part verdict station number is = search rules

pub confirms_done : (since : List HistoryEntry) (station number : ℕ) (blocks : List AwaitedBlock) (parts : List Part)
    → list_any (confirms (Block station number)) (map (judge since) (zip (map written_head blocks) parts)) ≡ are_done station number blocks (map outcome_for (map (judge since) (zip (map written_head blocks) parts)))
confirms_done since station number [] parts = refl
confirms_done since station number (block ∷ blocks) [] = refl
confirms_done since station number (block ∷ blocks) (part ∷ parts) =
    let one = judge since (written_head block, part) in
    let rest = map (judge since) (zip (map written_head blocks) parts) in
    ap (λ b. (b && has_good one) || list_any (confirms (Block station number)) rest) (name_turned station block.station number block.number)
    ∙ ap (λ b. (same_name (block.station, block.number) (station, number) && b) || list_any (confirms (Block station number)) rest)
    (sym (good_done (written_head block) part one.verdict block.station block.number refl))
    ∙ ap (λ b. (same_name (block.station, block.number) (station, number) && write_is_done (outcome_for one)) || b) (confirms_done since station number blocks parts)

pub written_bytes : (history : History) (arrival : Arrival) (station number : ℕ) → lowest_fault (groups_of (state_of history).groups) ≡ None → AreAccepted history → list_any (confirms (Block station number)) (judged_by history arrival) ≡ true
    → option_map (λ write. write.1) (last_write history station number) ≡ configured_bytes (state_of history) station number
written_bytes history arrival station number project all confirmed =
    let one = confirmed-last history arrival station number confirmed in
    let both = and_parts (station == one.block.station) (number == one.block.number) one.same in
    let own : block_at (line_of history) one.block.station one.block.number ≡ Some one.block.block =
    configured-block (line_of history) (line_of history) one.block (project-distinct (state_of history).groups project) (one.inside all) in
    let there : block_at (line_of history) station number ≡ Some one.block.block =
    ap (λ n. block_at (line_of history) n number) (eqb-true station one.block.station both.0) ∙ ap (block_at (line_of history) one.block.station) (eqb-true number one.block.number both.1) ∙ own in
    ap (option_map (λ write. write.1)) one.last ∙ sym (ap (option_map (λ (found : RegisterBlock). found.bytes)) there)

pub known-written : (history : History) (arrival : Arrival) (since : List HistoryEntry) (blocks : List AwaitedBlock) (outcomes : List Outcome) → lowest_fault (groups_of (state_of history).groups) ≡ None → AreAccepted history
    → judged_by history arrival ≡ map (judge since) (zip (map written_head blocks) arrival.parts) → outcomes ≡ map outcome_for (judged_by history arrival)
    → (station number : ℕ) → known_bytes (Came arrival ∷ history) station number ≡ known_done (state_of history) blocks outcomes (known_bytes history) station number
known-written history arrival since blocks outcomes project all judged_as answer_given station number =
    let item = Block station number in
    let confirmed = list_any (confirms item) (judged_by history arrival) in
    let same : confirmed ≡ are_done station number blocks outcomes =
    ap (list_any (confirms item)) judged_as ∙ confirms_done since station number blocks arrival.parts
    ∙ ap (λ datagrams. are_done station number blocks (map outcome_for datagrams)) (sym judged_as) ∙ ap (are_done station number blocks) (sym answer_given) in
    let bytes : cond confirmed (option_map (λ write. write.1) (last_write history station number)) (known_bytes history station number) ≡ cond confirmed (configured_bytes (state_of history) station number) (known_bytes history station number) =
    by_bool confirmed
    (λ t. ap (λ b. cond b (option_map (λ write. write.1) (last_write history station number)) (known_bytes history station number)) t ∙ written_bytes history arrival station number project all t
    ∙ sym (ap (λ b. cond b (configured_bytes (state_of history) station number) (known_bytes history station number)) t))
    (λ t. ap (λ b. cond b (option_map (λ write. write.1) (last_write history station number)) (known_bytes history station number)) t
    ∙ sym (ap (λ b. cond b (configured_bytes (state_of history) station number) (known_bytes history station number)) t)) in
    known-came history arrival station number ∙ bytes
    ∙ ap (λ b. cond b (configured_bytes (state_of history) station number) (known_bytes history station number)) same
    ∙ sym (done_known (state_of history) blocks outcomes (known_bytes history) station number)

-- after an edit the same is known of the slaves that were in the line

over_line : (history : History) (item : Item) (inside : Bool) (found : Option (ℕ × List ℕ)) → option_and_then (if_confirmed history item) (cond inside found None) ≡ cond inside (option_and_then (if_confirmed history item) found) None
over_line history item inside found = search rules

pub known-edited : (history : History) (edit : Edit) (station number : ℕ) → known_bytes (Edited edit ∷ history) station number ≡ known_over (state_of history) (known_bytes history) station number
known-edited history edit station number = over_line history (Block station number) (is_in_line history station) (last_write history station number)

-- after a slave that was forgotten nothing is known of its blocks

without_own : (history : History) (item : Item) (own : Bool) (found : Option (ℕ × List ℕ)) → option_and_then (if_confirmed history item) (cond own None found) ≡ cond own None (option_and_then (if_confirmed history item) found)
without_own history item own found = search rules

pub known-forgot : (history : History) (forgotten station number : ℕ) → known_bytes (Forgot forgotten ∷ history) station number ≡ known_without forgotten (known_bytes history) station number
known-forgot history forgotten station number = without_own history (Block station number) (station == forgotten) (last_write history station number)

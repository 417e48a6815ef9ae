-- What is said of a frame that is answered, outcome beside part, is what was sent and what came back of it.
use Rattle.std.proofs.Common.{◌≡◌, ◌≢◌, ℕ, zero, suc, ◌+◌, ◌<◌, ◌≤◌, ◌==◌, Bool, true, false, cond, ◌&&◌, ◌||◌, List, [], ◌∷◌, length, map, refl, sym, ap, ◌∙◌, subst, arith, Option, Some, None}
use Rattle.std.specs.Prelude.{All, slice_get}
use Rattle.std.specs.Option.{option_map_or}
use Rattle.std.specs.List.{list_any, range_with_len, zip}
use Rattle.std.proofs.lemmas.Bool.{and_parts, eqb-true}
use Rattle.std.proofs.lemmas.List.Elements.{All-head, All-tail}
use Rattle.std.proofs.lemmas.List.{length-map}
use Rattle.std.proofs.lemmas.List.FromFn.{get_or-map-range_with_len, length-map-range_with_len}
use Rattle.std.proofs.lemmas.Option.{slice_get-get_or}
use Rattle.hc_records.specs.declared.limits.TheConstants.{TASKS}
use Rattle.hc_records.specs.Edits.{over_limit_task}
use Rattle.hc_records.specs.Image.{datagram_count, task_places}
use Rattle.hc_records.specs.Line.{Member, State, groups_of, line}
use Rattle.hc_records.specs.Project.{lowest_fault}
use Rattle.hc_records.proofs.lemmas.Addresses.{uncrowded-few}
use Rattle.hc_records.proofs.lemmas.Choices.{by_bool}
use Rattle.hc_registers.specs.Blocks.{LineBlock}
use Rattle.hc_registers.specs.declared.counters.TheConstants.{WRITE_COUNT}
use Rattle.hc_frames.specs.Commands.{code_of}
use Rattle.hc_frames.specs.Arrived.{placed_from}
use Rattle.hc_places.specs.declared.table.Datagram.{Datagram}
use Rattle.hc_places.specs.Table.{datagram_in, datagram_of, table_of}
use Rattle.hc_events.specs.declared.answer.Answer.{Answer}
use Rattle.hc_events.specs.declared.answer.Answer.TheVariants as answer
use Rattle.hc_events.specs.declared.answer.Outcome.TheVariants as outcome
use Rattle.hc_events.specs.declared.answer.Outcome as core
use Rattle.hc_events.specs.Accepted.{IsReachable, IsInLine}
use Rattle.hc_events.specs.Answering.{Judged, Sending, Verdict, Good, Wrong, Stale, answered_by, has_head, has_heads, is_answer, is_current, judge, judged, judged_by, sending_of}
use Rattle.hc_events.specs.Arrivals as frame
use Rattle.hc_events.specs.Arrivals.{Part}
use Rattle.hc_events.specs.Entries.{HistoryEntry, History}
use Rattle.hc_events.specs.Heads.{Block, Datagram as DatagramItem, Head, Item, data_head, is_block, write_head, write_heads}
use Rattle.hc_events.specs.Names.{HasFewDatagrams, IsNamedByAddress, named_at, written_at}
use Rattle.hc_events.specs.Points.{line_of, state_of}
use Rattle.hc_events.specs.Sendings.{Named}
use Rattle.hc_events.specs.Steps.{inputs_of, judged_answer, judged_blocks_answer, outcome_for, outcome_of, write_answer, wrong_of}
use Rattle.hc_events.proofs.lemmas.Answers.{answers-first}
use Rattle.hc_events.proofs.lemmas.Names.{answered-named}
use Rattle.hc_events.proofs.lemmas.Once.{only-if_some}
use Rattle.hc_events.proofs.lemmas.TwoWrites.{wrote-at}
use Rattle.hc_sendings.proofs.lemmas.Listed.{standing-task}
use Rattle.hc_c.specs.Arrivals as given
use Rattle.hc_c.specs.Arrivals.{block_kind, kind_in, outcomes_from, register_place}
use Rattle.hc_c.specs.declared.arriving.Outcome.{Outcome}
use Rattle.hc_c.specs.Returned.{expected_in, kind_by, block_outcome_out, answered_blocks, part_outcome_out, parts_out}

-- the row of a datagram in the table of its line

blank : Datagram
blank = record { address = 0; length = 0; expected = 0; offset = 0 }

row_of : (line : List Member) (task d : ℕ) → d < datagram_count (task_places task line)
    → slice_get (map (datagram_of line task) (range_with_len 0 (datagram_count (task_places task line)))) d ≡ Some (datagram_of line task d)
row_of line task d is_placed =
    let count = length-map-range_with_len (datagram_of line task) 0 (datagram_count (task_places task line)) in
    slice_get-get_or (map (datagram_of line task) (range_with_len 0 (datagram_count (task_places task line)))) d blank (omega (arith, count, is_placed))
    ∙ ap (λ (row : Datagram). Some row) (get_or-map-range_with_len (datagram_of line task) 0 (datagram_count (task_places task line)) d d blank is_placed (omega arith))

pub row_at : (line : List Member) (task d : ℕ) → task < TASKS → d < datagram_count (task_places task line) → datagram_in (table_of line) task d ≡ Some (datagram_of line task d)
row_at line zero d low is_placed = row_of line 0 d is_placed
row_at line (suc zero) d low is_placed = row_of line 1 d is_placed
row_at line (suc (suc zero)) d low is_placed = row_of line 2 d is_placed
row_at line (suc (suc (suc zero))) d low is_placed = row_of line 3 d is_placed
row_at line (suc (suc (suc (suc zero)))) d low is_placed = row_of line 4 d is_placed
row_at line (suc (suc (suc (suc (suc zero))))) d low is_placed = row_of line 5 d is_placed
row_at line (suc (suc (suc (suc (suc (suc zero)))))) d low is_placed = row_of line 6 d is_placed
row_at line (suc (suc (suc (suc (suc (suc (suc zero))))))) d low is_placed = row_of line 7 d is_placed
row_at line (suc (suc (suc (suc (suc (suc (suc (suc task)))))))) d low is_placed = absurd (omega arith)

-- what a project's line has is within a core's bounds
pub few-datagrams : (state : State) → lowest_fault (groups_of state.groups) ≡ None → over_limit_task (line state) ≡ None → HasFewDatagrams (line state)
few-datagrams state project uncrowded named is_placed =
    let task = standing-task state named.0 named.1 project is_placed in
    let few = uncrowded-few (line state) named.0 uncrowded task in
    omega (arith, few, is_placed)

-- one datagram

same_kind : (members : List Member) (named : Named) (head : Head) (part : Part) (verdict : Verdict) → head ≡ data_head members named → kind_by (outcome_of head part verdict) ≡ kind_in head.item verdict
same_kind members named head part Good is = ap (λ (one : Head). kind_by (outcome_of one part Good)) is ∙ sym (ap (λ (one : Head). kind_in one.item Good) is)
same_kind members named head part Wrong is = ap (λ (one : Head). kind_by (outcome_of one part Wrong)) is ∙ sym (ap (λ (one : Head). kind_in one.item Wrong) is)
same_kind members named head part Stale is = sym (ap (λ (one : Head). kind_in one.item Stale) is)

same_expected : (state : State) (named : Named) → lowest_fault (groups_of state.groups) ≡ None → IsInLine (line state) named
    → expected_in (table_of (line state)) named ≡ (data_head (line state) named).expected
same_expected state named project is_placed =
    let task = standing-task state named.0 named.1 project is_placed in
    ap (λ (found : Option Datagram). option_map_or (λ (datagram : Datagram). datagram.expected) found 0) (row_at (line state) named.0 named.1 task is_placed)

abbrev built : ℕ → Named → ℕ → ℕ → ℕ → ℕ → ℕ × ℕ → Outcome
built kind named expected got at size place =
    record { kind = kind; task = named.0; datagram = named.1; reserved = 0; expected = expected; got = got; at = at; length = size; station = place.0; start = place.1 }

part_answered : (state : State) (start at : ℕ) (datagram : Judged) → lowest_fault (groups_of state.groups) ≡ None → IsNamedByAddress (line state) datagram → at ≡ start + 10
    → part_outcome_out (table_of (line state)) (outcome_for datagram) (record { start = start; carried = datagram.part }) ≡ given.datagram_outcome_out at datagram
part_answered state start at datagram project is from =
    let table = table_of (line state) in
    let named = named_at datagram.part.address in
    let got = datagram.part.counter in
    let size = length datagram.part.bytes in
    let kind = kind_in datagram.head.item datagram.verdict in
    let item : given.item_name datagram.head.item ≡ is.named = ap (λ (head : Head). given.item_name head.item) is.head in
    let place : register_place datagram.head.item datagram.head.address ≡ (0, 0) = ap (λ (head : Head). register_place head.item head.address) is.head in
    let expected : expected_in table named ≡ datagram.head.expected =
    ap (expected_in table) is.names ∙ same_expected state is.named project is.in_line ∙ sym (ap (λ (head : Head). head.expected) is.head) in
    ap (λ (one : ℕ). built one named (expected_in table named) got (start + 10) size (0, 0)) (same_kind (line state) is.named datagram.head datagram.part datagram.verdict is.head)
    ∙ ap (λ (one : ℕ). built kind named one got (start + 10) size (0, 0)) expected
    ∙ ap (λ (one : Named). built kind one datagram.head.expected got (start + 10) size (0, 0)) (is.names ∙ sym item)
    ∙ ap (λ (one : ℕ). built kind (given.item_name datagram.head.item) datagram.head.expected got one size (0, 0)) (sym from)
    ∙ ap (λ (one : ℕ × ℕ). built kind (given.item_name datagram.head.item) datagram.head.expected got at size one) (sym place)

-- all of them, one after another

next_at : (start at size : ℕ) → at ≡ start + 10 → at + (12 + size) ≡ start + (12 + size) + 10
next_at start at size is = omega (arith, is)

parts_answered : (state : State) (start at : ℕ) (datagrams : List Judged) → lowest_fault (groups_of state.groups) ≡ None → All (IsNamedByAddress (line state)) datagrams → at ≡ start + 10
    → parts_out (table_of (line state)) (map outcome_for datagrams) (placed_from start (map (λ (one : Judged). one.part) datagrams)) ≡ outcomes_from at datagrams
parts_answered state start at [] project all from = refl
parts_answered state start at (datagram ∷ datagrams) project all from =
    ap (λ (one : Outcome). one ∷ parts_out (table_of (line state)) (map outcome_for datagrams) (placed_from (start + (12 + length datagram.part.bytes)) (map (λ (one : Judged). one.part) datagrams)))
    (part_answered state start at datagram project (All-head (IsNamedByAddress (line state)) datagram datagrams all) from)
    ∙ ap (λ (rest : List Outcome). given.datagram_outcome_out at datagram ∷ rest)
    (parts_answered state (start + (12 + length datagram.part.bytes)) (at + (12 + length datagram.part.bytes)) datagrams project (All-tail (IsNamedByAddress (line state)) datagram datagrams all)
    (next_at start at (length datagram.part.bytes) from))

parts_back : (since : List HistoryEntry) (heads : List Head) (parts : List Part) → has_heads heads parts ≡ true → map (λ (one : Judged). one.part) (map (judge since) (zip heads parts)) ≡ parts
parts_back since [] [] fit = refl
parts_back since [] (part ∷ parts) fit = cc
parts_back since (head ∷ heads) [] fit = cc
parts_back since (head ∷ heads) (part ∷ parts) fit = ap (λ (rest : List Part). part ∷ rest) (parts_back since heads parts (and_parts (has_head head part) _ fit).1)

answered_parts : (history : History) (arrival : frame.Arrival) (outcomes : List core.Outcome) (found : Option Sending) → answered_by history arrival ≡ found
    → judged_answer (option_map_or (judged arrival) found []) ≡ answer.Answered outcomes → map (λ (one : Judged). one.part) (option_map_or (judged arrival) found []) ≡ arrival.parts
answered_parts history arrival outcomes None is e = cc
answered_parts history arrival outcomes (Some sending) is e = parts_back sending.since sending.heads arrival.parts ((answers-first history arrival sending).0 is).fits

-- the answer lists the datagrams

same_list : (one other : List core.Outcome) → answer.Answered one ≡ answer.Answered other → one ≡ other
same_list one other e = cc

list_by : (datagrams : List Judged) (outcomes : List core.Outcome) (block updates : Bool) (blocks : Answer) → block ≡ false
    → cond block blocks (cond updates (answer.Answered (map outcome_for datagrams)) answer.Stale) ≡ answer.Answered outcomes → outcomes ≡ map outcome_for datagrams
list_by datagrams outcomes true updates blocks plain e = cc
list_by datagrams outcomes false true blocks plain e = sym (same_list (map outcome_for datagrams) outcomes e)
list_by datagrams outcomes false false blocks plain e = cc

list_is : (members : List Member) (datagrams : List Judged) (outcomes : List core.Outcome) → All (IsNamedByAddress members) datagrams → judged_answer datagrams ≡ answer.Answered outcomes → outcomes ≡ map outcome_for datagrams
list_is members [] outcomes all e = cc
list_is members (datagram ∷ datagrams) outcomes all e =
    let first = All-head (IsNamedByAddress members) datagram datagrams all in
    list_by (datagram ∷ datagrams) outcomes (is_block datagram.head.item) (list_any is_current (datagram ∷ datagrams)) (judged_blocks_answer (datagram ∷ datagrams)) (ap (λ (head : Head). is_block head.item) first.head) e

-- so of a frame of tasks each outcome is reported as it is
pub outcomes-reported : (history : History) (state : State) (arrival : frame.Arrival) (outcomes : List core.Outcome) → IsReachable history → state ≡ state_of history → lowest_fault (groups_of state.groups) ≡ None → over_limit_task (line state) ≡ None
    → judged_answer (judged_by history arrival) ≡ answer.Answered outcomes
    → parts_out (table_of (line state)) outcomes (placed_from 16 arrival.parts) ≡ outcomes_from 26 (judged_by history arrival)
outcomes-reported history state arrival outcomes reachable is project uncrowded e =
    let few = subst (λ (one : State). HasFewDatagrams (line one)) is (few-datagrams state project uncrowded) in
    let all = answered-named history arrival outcomes reachable.accepted few e in
    let same = subst (λ (one : State). All (IsNamedByAddress (line one)) (judged_by history arrival)) (sym is) all in
    ap (λ (list : List core.Outcome). parts_out (table_of (line state)) list (placed_from 16 arrival.parts)) (list_is (line_of history) (judged_by history arrival) outcomes all e)
    ∙ ap (λ (parts : List Part). parts_out (table_of (line state)) (map outcome_for (judged_by history arrival)) (placed_from 16 parts)) (sym (answered_parts history arrival outcomes (answered_by history arrival) refl e))
    ∙ parts_answered state 16 26 (judged_by history arrival) project same refl

-- so is each block of a frame of several register writes

block_kind_by : (block : LineBlock) (part : Part) (verdict : Verdict) → kind_by (outcome_of (write_head block) part verdict) ≡ block_kind verdict
block_kind_by block part Good = refl
block_kind_by block part Wrong = refl
block_kind_by block part Stale = refl

same_address : (head : Head) (part : Part) → has_head head part ≡ true → head.address ≡ part.address
same_address head part fit =
    let same = and_parts ((code_of head.command == code_of part.command) && (head.address == part.address)) (head.length == length part.bytes) fit in
    eqb-true head.address part.address (and_parts (code_of head.command == code_of part.command) (head.address == part.address) same.0).1

block_answered : (since : List HistoryEntry) (block : LineBlock) (part : Part) (start at : ℕ) → has_head (write_head block) part ≡ true → at ≡ start + 10
    → block_outcome_out (outcome_for (judge since (write_head block, part))) (record { start = start; carried = part }) ≡ given.datagram_outcome_out at (judge since (write_head block, part))
block_answered since block part start at fit from =
    let datagram = judge since (write_head block, part) in
    let got = part.counter in
    let size = length part.bytes in
    let kind = block_kind datagram.verdict in
    ap (λ (one : ℕ). built one (0, 0) WRITE_COUNT got (start + 10) size (written_at part.address)) (block_kind_by block part datagram.verdict)
    ∙ ap (λ (one : ℕ). built kind (0, 0) WRITE_COUNT got one size (written_at part.address)) (sym from)
    ∙ ap (λ (one : ℕ). built kind (0, 0) WRITE_COUNT got at size (written_at one)) (sym (same_address (write_head block) part fit))

blocks_answered : (since : List HistoryEntry) (blocks : List LineBlock) (parts : List Part) (start at : ℕ) → has_heads (write_heads blocks) parts ≡ true → at ≡ start + 10
    → answered_blocks (map outcome_for (map (judge since) (zip (write_heads blocks) parts))) (placed_from start parts) ≡ outcomes_from at (map (judge since) (zip (write_heads blocks) parts))
blocks_answered since [] parts start at fit from = refl
blocks_answered since (block ∷ blocks) [] start at fit from = cc
blocks_answered since (block ∷ blocks) (part ∷ parts) start at fit from =
    let both = and_parts (has_head (write_head block) part) (has_heads (write_heads blocks) parts) fit in
    let rest = map (judge since) (zip (write_heads blocks) parts) in
    ap (λ (one : Outcome). one ∷ answered_blocks (map outcome_for rest) (placed_from (start + (12 + length part.bytes)) parts)) (block_answered since block part start at both.0 from)
    ∙ ap (λ (all : List Outcome). given.datagram_outcome_out at (judge since (write_head block, part)) ∷ all)
    (blocks_answered since blocks parts (start + (12 + length part.bytes)) (at + (12 + length part.bytes)) both.1 (next_at start at (length part.bytes) from))

-- the answer lists the blocks, or names the single one; the first one is a block

-- an answer to a frame of register writes
abbrev pub is_of_blocks : Answer → Bool
is_of_blocks answer.WriteDone = true
is_of_blocks answer.WriteMissed = true
is_of_blocks (answer.Written outcomes) = true
is_of_blocks _ = false

-- what it says of each block
abbrev pub said_of_blocks : Answer → List core.Outcome
said_of_blocks answer.WriteDone = outcome.Done ∷ []
said_of_blocks answer.WriteMissed = outcome.Missed ∷ []
said_of_blocks (answer.Written outcomes) = outcomes
said_of_blocks _ = []

single_said : (item : Item) (head : Head) (part : Part) (verdict : Verdict) → head.item ≡ item → is_block item ≡ true → is_of_blocks (write_answer verdict) ≡ true
    → said_of_blocks (write_answer verdict) ≡ outcome_of head part verdict ∷ []
single_said (DatagramItem task d) head part verdict is block of_blocks = cc
single_said (Block station number) head part Good is block of_blocks = sym (ap (λ (one : Item). inputs_of one ∷ []) is)
single_said (Block station number) head part Wrong is block of_blocks = sym (ap (λ (one : Item). wrong_of one head.expected part.counter ∷ []) is)
single_said item head part Stale is block of_blocks = cc

written_if : (updates : Bool) (all : List core.Outcome) → is_of_blocks (cond updates (answer.Written all) answer.Stale) ≡ true → said_of_blocks (cond updates (answer.Written all) answer.Stale) ≡ all
written_if true all e = refl
written_if false all e = cc

blocks_said : (datagram : Judged) (datagrams : List Judged) → is_block datagram.head.item ≡ true → is_of_blocks (judged_blocks_answer (datagram ∷ datagrams)) ≡ true
    → said_of_blocks (judged_blocks_answer (datagram ∷ datagrams)) ≡ map outcome_for (datagram ∷ datagrams)
blocks_said datagram [] block e = single_said datagram.head.item datagram.head datagram.part datagram.verdict refl block e
blocks_said datagram (next ∷ datagrams) block e = written_if (list_any is_current (datagram ∷ next ∷ datagrams)) (map outcome_for (datagram ∷ next ∷ datagrams)) e

data_unwritten : (updates : Bool) (all : List core.Outcome) → is_of_blocks (cond updates (answer.Answered all) answer.Stale) ≢ true
data_unwritten true all e = cc
data_unwritten false all e = cc

first_block : (datagram : Judged) (datagrams : List Judged) → is_of_blocks (judged_answer (datagram ∷ datagrams)) ≡ true
    → (is_block datagram.head.item ≡ true) × (said_of_blocks (judged_answer (datagram ∷ datagrams)) ≡ map outcome_for (datagram ∷ datagrams))
first_block datagram datagrams e =
    let tasks = cond (list_any is_current (datagram ∷ datagrams)) (answer.Answered (map outcome_for (datagram ∷ datagrams))) answer.Stale in
    by_bool (is_block datagram.head.item)
    (λ t.
    let same = ap (λ b. cond b (judged_blocks_answer (datagram ∷ datagrams)) tasks) t in
    (t, ap said_of_blocks same ∙ blocks_said datagram datagrams t (sym (ap is_of_blocks same) ∙ e)))
    (λ t. absurd (data_unwritten (list_any is_current (datagram ∷ datagrams)) (map outcome_for (datagram ∷ datagrams)) (sym (ap (λ b. is_of_blocks (cond b (judged_blocks_answer (datagram ∷ datagrams)) tasks)) t) ∙ e)))

answered_write : (since : List HistoryEntry) (heads : List Head) (parts : List Part) → is_of_blocks (judged_answer (map (judge since) (zip heads parts))) ≡ true
    → (list_any (λ (head : Head). is_block head.item) heads ≡ true) × (said_of_blocks (judged_answer (map (judge since) (zip heads parts))) ≡ map outcome_for (map (judge since) (zip heads parts)))
answered_write since [] parts e = cc
answered_write since (head ∷ heads) [] e = cc
answered_write since (head ∷ heads) (part ∷ parts) e =
    let one = first_block (judge since (head, part)) (map (judge since) (zip heads parts)) e in
    (ap (λ b. b || list_any (λ (other : Head). is_block other.item) heads) one.0, one.1)

blocks_by : (history : History) (arrival : frame.Arrival) (found : Option Sending) → answered_by history arrival ≡ found
    → is_of_blocks (judged_answer (option_map_or (judged arrival) found [])) ≡ true
    → answered_blocks (said_of_blocks (judged_answer (option_map_or (judged arrival) found []))) (placed_from 16 arrival.parts) ≡ outcomes_from 26 (option_map_or (judged arrival) found [])
blocks_by history arrival None is e = cc
blocks_by history arrival (Some sending) is e =
    let write = answered_write sending.since sending.heads arrival.parts e in
    let there = (only-if_some (sending_of history arrival.serial) (is_answer arrival) sending is).0 in
    let made = wrote-at history arrival.serial sending there write.0 in
    let fit : has_heads (write_heads made.blocks) arrival.parts ≡ true =
    sym (ap (λ (heads : List Head). has_heads heads arrival.parts) made.heads) ∙ ((answers-first history arrival sending).0 is).fits in
    ap (λ (list : List core.Outcome). answered_blocks list (placed_from 16 arrival.parts)) write.1
    ∙ ap (λ (heads : List Head). answered_blocks (map outcome_for (map (judge sending.since) (zip heads arrival.parts))) (placed_from 16 arrival.parts)) made.heads
    ∙ blocks_answered sending.since made.blocks arrival.parts 16 26 fit refl
    ∙ sym (ap (λ (heads : List Head). outcomes_from 26 (map (judge sending.since) (zip heads arrival.parts))) made.heads)

-- an answer to register writes has an outcome of each block, in order
pub blocks-reported : (history : History) (arrival : frame.Arrival) (given : Answer) → judged_answer (judged_by history arrival) ≡ given → is_of_blocks given ≡ true
    → answered_blocks (said_of_blocks given) (placed_from 16 arrival.parts) ≡ outcomes_from 26 (judged_by history arrival)
blocks-reported history arrival given is of_blocks =
    ap (λ (one : Answer). answered_blocks (said_of_blocks one) (placed_from 16 arrival.parts)) (sym is)
    ∙ blocks_by history arrival (answered_by history arrival) refl (ap is_of_blocks is ∙ of_blocks)

-- and it has as many as datagrams were judged

said_by : (arrival : frame.Arrival) (found : Option Sending) → is_of_blocks (judged_answer (option_map_or (judged arrival) found [])) ≡ true
    → said_of_blocks (judged_answer (option_map_or (judged arrival) found [])) ≡ map outcome_for (option_map_or (judged arrival) found [])
said_by arrival None e = cc
said_by arrival (Some sending) e = (answered_write sending.since sending.heads arrival.parts e).1

pub blocks-counted : (history : History) (arrival : frame.Arrival) (given : Answer) → judged_answer (judged_by history arrival) ≡ given → is_of_blocks given ≡ true
    → length (said_of_blocks given) ≡ length (judged_by history arrival)
blocks-counted history arrival given is of_blocks =
    ap (λ (one : Answer). length (said_of_blocks one)) (sym is)
    ∙ ap length (said_by arrival (answered_by history arrival) (ap is_of_blocks is ∙ of_blocks)) ∙ length-map (judged_by history arrival) outcome_for

-- so has an answer to frames of tasks

listed_if : (datagrams : List Judged) (outcomes : List core.Outcome) (updates : Bool) → cond updates (answer.Answered (map outcome_for datagrams)) answer.Stale ≡ answer.Answered outcomes → outcomes ≡ map outcome_for datagrams
listed_if datagrams outcomes true e = sym (same_list (map outcome_for datagrams) outcomes e)
listed_if datagrams outcomes false e = cc

blocks_other : (datagram : Judged) (datagrams : List Judged) (outcomes : List core.Outcome) → judged_blocks_answer (datagram ∷ datagrams) ≢ answer.Answered outcomes
blocks_other datagram [] outcomes e = verdict_other datagram.verdict e
  where
    verdict_other : (verdict : Verdict) → write_answer verdict ≡ answer.Answered outcomes → ⊥
    verdict_other Good is = cc
    verdict_other Wrong is = cc
    verdict_other Stale is = cc
blocks_other datagram (next ∷ datagrams) outcomes e = updates_other (list_any is_current (datagram ∷ next ∷ datagrams)) e
  where
    updates_other : (updates : Bool) → cond updates (answer.Written (map outcome_for (datagram ∷ next ∷ datagrams))) answer.Stale ≡ answer.Answered outcomes → ⊥
    updates_other true is = cc
    updates_other false is = cc

listed : (datagrams : List Judged) (outcomes : List core.Outcome) → judged_answer datagrams ≡ answer.Answered outcomes → outcomes ≡ map outcome_for datagrams
listed [] outcomes e = cc
listed (datagram ∷ datagrams) outcomes e =
    let tasks = cond (list_any is_current (datagram ∷ datagrams)) (answer.Answered (map outcome_for (datagram ∷ datagrams))) answer.Stale in
    by_bool (is_block datagram.head.item)
    (λ t. absurd (blocks_other datagram datagrams outcomes (sym (ap (λ b. cond b (judged_blocks_answer (datagram ∷ datagrams)) tasks) t) ∙ e)))
    (λ t. listed_if (datagram ∷ datagrams) outcomes (list_any is_current (datagram ∷ datagrams)) (sym (ap (λ b. cond b (judged_blocks_answer (datagram ∷ datagrams)) tasks) t) ∙ e))

pub tasks-counted : (history : History) (arrival : frame.Arrival) (outcomes : List core.Outcome) → judged_answer (judged_by history arrival) ≡ answer.Answered outcomes → length outcomes ≡ length (judged_by history arrival)
tasks-counted history arrival outcomes e = ap length (listed (judged_by history arrival) outcomes e) ∙ length-map (judged_by history arrival) outcome_for

-- no more datagrams are judged than came

judged_few : (since : List HistoryEntry) (heads : List Head) (parts : List Part) → length (map (judge since) (zip heads parts)) ≤ length parts
judged_few since [] parts = omega arith
judged_few since (head ∷ heads) [] = omega arith
judged_few since (head ∷ heads) (part ∷ parts) = let rest = judged_few since heads parts in omega (arith, rest)

found_few : (arrival : frame.Arrival) (found : Option Sending) → length (option_map_or (judged arrival) found []) ≤ length arrival.parts
found_few arrival None = omega arith
found_few arrival (Some sending) = judged_few sending.since sending.heads arrival.parts

pub judged-few : (history : History) (arrival : frame.Arrival) → length (judged_by history arrival) ≤ length arrival.parts
judged-few history arrival = found_few arrival (answered_by history arrival)

-- A frame of tasks or a register write that comes back from the line answers its sending, and what is read of it is what came back.
use Rattle.std.proofs.Common.{◌≡◌, ℕ, ◌<◌, ◌==◌, Bool, true, false, cond, not, ◌&&◌, List, [], ◌∷◌, ◌++◌, length, map, refl, ap, ◌∙◌, arith}
use Rattle.std.specs.Prelude.{All, Ok}
use Rattle.std.specs.Option.{option_map_or}
use Rattle.std.specs.List.{flat_map, list_any, zip}
use Rattle.std.proofs.lemmas.Bool.Decides.{nat_tests}
use Rattle.hc_records.specs.Line.{Member}
use Rattle.hc_records.specs.Image.{expected_counter, logical_address}
use Rattle.hc_registers.specs.Blocks.{LineBlock}
use Rattle.hc_frames.specs.declared.commands.Command.TheVariants.{Fpwr, Lrw}
use Rattle.hc_frames.specs.Arrived.{reading_of}
use Rattle.hc_frames.specs.Commands.{code_of}
use Rattle.hc_frames.specs.FrameText.{Datagram, station_address}
use Rattle.hc_frames.specs.Laws.{CanBeCarried}
use Rattle.hc_frames.specs.Returned.{AllComeBack, ComesBack, IsReturned}
use Rattle.hc_frames.proofs.lemmas.Returns.{returned-read}
use Rattle.hc_events.specs.Arrivals.{Arrival, Part, arrival_in, read_unless}
use Rattle.hc_events.specs.Entries.{HistoryEntry, History, Opened, Edited, Posted, Sent, Wrote, Came, Forgot, Cleared, Unplugged}
use Rattle.hc_events.specs.Points.{line_of, next_serial}
use Rattle.hc_events.specs.Sendings.{Named, line_data_length}
use Rattle.hc_events.specs.Heads.{data_head, data_heads, item_of, write_head, write_heads}
use Rattle.hc_events.specs.Answering.{Good, Stale, Wrong, has_head, has_heads, is_answer, is_good, judge, judged, sending_of, sends}
use Rattle.hc_events.specs.Images.{NewAnswer, new_answer}
use Rattle.hc_events.specs.Steps.{sent_datagram, judged_answer, arrival_answer}
use Rattle.hc_events.specs.SendingLaws.{heads_of, is_sending}
use Rattle.hc_events.specs.AnswerLaws.{LeavesAwaited, ReturnsWell, good_part, good_parts, sent_datagrams}
use Rattle.hc_events.specs.WriteFrames.{block_datagram}
use Rattle.hc_events.proofs.lemmas.SentBits.{sent-data}
use Rattle.hc_events.proofs.lemmas.Answers.{answer-is, chosen, none-ends, none-opened}
use Rattle.hc_events.proofs.lemmas.Placing.{found-under, sent_at}

-- the frame fits

all_same : (a b c d e f : ℕ) → b ≡ a → d ≡ c → f ≡ e → ((a == b) && (c == d) && (e == f)) ≡ true
all_same a b c d e f x y z = grind (arith, nat_tests)

head_back : (history : History) (named : Named) (part : Part) → ComesBack (sent_datagram history named) part → has_head (data_head (line_of history) named) part ≡ true
head_back history named part back =
    all_same (code_of Lrw) (code_of part.command) (logical_address named.0 named.1) part.address (line_data_length (line_of history) named) (length part.bytes)
    (ap code_of back.command) back.address (back.size ∙ (sent-data history named.0 named.1).size)

heads_back : (history : History) (frame : List Named) (parts : List Part) → AllComeBack (map (sent_datagram history) frame) parts → has_heads (data_heads (line_of history) frame) parts ≡ true
heads_back history [] [] back = refl
heads_back history [] (part ∷ parts) back = absurd back
heads_back history (named ∷ frame) [] back = absurd back
heads_back history (named ∷ frame) (part ∷ parts) back =
    ap (λ b. b && has_heads (data_heads (line_of history) frame) parts) (head_back history named part back.0) ∙ heads_back history frame parts back.1

write_back : (block : LineBlock) (part : Part) → ComesBack (block_datagram block) part → has_head (write_head block) part ≡ true
write_back block part back =
    all_same (code_of Fpwr) (code_of part.command) (station_address block.station block.block.register) part.address (length block.block.bytes) (length part.bytes)
    (ap code_of back.command) back.address back.size

writes_back : (blocks : List LineBlock) (parts : List Part) → AllComeBack (map block_datagram blocks) parts → has_heads (write_heads blocks) parts ≡ true
writes_back [] [] back = refl
writes_back [] (part ∷ parts) back = absurd back
writes_back (block ∷ blocks) [] back = absurd back
writes_back (block ∷ blocks) (part ∷ parts) back = ap (λ b. b && has_heads (write_heads blocks) parts) (write_back block part back.0) ∙ writes_back blocks parts back.1

-- what carries a datagram was sent

none_carried : (parts : List Part) → AllComeBack [] parts → 0 < length parts → ⊥
none_carried [] back some = omega arith
none_carried (part ∷ parts) back some = back

some_sent : (before : History) (entry : HistoryEntry) (parts : List Part) → AllComeBack (sent_datagrams before entry) parts → 0 < length parts → is_sending entry ≡ true
some_sent before (Opened groups) parts back some = absurd (none_carried parts back some)
some_sent before (Edited edit) parts back some = absurd (none_carried parts back some)
some_sent before (Posted task bytes) parts back some = absurd (none_carried parts back some)
some_sent before (Forgot station) parts back some = absurd (none_carried parts back some)
some_sent before (Cleared station) parts back some = absurd (none_carried parts back some)
some_sent before (Unplugged station) parts back some = absurd (none_carried parts back some)
some_sent before (Came arrival) parts back some = absurd (none_carried parts back some)
some_sent before (Sent frame) parts back some = refl
some_sent before (Wrote blocks) parts back some = refl

all_back : (before : History) (entry : HistoryEntry) (parts : List Part) → AllComeBack (sent_datagrams before entry) parts → 0 < length parts → has_heads (heads_of before entry) parts ≡ true
all_back before (Opened groups) parts back some = absurd (none_carried parts back some)
all_back before (Edited edit) parts back some = absurd (none_carried parts back some)
all_back before (Posted task bytes) parts back some = absurd (none_carried parts back some)
all_back before (Forgot station) parts back some = absurd (none_carried parts back some)
all_back before (Cleared station) parts back some = absurd (none_carried parts back some)
all_back before (Unplugged station) parts back some = absurd (none_carried parts back some)
all_back before (Came arrival) parts back some = absurd (none_carried parts back some)
all_back before (Sent frame) parts back some = heads_back before frame parts back
all_back before (Wrote blocks) parts back some = writes_back blocks parts back

-- and its good data are what came back

good_data : (again same : Bool) (good_answers : List NewAnswer) → cond (is_good (cond again Stale (cond same Good Wrong))) good_answers [] ≡ cond (not again && same) good_answers []
good_data true same good_answers = refl
good_data false true good_answers = refl
good_data false false good_answers = refl

data_back : (since : List HistoryEntry) (line : List Member) (frame : List Named) (parts : List Part) → flat_map new_answer (map (judge since) (zip (data_heads line frame) parts)) ≡ flat_map (good_part since line) (zip frame parts)
data_back since line [] parts = refl
data_back since line (named ∷ frame) [] = refl
data_back since line (named ∷ frame) (part ∷ parts) =
    ap (λ good_answers. good_answers ++ flat_map new_answer (map (judge since) (zip (data_heads line frame) parts)))
    (good_data (list_any (sends (item_of named)) since) (part.counter == expected_counter named.0 named.1 line) (record { task = named.0; datagram = named.1; bytes = part.bytes } ∷ []))
    ∙ ap (λ good_answers. good_part since line (named, part) ++ good_answers) (data_back since line frame parts)

abbrev no_new_answer : List NewAnswer
no_new_answer = []

nothing_of : (good : Bool) (others : List NewAnswer) → cond good no_new_answer no_new_answer ++ others ≡ others
nothing_of true others = refl
nothing_of false others = refl

write_data : (since : List HistoryEntry) (blocks : List LineBlock) (parts : List Part) → flat_map new_answer (map (judge since) (zip (write_heads blocks) parts)) ≡ []
write_data since [] parts = refl
write_data since (block ∷ blocks) [] = refl
write_data since (block ∷ blocks) (part ∷ parts) =
    nothing_of (is_good (judge since (write_head block, part)).verdict) (flat_map new_answer (map (judge since) (zip (write_heads blocks) parts))) ∙ write_data since blocks parts

entry_data : (since : List HistoryEntry) (before : History) (entry : HistoryEntry) (parts : List Part) → flat_map new_answer (map (judge since) (zip (heads_of before entry) parts)) ≡ good_parts since (line_of before) entry parts
entry_data since before (Opened groups) parts = refl
entry_data since before (Edited edit) parts = refl
entry_data since before (Posted task bytes) parts = refl
entry_data since before (Forgot station) parts = refl
entry_data since before (Cleared station) parts = refl
entry_data since before (Unplugged station) parts = refl
entry_data since before (Came arrival) parts = refl
entry_data since before (Sent frame) parts = data_back since (line_of before) frame parts
entry_data since before (Wrote blocks) parts = write_data since blocks parts

read_back : (serial : ℕ) (ds : List Datagram) (parts : List Part) (bytes : List ℕ) → IsReturned serial ds parts bytes → CanBeCarried serial parts → arrival_in bytes ≡ Ok (record { serial = serial; parts = parts })
read_back serial ds parts bytes back can =
    let read = returned-read serial ds parts bytes back can in
    ap (λ fault. read_unless fault (reading_of bytes)) read.0 ∙ ap Ok read.1

pub returns-well : (since : List HistoryEntry) (entry : HistoryEntry) (before : History) (parts : List Part) (bytes : List ℕ) → IsReturned (next_serial before) (sent_datagrams before entry) parts bytes → CanBeCarried (next_serial before) parts
    → All (LeavesAwaited (next_serial before) (heads_of before entry)) since → ReturnsWell since entry before parts bytes
returns-well since entry before parts bytes back can leaves =
    let arrival : Arrival = record { serial = next_serial before; parts = parts } in
    let sending = sent_at since before entry in
    let sends = some_sent before entry parts back.back can.some in
    let there = found-under since before entry sends (none-opened (next_serial before) (heads_of before entry) since leaves) in
    let answers = answer-is arrival sending (all_back before entry parts back.back can.some) (none-ends (next_serial before) (heads_of before entry) since leaves) in
    let found = chosen (is_answer arrival) (sending_of (since ++ entry ∷ before) (next_serial before)) sending there answers in
    let read = read_back (next_serial before) (sent_datagrams before entry) parts bytes back can in
    let judged_so = ap (λ answer. option_map_or (judged arrival) answer []) found in
    record {
      read = read;
      answered = found;
      judged = judged_so;
      answer = ap (arrival_answer (since ++ entry ∷ before)) read ∙ ap judged_answer judged_so;
      good_answers = ap (λ answer. flat_map new_answer (option_map_or (judged arrival) answer [])) found ∙ entry_data since before entry parts;
    }

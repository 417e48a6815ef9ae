-- The frames of a record: each can be carried.
use Rattle.std.proofs.Common.{◌≡◌, ℕ, ◌+◌, ◌^◌, ◌<◌, ◌≤◌, true, cond, not, List, [], ◌∷◌, length, length-append, map, refl, sym, ap, ⊎_elim, subst, arith}
use Rattle.std.specs.Prelude.{All, AllPairs, sum_by}
use Rattle.std.specs.List.{flat_map}
use Rattle.std.proofs.lemmas.List.Elements.{All-cons, All-contains, All-filter, All-head, All-nil, All-tail, All-weaker}
use Rattle.std.proofs.lemmas.List.Kept.{AllPairs-filter}
use Rattle.std.proofs.lemmas.List.Sums.{sum_by-cons, sum_by_push}
use Rattle.std.proofs.lemmas.Bool.Decides.{nat_tests}
use Rattle.hc_records.proofs.lemmas.Choices.{by_bool}
use Rattle.hc_records.specs.Image.{datagram_count, datagram_length, logical_address, task_places}
use Rattle.hc_records.specs.Line.{Member, State, line}
use Rattle.hc_records.specs.Packing.{Placed}
use Rattle.hc_records.specs.TaskList.{task_list}
use Rattle.hc_records.proofs.lemmas.Addresses.{uncrowded-few}
use Rattle.hc_records.proofs.lemmas.Lengths.{length-sendable}
use Rattle.hc_records.proofs.lemmas.Lists.{All-flat_map, AllPairs-append_left}
use Rattle.hc_records.proofs.lemmas.Packable.{project-packable}
use Rattle.hc_records.proofs.lemmas.Packed.{area_of}
use Rattle.hc_registers.specs.Blocks.{LineBlock, line_blocks}
use Rattle.hc_frames.specs.FrameText.{WireDatagram, lrw, sent_on_wire}
use Rattle.hc_frames.specs.Laws.{CanBeCarried}
use Rattle.hc_frames.specs.Returned.{FitsLine}
use Rattle.hc_frames.specs.Sizes.{text_size}
use Rattle.hc_events.specs.Accepted.{IsFirstWrite, IsFrame, IsInLine, IsWrite}
use Rattle.hc_events.specs.Entries.{History}
use Rattle.hc_events.specs.Outputs.{sent_data}
use Rattle.hc_events.specs.Owed.{is_owed, owed_blocks}
use Rattle.hc_events.specs.Points.{line_of, state_of}
use Rattle.hc_events.specs.Sendings.{Frame, Named, frame_joined, frame_of_one, framed, framed_after, has_room, line_data_length, sendings_of, task_datagrams}
use Rattle.hc_events.specs.Steps.{proposal, sent_datagram}
use Rattle.hc_events.specs.WriteFrames.{block_bytes, block_datagram, blocks_bytes, frame_blocks}
use Rattle.hc_events.proofs.lemmas.Answers.{written-inside}
use Rattle.hc_events.proofs.lemmas.BlockSizes.{write-few, write-fits}
use Rattle.hc_events.specs.UnderWay.{further_blocks, is_under_way}
use Rattle.hc_events.proofs.lemmas.Fronts.{IsFront, beside-front, first-front, written-all}
use Rattle.hc_events.proofs.lemmas.SentBits.{sent-data}
use Rattle.hc_plan.proofs.lemmas.AreaKeys.{HasArea, placed-areas}
use Rattle.hc_plan.proofs.lemmas.Elements.{contains-unmapped}
use Rattle.hc_events.proofs.lemmas.Accepted.{proposal-is_placed}
use Rattle.hc_events.proofs.lemmas.Frames.{proposals-carry}
use Rattle.hc_exchange.specs.FrameLaws.{Addressed}
use Rattle.hc_exchange.specs.PairLaws.{IsConfigurable}
use Rattle.hc_exchange.proofs.Blocks.{OwnApart}
use Rattle.hc_exchange.proofs.Wrote.{IsPlain}
use Rattle.hc_exchange.proofs.lemmas.Chosen.{AreOfLine}
use Rattle.hc_exchange.proofs.lemmas.Members.{area-inside, stays-line}
use Rattle.hc_exchange.proofs.lemmas.Programmed.{all-own, all-plain}

-- register writes

apart_if : (history : History) (blocks : List LineBlock) → IsWrite history blocks → AllPairs OwnApart (owed_blocks history) → AllPairs OwnApart blocks
apart_if history blocks accepted all =
    ⊎_elim (λ (first : IsFirstWrite (owed_blocks history) blocks).
    let front = first-front (owed_blocks history) blocks first in
    AllPairs-append_left OwnApart blocks front.rest (subst (AllPairs OwnApart) front.joined all))
    (λ (further : blocks ≡ frame_blocks (further_blocks history)).
    let front = subst (IsFront (further_blocks history)) (sym further) (beside-front 0 (further_blocks history)) in
    AllPairs-append_left OwnApart blocks front.rest
    (subst (AllPairs OwnApart) front.joined (AllPairs-filter OwnApart (λ (block : LineBlock). not (is_under_way history block.station block.number)) (owed_blocks history) all))) accepted.first

pub writes-of_line : (history : History) (blocks : List LineBlock) → IsConfigurable (state_of history) → All (λ member. member.slave.station < 65536) (line_of history) → IsWrite history blocks
    → AreOfLine (line_of history) blocks
writes-of_line history blocks can low accepted =
    let members = line_of history in
    let stays = stays-line (state_of history) can in
    record {
      plain = written-all IsPlain history blocks accepted (All-filter (is_owed history) IsPlain (line_blocks members) (all-plain members stays low));
      apart = apart_if history blocks accepted (AllPairs-filter OwnApart (is_owed history) (line_blocks members) (all-own members stays));
      inside = written-inside history blocks accepted;
    }

plain-fits : (block : LineBlock) → IsPlain block → FitsLine (sent_on_wire (block_datagram block))
plain-fits block plain =
    let station = plain.station in
    let to = plain.to in
    let some = plain.some in
    let few = plain.few in
    record { address = omega arith; interrupt = omega arith; counter = omega arith; filled = some; size = omega arith }

writes-fit : (blocks : List LineBlock) → All IsPlain blocks → All FitsLine (map sent_on_wire (map block_datagram blocks))
writes-fit [] plain = All-nil FitsLine
writes-fit (block ∷ blocks) plain =
    All-cons FitsLine (sent_on_wire (block_datagram block)) (map sent_on_wire (map block_datagram blocks)) (plain-fits block (All-head IsPlain block blocks plain)) (writes-fit blocks (All-tail IsPlain block blocks plain))

writes-text : (blocks : List LineBlock) → text_size (map sent_on_wire (map block_datagram blocks)) ≡ blocks_bytes blocks
writes-text [] = refl
writes-text (block ∷ blocks) =
    let text = sum_by-cons (λ (d : WireDatagram). 12 + length d.bytes) (sent_on_wire (block_datagram block)) (map sent_on_wire (map block_datagram blocks)) in
    let sum = sum_by-cons block_bytes block blocks in
    let rest = writes-text blocks in
    omega arith

length-writes : (blocks : List LineBlock) → length (map sent_on_wire (map block_datagram blocks)) ≡ length blocks
length-writes [] = refl
length-writes (block ∷ blocks) = let rest = length-writes blocks in omega arith

pub writes-carried : (history : History) (blocks : List LineBlock) (serial : ℕ) → serial < 2 ^ 40 → All IsPlain blocks → IsWrite history blocks
    → CanBeCarried serial (map sent_on_wire (map block_datagram blocks))
writes-carried history blocks serial low plain accepted = record {
  some = omega (arith, accepted.some, length-writes blocks);
  low = low;
  fits = writes-fit blocks plain;
  within = omega (arith, write-fits history blocks accepted, writes-text blocks);
}

pub writes-few : (history : History) (blocks : List LineBlock) → IsWrite history blocks → 0 + length blocks ≤ 2 ^ 40
writes-few history blocks accepted = omega (arith, write-few history blocks accepted)

-- logical datagrams

-- a datagram of a frame of tasks with its data
abbrev pub addressed : History → Named → Addressed
addressed history named = record { address = logical_address named.0 named.1; bytes = sent_data history named.0 named.1 }

pub addressed-text : (history : History) (frame : List Named) → map (λ (d : Addressed). lrw d.address d.bytes) (map (addressed history) frame) ≡ map (sent_datagram history) frame
addressed-text history [] = refl
addressed-text history (named ∷ frame) = ap (λ ds. sent_datagram history named ∷ ds) (addressed-text history frame)

-- a task with a datagram is one of the eight
pub some-task : (state : State) (task : ℕ) (places : List Placed) → IsConfigurable state → places ≡ task_places task (line state) → 0 < datagram_count places → task < 8
some-task state task [] can is some = absurd (omega arith)
some-task state task (placed ∷ places) can is some =
    let members = line state in
    let source : HasArea members task (area_of placed) =
    All-head (λ (x : Placed). HasArea members task (area_of x)) placed places (subst (All (λ (x : Placed). HasArea members task (area_of x))) (sym is) (placed-areas members task)) in
    subst (λ (t : ℕ). t < 8) source.task_is (area-inside members source.member source.index source.area (stays-line state can) source.in_line source.found).task

named-fits : (history : History) (named : Named) → IsConfigurable (state_of history) → IsInLine (line_of history) named → FitsLine (sent_on_wire (lrw (addressed history named).address (addressed history named).bytes))
named-fits history named can inside =
    let members = line_of history in
    let task = named.0 in
    let known : task < 8 = some-task (state_of history) task (task_places task members) can refl (omega arith) in
    let few = uncrowded-few members task can.uncrowded known in
    let own = length-sendable (task_list task members) named.1 (project-packable (state_of history) task can.project) inside in
    let size : length (sent_data history task named.1) ≡ datagram_length (task_places task members) named.1 = (sent-data history task named.1).size in
    record { address = omega (arith, known, few, inside); interrupt = omega arith; counter = omega arith; filled = omega (arith, own.some, size); size = omega (arith, own.most, size) }

names-fit : (history : History) (frame : List Named) → IsConfigurable (state_of history) → All (IsInLine (line_of history)) frame
    → All FitsLine (map (λ (d : Addressed). sent_on_wire (lrw d.address d.bytes)) (map (addressed history) frame))
names-fit history [] can inside = All-nil FitsLine
names-fit history (named ∷ frame) can inside =
    let d = addressed history named in
    All-cons FitsLine (sent_on_wire (lrw d.address d.bytes)) (map (λ (d : Addressed). sent_on_wire (lrw d.address d.bytes)) (map (addressed history) frame))
    (named-fits history named can (All-head (IsInLine (line_of history)) named frame inside)) (names-fit history frame can (All-tail (IsInLine (line_of history)) named frame inside))

-- their bytes are within a frame

abbrev pub names_bytes : List Member → List Named → ℕ
names_bytes line names = sum_by (λ (named : Named). 12 + line_data_length line named) names

names-text : (history : History) (frame : List Named) → text_size (map (λ (d : Addressed). sent_on_wire (lrw d.address d.bytes)) (map (addressed history) frame)) ≡ names_bytes (line_of history) frame
names-text history [] = refl
names-text history (named ∷ frame) =
    let d = addressed history named in
    let size = (sent-data history named.0 named.1).size in
    let text = sum_by-cons (λ (w : WireDatagram). 12 + length w.bytes) (sent_on_wire (lrw d.address d.bytes)) (map (λ (d : Addressed). sent_on_wire (lrw d.address d.bytes)) (map (addressed history) frame)) in
    let sum = sum_by-cons (λ (n : Named). 12 + line_data_length (line_of history) n) named frame in
    let rest = names-text history frame in
    omega arith

-- a frame has a datagram, and its bytes are its datagrams' and within what it holds
pub record FitsFrame (line : List Member) (frame : Frame) : Type 0 where
  pub some : 0 < length frame.datagrams
  pub counted : frame.bytes ≡ names_bytes line frame.datagrams
  pub within : 2 + frame.bytes ≤ 1500

one-filled : (line : List Member) (serial : ℕ) (named : Named) → line_data_length line named ≤ 1486 → FitsFrame line (frame_of_one serial named (line_data_length line named))
one-filled line serial named most =
    let sum = sum_by-cons (λ (n : Named). 12 + line_data_length line n) named [] in
    record { some = omega arith; counted = omega arith; within = omega arith }

joined-filled : (line : List Member) (frame : Frame) (named : Named) → FitsFrame line frame → has_room frame.bytes (line_data_length line named) ≡ true
    → FitsFrame line (frame_joined frame named (line_data_length line named))
joined-filled line frame named filled room =
    let sum = sum_by_push (λ (n : Named). 12 + line_data_length line n) frame.datagrams named in
    let long = length-append frame.datagrams (named ∷ []) in
    let before = filled.counted in
    let more : 2 + frame.bytes + 12 + line_data_length line named ≤ 1500 = room-is frame.bytes (line_data_length line named) room in
    record { some = omega arith; counted = omega arith; within = omega arith }
  where
    room-is : (bytes size : ℕ) → has_room bytes size ≡ true → 2 + bytes + 12 + size ≤ 1500
    room-is bytes size e = grind (arith, nat_tests)

all-filled : (line : List Member) (frame : Frame) (names : List Named) → FitsFrame line frame → All (λ (n : Named). line_data_length line n ≤ 1486) names → All (FitsFrame line) (framed_after line frame names)
all-filled line frame [] filled most = All-cons (FitsFrame line) frame [] filled (All-nil (FitsFrame line))
all-filled line frame (named ∷ names) filled most =
    let size = line_data_length line named in
    let rest = All-tail (λ (n : Named). line_data_length line n ≤ 1486) named names most in
    by_bool (has_room frame.bytes size)
    (λ t. subst (All (FitsFrame line)) (sym (ap (λ b. cond b (framed_after line (frame_joined frame named size) names) (frame ∷ framed_after line (frame_of_one (frame.serial + 1) named size) names)) t))
    (all-filled line (frame_joined frame named size) names (joined-filled line frame named filled t) rest))
    (λ t. subst (All (FitsFrame line)) (sym (ap (λ b. cond b (framed_after line (frame_joined frame named size) names) (frame ∷ framed_after line (frame_of_one (frame.serial + 1) named size) names)) t))
    (All-cons (FitsFrame line) frame (framed_after line (frame_of_one (frame.serial + 1) named size) names) filled
    (all-filled line (frame_of_one (frame.serial + 1) named size) names (one-filled line (frame.serial + 1) named (All-head (λ (n : Named). line_data_length line n ≤ 1486) named names most)) rest)))

pub frames-filled : (line : List Member) (serial : ℕ) (names : List Named) → All (λ (n : Named). line_data_length line n ≤ 1486) names → All (FitsFrame line) (framed line serial names)
frames-filled line serial [] most = All-nil (FitsFrame line)
frames-filled line serial (named ∷ names) most =
    all-filled line (frame_of_one serial named (line_data_length line named)) names (one-filled line serial named (All-head (λ (n : Named). line_data_length line n ≤ 1486) named names most))
    (All-tail (λ (n : Named). line_data_length line n ≤ 1486) named names most)

-- each datagram of a task is in the line, so it has few bytes
names-most : (history : History) (tasks : List ℕ) → IsConfigurable (state_of history) → All (λ (n : Named). line_data_length (line_of history) n ≤ 1486) (flat_map (task_datagrams (line_of history)) tasks)
names-most history tasks can =
    let members = line_of history in
    All-weaker (IsInLine members) (λ (n : Named). line_data_length members n ≤ 1486)
    (λ named inside. (length-sendable (task_list named.0 members) named.1 (project-packable (state_of history) named.0 can.project) inside).most)
    (flat_map (task_datagrams members) tasks)
    (subst (All (IsInLine members)) (proposals-carry history tasks)
    (All-flat_map (IsInLine members) (λ (sending : Frame). sending.datagrams) (proposal history tasks) (proposal-is_placed history tasks)))

record FrameFound (line : List Member) (frame : List Named) : Type 0 where
  some : 0 < length frame
  within : 2 + names_bytes line frame ≤ 1500

frame-found : (history : History) (frame : List Named) → IsConfigurable (state_of history) → IsFrame history frame → FrameFound (line_of history) frame
frame-found history frame can accepted =
    let members = line_of history in
    let sendings = sendings_of members accepted.serial accepted.tasks in
    let found = contains-unmapped (λ (sending : Frame). sending.datagrams) sendings frame accepted.one in
    let filled = All-contains (FitsFrame members) sendings found.0 (frames-filled members accepted.serial (flat_map (task_datagrams members) accepted.tasks) (names-most history accepted.tasks can)) found.1 in
    let some = filled.some in
    let counted = filled.counted in
    let within = filled.within in
    subst (FrameFound members) found.2 (record { some = some; within = omega arith })

length-names : (history : History) (frame : List Named) → length (map (λ (d : Addressed). sent_on_wire (lrw d.address d.bytes)) (map (addressed history) frame)) ≡ length frame
length-names history [] = refl
length-names history (named ∷ frame) = let rest = length-names history frame in omega arith

pub frame-some : (history : History) (frame : List Named) → IsConfigurable (state_of history) → IsFrame history frame → 0 < length frame
frame-some history frame can accepted = (frame-found history frame can accepted).some

pub frame-carried : (history : History) (frame : List Named) (serial : ℕ) → serial < 2 ^ 40 → IsConfigurable (state_of history) → IsFrame history frame
    → CanBeCarried serial (map (λ (d : Addressed). sent_on_wire (lrw d.address d.bytes)) (map (addressed history) frame))
frame-carried history frame serial low can accepted =
    let found = frame-found history frame can accepted in
    record {
      some = omega (arith, found.some, length-names history frame);
      low = low;
      fits = names-fit history frame can accepted.in_line;
      within = omega (arith, found.within, names-text history frame);
    }

-- A frame of ready tasks over a wire that holds what the record says comes back good.
use Rattle.std.proofs.Common.{◌≡◌, ℕ, ◌+◌, ◌*◌, ◌%◌, ◌<◌, ◌∙◌, true, cond, List, [], ◌∷◌, length, map, refl, sym, ap, ap₂, subst, arith}
use Rattle.std.specs.Prelude.{◌≤◌, All, Contains, slice_index_or}
use Rattle.std.specs.List.{AllZip, list_all, zip}
use Rattle.std.proofs.lemmas.Bool.{and_from, eq-eqb}
use Rattle.std.proofs.lemmas.List.Elements.{All-contains, All-head, All-nil, All-tail, Contains-get_or}
use Rattle.hc_records.specs.AddressLaws.{LineHasDatagram}
use Rattle.hc_records.specs.Image.{expected_counter, logical_address, task_places}
use Rattle.hc_records.specs.Line.{Member, line}
use Rattle.hc_records.proofs.lemmas.Choices.{contains-first, contains-later}
use Rattle.hc_frames.specs.FrameText.{Datagram, frame_text}
use Rattle.hc_frames.specs.Returned.{IsReturned}
use Rattle.hc_events.specs.Accepted.{IsInLine}
use Rattle.hc_events.specs.AnswerLaws.{LeavesAwaited}
use Rattle.hc_events.specs.Answering.{Good, Wrong, has_good, is_good, judge}
use Rattle.hc_events.specs.Arrivals.{Part}
use Rattle.hc_events.specs.Entries.{History, Sent}
use Rattle.hc_events.specs.Heads.{data_head, data_heads}
use Rattle.hc_events.specs.Outputs.{sent_data}
use Rattle.hc_events.specs.Points.{line_of, next_serial, state_of}
use Rattle.hc_events.specs.Ready.{is_ready}
use Rattle.hc_events.specs.SendingLaws.{heads_of}
use Rattle.hc_events.specs.Sendings.{Named}
use Rattle.hc_events.specs.Steps.{sent_datagram}
use Rattle.hc_events.proofs.lemmas.Returns.{returns-well}
use Rattle.hc_events.proofs.lemmas.SentBits.{sent-bytes, sent-data}
use Rattle.hc_segment.specs.Line.{frame_through}
use Rattle.hc_exchange.specs.Carrying.{AreAsked, AreCarryingTask, IsBitOfTask, count_through}
use Rattle.hc_exchange.specs.FrameLaws.{datagrams_after_machines}
use Rattle.hc_exchange.specs.PairLaws.{IsConfigurable}
use Rattle.hc_exchange.specs.ReadyFrames.{ReadyFramesComeBackGood, sent_logical}
use Rattle.hc_exchange.specs.Runs.{entry_frame}
use Rattle.hc_exchange.specs.Sequences.{all_through}
use Rattle.hc_exchange.specs.Wire.{WireCarries, WireCarriesTask, WireMachine, line_machines, wire_after, wire_machines}
use Rattle.hc_exchange.proofs.Packing.{counter-low}
use Rattle.hc_exchange.proofs.Passing.{sizes}
use Rattle.hc_exchange.proofs.lemmas.Asked.{fewer-carry}
use Rattle.hc_exchange.proofs.lemmas.Contents.{record-sound}
use Rattle.hc_exchange.proofs.lemmas.Counts.{task-counts}
use Rattle.hc_exchange.proofs.lemmas.Frame.{addressed, addressed-text, frame-carried, frame-some, some-task}
use Rattle.hc_exchange.proofs.lemmas.Frames.{shared-returned}
use Rattle.hc_exchange.proofs.lemmas.ReadyTasks.{ready-carried}
use Rattle.hc_exchange.proofs.lemmas.Runs.{before-is}
use Rattle.hc_exchange.proofs.lemmas.Wires.{wire-stays, wires-pass}

-- the bits of the tasks of a frame

abbrev pub IsBitOfFrame : List Member → List Named → ℕ → Type 0
IsBitOfFrame line frame x = (named : Named) × Contains frame named × IsBitOfTask line named.0 x

-- a wire that carries each task of a frame carries all their bits
tasks-carry : (line : List Member) (frame : List Named) (wire : List WireMachine) (first : Named) → Contains frame first → ((named : Named) → Contains frame named → WireCarriesTask line named.0 wire)
    → WireCarries (IsBitOfFrame line frame) line wire
tasks-carry line frame wire first has each =
    let own = each first has in
    record {
      carrying = record {
        count = own.carrying.count;
        each = λ k member memory is is'.
            let machine = own.carrying.each k member memory is is' in
            record {
              size = machine.size;
              own = λ i x m area mapping asked. ((each asked.0 asked.1).carrying.each k member memory is is').own i x m area mapping asked.2;
              foreign = λ i x m low asked. ((each asked.0 asked.1).carrying.each k member memory is is').foreign i x m low asked.2;
              all_bytes = machine.all_bytes;
            };
      };
      passing = λ k d within.
          let machine = own.passing k d within in
          record {
            size = machine.size;
            idle = λ i x m low asked. ((each asked.0 asked.1).passing k d within).idle i x m low asked.2;
            all_bytes = machine.all_bytes;
          };
    }

-- a datagram of the line, and its data

there-is : (history : History) (named : Named) → IsConfigurable (state_of history) → IsInLine (line_of history) named → LineHasDatagram (line_of history) named.0 named.1
there-is history named can inside =
    record { in_task = some-task (state_of history) named.0 (task_places named.0 (line_of history)) can refl (omega (arith, inside)); counted = inside }

data-asked : (history : History) (frame : List Named) (named : Named) → IsConfigurable (state_of history) → IsInLine (line_of history) named → Contains frame named
    → AreAsked (IsBitOfFrame (line_of history) frame) (8 * logical_address named.0 named.1) (sent_data history named.0 named.1)
data-asked history frame named can inside has bit low = (
  named,
  has,
  record { datagram = named.1; bit = bit; there = there-is history named can inside; below = omega (arith, low, (sent-data history named.0 named.1).size); at = refl },
)

-- each datagram comes back with its expected counter

abbrev IsGoodPart : List Member → Named → Part → Type 0
IsGoodPart line named part = part.counter ≡ expected_counter named.0 named.1 line

small-rest : (n : ℕ) → n < 65536 → n % 65536 ≡ n
small-rest n low = omega arith

record AllGood (history : History) (names : List Named) (wire : List WireMachine) : Type 0 where
  good : AllZip (IsGoodPart (line_of history)) names (datagrams_after_machines (wire_machines wire) (map (addressed history) names))
  data_are : map (λ (part : Part). part.bytes) (datagrams_after_machines (wire_machines wire) (map (addressed history) names)) ≡ all_through (line_machines wire) (map (sent_logical history) names)

all-good : (history : History) (frame names : List Named) (wire : List WireMachine) → IsConfigurable (state_of history) → ((named : Named) → Contains names named → Contains frame named)
    → All (IsInLine (line_of history)) names → WireCarries (IsBitOfFrame (line_of history) frame) (line_of history) wire → AllGood history names wire
all-good history frame [] wire can within inside carries = record { good = tt; data_are = refl }
all-good history frame (named ∷ names) wire can within inside carries =
    let members = line_of history in
    let task = named.0 in
    let from = 8 * logical_address task named.1 in
    let bytes = sent_data history task named.1 in
    let has = within named (contains-first named names) in
    let in_line = All-head (IsInLine members) named names inside in
    let asked = data-asked history frame named can in_line has in
    let small = sent-bytes history task named.1 in
    let outsiders = wires-pass (IsBitOfFrame members frame) (state_of history) wire bytes from carries asked small in
    let own : AreCarryingTask members task (line_machines wire) =
    fewer-carry (IsBitOfFrame members frame) (IsBitOfTask members task) members (line_machines wire) (λ x bit. (named, has, bit)) carries.carrying in
    let count : count_through (wire_machines wire) from (length bytes) ≡ expected_counter task named.1 members =
    outsiders.counter ∙ ap (count_through (line_machines wire) from) (sent-data history task named.1).size
    ∙ task-counts (state_of history) (line_machines wire) task named.1 can own (there-is history named can in_line) in
    let rest =
    all-good history frame names (wire_after wire from bytes) can (λ other there. within other (contains-later named other names there)) (All-tail (IsInLine members) named names inside)
    (wire-stays (IsBitOfFrame members frame) (state_of history) wire bytes from can carries asked small) in
    record {
      good = (
        ap (λ (n : ℕ). n % 65536) count ∙ small-rest (expected_counter task named.1 members) (counter-low (state_of history) task named.1 can),
        subst (λ (ms : List (List ℕ)). AllZip (IsGoodPart members) names (datagrams_after_machines ms (map (addressed history) names))) (sym outsiders.all_machines) rest.good,
      );
      data_are = ap₂ (λ (b : List ℕ) (bs : List (List ℕ)). b ∷ bs) outsiders.data_is
          (ap (λ (ms : List (List ℕ)). map (λ (part : Part). part.bytes) (datagrams_after_machines ms (map (addressed history) names))) outsiders.all_machines
          ∙ rest.data_are ∙ ap (λ (ms : List (List ℕ)). all_through ms (map (sent_logical history) names)) outsiders.of_line);
    }

-- so each is judged good

judged-good : (line : List Member) (names : List Named) (parts : List Part) → AllZip (IsGoodPart line) names parts → list_all has_good (map (judge []) (zip (data_heads line names) parts)) ≡ true
judged-good line [] [] good = refl
judged-good line [] (part ∷ parts) good = refl
judged-good line (named ∷ names) [] good = refl
judged-good line (named ∷ names) (part ∷ parts) good =
    and_from (has_good (judge [] (data_head line named, part))) (list_all has_good (map (judge []) (zip (data_heads line names) parts)))
    (ap (λ b. is_good (cond b Good Wrong)) (eq-eqb part.counter (expected_counter named.0 named.1 line) good.0)) (judged-good line names parts good.1)

pub ready-good : ReadyFramesComeBackGood
ready-good history frame wire of_record holds ready =
    let before = before-is history (Sent frame) of_record refl in
    let can = (record-sound history before).can in
    let is_frame = of_record.reachable.accepted.0 in
    let few : next_serial history + 1 ≤ 1099511627775 = of_record.reachable.few in
    let members = line_of history in
    let serial = next_serial history in
    let some = frame-some history frame can is_frame in
    let first : Contains frame (slice_index_or frame 0 (0, 0)) = Contains-get_or frame 0 (0, 0) some in
    let each : (named : Named) → Contains frame named → WireCarriesTask members named.0 wire =
    λ named has. ready-carried history wire named.0 before holds (All-contains (λ (n : Named). is_ready history n.0 ≡ true) frame named ready has) in
    let carries = tasks-carry members frame wire (slice_index_or frame 0 (0, 0)) first each in
    let machines = wire_machines wire in
    let long = sizes members (slice_index_or frame 0 (0, 0)).0 wire (each (slice_index_or frame 0 (0, 0)) first) in
    let returned = shared-returned machines serial (map (addressed history) frame) long (frame-carried history frame serial (omega arith) can is_frame) in
    let all = all-good history frame frame wire can (λ named has. has) is_frame.in_line carries in
    let parts = datagrams_after_machines machines (map (addressed history) frame) in
    let back : IsReturned serial (map (sent_datagram history) frame) parts (frame_through machines (frame_text serial (map (sent_datagram history) frame))) =
    subst (λ (ds : List Datagram). IsReturned serial ds parts (frame_through machines (frame_text serial ds))) (addressed-text history frame) returned.back in
    let answer_given =
    returns-well [] (Sent frame) history parts (frame_through machines (entry_frame history (Sent frame))) back returned.carried (All-nil (LeavesAwaited serial (heads_of history (Sent frame)))) in
    record {
      parts = parts;
      read = answer_given.read;
      good = ap (list_all has_good) answer_given.judged ∙ judged-good members frame parts all.good;
      data_are = all.data_are;
    }

-- A task's frames through the machines of a wire that carries the task.
use Rattle.std.proofs.Common.{◌≡◌, ℕ, zero, suc, ◌+◌, ◌*◌, ◌%◌, ◌∙◌, List, [], ◌∷◌, length, refl, ap, ap₂, subst, arith}
use Rattle.std.specs.Prelude.{All, None, Some, map, slice_get}
use Rattle.std.specs.List.{AllZip}
use Rattle.std.proofs.lemmas.List.Elements.{All-cons, All-head, All-nil, All-tail, All-weaker}
use Rattle.hc_records.specs.AddressLaws.{LineHasDatagram}
use Rattle.hc_records.specs.Image.{datagram_length, expected_counter, logical_address, task_places}
use Rattle.hc_records.specs.Line.{Member, State, line}
use Rattle.hc_frames.specs.Arrived.{Reading, fault_in, reading_of}
use Rattle.hc_frames.specs.FrameText.{frame_text, lrw, sent_on_wire}
use Rattle.hc_frames.specs.Laws.{CanBeCarried}
use Rattle.hc_segment.specs.Line.{frame_through, frames_through, machines_after}
use Rattle.hc_exchange.specs.PairLaws.{IsConfigurable}
use Rattle.hc_bits.specs.Bits.{AreBytes}
use Rattle.hc_exchange.specs.Carrying.{AreAsked, IsBitOfTask, count_through, data_through, logical_part}
use Rattle.hc_exchange.specs.Sequences.{Logical, all_through}
use Rattle.hc_exchange.specs.Wire.{InLine, Outside, PassesAsked, WireCarriesTask, WireMachine, line_machines, outside_machines, wire_after, wire_after_all, wire_machines}
use Rattle.hc_exchange.proofs.lemmas.Counts.{task-counts}
use Rattle.hc_exchange.proofs.lemmas.Frames.{frames-pass}
use Rattle.hc_exchange.proofs.lemmas.Lines.{IsCarrier, all-carriers, length-through}
use Rattle.hc_exchange.proofs.lemmas.Wires.{wire-stays, wires-pass}

-- a datagram of a task with its data, as it is in the process image and in its frame

abbrev pub logical_of : ℕ → (ℕ → List ℕ) → ℕ → Logical
logical_of task bytes d = record { from = 8 * logical_address task d; bytes = bytes d }

abbrev pub frame_with : ℕ → ℕ → (ℕ → List ℕ) → ℕ → List ℕ
frame_with serial task bytes d = frame_text (serial + d) (lrw (logical_address task d) (bytes d) ∷ [])

pub record IsSendable (line : List Member) (serial task : ℕ) (bytes : ℕ → List ℕ) (d : ℕ) : Type 0 where
  pub datagram : LineHasDatagram line task d
  pub size : length (bytes d) ≡ datagram_length (task_places task line) d
  pub small : AreBytes (bytes d)
  pub carried : CanBeCarried (serial + d) (sent_on_wire (lrw (logical_address task d) (bytes d)) ∷ [])

-- its bits are the task's
pub sendable-asked : (line : List Member) (serial task : ℕ) (bytes : ℕ → List ℕ) (d : ℕ) → IsSendable line serial task bytes d
    → AreAsked (IsBitOfTask line task) (8 * logical_address task d) (bytes d)
sendable-asked line serial task bytes d ok bit inside = record { datagram = d; bit = bit; there = ok.datagram; below = omega (arith, inside, ok.size); at = refl }

-- a wire that carries the task has whole memories

sizes-of : (Asked : ℕ → Type 0) (line members : List Member) (machines : List (List ℕ)) → AllZip (IsCarrier Asked line) members machines → All (λ m. length m ≡ 12288) machines
sizes-of Asked line [] [] are_placed = All-nil (λ m. length m ≡ 12288)
sizes-of Asked line [] (memory ∷ machines) are_placed = absurd are_placed
sizes-of Asked line (member ∷ members) [] are_placed = absurd are_placed
sizes-of Asked line (member ∷ members) (memory ∷ machines) are_placed =
    All-cons (λ m. length m ≡ 12288) memory machines are_placed.0.own.size (sizes-of Asked line members machines are_placed.1)

pub wire-sizes : (wire : List WireMachine) → All (λ m. length m ≡ 12288) (line_machines wire) → All (λ m. length m ≡ 12288) (outside_machines wire) → All (λ m. length m ≡ 12288) (wire_machines wire)
wire-sizes [] line outside = All-nil (λ m. length m ≡ 12288)
wire-sizes (InLine memory ∷ wire) line outside =
    All-cons (λ m. length m ≡ 12288) memory (wire_machines wire) (All-head (λ m. length m ≡ 12288) memory (line_machines wire) line)
    (wire-sizes wire (All-tail (λ m. length m ≡ 12288) memory (line_machines wire) line) outside)
wire-sizes (Outside memory ∷ wire) line outside =
    All-cons (λ m. length m ≡ 12288) memory (wire_machines wire) (All-head (λ m. length m ≡ 12288) memory (outside_machines wire) outside)
    (wire-sizes wire line (All-tail (λ m. length m ≡ 12288) memory (outside_machines wire) outside))

pub sizes : (line : List Member) (task : ℕ) (wire : List WireMachine) → WireCarriesTask line task wire → All (λ m. length m ≡ 12288) (wire_machines wire)
sizes line task wire carries =
    let Asked = IsBitOfTask line task in
    wire-sizes wire (sizes-of Asked line line (line_machines wire) (all-carriers Asked line (line_machines wire) carries.carrying))
    (All-weaker (PassesAsked Asked) (λ m. length m ≡ 12288) (λ m passes. passes.size) (outside_machines wire) carries.passing)

-- the wire after a datagram

next-carries : (state : State) (wire : List WireMachine) (serial task : ℕ) (bytes : ℕ → List ℕ) (d : ℕ) → IsConfigurable state → WireCarriesTask (line state) task wire
    → IsSendable (line state) serial task bytes d → WireCarriesTask (line state) task (wire_after wire (8 * logical_address task d) (bytes d))
next-carries state wire serial task bytes d can carries ok =
    wire-stays (IsBitOfTask (line state) task) state wire (bytes d) (8 * logical_address task d) can carries (sendable-asked (line state) serial task bytes d ok) ok.small

-- and after the frames

pub passed-machines : (state : State) (wire : List WireMachine) (serial task : ℕ) (bytes : ℕ → List ℕ) (ds : List ℕ) → IsConfigurable state → WireCarriesTask (line state) task wire
    → All (IsSendable (line state) serial task bytes) ds
    → machines_after (wire_machines wire) (map (frame_with serial task bytes) ds) ≡ wire_machines (wire_after_all wire (map (logical_of task bytes) ds))
passed-machines state wire serial task bytes [] can carries ok = refl
passed-machines state wire serial task bytes (d ∷ ds) can carries ok =
    let members = line state in
    let from = 8 * logical_address task d in
    let first = All-head (IsSendable members serial task bytes) d ds ok in
    let passes = frames-pass (wire_machines wire) (serial + d) (logical_address task d) (bytes d) (sizes members task wire carries) first.carried in
    let outsiders = wires-pass (IsBitOfTask members task) state wire (bytes d) from carries (sendable-asked members serial task bytes d first) first.small in
    ap (λ (ms : List (List ℕ)). machines_after ms (map (frame_with serial task bytes) ds)) (passes.memories ∙ outsiders.all_machines)
    ∙ passed-machines state (wire_after wire from (bytes d)) serial task bytes ds can (next-carries state wire serial task bytes d can carries first) (All-tail (IsSendable members serial task bytes) d ds ok)

-- the frames as they come back

pub record Returned (line : List Member) (serial task d : ℕ) (frame came : List ℕ) : Type 0 where
  pub readable : fault_in frame ≡ None
  pub reading : reading_of frame ≡ record { serial = serial + d; parts = logical_part (logical_address task d) came (expected_counter task d line % 65536) ∷ [] }
  pub size : length came ≡ datagram_length (task_places task line) d

pub record ReturnedAt (line : List Member) (serial task : ℕ) (ds : List ℕ) (cames : List (List ℕ)) (n : ℕ) (frame : List ℕ) : Type 0 where
  pub d : ℕ
  pub came : List ℕ
  pub sent : slice_get ds n ≡ Some d
  pub came_is : slice_get cames n ≡ Some came
  pub returned : Returned line serial task d frame came

returned-one : (state : State) (wire : List WireMachine) (serial task : ℕ) (bytes : ℕ → List ℕ) (d : ℕ) → IsConfigurable state → WireCarriesTask (line state) task wire
    → IsSendable (line state) serial task bytes d
    → Returned (line state) serial task d (frame_through (wire_machines wire) (frame_with serial task bytes d)) (data_through (line_machines wire) (8 * logical_address task d) (bytes d))
returned-one state wire serial task bytes d can carries ok =
    let members = line state in
    let from = 8 * logical_address task d in
    let passes = frames-pass (wire_machines wire) (serial + d) (logical_address task d) (bytes d) (sizes members task wire carries) ok.carried in
    let outsiders = wires-pass (IsBitOfTask members task) state wire (bytes d) from carries (sendable-asked members serial task bytes d ok) ok.small in
    let count : count_through (wire_machines wire) from (length (bytes d)) ≡ expected_counter task d members =
    outsiders.counter ∙ ap (count_through (line_machines wire) from) ok.size ∙ task-counts state (line_machines wire) task d can carries.carrying ok.datagram in
    record {
      readable = passes.readable;
      reading = passes.reading ∙ ap₂ answer_given-with outsiders.data_is (ap (λ (n : ℕ). n % 65536) count);
      size = length-through (line_machines wire) from (bytes d) ∙ ok.size;
    }
  where
    answer_given-with : List ℕ → ℕ → Reading
    answer_given-with came counter = record { serial = serial + d; parts = logical_part (logical_address task d) came counter ∷ [] }

pub passed-frames : (state : State) (wire : List WireMachine) (serial task : ℕ) (bytes : ℕ → List ℕ) (ds : List ℕ) → IsConfigurable state → WireCarriesTask (line state) task wire
    → All (IsSendable (line state) serial task bytes) ds → (n : ℕ) (frame : List ℕ) → slice_get (frames_through (wire_machines wire) (map (frame_with serial task bytes) ds)) n ≡ Some frame
    → ReturnedAt (line state) serial task ds (all_through (line_machines wire) (map (logical_of task bytes) ds)) n frame
passed-frames state wire serial task bytes [] can carries ok n frame is = cc
passed-frames state wire serial task bytes (d ∷ ds) can carries ok zero frame is =
    let members = line state in
    let one = returned-one state wire serial task bytes d can carries (All-head (IsSendable members serial task bytes) d ds ok) in
    let came = data_through (line_machines wire) (8 * logical_address task d) (bytes d) in
    let same : frame_through (wire_machines wire) (frame_with serial task bytes d) ≡ frame = cc in
    record { d = d; came = came; sent = refl; came_is = refl; returned = subst (λ (f : List ℕ). Returned members serial task d f came) same one }
passed-frames state wire serial task bytes (d ∷ ds) can carries ok (suc n) frame is =
    let members = line state in
    let from = 8 * logical_address task d in
    let first = All-head (IsSendable members serial task bytes) d ds ok in
    let passes = frames-pass (wire_machines wire) (serial + d) (logical_address task d) (bytes d) (sizes members task wire carries) first.carried in
    let outsiders = wires-pass (IsBitOfTask members task) state wire (bytes d) from carries (sendable-asked members serial task bytes d first) first.small in
    let next = wire_after wire from (bytes d) in
    let later : slice_get (frames_through (wire_machines next) (map (frame_with serial task bytes) ds)) n ≡ Some frame =
    subst (λ (ms : List (List ℕ)). slice_get (frames_through ms (map (frame_with serial task bytes) ds)) n ≡ Some frame) (passes.memories ∙ outsiders.all_machines) is in
    let rest =
    passed-frames state next serial task bytes ds can (next-carries state wire serial task bytes d can carries first) (All-tail (IsSendable members serial task bytes) d ds ok) n frame later in
    record {
      d = rest.d;
      came = rest.came;
      sent = rest.sent;
      came_is = subst (λ (ms : List (List ℕ)). slice_get (all_through ms (map (logical_of task bytes) ds)) n ≡ Some rest.came) outsiders.of_line rest.came_is;
      returned = rest.returned;
    }

-- What the frames of a task do to each bit, over a wire that carries the task.
use Rattle.std.proofs.Common.{◌≡◌, ℕ, suc, ◌+◌, ◌-◌, ◌*◌, ◌%◌, ◌^◌, ◌<◌, ◌≤◌, ◌∙◌, List, [], ◌∷◌, length, get_or, refl, sym, ap, subst, arith}
use Rattle.std.specs.Prelude.{All, AllPairs, Contains, Some, map, slice_get}
use Rattle.std.specs.List.{range_with_len}
use Rattle.std.proofs.lemmas.List.Elements.{All-cons, All-map, All-nil, All-weaker}
use Rattle.std.proofs.lemmas.List.FromFn.{get_or-map-range_with_len, get_or-range_with_len, length-map-range_with_len, length-range_with_len}
use Rattle.std.proofs.lemmas.Option.{get_or_from_slice_get, slice_get-get_or, slice_get_within}
use Rattle.hc_bits.specs.Bits.{AreBytes, bit_of}
use Rattle.hc_records.specs.declared.records.Area.{Area}
use Rattle.hc_records.specs.declared.records.Dir.{Dir}
use Rattle.hc_records.specs.declared.records.Dir.TheVariants.{Out, In}
use Rattle.hc_records.specs.Image.{VariablePlace, datagram_count, datagram_length, expected_counter, logical_address, task_places}
use Rattle.hc_records.specs.ImageLaws.{place_bit}
use Rattle.hc_records.specs.Line.{Member, State, line}
use Rattle.hc_records.proofs.lemmas.Lists.{AllPairs-map}
use Rattle.hc_records.proofs.lemmas.VariablePlaces.{variables-lie}
use Rattle.hc_frames.specs.Arrived.{Reading}
use Rattle.hc_frames.specs.FrameText.{lrw, sent_on_wire}
use Rattle.hc_frames.specs.Laws.{CanBeCarried}
use Rattle.hc_frames.specs.Returned.{FitsLine}
use Rattle.hc_segment.specs.Line.{frames_through, machines_after_frame}
use Rattle.hc_exchange.specs.PairLaws.{IsConfigurable}
use Rattle.hc_exchange.proofs.lemmas.Members.{stays-line, one-station}
use Rattle.hc_exchange.specs.AskedLaws.{AllAreAsked, MeetsCarrying}
use Rattle.hc_exchange.specs.Carrying.{LinePairsIn, IsBitOfTask, logical_part, memories_after}
use Rattle.hc_exchange.specs.Sequences.{LogicalsAreApart, HasBit, Logical, all_after_frames, all_through}
use Rattle.hc_exchange.specs.Variables.{IsCarried}
use Rattle.hc_exchange.specs.Wire.{WireCarriesTask, WireMachine, line_machines, outside_machines, wire_after_all, wire_machines}
use Rattle.hc_exchange.proofs.lemmas.Sequences.{asked-all-inputs, asked-all-memory, asked-all-outputs}
use Rattle.hc_exchange.proofs.lemmas.Variables.{variables-carried}
use Rattle.hc_exchange.proofs.lemmas.Wires.{all-carry, all-pass}
use Rattle.hc_exchange.specs.Exchanged.{DatagramCameBack, HasInMemory, IsExchangedOnWire, IsGapBit, IsOutputBit, VariableLiesInMemory}
use Rattle.hc_exchange.specs.Sent.{IsSentOver, IsVariable, task_datagram_count}
use Rattle.hc_exchange.proofs.Alone.{is_placed-once}
use Rattle.hc_exchange.proofs.Packing.{count-listed, counter-low, datagram-early, datagram-there, length-there}
use Rattle.hc_exchange.proofs.Passing.{IsSendable, Returned, frame_with, logical_of, passed-frames, passed-machines, sendable-asked}
use Rattle.hc_exchange.proofs.Placing.{gap-free, has-pair, in-datagram, task-answer_given}

-- an exchange, and what is known of it
pub record Given (state : State) (task serial : ℕ) (image : List ℕ) (wire : List WireMachine) (frames machines' : List (List ℕ)) : Type 0 where
  pub can : IsConfigurable state
  pub few : serial + 16 ≤ 2 ^ 40
  pub sent : IsSentOver (line state) task serial image (wire_machines wire) frames machines'
  pub carries : WireCarriesTask (line state) task wire

-- the datagrams that are sent

abbrev numbers : State → ℕ → List ℕ
numbers state task = range_with_len 0 (task_datagram_count (line state) task)

abbrev sent_logicals : State → ℕ → (ℕ → List ℕ) → List Logical
sent_logicals state task bytes = map (logical_of task bytes) (numbers state task)

can-carry : (serial address : ℕ) (bytes : List ℕ) → serial < 2 ^ 40 → address < 2 ^ 32 → 1 ≤ length bytes → length bytes ≤ 1486 → CanBeCarried serial (sent_on_wire (lrw address bytes) ∷ [])
can-carry serial address bytes low fits some most = record {
  some = omega arith;
  low = low;
  fits = All-cons FitsLine (sent_on_wire (lrw address bytes)) [] (record { address = fits; interrupt = omega arith; counter = omega arith; filled = some; size = most }) (All-nil FitsLine);
  within = omega arith;
}

address-fits : (task d : ℕ) → task < 8 → d < 16 → logical_address task d < 2 ^ 32
address-fits task d low early = omega arith

sendable : (state : State) (task serial : ℕ) (image : List ℕ) (wire : List WireMachine) (frames machines' : List (List ℕ)) → (g : Given state task serial image wire frames machines') → (d : ℕ) → d < task_datagram_count (line state) task
    → IsSendable (line state) serial task g.sent.bytes d
sendable state task serial image wire frames machines' g d low =
    let members = line state in
    let is = datagram-there members task d low in
    let early = datagram-early state task d g.can is in
    let size = (g.sent.packed d low).size in
    let own = length-there state task d g.can is in
    let few = g.few in
    record {
      datagram = is;
      size = size;
      small = (g.sent.packed d low).all_bytes;
      carried = can-carry (serial + d) (logical_address task d) (g.sent.bytes d) (omega arith) (address-fits task d is.in_task early) (omega (arith, size, own.some)) (omega (arith, size, own.most));
    }

number-at : (n i e : ℕ) → i < n → get_or (range_with_len 0 n) i e ≡ i
number-at n i e low = omega (arith, get_or-range_with_len 0 n i e low)

all-sendable : (state : State) (task serial : ℕ) (image : List ℕ) (wire : List WireMachine) (frames machines' : List (List ℕ)) → (g : Given state task serial image wire frames machines')
    → All (IsSendable (line state) serial task g.sent.bytes) (numbers state task)
all-sendable state task serial image wire frames machines' g i e within =
    let n = task_datagram_count (line state) task in
    let low : i < n = omega (arith, length-range_with_len 0 n) in
    subst (IsSendable (line state) serial task g.sent.bytes) (sym (number-at n i e low)) (sendable state task serial image wire frames machines' g i low)

-- no two of them have a logical bit in common

apart-at : (task i j k l m n : ℕ) → i < j → k < 8 * m → l < 8 * n → m ≤ 1486 → n ≤ 1486 → 8 * logical_address task i + k ≡ 8 * logical_address task j + l → ⊥
apart-at task i j k l m n lower low low' most most' same = omega arith

all-apart : (state : State) (task serial : ℕ) (image : List ℕ) (wire : List WireMachine) (frames machines' : List (List ℕ)) → (g : Given state task serial image wire frames machines')
    → AllPairs LogicalsAreApart (sent_logicals state task g.sent.bytes)
all-apart state task serial image wire frames machines' g =
    let n = task_datagram_count (line state) task in
    let bytes = g.sent.bytes in
    AllPairs-map LogicalsAreApart (logical_of task bytes) (range_with_len 0 n)
    (λ i j e lower within.
    let high : j < n = omega (arith, length-range_with_len 0 n) in
    let low : i < n = omega arith in
    subst (λ (a : ℕ). LogicalsAreApart (logical_of task bytes a) (logical_of task bytes (get_or (range_with_len 0 n) j e))) (sym (number-at n i e low))
    (subst (λ (b : ℕ). LogicalsAreApart (logical_of task bytes i) (logical_of task bytes b)) (sym (number-at n j e high))
    (λ k l below below' same. apart-at task i j k l (length (bytes i)) (length (bytes j)) lower below below' (most i low) (most j high) same)))
  where
    most : (d : ℕ) → d < task_datagram_count (line state) task → length (g.sent.bytes d) ≤ 1486
    most d low = omega (arith, (g.sent.packed d low).size, (length-there state task d g.can (datagram-there (line state) task d low)).most)

-- a bit of one of them
has-bit : (state : State) (task d bit : ℕ) (bytes : ℕ → List ℕ) → d < task_datagram_count (line state) task → bit < 8 * length (bytes d) → HasBit (sent_logicals state task bytes) d (logical_of task bytes d) bit
has-bit state task d bit bytes low below =
    let n = task_datagram_count (line state) task in
    let f = logical_of task bytes in
    let count = length-map-range_with_len f 0 n in
    record {
      is = slice_get-get_or (map f (range_with_len 0 n)) d (f 0) (omega (arith, count)) ∙ ap Some (get_or-map-range_with_len f 0 n d d (f 0) low (omega arith));
      below = below;
    }

-- each of their bits is the task's
all-asked : (state : State) (task serial : ℕ) (image : List ℕ) (wire : List WireMachine) (frames machines' : List (List ℕ)) → (g : Given state task serial image wire frames machines')
    → AllAreAsked (IsBitOfTask (line state) task) (sent_logicals state task g.sent.bytes)
all-asked state task serial image wire frames machines' g n dg bit has =
    let members = line state in
    let bytes = g.sent.bytes in
    let count = task_datagram_count members task in
    let there = slice_get_within (sent_logicals state task bytes) n dg has.is in
    let counted : n < count = omega (arith, there, length-map-range_with_len (logical_of task bytes) 0 count) in
    let equal : logical_of task bytes n ≡ dg =
    sym (get_or-map-range_with_len (logical_of task bytes) 0 count n n dg counted (omega arith)) ∙ get_or_from_slice_get (sent_logicals state task bytes) n dg dg has.is in
    let below : bit < 8 * length (bytes n) = subst (λ (x : Logical). bit < 8 * length x.bytes) (sym equal) has.below in
    subst (λ (x : Logical). IsBitOfTask members task (x.from + bit)) equal
    (sendable-asked members serial task bytes n (sendable state task serial image wire frames machines' g n counted) bit below)

-- and their data are bytes
all-small : (state : State) (task serial : ℕ) (image : List ℕ) (wire : List WireMachine) (frames machines' : List (List ℕ)) → (g : Given state task serial image wire frames machines')
    → All (λ d. AreBytes d.bytes) (sent_logicals state task g.sent.bytes)
all-small state task serial image wire frames machines' g =
    All-map (λ (d : Logical). AreBytes d.bytes) (logical_of task g.sent.bytes) (numbers state task)
    (All-weaker (IsSendable (line state) serial task g.sent.bytes) (λ (d : ℕ). AreBytes (g.sent.bytes d)) (λ d ok. ok.small) (numbers state task)
    (all-sendable state task serial image wire frames machines' g))

-- the wire after them

wire_left : State → ℕ → (ℕ → List ℕ) → List WireMachine → List WireMachine
wire_left state task bytes wire = wire_after_all wire (sent_logicals state task bytes)

left-wire : (state : State) (task serial : ℕ) (image : List ℕ) (wire : List WireMachine) (frames machines' : List (List ℕ)) → (g : Given state task serial image wire frames machines')
    → machines' ≡ wire_machines (wire_left state task g.sent.bytes wire)
unfolding wire_left
left-wire state task serial image wire frames machines' g =
    g.sent.left ∙ passed-machines state wire serial task g.sent.bytes (numbers state task) g.can g.carries (all-sendable state task serial image wire frames machines' g)

left-are : (state : State) (task serial : ℕ) (image : List ℕ) (wire : List WireMachine) (frames machines' : List (List ℕ)) → (g : Given state task serial image wire frames machines')
    → line_machines (wire_left state task g.sent.bytes wire) ≡ all_after_frames (line_machines wire) (sent_logicals state task g.sent.bytes)
unfolding wire_left
left-are state task serial image wire frames machines' g =
    (all-pass (IsBitOfTask (line state) task) state wire (sent_logicals state task g.sent.bytes) g.can g.carries (all-asked state task serial image wire frames machines' g)
    (all-small state task serial image wire frames machines' g)).of_line

left-outside : (state : State) (task serial : ℕ) (image : List ℕ) (wire : List WireMachine) (frames machines' : List (List ℕ)) → (g : Given state task serial image wire frames machines')
    → outside_machines (wire_left state task g.sent.bytes wire) ≡ outside_machines wire
unfolding wire_left
left-outside state task serial image wire frames machines' g =
    (all-pass (IsBitOfTask (line state) task) state wire (sent_logicals state task g.sent.bytes) g.can g.carries (all-asked state task serial image wire frames machines' g)
    (all-small state task serial image wire frames machines' g)).outside

left-carries : (state : State) (task serial : ℕ) (image : List ℕ) (wire : List WireMachine) (frames machines' : List (List ℕ)) → (g : Given state task serial image wire frames machines')
    → WireCarriesTask (line state) task (wire_left state task g.sent.bytes wire)
unfolding wire_left
left-carries state task serial image wire frames machines' g =
    all-carry (IsBitOfTask (line state) task) state wire (sent_logicals state task g.sent.bytes) g.can g.carries (all-asked state task serial image wire frames machines' g)
    (all-small state task serial image wire frames machines' g)

-- a slave of the line with its machine before and after
record AtSlave (state : State) (task : ℕ) (machines machines' : List (List ℕ)) (position : ℕ) (member : Member) : Type 0 where
  memory : List ℕ
  memory' : List ℕ
  meets : MeetsCarrying (IsBitOfTask (line state) task) state machines position member memory
  before : slice_get machines position ≡ Some memory
  after_it : slice_get machines' position ≡ Some memory'

at-slave : (state : State) (task serial : ℕ) (image : List ℕ) (wire : List WireMachine) (frames machines' : List (List ℕ)) (position : ℕ) (member : Member) → (g : Given state task serial image wire frames machines')
    → slice_get (line state) position ≡ Some member → AtSlave state task (line_machines wire) (line_machines (wire_left state task g.sent.bytes wire)) position member
at-slave state task serial image wire frames machines' position member g is =
    let members = line state in
    let left = wire_left state task g.sent.bytes wire in
    let machines = line_machines wire in
    let within = slice_get_within members position member is in
    let count = g.carries.carrying.count in
    let count' = (left-carries state task serial image wire frames machines' g).carrying.count in
    let before = slice_get-get_or machines position [] (omega arith) in
    record {
      memory = get_or machines position [];
      memory' = get_or (line_machines left) position [];
      meets = record { configurable = g.can; carrying = g.carries.carrying; member_is = is; memory_is = before };
      before = before;
      after_it = slice_get-get_or (line_machines left) position [] (omega arith);
    }

-- the bits of variables

length-all : (machines : List (List ℕ)) (ds : List Logical) → length (all_through machines ds) ≡ length ds
length-all machines [] = refl
length-all machines (d ∷ ds) = ap suc (length-all (memories_after machines d.from d.bytes) ds)

came_of : State → ℕ → (ℕ → List ℕ) → List (List ℕ) → ℕ → List ℕ
came_of state task bytes machines d = get_or (all_through machines (sent_logicals state task bytes)) d []

came-there : (state : State) (task : ℕ) (bytes : ℕ → List ℕ) (machines : List (List ℕ)) (d : ℕ) → d < task_datagram_count (line state) task
    → slice_get (all_through machines (sent_logicals state task bytes)) d ≡ Some (came_of state task bytes machines d)
unfolding came_of
came-there state task bytes machines d low =
    let n = task_datagram_count (line state) task in
    let all = length-all machines (sent_logicals state task bytes) in
    slice_get-get_or (all_through machines (sent_logicals state task bytes)) d [] (omega (arith, all, length-map-range_with_len (logical_of task bytes) 0 n))

record Carried (state : State) (task : ℕ) (dir : Dir) (bytes : ℕ → List ℕ) (place : VariablePlace) (station m k : ℕ) : Type 0 where
  low : place.datagram < task_datagram_count (line state) task
  has : HasBit (sent_logicals state task bytes) place.datagram (logical_of task bytes place.datagram) (place.bit + k)
  carries : LinePairsIn (line state) dir station (8 * logical_address task place.datagram + (place.bit + k)) (m + k)

carried-bit : (state : State) (task serial : ℕ) (image : List ℕ) (wire : List WireMachine) (frames machines' : List (List ℕ)) (dir : Dir) (variable : ℕ) (place : VariablePlace) (k : ℕ)
    → (g : Given state task serial image wire frames machines') → IsVariable (line state) task dir variable place → (c : IsCarried (line state) variable place) → k < place.bits
    → Carried state task dir g.sent.bytes place c.member.slave.station (8 * c.area.phys + c.offset) k
carried-bit state task serial image wire frames machines' dir variable place k g own c below =
    let members = line state in
    let lies = variables-lie state variable place g.can.project own.there in
    let d = place.datagram in
    let known : task < 8 = subst (λ (t : ℕ). t < 8) own.in_task lies.task in
    let counted : d < datagram_count (task_places task members) = subst (λ (t : ℕ). d < datagram_count (task_places t members)) own.in_task lies.datagram in
    let within : place.bit + place.bits ≤ 8 * datagram_length (task_places task members) d = subst (λ (t : ℕ). place.bit + place.bits ≤ 8 * datagram_length (task_places t members) d) own.in_task lies.within in
    let low : d < task_datagram_count members task = omega (arith, count-listed members task known) in
    let size = (g.sent.packed d low).size in
    let station = c.member.slave.station in
    let m = 8 * c.area.phys + c.offset in
    let first : 8 * logical_address task d + place.bit + k ≡ 8 * logical_address task d + (place.bit + k) = omega arith in
    let pair : LinePairsIn members dir station (8 * logical_address task d + place.bit + k) (m + k) =
    subst (λ (way : Dir). LinePairsIn members way station (8 * logical_address task d + place.bit + k) (m + k)) own.direction
    (subst (λ (t : ℕ). LinePairsIn members place.dir station (8 * logical_address t d + place.bit + k) (m + k)) own.in_task (c.pairs k below)) in
    let carries : LinePairsIn members dir station (8 * logical_address task d + (place.bit + k)) (m + k) = subst (λ (x : ℕ). LinePairsIn members dir station x (m + k)) first pair in
    record {
      low = low;
      has = has-bit state task d (place.bit + k) g.sent.bytes low (omega (arith, size, within));
      carries = carries;
    }

at-position : (line : List Member) (member : Member) → (has : Contains line member) → slice_get line has.0 ≡ Some member
at-position line member (k, within, is) = slice_get-get_or line k member within ∙ ap Some is

-- the slave of a variable, with its machine
record AtVariable (state : State) (task : ℕ) (machines machines' : List (List ℕ)) (variable : ℕ) (place : VariablePlace) (c : IsCarried (line state) variable place) : Type 0 where
  position : ℕ
  at : AtSlave state task machines machines' position c.member
  is_placed : VariableLiesInMemory (line state) variable place.bits position (8 * c.area.phys + c.offset)
  alone : (other n : ℕ) → VariableLiesInMemory (line state) variable place.bits other n → (other ≡ position) × (n ≡ 8 * c.area.phys + c.offset)

at-variable : (state : State) (task serial : ℕ) (image : List ℕ) (wire : List WireMachine) (frames machines' : List (List ℕ)) (variable : ℕ) (place : VariablePlace) → (g : Given state task serial image wire frames machines')
    → (c : IsCarried (line state) variable place) → AtVariable state task (line_machines wire) (line_machines (wire_left state task g.sent.bytes wire)) variable place c
at-variable state task serial image wire frames machines' variable place g c =
    let is = at-position (line state) c.member c.in_line in
    let m = 8 * c.area.phys + c.offset in
    let is_placed : VariableLiesInMemory (line state) variable place.bits c.in_line.0 m =
    record { member = c.member; index = c.index; area = c.area; offset = c.offset; in_line = is; in_record = c.in_record; entry = c.entry; at = refl } in
    record {
      position = c.in_line.0;
      at = at-slave state task serial image wire frames machines' c.in_line.0 c.member g is;
      is_placed = is_placed;
      alone = λ other n elsewhere. is_placed-once state variable place.bits place.bits other c.in_line.0 n m g.can elsewhere is_placed;
    }

input-brought : (state : State) (task serial : ℕ) (image : List ℕ) (wire : List WireMachine) (frames machines' : List (List ℕ)) (variable : ℕ) (place : VariablePlace) → (g : Given state task serial image wire frames machines')
    → IsVariable (line state) task In variable place
    → HasInMemory (line state) (line_machines wire) variable place.bits (λ k. bit_of (came_of state task g.sent.bytes (line_machines wire) place.datagram) (place.bit + k))
input-brought state task serial image wire frames machines' variable place g own =
    let bytes = g.sent.bytes in
    let c = variables-carried state variable place g.can own.there in
    let own_slave = at-variable state task serial image wire frames machines' variable place g c in
    let at = own_slave.at in
    let m = 8 * c.area.phys + c.offset in
    record {
      position = own_slave.position;
      m = m;
      memory = at.memory;
      is_placed = own_slave.is_placed;
      alone = own_slave.alone;
      machine = at.before;
      same = λ k below.
          let bit = carried-bit state task serial image wire frames machines' In variable place k g own c below in
          sym (asked-all-inputs (IsBitOfTask (line state) task) state (line_machines wire) own_slave.position c.member at.memory (sent_logicals state task bytes) place.datagram
          (logical_of task bytes place.datagram) (place.bit + k) (m + k)
          (came_of state task bytes (line_machines wire) place.datagram) at.meets (all-asked state task serial image wire frames machines' g) bit.has bit.carries
          (came-there state task bytes (line_machines wire) place.datagram bit.low));
    }

output-arrived : (state : State) (task serial : ℕ) (image : List ℕ) (wire : List WireMachine) (frames machines' : List (List ℕ)) (variable : ℕ) (place : VariablePlace) → (g : Given state task serial image wire frames machines')
    → IsVariable (line state) task Out variable place → HasInMemory (line state) (line_machines (wire_left state task g.sent.bytes wire)) variable place.bits (λ k. bit_of image (place_bit (line state) place + k))
output-arrived state task serial image wire frames machines' variable place g own =
    let bytes = g.sent.bytes in
    let c = variables-carried state variable place g.can own.there in
    let own_slave = at-variable state task serial image wire frames machines' variable place g c in
    let at = own_slave.at in
    let m = 8 * c.area.phys + c.offset in
    let left = subst (λ (ms : List (List ℕ)). slice_get ms own_slave.position ≡ Some at.memory') (left-are state task serial image wire frames machines' g) at.after_it in
    record {
      position = own_slave.position;
      m = m;
      memory = at.memory';
      is_placed = own_slave.is_placed;
      alone = own_slave.alone;
      machine = at.after_it;
      same = λ k below.
          let bit = carried-bit state task serial image wire frames machines' Out variable place k g own c below in
          asked-all-outputs (IsBitOfTask (line state) task) state (line_machines wire) own_slave.position c.member at.memory at.memory' (sent_logicals state task bytes) place.datagram (logical_of task bytes place.datagram) (place.bit + k)
          (m + k) at.meets (all-asked state task serial image wire frames machines' g) (all-apart state task serial image wire frames machines' g) bit.has bit.carries left
          ∙ (g.sent.packed place.datagram bit.low).values variable k place own refl below;
    }

-- the rest of a slave's memory

gap-cleared : (state : State) (task serial : ℕ) (image : List ℕ) (wire : List WireMachine) (frames machines' : List (List ℕ)) (position : ℕ) (member : Member) (memory' : List ℕ) (area : Area) (m k : ℕ)
    → (g : Given state task serial image wire frames machines') → slice_get (line state) position ≡ Some member → slice_get (line_machines (wire_left state task g.sent.bytes wire)) position ≡ Some memory' → IsOutputBit task member area m k → IsGapBit area k
    → bit_of memory' m ≡ 0
gap-cleared state task serial image wire frames machines' position member memory' area m k g is after_it b gap =
    let members = line state in
    let bytes = g.sent.bytes in
    let stays = stays-line state g.can in
    let has : Contains members member = (position, slice_get_within members position member is, get_or_from_slice_get members position member member is) in
    let at = at-slave state task serial image wire frames machines' position member g is in
    let pair = has-pair state task member area m k g.can has b in
    let p = pair.carries.areas in
    let i = subst (λ (t : ℕ). IsBitOfTask members t pair.x) pair.in_task (in-datagram members member.slave.station pair.x m stays p) in
    let low : i.datagram < task_datagram_count members task = omega (arith, i.there.counted, count-listed members task i.there.in_task) in
    let packed = g.sent.packed i.datagram low in
    let size = packed.size in
    let inside = i.below in
    let carries = subst (λ (x : ℕ). LinePairsIn members Out member.slave.station x m) i.at pair.carries in
    asked-all-outputs (IsBitOfTask members task) state (line_machines wire) position member at.memory memory' (sent_logicals state task bytes) i.datagram (logical_of task bytes i.datagram) i.bit m at.meets
    (all-asked state task serial image wire frames machines' g)
    (all-apart state task serial image wire frames machines' g) (has-bit state task i.datagram i.bit bytes low (omega arith)) carries
    (subst (λ (ms : List (List ℕ)). slice_get ms position ≡ Some memory') (left-are state task serial image wire frames machines' g) after_it)
    ∙ packed.others i.bit
    (λ variable place own lies.
    let c = variables-carried state variable place g.can own.there in
    let from = lies.from in
    let to = lies.below in
    let j = i.bit - place.bit in
    let below : j < place.bits = omega arith in
    let logical : 8 * logical_address place.task place.datagram + place.bit + j ≡ pair.x = omega (arith, i.at, own.in_task, lies.datagram, from) in
    let other = subst (λ (x : ℕ). LinePairsIn members place.dir c.member.slave.station x (8 * c.area.phys + c.offset + j)) logical (c.pairs j below) in
    let n_is : 8 * c.area.phys + c.offset + j ≡ 8 * c.area.phys + (c.offset + j) = omega arith in
    gap-free members task member area m k pair.x (8 * c.area.phys + c.offset + j) j variable place.bits stays has b p gap c.member c.index c.area c.offset c.in_line c.in_record c.entry below n_is other.areas)

rest-unchanged : (state : State) (task serial : ℕ) (image : List ℕ) (wire : List WireMachine) (frames machines' : List (List ℕ)) (position : ℕ) (member : Member) (memory memory' : List ℕ) (m : ℕ)
    → (g : Given state task serial image wire frames machines') → slice_get (line state) position ≡ Some member → slice_get (line_machines wire) position ≡ Some memory
    → slice_get (line_machines (wire_left state task g.sent.bytes wire)) position ≡ Some memory' → m < 98304 → ((area : Area) (k : ℕ) → ¬ (IsOutputBit task member area m k)) → bit_of memory' m ≡ bit_of memory m
rest-unchanged state task serial image wire frames machines' position member memory memory' m g is before after_it low none =
    let members = line state in
    let bytes = g.sent.bytes in
    let stays = stays-line state g.can in
    let has : Contains members member = (position, slice_get_within members position member is, get_or_from_slice_get members position member member is) in
    let at = at-slave state task serial image wire frames machines' position member g is in
    let same : Some at.memory ≡ Some memory = sym at.before ∙ before in
    let one : at.memory ≡ memory = cc in
    asked-all-memory (IsBitOfTask members task) state (line_machines wire) position member at.memory memory' (sent_logicals state task bytes) m at.meets
    (all-asked state task serial image wire frames machines' g) low
    (λ n dg bit there output.
    let counted : n < task_datagram_count members task = omega (arith, slice_get_within (sent_logicals state task bytes) n dg there.is, length-map-range_with_len (logical_of task bytes) 0 (task_datagram_count members task)) in
    let size = (g.sent.packed n counted).size in
    let sent_at = slice_get-get_or (sent_logicals state task bytes) n dg (slice_get_within (sent_logicals state task bytes) n dg there.is) in
    let equal : dg ≡ logical_of task bytes n =
    sym (get_or_from_slice_get (sent_logicals state task bytes) n dg dg there.is) ∙ get_or-map-range_with_len (logical_of task bytes) 0 (task_datagram_count members task) n n dg counted (omega arith) in
    let below : bit < 8 * length (bytes n) = subst (λ (x : Logical). bit < 8 * length x.bytes) equal there.below in
    let carries = subst (λ (x : Logical). LinePairsIn members Out member.slave.station (x.from + bit) m) equal output in
    let p = carries.areas in
    let in_task = task-answer_given state task n bit member.slave.station m g.can (datagram-there members task n counted) (omega arith) p in
    let own = one-station members p.member member stays p.is_mapped.in_line has p.station_is in
    none p.area p.pair.k
    (record {
      index = p.index;
      in_record = subst (λ (slave : Member). slice_get slave.slave.areas p.index ≡ Some p.area) own p.is_mapped.in_record;
      in_task = in_task;
      output = carries.direction;
      below = p.pair.below;
      at = p.pair.memory;
    }))
    (subst (λ (ms : List (List ℕ)). slice_get ms position ≡ Some memory') (left-are state task serial image wire frames machines' g) after_it)
    ∙ ap (λ (xs : List ℕ). bit_of xs m) one

-- the frames

length-frames : (machines fs : List (List ℕ)) → length (frames_through machines fs) ≡ length fs
length-frames machines [] = refl
length-frames machines (f ∷ fs) = ap suc (length-frames (machines_after_frame machines f) fs)

count-frames : (state : State) (task serial : ℕ) (image : List ℕ) (wire : List WireMachine) (frames machines' : List (List ℕ)) → (g : Given state task serial image wire frames machines') → length frames ≡ task_datagram_count (line state) task
count-frames state task serial image wire frames machines' g =
    let n = task_datagram_count (line state) task in
    let sent_on_wire = map (frame_with serial task g.sent.bytes) (range_with_len 0 n) in
    ap length g.sent.returned ∙ length-frames (wire_machines wire) sent_on_wire ∙ length-map-range_with_len (frame_with serial task g.sent.bytes) 0 n

small-rest : (n : ℕ) → n < 65536 → n % 65536 ≡ n
small-rest n low = omega arith

came-back : (state : State) (task serial : ℕ) (image : List ℕ) (wire : List WireMachine) (frames machines' : List (List ℕ)) (d : ℕ) (frame : List ℕ)
    → (g : Given state task serial image wire frames machines')
    → slice_get frames d ≡ Some frame → DatagramCameBack (line state) task serial d frame (came_of state task g.sent.bytes (line_machines wire) d)
unfolding came_of
came-back state task serial image wire frames machines' d frame g is =
    let members = line state in
    let machines = line_machines wire in
    let n = task_datagram_count members task in
    let bytes = g.sent.bytes in
    let low : d < n = omega (arith, slice_get_within frames d frame is, count-frames state task serial image wire frames machines' g) in
    let r =
    passed-frames state wire serial task bytes (numbers state task) g.can g.carries
    (all-sendable state task serial image wire frames machines' g) d frame (subst (λ (fs : List (List ℕ)). slice_get fs d ≡ Some frame) g.sent.returned is) in
    let number : r.d ≡ d = sym (get_or_from_slice_get (range_with_len 0 n) d r.d 0 r.sent) ∙ number-at n d 0 low in
    let came = get_or (all_through machines (sent_logicals state task bytes)) d [] in
    let same : r.came ≡ came = sym (get_or_from_slice_get (all_through machines (sent_logicals state task bytes)) d r.came [] r.came_is) in
    let back = subst (λ (c : List ℕ). Returned members serial task d frame c) same (subst (λ (i : ℕ). Returned members serial task i frame r.came) number r.returned) in
    record { readable = back.readable; reading = back.reading ∙ ap (λ (c : ℕ). answer_given-with came c) (small-rest (expected_counter task d members) (counter-low state task d g.can)); size = back.size }
  where
    answer_given-with : List ℕ → ℕ → Reading
    answer_given-with bytes counter = record { serial = serial + d; parts = logical_part (logical_address task d) bytes counter ∷ [] }

pub exchanged : (state : State) (task serial : ℕ) (image : List ℕ) (wire : List WireMachine) (frames machines' : List (List ℕ)) → Given state task serial image wire frames machines'
    → IsExchangedOnWire (line state) task serial image wire frames machines'
exchanged state task serial image wire frames machines' g = record {
  wire' = wire_left state task g.sent.bytes wire;
  machines_are = left-wire state task serial image wire frames machines' g;
  exchanged = record {
    came = came_of state task g.sent.bytes (line_machines wire);
    count = count-frames state task serial image wire frames machines' g;
    back = λ d frame is. came-back state task serial image wire frames machines' d frame g is;
    inputs = λ variable place own. input-brought state task serial image wire frames machines' variable place g own;
    outputs = λ variable place own. output-arrived state task serial image wire frames machines' variable place g own;
    many = (left-carries state task serial image wire frames machines' g).carrying.count ∙ sym g.carries.carrying.count;
    rest = λ position member memory memory' is before after_it. record {
      gaps = λ area m k b gap. gap-cleared state task serial image wire frames machines' position member memory' area m k g is after_it b gap;
      rest = λ m high low none. rest-unchanged state task serial image wire frames machines' position member memory memory' m g is before after_it low none;
    };
  };
  outside = left-outside state task serial image wire frames machines' g;
  carries = left-carries state task serial image wire frames machines' g;
}
